-- The segment that begins at an address, found by the segment in which the address lies.
use Rattle.std.proofs.Common.{◌≡◌, ℕ, ◌+◌, ◌<◌, eqb, cond, List, [], ◌∷◌, Option, Some, None, inl, inr, refl, sym, arith, ap, ◌∙◌, subst, eq-eqb}
use Rattle.std.proofs.lemmas.Bool.{cond-true, cond-false, cases_Bool, eqb-true, eqb-false, ne_eqb}
use Rattle.std.proofs.lemmas.Option.{none-some, same_Some}
use Rattle.mote_layout.specs.Blocks.{FitsBehind, AreBlocksFrom, AreBlocks, block_address, block_of, covers, segment_at, starting_at}
use Rattle.mote_layout.specs.declared.segment.Segment.{Segment}
use Rattle.mote_layout.proofs.Owners.{covers-true, covers-false}
use Rattle.mote_layout.proofs.OneSegment.{starting_at-fits}
use Rattle.mote_layout.specs.Requests.{beginning_at}

-- no segment behind a block begins at an address below it
beginning_at-below : (low : ℕ) (ss : List Segment) (a : ℕ) → AreBlocksFrom low ss → a < block_address low → beginning_at ss a ≡ None
beginning_at-below low [] a blocks h = refl
beginning_at-below low (t ∷ ts) a blocks h =
    let other = ne_eqb (block_address t.first) a (λ e. omega (arith, e, h, blocks.0.0)) in
    cond-false (eqb (block_address t.first) a) (Some t) (beginning_at ts a) other
    ∙ beginning_at-below (t.first + t.count) ts a blocks.1 (omega (arith, h, blocks.0.0))

-- a segment, if it begins at the address
abbrev pub if_begins : ℕ → Option Segment → Option Segment
if_begins a None = None
if_begins a (Some s) = cond (eqb (block_address s.first) a) (Some s) None

-- the segment that begins at an address is the one in which the address lies
beginning_at-segment_at_from : (low : ℕ) (ss : List Segment) (a : ℕ) → AreBlocksFrom low ss → beginning_at ss a ≡ if_begins a (segment_at ss a)
beginning_at-segment_at_from low [] a blocks = refl
beginning_at-segment_at_from low (t ∷ ts) a blocks =
    elim (cases_Bool (covers t a)) [
      | inl here ↦
          let within = covers-true t a here in
          let behind = beginning_at-below (t.first + t.count) ts a blocks.1 (omega (arith, within.1)) in
          rw here (rw behind refl)
      | inr other ↦
          let outside = covers-false t a other in
          let apart = ne_eqb (block_address t.first) a (λ e. outside (omega (arith, e), omega (arith, e, blocks.0.1))) in
          rw other (rw apart (beginning_at-segment_at_from (t.first + t.count) ts a blocks.1))
    ]

pub beginning_at-segment_at : (ss : List Segment) (a : ℕ) → AreBlocks ss → beginning_at ss a ≡ if_begins a (segment_at ss a)
beginning_at-segment_at ss a blocks = beginning_at-segment_at_from 0 ss a blocks

-- the segment that begins at a block's address is the one that begins with the block
pub beginning_at-starting_at : (ss : List Segment) (b : ℕ) → beginning_at ss (block_address b) ≡ starting_at ss b
beginning_at-starting_at [] b = refl
beginning_at-starting_at (t ∷ ts) b =
    elim (cases_Bool (eqb t.first b)) [
      | inl here ↦
          let e = eqb-true t.first b here in
          cond-true (eqb (block_address t.first) (block_address b)) (Some t) (beginning_at ts (block_address b)) (eq-eqb (block_address t.first) (block_address b) (omega (arith, e)))
          ∙ sym (cond-true (eqb t.first b) (Some t) (starting_at ts b) here)
      | inr other ↦
          let apart = eqb-false t.first b other in
          cond-false (eqb (block_address t.first) (block_address b)) (Some t) (beginning_at ts (block_address b)) (ne_eqb (block_address t.first) (block_address b) (λ e. apart (omega (arith, e))))
          ∙ beginning_at-starting_at ts b
          ∙ sym (cond-false (eqb t.first b) (Some t) (starting_at ts b) other)
    ]

-- it begins there
pub beginning_at-first : (ss : List Segment) (a : ℕ) (s : Segment) → beginning_at ss a ≡ Some s → block_address s.first ≡ a
beginning_at-first [] a s h = absurd (none-some s h)
beginning_at-first (t ∷ ts) a s h =
    elim (cases_Bool (eqb (block_address t.first) a)) [
      | inl here ↦
          subst (λ (x : Segment). block_address x.first ≡ a)
          (same_Some t s (sym (cond-true (eqb (block_address t.first) a) (Some t) (beginning_at ts a) here) ∙ h))
          (eqb-true (block_address t.first) a here)
      | inr other ↦ beginning_at-first ts a s (sym (cond-false (eqb (block_address t.first) a) (Some t) (beginning_at ts a) other) ∙ h)
    ]

-- What is known of a segment that begins at an address.
pub record BeginsAt (ss : List Segment) (a : ℕ) (s : Segment) : Type 0 where
  pub address : block_address s.first ≡ a
  pub block : block_of a ≡ s.first
  pub starts : starting_at ss s.first ≡ Some s
  pub fits : FitsBehind 0 s

pub begins_at : (ss : List Segment) (a : ℕ) (s : Segment) → AreBlocks ss → beginning_at ss a ≡ Some s → BeginsAt ss a s
begins_at ss a s blocks h =
    let address = beginning_at-first ss a s h in
    let starts : starting_at ss s.first ≡ Some s = sym (beginning_at-starting_at ss s.first) ∙ ap (λ k. beginning_at ss k) address ∙ h in
    record { address = address; block = omega (arith, address); starts = starts; fits = starting_at-fits 0 ss s.first s blocks starts }
