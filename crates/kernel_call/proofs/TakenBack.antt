-- A block that was given out and is freed again.
use Rattle.std.proofs.Common.{◌≡◌, ◌≢◌, ◌∙◌, refl, sym, ap, subst, arith, ℕ, ◌==◌, ltb, inl, inr, List, [], ◌∷◌, Option, Some, None}
use Rattle.std.specs.Option.{option_map, option_map_or}
use Rattle.std.proofs.lemmas.Bool.{cases_Bool, cases_eq, cond-true, eq-eqb, ne_eqb}
use Rattle.std.proofs.lemmas.Option.{none-some, same_Some}
use Rattle.mote_layout.specs.Memory.{kernel}
use Rattle.mote_layout.specs.Blocks.{AreBlocks, block_address, block_of, inserted, starting_at, without}
use Rattle.mote_layout.specs.Fit.{blocks_for}
use Rattle.mote_layout.specs.Parcels.{Payload}
use Rattle.mote_layout.specs.Requests.{Holds, beginning_at, payload_for, place_for, segment_for, served}
use Rattle.mote_layout.specs.declared.segment.Segment.{Segment}
use Rattle.mote_layout.proofs.Beginnings.{beginning_at-starting_at}
use Rattle.mote_layout.proofs.Changes.{inserted-changed, starting_at-free}
use Rattle.mote_layout.proofs.Places.{placed}
use Rattle.kernel_call.specs.Mail.{begins}

-- What is put in comes out again.
without_other : (block : ℕ) (ss : List Segment) → starting_at ss block ≡ None → without block ss ≡ ss
without_other block [] none = refl
without_other block (t ∷ ts) none =
    elim (cases_Bool (t.first == block)) [
      | inl here ↦ absurd (none-some t (sym none ∙ cond-true (t.first == block) (Some t) (starting_at ts block) here))
      | inr other ↦ rw other (ap (λ (l : List Segment). t ∷ l) (without_other block ts (rw other at none)))
    ]

without_inserted : (s : Segment) (ss : List Segment) → starting_at ss s.first ≡ None → without s.first (inserted s ss) ≡ ss
without_inserted s [] none = let here = eq-eqb s.first s.first refl in rw here refl
without_inserted s (t ∷ ts) none =
    elim (cases_Bool (ltb s.first t.first)) [
      | inl before ↦ let here = eq-eqb s.first s.first refl in rw (before, here) (without_other s.first (t ∷ ts) none)
      | inr after ↦
          elim (cases_Bool (t.first == s.first)) [
            | inl here ↦ absurd (none-some t (sym none ∙ cond-true (t.first == s.first) (Some t) (starting_at ts s.first) here))
            | inr other ↦ rw (after, other) (ap (λ (l : List Segment). t ∷ l) (without_inserted s ts (rw other at none)))
          ]
    ]

-- A domain's block for so many bytes: it holds it, and nothing else changed.
pub record IsGivenAt (ss : List Segment) (domain size address : ℕ) : Type 0 where
  pub held : Holds (served domain size ss) domain address
  pub back : without (block_of address) (served domain size ss) ≡ ss

given_at_place : (ss : List Segment) (domain size block : ℕ) → AreBlocks ss → place_for ss size ≡ Some block → IsGivenAt ss domain size (block_address block)
given_at_place ss domain size block blocks is =
    let place = placed ss size block is in
    let s = segment_for domain size block in
    let none = starting_at-free 0 ss block (blocks_for size) place.some place.fits.1 blocks in
    let change = inserted-changed s ss none in
    let begun : beginning_at (inserted s ss) (block_address block) ≡ Some s = beginning_at-starting_at (inserted s ss) block ∙ change.here in
    let same : block_of (block_address block) ≡ block = omega arith in
    record {
      held = rw (is, begun) refl;
      back = rw (is, same) (without_inserted s ss none);
    }

pub given_at_address : (ss : List Segment) (domain size address : ℕ) → AreBlocks ss → size ≢ 0 → begins ss size ≡ Some address → IsGivenAt ss domain size address
given_at_address ss domain size address blocks some is =
    let asked = ne_eqb size 0 some in
    by_place (place_for ss size) refl (rw asked at is)
  where
    by_place : (o : Option ℕ) → place_for ss size ≡ o → option_map (λ (b : ℕ). block_address b) o ≡ Some address → IsGivenAt ss domain size address
    by_place None e is = absurd (none-some address is)
    by_place (Some b) e is = subst (λ (a : ℕ). IsGivenAt ss domain size a) (same_Some (block_address b) address is) (given_at_place ss domain size b blocks e)

-- Where there is no place, nothing is served.
abbrev payload_at : ℕ → ℕ → Payload
payload_at size block = record { block = block; len = size }

pub none_served : (ss : List Segment) (owner size : ℕ) → payload_for ss size ≡ None → served owner size ss ≡ ss
none_served ss owner size is = by_place (place_for ss size) is
  where
    by_place : (o : Option ℕ) → option_map (λ (b : ℕ). payload_at size b) o ≡ None → option_map_or (λ (b : ℕ). inserted (segment_for owner size b) ss) o ss ≡ ss
    by_place None is = refl
    by_place (Some b) is = absurd (none-some (payload_at size b) (sym is))

-- The state's block is free again where the constants have no place.
pub taken_back : (ss mid late end : List Segment) (domain state constants first : ℕ) → AreBlocks ss → mid ≡ served domain state ss → late ≡ served kernel constants mid → payload_for mid constants ≡ None → begins ss state ≡ Some first → (state ≡ 0 → end ≡ late) → (state ≢ 0 → end ≡ without (block_of first) late) → end ≡ ss
taken_back ss mid late end domain state constants first blocks given issued none begun nothing back =
    let same : late ≡ served domain state ss = issued ∙ none_served mid kernel constants none ∙ given in
    elim (cases_eq state 0) [
      | inl zero ↦
          let nowhere = eq-eqb state 0 zero in
          let unserved : served domain state ss ≡ ss = rw nowhere refl in
          nothing zero ∙ same ∙ unserved
      | inr some ↦
          back some ∙ ap (λ (l : List Segment). without (block_of first) l) same ∙ (given_at_address ss domain state first blocks some begun).back
    ]
