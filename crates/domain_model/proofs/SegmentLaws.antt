-- Segments that a list of blocks contains, and what is left of them where payloads are freed.
use Rattle.std.proofs.Common.{◌≡◌, ◌≢◌, ℕ, ◌+◌, ◌*◌, ◌<◌, ◌≤◌, ◌⊎◌, ◌==◌, ◌&&◌, ◌∙◌, eqb, not, inl, inr, List, [], ◌∷◌, length, filter, Bool, refl, sym, ap, subst, arith, eq-eqb, Option, Some, None, IsSomeAnd, if◌then◌else◌}
use Rattle.std.specs.List.{AllByRecursion, Contains}
use Rattle.std.proofs.lemmas.Bool.{cases_Bool, cases_lt, cond-true, cond-false, cond_both, and_from, ne_eqb, eqb-true}
use Rattle.std.proofs.lemmas.Option.{none-some, same_Some}
use Rattle.mote_base.specs.Messages.{names}
use Rattle.mote_layout.specs.Memory.{kernel, block_bytes}
use Rattle.mote_layout.specs.Blocks.{AreBlocksFrom, AreBlocks, AreFree, starting_at}
use Rattle.mote_layout.specs.Parcels.{Payload, kernel_entries}
use Rattle.mote_layout.specs.declared.segment.Segment.{Segment}
use Rattle.domain_model.specs.State.{Message}
use Rattle.domain_model.specs.Payloads.{without_load, without_payloads, IsHeld, HasHeld}
use Rattle.domain_model.specs.Laws.{LiesIn}
use Rattle.domain_model.proofs.Kept.{contained_nowhere, contained_first, contained_later, contained_cases, contained_filter, filter_contained}

-- what stands behind some blocks begins behind them
contained_behind : (low : ℕ) (ss : List Segment) (s : Segment) → AreBlocksFrom low ss → Contains ss s → (low ≤ s.first) × (1 ≤ s.count)
contained_behind low [] s fit c = absurd (contained_nowhere s c)
contained_behind low (t ∷ ts) s fit c =
    elim (contained_cases t ts s c) [
      | inl same ↦ subst (λ (x : Segment). (low ≤ x.first) × (1 ≤ x.count)) same (fit.0.0, fit.0.1)
      | inr later ↦ let behind = contained_behind (t.first + t.count) ts s fit.1 later in (omega (arith, behind.0, fit.0.0), behind.1)
    ]

-- a segment is the one that begins with its first block
starts_from : (low : ℕ) (ss : List Segment) (s : Segment) → AreBlocksFrom low ss → Contains ss s → starting_at ss s.first ≡ Some s
starts_from low [] s fit c = absurd (contained_nowhere s c)
starts_from low (t ∷ ts) s fit c =
    elim (contained_cases t ts s c) [
      | inl same ↦
          subst (λ (x : Segment). starting_at (t ∷ ts) x.first ≡ Some x) same (cond-true (eqb t.first t.first) (Some t) (starting_at ts t.first) (eq-eqb t.first t.first refl))
      | inr later ↦
          let behind = contained_behind (t.first + t.count) ts s fit.1 later in
          cond-false (eqb t.first s.first) (Some t) (starting_at ts s.first) (ne_eqb t.first s.first (λ e. omega (arith, e, behind.0, fit.0.1)))
          ∙ starts_from (t.first + t.count) ts s fit.1 later
    ]

pub contained_starts : (ss : List Segment) (s : Segment) → AreBlocks ss → Contains ss s → starting_at ss s.first ≡ Some s
contained_starts ss s fit c = starts_from 0 ss s fit c

pub starts_contained : (ss : List Segment) (block : ℕ) (s : Segment) → starting_at ss block ≡ Some s → Contains ss s × (s.first ≡ block)
starts_contained [] block s e = absurd (none-some s e)
starts_contained (t ∷ ts) block s e =
    elim (cases_Bool (eqb t.first block)) [
      | inl here ↦
          let is : t ≡ s = same_Some t s (sym (cond-true (eqb t.first block) (Some t) (starting_at ts block) here) ∙ e) in
          subst (λ (x : Segment). Contains (t ∷ ts) x × (x.first ≡ block)) is (contained_first ts t, eqb-true t.first block here)
      | inr other ↦
          let rest = starts_contained ts block s (sym (cond-false (eqb t.first block) (Some t) (starting_at ts block) other) ∙ e) in
          (contained_later t ts s rest.0, rest.1)
    ]

-- a segment of the kernel is one of its entries
filter_some : (test : Segment → Bool) (ss : List Segment) (s : Segment) → Contains (filter test ss) s → 1 ≤ length (filter test ss)
filter_some test ss s c = omega (arith, c.1)

pub contained_entry : (ss : List Segment) (s : Segment) → Contains ss s → s.owner ≡ kernel → 1 ≤ kernel_entries s.first ss
contained_entry ss s c own =
    let test : Segment → Bool = λ t. t.first == s.first && t.owner == kernel in
    filter_some test ss s (filter_contained test ss s c (and_from (s.first == s.first) (s.owner == kernel) (eq-eqb s.first s.first refl) (eq-eqb s.owner kernel own)))

-- What is freed.

-- what is left was there
pub unloaded_old : (o : Option Payload) (ss : List Segment) (s : Segment) → Contains (without_load o ss) s → Contains ss s
unloaded_old None ss s c = c
unloaded_old (Some p) ss s c = (contained_filter (λ (t : Segment). not (t.first == p.block)) ss s c).0

pub unnamed_old : (id : ℕ) (ms : List Message) (ss : List Segment) (s : Segment) → Contains (without_payloads id ms ss) s → Contains ss s
unnamed_old id [] ss s c = c
unnamed_old id (m ∷ ms) ss s c =
    cond_both (names id m) (without_load m.load ss) ss (λ (bs : List Segment). Contains bs s → Contains ss s) (λ named back. unloaded_old m.load ss s back) (λ other back. back)
    (unnamed_old id ms (if names id m then without_load m.load ss else ss) s c)

-- a domain's segment begins with no payload's block
not_carried : (o : Option Segment) (ss : List Segment) (p : Payload) (s : Segment) → AreBlocks ss → Contains ss s → s.owner ≢ kernel → starting_at ss p.block ≡ o → IsSomeAnd o (λ t. (t.owner ≡ kernel) × (p.len ≤ block_bytes * t.count)) → s.first ≢ p.block
not_carried None ss p s fit c domain e h same = absurd h
not_carried (Some t) ss p s fit c domain e h same =
    let is : s ≡ t = same_Some s t (sym (contained_starts ss s fit c) ∙ ap (λ (b : ℕ). starting_at ss b) same ∙ e) in
    domain (ap (λ (x : Segment). x.owner) is ∙ h.0)

-- so it stays
pub unloaded_kept : (o : Option Payload) (ss now : List Segment) (s : Segment) → AreBlocks ss → Contains ss s → s.owner ≢ kernel → IsHeld ss o → Contains now s → Contains (without_load o now) s
unloaded_kept None ss now s fit c domain h there = there
unloaded_kept (Some p) ss now s fit c domain h there =
    let apart = not_carried (starting_at ss p.block) ss p s fit c domain refl h in
    filter_contained (λ (t : Segment). not (t.first == p.block)) now s there (ap not (ne_eqb s.first p.block apart))

pub unnamed_kept : (id : ℕ) (ms : List Message) (ss now : List Segment) (s : Segment) → AreBlocks ss → Contains ss s → s.owner ≢ kernel → AllByRecursion (HasHeld ss) ms → Contains now s → Contains (without_payloads id ms now) s
unnamed_kept id [] ss now s fit c domain h there = there
unnamed_kept id (m ∷ ms) ss now s fit c domain h there =
    unnamed_kept id ms ss (if names id m then without_load m.load now else now) s fit c domain h.1
    (cond_both (names id m) (without_load m.load now) now (λ (bs : List Segment). Contains bs s)
    (λ named. unloaded_kept m.load ss now s fit c domain h.0 there) (λ other. there))

-- The segment in which a block lies, if there is one.

free_below : (block low : ℕ) (ss : List Segment) → block < low → AreBlocksFrom low ss → AreFree ss block 1
free_below block low [] below fit = tt
free_below block low (t ∷ ts) below fit =
    (inr (omega (arith, below, fit.0.0)), free_below block (t.first + t.count) ts (omega (arith, below, fit.0.0)) fit.1)

lies_alone : (low block : ℕ) (ss : List Segment) (s t : Segment) → AreBlocksFrom low ss → Contains ss s → s.first ≤ block → block < s.first + s.count → Contains ss t → t.first ≤ block → block < t.first + t.count → t ≡ s
lies_alone low block [] s t fit c from to d begin end = absurd (contained_nowhere s c)
lies_alone low block (x ∷ xs) s t fit c from to d begin end =
    elim (contained_cases x xs s c) [
      | inl here ↦
          elim (contained_cases x xs t d) [
            | inl there ↦ sym there ∙ here
            | inr later ↦
                let behind = contained_behind (x.first + x.count) xs t fit.1 later in
                let same : x.first + x.count ≡ s.first + s.count = ap (λ (y : Segment). y.first + y.count) here in
                absurd (omega (arith, behind.0, same, to, begin))
          ]
      | inr later ↦
          elim (contained_cases x xs t d) [
            | inl there ↦
                let behind = contained_behind (x.first + x.count) xs s fit.1 later in
                let same : x.first + x.count ≡ t.first + t.count = ap (λ (y : Segment). y.first + y.count) there in
                absurd (omega (arith, behind.0, same, end, from))
            | inr too ↦ lies_alone (x.first + x.count) block xs s t fit.1 later from to too begin end
          ]
    ]

-- A segment of the list has the block.
record Covering (ss : List Segment) (block : ℕ) : Type 0 where
  segment : Segment
  contained : Contains ss segment
  from : segment.first ≤ block
  to : block < segment.first + segment.count

covering_later : (t : Segment) (ts : List Segment) (block : ℕ) → Covering ts block → Covering (t ∷ ts) block
covering_later t ts block h = record { segment = h.segment; contained = contained_later t ts h.segment h.contained; from = h.from; to = h.to }

free_or_covered : (low block : ℕ) (ss : List Segment) → AreBlocksFrom low ss → AreFree ss block 1 ⊎ Covering ss block
free_or_covered low block [] fit = inl tt
free_or_covered low block (t ∷ ts) fit =
    elim (cases_lt block t.first) [
      | inl below ↦ inl (inr (omega (arith, below)), free_below block (t.first + t.count) ts (omega (arith, below)) fit.1)
      | inr from ↦
          elim (cases_lt block (t.first + t.count)) [
            | inl inside ↦ inr (record { segment = t; contained = contained_first ts t; from = omega (arith, from); to = inside })
            | inr beyond ↦
                elim (free_or_covered (t.first + t.count) block ts fit.1) [
                  | inl free ↦ inl (inl (omega (arith, beyond)), free)
                  | inr there ↦ inr (covering_later t ts block there)
                ]
          ]
    ]

pub free_or_lies : (ss : List Segment) (block : ℕ) → AreBlocks ss → AreFree ss block 1 ⊎ ((s : Segment) × LiesIn ss block s)
free_or_lies ss block fit =
    elim (free_or_covered 0 block ss fit) [
      | inl free ↦ inl free
      | inr there ↦
          inr (
            there.segment,
            record {
              contained = there.contained;
              from = there.from;
              to = there.to;
              alone = λ t c begin end. lies_alone 0 block ss there.segment t fit there.contained there.from there.to c begin end;
            },
          )
    ]
