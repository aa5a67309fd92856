-- What begins with a block once the list has changed.
use Rattle.std.proofs.Common.{◌≡◌, ◌≢◌, ℕ, ◌+◌, ◌≤◌, ltb, eqb, List, [], ◌∷◌, Option, Some, None, inl, inr, refl, sym, arith, ap, ◌∙◌, eq-eqb}
use Rattle.std.proofs.lemmas.Bool.{cond-true, cond-false, cond_both, cases_Bool, eqb-true, ne_eqb}
use Rattle.std.proofs.lemmas.Option.{none-some, same_Some}
use Rattle.mote_layout.specs.Blocks.{AreBlocksFrom, AreFree, starting_at, inserted, without, given_to, handed_over}
use Rattle.mote_layout.specs.declared.segment.Segment.{Segment}

-- Only what begins with one block changed.
pub record IsChangedAt (block : ℕ) (now : Option Segment) (old new : List Segment) : Type 0 where
  pub here : starting_at new block ≡ now
  pub others : (b : ℕ) → b ≢ block → starting_at new b ≡ starting_at old b

-- nothing begins with a block that is taken out
without-here : (block : ℕ) (ss : List Segment) → starting_at (without block ss) block ≡ None
without-here block [] = refl
without-here block (t ∷ ts) =
    elim (cases_Bool (eqb t.first block)) [
      | inl same ↦ rw same (without-here block ts)
      | inr other ↦ rw other (rw other (without-here block ts))
    ]

without-others : (block : ℕ) (ss : List Segment) (b : ℕ) → b ≢ block → starting_at (without block ss) b ≡ starting_at ss b
without-others block [] b apart = refl
without-others block (t ∷ ts) b apart =
    let rest = without-others block ts b apart in
    elim (cases_Bool (eqb t.first block)) [
      | inl same ↦
          let passed = ne_eqb t.first b (λ e. apart (sym e ∙ eqb-true t.first block same)) in
          rw same (rw passed rest)
      | inr other ↦
          rw other (elim (cases_Bool (eqb t.first b)) [ inl found ↦ rw found refl | inr passed ↦ rw passed rest ])
    ]

pub without-changed : (block : ℕ) (ss : List Segment) → IsChangedAt block None ss (without block ss)
without-changed block ss = record { here = without-here block ss; others = without-others block ss }

-- a new segment begins with its first block, where none began
inserted-here : (s : Segment) (ss : List Segment) → starting_at ss s.first ≡ None → starting_at (inserted s ss) s.first ≡ Some s
inserted-here s [] none = cond-true (eqb s.first s.first) (Some s) None (eq-eqb s.first s.first refl)
inserted-here s (t ∷ ts) none =
    elim (cases_Bool (eqb t.first s.first)) [
      | inl same ↦ absurd (none-some t (sym none ∙ cond-true (eqb t.first s.first) (Some t) (starting_at ts s.first) same))
      | inr other ↦
          let behind = sym (cond-false (eqb t.first s.first) (Some t) (starting_at ts s.first) other) ∙ none in
          cond_both (ltb s.first t.first) (s ∷ t ∷ ts) (t ∷ inserted s ts) (λ xs. starting_at xs s.first ≡ Some s)
          (λ before. cond-true (eqb s.first s.first) (Some s) (starting_at (t ∷ ts) s.first) (eq-eqb s.first s.first refl))
          (λ after. cond-false (eqb t.first s.first) (Some t) (starting_at (inserted s ts) s.first) other ∙ inserted-here s ts behind)
    ]

inserted-others : (s : Segment) (ss : List Segment) (b : ℕ) → b ≢ s.first → starting_at (inserted s ss) b ≡ starting_at ss b
inserted-others s [] b apart = cond-false (eqb s.first b) (Some s) None (ne_eqb s.first b (λ e. apart (sym e)))
inserted-others s (t ∷ ts) b apart =
    cond_both (ltb s.first t.first) (s ∷ t ∷ ts) (t ∷ inserted s ts) (λ xs. starting_at xs b ≡ starting_at (t ∷ ts) b)
    (λ before. cond-false (eqb s.first b) (Some s) (starting_at (t ∷ ts) b) (ne_eqb s.first b (λ e. apart (sym e))))
    (λ after.
    elim (cases_Bool (eqb t.first b)) [
      | inl found ↦ rw found refl
      | inr passed ↦ rw passed (inserted-others s ts b apart)
    ])

-- no segment begins with a free block
pub starting_at-free : (low : ℕ) (ss : List Segment) (first count : ℕ) → 1 ≤ count → AreFree ss first count → AreBlocksFrom low ss → starting_at ss first ≡ None
starting_at-free low [] first count some free blocks = refl
starting_at-free low (t ∷ ts) first count some free blocks =
    let apart = λ (e : t.first ≡ first). elim free.0 as (λ _. ⊥) [ inl h ↦ omega (arith, h, e, blocks.0.1) | inr h ↦ omega (arith, h, e, some) ] in
    cond-false (eqb t.first first) (Some t) (starting_at ts first) (ne_eqb t.first first apart)
    ∙ starting_at-free (t.first + t.count) ts first count some free.1 blocks.1

pub inserted-changed : (s : Segment) (ss : List Segment) → starting_at ss s.first ≡ None → IsChangedAt s.first (Some s) ss (inserted s ss)
inserted-changed s ss none = record { here = inserted-here s ss none; others = inserted-others s ss }

-- what is handed over begins with the same block
handed_over-here : (block owner : ℕ) (ss : List Segment) (s : Segment) → starting_at ss block ≡ Some s → starting_at (handed_over block owner ss) block ≡ Some (given_to owner s)
handed_over-here block owner [] s h = absurd (none-some s h)
handed_over-here block owner (t ∷ ts) s h =
    elim (cases_Bool (eqb t.first block)) [
      | inl same ↦
          let is = same_Some t s (sym (cond-true (eqb t.first block) (Some t) (starting_at ts block) same) ∙ h) in
          rw same (rw same (ap (λ x. Some (given_to owner x)) is))
      | inr other ↦
          rw other (rw other (handed_over-here block owner ts s (sym (cond-false (eqb t.first block) (Some t) (starting_at ts block) other) ∙ h)))
    ]

handed_over-others : (block owner : ℕ) (ss : List Segment) (b : ℕ) → b ≢ block → starting_at (handed_over block owner ss) b ≡ starting_at ss b
handed_over-others block owner [] b apart = refl
handed_over-others block owner (t ∷ ts) b apart =
    let rest = handed_over-others block owner ts b apart in
    elim (cases_Bool (eqb t.first block)) [
      | inl same ↦
          let passed = ne_eqb t.first b (λ e. apart (sym e ∙ eqb-true t.first block same)) in
          rw same (rw passed rest)
      | inr other ↦
          rw other (elim (cases_Bool (eqb t.first b)) [ inl found ↦ rw found refl | inr passed ↦ rw passed rest ])
    ]

pub handed_over-changed : (block owner : ℕ) (ss : List Segment) (s : Segment) → starting_at ss block ≡ Some s → IsChangedAt block (Some (given_to owner s)) ss (handed_over block owner ss)
handed_over-changed block owner ss s h = record { here = handed_over-here block owner ss s h; others = handed_over-others block owner ss }
