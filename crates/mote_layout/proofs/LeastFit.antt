-- `fit` gives the least fit, and none where there is none.
use Rattle.std.proofs.Common.{◌≡◌, ℕ, zero, suc, ◌+◌, ◌<◌, ◌≤◌, ◌||◌, ◌⊎◌, inl, inr, ◌↔◌, leb, Bool, true, false, List, [], ◌∷◌, Some, None, refl, sym, arith, ap, ◌∙◌, subst}
use Rattle.std.specs.List.{list_all}
use Rattle.std.proofs.lemmas.Bool.{leb-true, and_parts, and_from, or_cases, or_left, or_right, le-leb, cases_Bool, cond-true, cond-false, cases_eq, cases_order, both_ways}
use Rattle.std.proofs.lemmas.Option.{none-some, same_Some}
use Rattle.mote_layout.specs.Memory.{block_count}
use Rattle.mote_layout.specs.Blocks.{AreFree, Fits}
use Rattle.mote_layout.specs.Fit.{IsLeastFit, fits, least_of, fit}
use Rattle.mote_layout.specs.declared.segment.Segment.{Segment}

-- the test of a segment: it has none of the blocks
abbrev misses : ℕ → ℕ → Segment → Bool
misses first count s = leb (s.first + s.count) first || leb (first + count) s.first

-- the test of free blocks tells whether they are free
list_all-free : (ss : List Segment) (first count : ℕ) → (list_all (λ s. misses first count s) ss ≡ true) ↔ AreFree ss first count
list_all-free [] first count = (λ h. tt, λ h. refl)
list_all-free (s ∷ ss) first count =
    let rest = list_all-free ss first count in (
      λ h.
          let parts = and_parts (misses first count s) (list_all (λ t. misses first count t) ss) h in (
            elim (or_cases (leb (s.first + s.count) first) (leb (first + count) s.first) parts.0) [
              | inl below ↦ inl (leb-true (s.first + s.count) first below)
              | inr above ↦ inr (leb-true (first + count) s.first above)
            ],
            rest.0 parts.1,
          ),
      λ free.
          and_from (misses first count s) (list_all (λ t. misses first count t) ss)
          (elim free.0 [
            | inl below ↦ or_left (leb (s.first + s.count) first) (leb (first + count) s.first) (le-leb (s.first + s.count) first below)
            | inr above ↦ or_right (leb (s.first + s.count) first) (leb (first + count) s.first) (le-leb (first + count) s.first above)
          ])
          (rest.1 free.1),
    )

-- the test tells whether blocks fit
pub fits-true : (ss : List Segment) (first count : ℕ) → (fits ss first count ≡ true) ↔ Fits ss first count
fits-true ss first count =
    let free = list_all-free ss first count in (
      λ h.
          let parts = and_parts (leb (first + count) block_count) (list_all (λ s. misses first count s) ss) h in
          (leb-true (first + count) block_count parts.0, free.0 parts.1),
      λ h. and_from (leb (first + count) block_count) (list_all (λ s. misses first count s) ss) (le-leb (first + count) block_count h.0) (free.1 h.1),
    )

-- Number k is the least of the numbers from `low` on, below `end`, that passes.
record IsLeast (test : ℕ → Bool) (low end k : ℕ) : Type 0 where
  from : low ≤ k
  to : k < end
  passes : test k ≡ true
  first : (j : ℕ) → low ≤ j → j < k → test j ≡ false

-- `least_of` answers the least number that passes, or none where no number does
least_of-cases : (test : ℕ → Bool) (low count : ℕ) → ((k : ℕ) × (least_of test low count ≡ Some k) × IsLeast test low (low + count) k) ⊎ ((least_of test low count ≡ None) × ((j : ℕ) → low ≤ j → j < low + count → test j ≡ false))
least_of-cases test low zero = inr (refl, λ j h within. absurd (omega arith))
least_of-cases test low (suc count) =
    elim (cases_Bool (test low)) [
      | inl here ↦
          inl (
            low,
            cond-true (test low) (Some low) (least_of test (suc low) count) here,
            record { from = omega arith; to = omega arith; passes = here; first = λ j h below. absurd (omega arith) },
          )
      | inr not_here ↦
          let skip = cond-false (test low) (Some low) (least_of test (suc low) count) not_here in
          let below_next = λ (j : ℕ) (h : low ≤ j) (others : suc low ≤ j → test j ≡ false).
          elim (cases_eq low j) as (λ _. test j ≡ false) [ inl e ↦ subst (λ (i : ℕ). test i ≡ false) e not_here | inr ne ↦ others (omega (arith, ne)) ] in
          elim (least_of-cases test (suc low) count) [
            | inl found ↦
                inl (
                  found.0,
                  skip ∙ found.1,
                  record {
                    from = omega (arith, found.2.from);
                    to = omega (arith, found.2.to);
                    passes = found.2.passes;
                    first = λ j h below. below_next j h (λ later. found.2.first j later below);
                  },
                )
            | inr none ↦ inr (skip ∙ none.0, λ j h within. below_next j h (λ later. none.1 j later (omega arith)))
          ]
    ]

-- where a test fails, the blocks do not fit
misfit : (ss : List Segment) (first count : ℕ) → fits ss first count ≡ false → ¬ Fits ss first count
misfit ss first count h fit = both_ways (fits ss first count) h ((fits-true ss first count).1 fit)

-- blocks that fit begin within the heap
Fits-within : (ss : List Segment) (first count : ℕ) → 1 ≤ count → Fits ss first count → first < 0 + block_count
Fits-within ss first count some fit = omega (arith, fit.0)

-- there is one least fit
IsLeastFit-unique : (ss : List Segment) (count a b : ℕ) → IsLeastFit ss count a → IsLeastFit ss count b → a ≡ b
IsLeastFit-unique ss count a b p q =
    elim (cases_order a b) [
      | inl same ↦ same
      | inr other ↦ elim other [ inl below ↦ absurd (q.least a below p.fits) | inr above ↦ absurd (p.least b above q.fits) ]
    ]

-- `fit` is a least fit, or nothing fits
fit-cases : (ss : List Segment) (count : ℕ) → 1 ≤ count → ((first : ℕ) × (fit ss count ≡ Some first) × IsLeastFit ss count first) ⊎ ((fit ss count ≡ None) × ((first : ℕ) → ¬ Fits ss first count))
unfolding fit
fit-cases ss count some =
    elim (least_of-cases (λ first. fits ss first count) 0 block_count) [
      | inl found ↦
          inl (
            found.0,
            found.1,
            record {
              fits = (fits-true ss found.0 count).0 found.2.passes;
              least = λ lower below. misfit ss lower count (found.2.first lower (omega arith) below);
            },
          )
      | inr none ↦
          inr (none.0, λ first fit. misfit ss first count (none.1 first (omega arith) (Fits-within ss first count some fit)) fit)
    ]

-- `fit` gives a block exactly where it is the least fit
pub fit-some : (ss : List Segment) (count first : ℕ) → 1 ≤ count → (fit ss count ≡ Some first) ↔ IsLeastFit ss count first
fit-some ss count first some =
    elim (fit-cases ss count some) [
      | inl found ↦ (
        λ h. subst (λ (b : ℕ). IsLeastFit ss count b) (same_Some found.0 first (sym found.1 ∙ h)) found.2,
        λ h. found.1 ∙ ap (λ b. Some b) (IsLeastFit-unique ss count found.0 first found.2 h),
      )
      | inr none ↦ (λ h. absurd (none-some first (sym none.0 ∙ h)), λ h. absurd (none.1 first h.fits))
    ]

-- `fit` gives no block exactly where nothing fits
pub fit-none : (ss : List Segment) (count : ℕ) → 1 ≤ count → (fit ss count ≡ None) ↔ ((first : ℕ) → ¬ Fits ss first count)
fit-none ss count some =
    elim (fit-cases ss count some) [
      | inl found ↦ (λ h. absurd (none-some found.0 (sym h ∙ found.1)), λ h. absurd (h found.0 found.2.fits))
      | inr none ↦ (λ h. none.1, λ h. none.0)
    ]
