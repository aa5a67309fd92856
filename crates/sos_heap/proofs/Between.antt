-- A number between two others.
use Rattle.std.proofs.Common.{◌≡◌, ℕ, ◌≤◌, ◌<◌, ◌⊎◌, ◌&&◌, true, false, leb, ltb, inl, inr, arith}
use Rattle.std.proofs.lemmas.Bool.{cases_lt, cases_Bool, ltb-true, leb-true, lt-ltb, le-leb, and_from, and_parts}

pub between-true : (low high k : ℕ) → low ≤ k → k < high → (leb low k && ltb k high) ≡ true
between-true low high k from to = and_from (leb low k) (ltb k high) (le-leb low k from) (lt-ltb k high to)

pub between-false : (low high k : ℕ) → (k < low) ⊎ (high ≤ k) → (leb low k && ltb k high) ≡ false
between-false low high k outside = elim (cases_Bool (leb low k && ltb k high)) as (λ _. (leb low k && ltb k high) ≡ false) [
  | inr h ↦ h
  | inl h ↦
      let parts = and_parts (leb low k) (ltb k high) h in
      let from = leb-true low k parts.0 in
      let to = ltb-true k high parts.1 in
      absurd (elim outside [ inl g ↦ omega (arith, from, g) | inr g ↦ omega (arith, to, g) ])
]

pub cases_between : (low high k : ℕ) → ((low ≤ k) × (k < high)) ⊎ ((k < low) ⊎ (high ≤ k))
cases_between low high k =
    elim (cases_lt k low) [
      | inl before ↦ inr (inl before)
      | inr from ↦ elim (cases_lt k high) [ inl to ↦ inl (from, to) | inr behind ↦ inr (inr behind) ]
    ]
