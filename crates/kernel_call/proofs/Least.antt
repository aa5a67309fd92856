-- The least number that passes a test.
use Rattle.std.proofs.Common.{◌≡◌, refl, ◌∙◌, ℕ, zero, suc, ◌+◌, ◌<◌, ◌≤◌, inl, inr, Bool, true, false, Some, None, arith, subst, sym, ap, cond}
use Rattle.std.proofs.lemmas.Bool.{cases_eq}
use Rattle.mote_layout.specs.Fit.{least_of}

-- it is the one that passes, where those before it don't
pub least_of-at : (test : ℕ → Bool) (low count k : ℕ) → low ≤ k → k < low + count → test k ≡ true → ((j : ℕ) → low ≤ j → j < k → test j ≡ false) → least_of test low count ≡ Some k
least_of-at test low zero k from to passes before = absurd (omega arith)
least_of-at test low (suc count) k from to passes before =
    elim (cases_eq low k) [
      | inl same ↦
          let here : test low ≡ true = subst (λ i. test i ≡ true) (sym same) passes in
          ap (λ b. cond b (Some low) (least_of test (suc low) count)) here ∙ ap (λ i. Some i) same
      | inr other ↦
          let not_here : test low ≡ false = before low (omega arith) (omega (arith, other)) in
          ap (λ b. cond b (Some low) (least_of test (suc low) count)) not_here
          ∙ least_of-at test (suc low) count k (omega (arith, other)) (omega arith) passes (λ j later below. before j (omega arith) below)
    ]

-- there is none where none passes
pub least_of-none : (test : ℕ → Bool) (low count : ℕ) → ((j : ℕ) → low ≤ j → j < low + count → test j ≡ false) → least_of test low count ≡ None
least_of-none test low zero fails = refl
least_of-none test low (suc count) fails =
    ap (λ b. cond b (Some low) (least_of test (suc low) count)) (fails low (omega arith) (omega arith))
    ∙ least_of-none test (suc low) count (λ j later within. fails j (omega arith) (omega arith))
