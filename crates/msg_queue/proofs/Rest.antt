-- What is left of the messages in their order.
use Rattle.std.proofs.Common.{◌≡◌, Bool, true, List, [], ◌∷◌, ◌++◌, nat_lt, length, drop, refl, sym, ap, ◌∙◌, inl, inr, arith}
use Rattle.std.specs.List.{list_any}
use Rattle.std.proofs.lemmas.Bool.{cases_Bool}
use Rattle.std.proofs.lemmas.Bool.Decides.{nat_tests}
use Rattle.mote_base.specs.Messages.{Lists, in_order, without_front, without, without_first}
use Rattle.msg_queue.proofs.Taken.{is_some-find, without-front, without-back, without-none}

module _ {A : Type 0} where
  behind : (high low : List A) → in_order (without_front (record { high = high; low = low })) ≡ drop 1 (high ++ low)
  behind [] low = refl
  behind (x ∷ high) low = let some : nat_lt 0 (length (x ∷ high)) ≡ true = grind (arith, nat_tests) in rw some refl

  pub rest-front : (lists : Lists A) → in_order (without_front lists) ≡ drop 1 (in_order lists)
  rest-front lists = behind lists.high lists.low

  pub rest-first : (test : A → Bool) (lists : Lists A) → in_order (without test lists) ≡ without_first test (in_order lists)
  rest-first test lists =
      elim (cases_Bool (list_any test lists.high)) [
        | inl some ↦ rw some (sym (without-front test lists.high lists.low (is_some-find test lists.high ∙ some)))
        | inr none ↦
            let nothing = is_some-find test lists.high ∙ none in
            rw none (ap (λ (h : List A). h ++ without_first test lists.low) (without-none test lists.high nothing) ∙ sym (without-back test lists.high lists.low nothing))
      ]
