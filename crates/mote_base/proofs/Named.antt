-- Messages from or to a module, taken out one by one.
use Rattle.std.proofs.Common.{◌≡◌, ◌∙◌, refl, sym, ap, ℕ, ◌+◌, ◌<◌, inl, inr, true, false, List, [], ◌∷◌, length, Some, None, arith, length-append}
use Rattle.std.specs.Prelude.{find}
use Rattle.std.specs.List.{list_any}
use Rattle.std.proofs.lemmas.Bool.{cases_Bool, or_parts}
use Rattle.std.proofs.lemmas.List.Folds.{list_any-append}
use Rattle.mote_base.specs.declared.message.Msg.{Msg}
use Rattle.mote_base.specs.Messages.{Lists, in_order, first, without, without_first, names, without_named, unnamed}

module _ {P : Type 0} where
  -- taking the first one out leaves what taking all out leaves
  one_less : (id : ℕ) (xs : List (Msg P)) → without_named id (without_first (names id) xs) ≡ without_named id xs
  one_less id [] = refl
  one_less id (m ∷ ms) =
      elim (cases_Bool (names id m)) [
        | inl named ↦ rw named refl
        | inr other ↦ rw (other, other) (ap (λ (l : List (Msg P)). m ∷ l) (one_less id ms))
      ]

  -- where none is named, nothing is taken
  none_named : (id : ℕ) (xs : List (Msg P)) → list_any (names id) xs ≡ false → without_named id xs ≡ xs
  none_named id [] none = refl
  none_named id (m ∷ ms) none =
      let parts = or_parts (names id m) (list_any (names id) ms) none in
      let head = parts.0 in
      rw head (ap (λ (l : List (Msg P)). m ∷ l) (none_named id ms parts.1))

  -- one that is named is taken out
  shorter : (id : ℕ) (xs : List (Msg P)) → list_any (names id) xs ≡ true → length (without_first (names id) xs) + 1 ≡ length xs
  shorter id [] some = absurd (cc)
  shorter id (m ∷ ms) some =
      elim (cases_Bool (names id m)) [
        | inl named ↦ rw named (omega arith)
        | inr other ↦
            let rest : length (without_first (names id) ms) + 1 ≡ length ms = shorter id ms (rw other at some) in
            rw other (omega (arith, rest))
      ]

  found_any : (id : ℕ) (xs : List (Msg P)) (m : Msg P) → find (names id) xs ≡ Some m → list_any (names id) xs ≡ true
  found_any id [] m is = absurd (cc)
  found_any id (x ∷ xs) m is =
      elim (cases_Bool (names id x)) [
        | inl named ↦ rw named refl
        | inr other ↦ rw other (found_any id xs m (rw other at is))
      ]

  found_none : (id : ℕ) (xs : List (Msg P)) → find (names id) xs ≡ None → list_any (names id) xs ≡ false
  found_none id [] is = refl
  found_none id (x ∷ xs) is =
      elim (cases_Bool (names id x)) [
        | inl named ↦ let some : Some x ≡ None = rw named at is in absurd (cc)
        | inr other ↦ rw other (found_none id xs (rw other at is))
      ]

  -- where none is named, none is the first
  still : (id : ℕ) (xs : List (Msg P)) → list_any (names id) xs ≡ false → without_first (names id) xs ≡ xs
  still id [] h = refl
  still id (x ∷ xs) h =
      let parts = or_parts (names id x) (list_any (names id) xs) h in
      let head = parts.0 in
      rw head (ap (λ (l : List (Msg P)). x ∷ l) (still id xs parts.1))

  -- The same of the two lists.
  pub without-none : (id : ℕ) (lists : Lists (Msg P)) → first (names id) lists ≡ None → without (names id) lists ≡ lists
  without-none id lists none =
      let parts = or_parts (list_any (names id) lists.high) (list_any (names id) lists.low) (sym (list_any-append (names id) lists.high lists.low) ∙ found_none id (in_order lists) none) in
      let high = parts.0 in
      rw high (ap (λ (h : List (Msg P)). record { high = h; low = without_first (names id) lists.low }) (still id lists.high parts.0)
      ∙ ap (λ (l : List (Msg P)). record { high = lists.high; low = l }) (still id lists.low parts.1))

  pub unnamed-without : (id : ℕ) (lists : Lists (Msg P)) → unnamed id (without (names id) lists) ≡ unnamed id lists
  unnamed-without id lists =
      elim (cases_Bool (list_any (names id) lists.high)) [
        | inl some ↦ rw some (ap (λ (h : List (Msg P)). record { high = h; low = without_named id lists.low }) (one_less id lists.high))
        | inr none ↦
            rw none (ap (λ (h : List (Msg P)). record { high = h; low = without_named id (without_first (names id) lists.low) }) (one_less id lists.high)
            ∙ ap (λ (l : List (Msg P)). record { high = without_named id lists.high; low = l }) (one_less id lists.low))
      ]

  pub unnamed-none : (id : ℕ) (lists : Lists (Msg P)) → first (names id) lists ≡ None → unnamed id lists ≡ lists
  unnamed-none id lists none =
      let parts = or_parts (list_any (names id) lists.high) (list_any (names id) lists.low) (sym (list_any-append (names id) lists.high lists.low) ∙ found_none id (in_order lists) none) in
      ap (λ (h : List (Msg P)). record { high = h; low = without_named id lists.low }) (none_named id lists.high parts.0)
      ∙ ap (λ (l : List (Msg P)). record { high = lists.high; low = l }) (none_named id lists.low parts.1)

  pub fewer : (id : ℕ) (lists : Lists (Msg P)) (m : Msg P) → first (names id) lists ≡ Some m → length (in_order (without (names id) lists)) < length (in_order lists)
  fewer id lists m is =
      let any = sym (list_any-append (names id) lists.high lists.low) ∙ found_any id (in_order lists) m is in
      elim (cases_Bool (list_any (names id) lists.high)) [
        | inl some ↦
            rw some (omega (arith, shorter id lists.high some, length-append lists.high lists.low, length-append (without_first (names id) lists.high) lists.low))
        | inr none ↦
            let low : list_any (names id) lists.low ≡ true = rw none at any in
            let same : without_first (names id) lists.high ≡ lists.high = still id lists.high none in
            rw (none, same) (omega (arith, shorter id lists.low low, length-append lists.high lists.low, length-append lists.high (without_first (names id) lists.low)))
      ]
