-- The first message that passes a test, and what is left without it.
use Rattle.std.proofs.Common.{◌≡◌, ◌≤◌, Bool, true, false, List, [], ◌∷◌, ◌++◌, length, slice_get, find, is_some, Option, None, Some, refl, sym, ap, ◌∙◌, inl, inr, arith}
use Rattle.std.specs.List.{list_any}
use Rattle.std.specs.Option.{unwrap_or}
use Rattle.std.proofs.lemmas.Bool.{cases_Bool, false≢true}
use Rattle.mote_base.specs.Messages.{without_first}

module _ {A : Type 0} where
  -- equal options hold equal things
  pub some-inj : {x y : A} → Some x ≡ Some y → x ≡ y
  some-inj {x} {y} same = ap (λ (o : Option A). unwrap_or o x) same

  -- an option that holds nothing
  pub none-of : (o : Option A) → is_some o ≡ false → o ≡ None
  none-of None none = refl
  none-of (Some x) none = absurd (false≢true (sym none))

  -- a list with a front is not empty
  pub front-length : (m : A) (xs : List A) → slice_get xs 0 ≡ Some m → 1 ≤ length xs
  front-length m [] front = absurd (false≢true (ap is_some front))
  front-length m (x ∷ xs) front = omega arith

  -- where none passes, none is found
  pub find-nothing : (test : A → Bool) (xs : List A) → is_some (find test xs) ≡ false → find test xs ≡ None
  find-nothing test xs none = none-of (find test xs) none

  -- one is found exactly where one passes
  pub is_some-find : (test : A → Bool) (ys : List A) → is_some (find test ys) ≡ list_any test ys
  is_some-find test [] = refl
  is_some-find test (y ∷ ys) =
      elim (cases_Bool (test y)) [ inl passes ↦ rw passes refl | inr fails ↦ rw fails (is_some-find test ys) ]

  -- in two lists, where the first list has one
  pub find-front : (test : A → Bool) (xs ys : List A) → is_some (find test xs) ≡ true → find test (xs ++ ys) ≡ find test xs
  find-front test [] ys some = absurd (false≢true some)
  find-front test (x ∷ xs) ys some =
      elim (cases_Bool (test x)) [
        | inl passes ↦ rw passes refl
        | inr fails ↦ let some' = rw fails at some in rw fails (find-front test xs ys some')
      ]

  -- in two lists, where the first list has none
  pub find-back : (test : A → Bool) (xs ys : List A) → is_some (find test xs) ≡ false → find test (xs ++ ys) ≡ find test ys
  find-back test [] ys none = refl
  find-back test (x ∷ xs) ys none =
      elim (cases_Bool (test x)) [
        | inl passes ↦ let none' = rw passes at none in absurd (false≢true (sym none'))
        | inr fails ↦ let none' = rw fails at none in rw fails (find-back test xs ys none')
      ]

  -- a list of which none passes stays
  pub without-none : (test : A → Bool) (ys : List A) → is_some (find test ys) ≡ false → without_first test ys ≡ ys
  without-none test [] none = refl
  without-none test (y ∷ ys) none =
      elim (cases_Bool (test y)) [
        | inl passes ↦ let none' = rw passes at none in absurd (false≢true (sym none'))
        | inr fails ↦ let none' = rw fails at none in rw fails (ap (λ zs. y ∷ zs) (without-none test ys none'))
      ]

  -- more behind a list of which none passes
  pub without-back : (test : A → Bool) (xs ys : List A) → is_some (find test xs) ≡ false → without_first test (xs ++ ys) ≡ xs ++ without_first test ys
  without-back test [] ys none = refl
  without-back test (x ∷ xs) ys none =
      elim (cases_Bool (test x)) [
        | inl passes ↦ let none' = rw passes at none in absurd (false≢true (sym none'))
        | inr fails ↦ let none' = rw fails at none in rw fails (ap (λ zs. x ∷ zs) (without-back test xs ys none'))
      ]

  -- more behind a list of which one passes
  pub without-front : (test : A → Bool) (xs ys : List A) → is_some (find test xs) ≡ true → without_first test (xs ++ ys) ≡ without_first test xs ++ ys
  without-front test [] ys some = absurd (false≢true some)
  without-front test (x ∷ xs) ys some =
      elim (cases_Bool (test x)) [
        | inl passes ↦ rw passes refl
        | inr fails ↦ let some' = rw fails at some in rw fails (ap (λ zs. x ∷ zs) (without-front test xs ys some'))
      ]

  -- no more are left than there were
  pub length-without : (test : A → Bool) (ys : List A) → length (without_first test ys) ≤ length ys
  length-without test [] = omega arith
  length-without test (y ∷ ys) =
      elim (cases_Bool (test y)) [
        | inl passes ↦ rw passes (omega arith)
        | inr fails ↦ rw fails (omega (arith, length-without test ys))
      ]

  -- one more behind a list, which is not the first that passes
  pub find-left : (test : A → Bool) (xs : List A) (m : A) → (is_some (find test xs) ≡ false → test m ≡ false) → find test (xs ++ m ∷ []) ≡ find test xs
  find-left test xs m fails =
      elim (cases_Bool (is_some (find test xs))) [
        | inl some ↦ find-front test xs (m ∷ []) some
        | inr none ↦ find-back test xs (m ∷ []) none ∙ rw (fails none) (sym (find-nothing test xs none))
      ]

  pub without-left : (test : A → Bool) (xs : List A) (m : A) → (is_some (find test xs) ≡ false → test m ≡ false) → without_first test (xs ++ m ∷ []) ≡ without_first test xs ++ m ∷ []
  without-left test xs m fails =
      elim (cases_Bool (is_some (find test xs))) [
        | inl some ↦ without-front test xs (m ∷ []) some
        | inr none ↦ without-back test xs (m ∷ []) none ∙ rw (fails none) (ap (λ ys. ys ++ m ∷ []) (sym (without-none test xs none)))
      ]
