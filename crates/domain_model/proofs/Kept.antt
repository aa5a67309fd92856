-- What holds of each element of a list, after a change of the list; and what a list contains.
use Rattle.std.proofs.Common.{◌≡◌, ℕ, ◌⊎◌, inl, inr, ◌≤◌, List, [], ◌∷◌, ◌++◌, length, filter, cond, Bool, true, false, drop, refl, sym, ◌∙◌, zero, suc, subst, arith, slice_get, Some}
use Rattle.std.specs.List.{AllByRecursion, Contains, list_any}
use Rattle.std.proofs.lemmas.Bool.{true≢false, cond_both, or_parts, or_left, or_right}
use Rattle.std.proofs.lemmas.Option.{none-some, same_Some}
use Rattle.std.proofs.lemmas.List.Elements.{All-from_recursion, All-contains}
use Rattle.std.proofs.lemmas.List.Folds.{list_any-append}

module _ {X : Type 0} where
  pub each_weaker : (P Q : X → Type 0) → ((x : X) → P x → Q x) → (xs : List X) → AllByRecursion P xs → AllByRecursion Q xs
  each_weaker P Q f [] h = tt
  each_weaker P Q f (x ∷ xs) h = (f x h.0, each_weaker P Q f xs h.1)

  pub each_where : (Q : X → Type 0) (b : Bool) (x : X) (xs : List X) → (b ≡ true → Q x) → AllByRecursion Q xs → AllByRecursion Q (cond b (x ∷ xs) xs)
  each_where Q true x xs f h = (f refl, h)
  each_where Q false x xs f h = h

  pub each_filter : (P Q : X → Type 0) (test : X → Bool) → ((x : X) → test x ≡ true → P x → Q x) → (xs : List X) → AllByRecursion P xs → AllByRecursion Q (filter test xs)
  each_filter P Q test f [] h = tt
  each_filter P Q test f (x ∷ xs) h = each_where Q (test x) x (filter test xs) (λ e. f x e h.0) (each_filter P Q test f xs h.1)

  pub each_push : (P : X → Type 0) (xs : List X) (x : X) → AllByRecursion P xs → P x → AllByRecursion P (xs ++ x ∷ [])
  each_push P [] x h k = (k, tt)
  each_push P (y ∷ ys) x h k = (h.0, each_push P ys x h.1 k)

  pub each_drop : (P : X → Type 0) (xs : List X) → AllByRecursion P xs → AllByRecursion P (drop 1 xs)
  each_drop P [] h = tt
  each_drop P (x ∷ xs) h = h.1

  pub each_at : (P : X → Type 0) (xs : List X) (i : ℕ) (x : X) → AllByRecursion P xs → slice_get xs i ≡ Some x → P x
  each_at P [] i x h e = absurd (none-some x e)
  each_at P (y ∷ ys) zero x h e = subst P (same_Some y x e) h.0
  each_at P (y ∷ ys) (suc i) x h e = each_at P ys i x h.1 e

  pub each_contained : (P : X → Type 0) (xs : List X) (x : X) → AllByRecursion P xs → Contains xs x → P x
  each_contained P xs x h c = All-contains P xs x (All-from_recursion P xs h) c

  -- what a list contains is its first element or in the rest
  pub contained_nowhere : (x : X) → Contains [] x → ⊥
  contained_nowhere x c = omega (arith, c.1)

  pub contained_first : (xs : List X) (x : X) → Contains (x ∷ xs) x
  contained_first xs x = (0, omega arith, refl)

  pub contained_later : (y : X) (xs : List X) (x : X) → Contains xs x → Contains (y ∷ xs) x
  contained_later y xs x c = (suc c.0, omega (arith, c.1), c.2)

  pub contained_cases : (y : X) (xs : List X) (x : X) → Contains (y ∷ xs) x → (y ≡ x) ⊎ Contains xs x
  contained_cases y xs x (zero, within, e) = inl e
  contained_cases y xs x (suc k, within, e) = inr (k, omega (arith, within), e)

  -- what a filter keeps was there, and passes
  pub contained_filter : (test : X → Bool) (xs : List X) (x : X) → Contains (filter test xs) x → Contains xs x × (test x ≡ true)
  contained_filter test xs x c =
      each_contained (λ y. Contains xs y × (test y ≡ true)) (filter test xs) x
      (each_filter (Contains xs) (λ y. Contains xs y × (test y ≡ true)) test (λ y e h. (h, e)) xs (each_itself xs)) c
    where
      each_itself : (ys : List X) → AllByRecursion (Contains ys) ys
      each_itself [] = tt
      each_itself (y ∷ ys) = (contained_first ys y, each_weaker (Contains ys) (Contains (y ∷ ys)) (λ z h. contained_later y ys z h) ys (each_itself ys))

  -- and what was there and passes, it keeps
  pub filter_contained : (test : X → Bool) (xs : List X) (x : X) → Contains xs x → test x ≡ true → Contains (filter test xs) x
  filter_contained test [] x c e = absurd (contained_nowhere x c)
  filter_contained test (y ∷ ys) x c e =
      cond_both (test y) (y ∷ filter test ys) (filter test ys) (λ (zs : List X). Contains zs x)
      (λ kept.
      elim (contained_cases y ys x c) [
        | inl same ↦ subst (Contains (y ∷ filter test ys)) same (contained_first (filter test ys) y)
        | inr later ↦ contained_later y (filter test ys) x (filter_contained test ys x later e)
      ])
      (λ lost.
      elim (contained_cases y ys x c) [
        | inl same ↦ absurd (true≢false (sym (subst (λ (z : X). test z ≡ true) (sym same) e) ∙ lost))
        | inr later ↦ filter_contained test ys x later e
      ])

  -- a test that passes somewhere, or nowhere
  pub any_old : (test : X → Bool) (xs : List X) (x : X) → list_any test xs ≡ true → list_any test (xs ++ x ∷ []) ≡ true
  any_old test xs x h = list_any-append test xs (x ∷ []) ∙ or_left (list_any test xs) (list_any test (x ∷ [])) h

  pub any_new : (test : X → Bool) (xs : List X) (x : X) → test x ≡ true → list_any test (xs ++ x ∷ []) ≡ true
  any_new test xs x h = list_any-append test xs (x ∷ []) ∙ or_right (list_any test xs) (list_any test (x ∷ [])) (or_left (test x) false h)

  pub any_nowhere : (test : X → Bool) (xs : List X) → list_any test xs ≡ false → AllByRecursion (λ x. test x ≡ false) xs
  any_nowhere test [] h = tt
  any_nowhere test (x ∷ xs) h = let parts = or_parts (test x) (list_any test xs) h in (parts.0, any_nowhere test xs parts.1)

  -- a test that passes at what the list contains
  pub any_contained : (test : X → Bool) (xs : List X) (x : X) → Contains xs x → test x ≡ true → list_any test xs ≡ true
  any_contained test [] x c e = absurd (contained_nowhere x c)
  any_contained test (y ∷ ys) x c e =
      elim (contained_cases y ys x c) [
        | inl same ↦ or_left (test y) (list_any test ys) (subst (λ (z : X). test z ≡ true) (sym same) e)
        | inr later ↦ or_right (test y) (list_any test ys) (any_contained test ys x later e)
      ]

  -- each of one list and of another behind it
  pub each_either : (P : X → Type 0) (xs ys : List X) → AllByRecursion P xs → AllByRecursion P ys → AllByRecursion P (xs ++ ys)
  each_either P [] ys h k = k
  each_either P (x ∷ xs) ys h k = (h.0, each_either P xs ys h.1 k)

  -- a filter leaves no more
  pub filter_shorter : (test : X → Bool) (xs : List X) → length (filter test xs) ≤ length xs
  filter_shorter test [] = omega arith
  filter_shorter test (x ∷ xs) =
      let rest = filter_shorter test xs in
      cond_both (test x) (x ∷ filter test xs) (filter test xs) (λ (zs : List X). length zs ≤ suc (length xs)) (λ kept. omega (arith, rest)) (λ lost. omega (arith, rest))
