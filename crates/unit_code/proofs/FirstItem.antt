-- The first item at which a condition holds is the one with the least word.
use Rattle.std.proofs.Common.{◌≡◌, ◌∙◌, ℕ, zero, suc, ◌<◌, ◌≤◌, List, [], ◌∷◌, length, get_or, drop, Option, Some, None, sym, refl, ap, ⊎_elim, arith}
use Rattle.std.proofs.lemmas.Bool.{cases_lt}
use Rattle.unit_code.specs.declared.error.CodeError.{CodeError}
use Rattle.unit_code.specs.declared.items.Item.{Item}
use Rattle.unit_code.specs.Items.{items_of}
use Rattle.unit_code.specs.Refusals.{first_refused, or_else}
use Rattle.unit_code.proofs.Places.{places_in, places_rise}
use Rattle.unit_code.proofs.ProperUnits.{neither}

some_none : (e : CodeError) → Some e ≡ None → ⊥
some_none e h = cc

shifted : (test : List Item → Option CodeError) (x : Item) (xs : List Item) (k : ℕ) → test (x ∷ xs) ≡ None → ((j : ℕ) → j < k → test (drop j xs) ≡ None) → (j : ℕ) → j < suc k → test (drop j (x ∷ xs)) ≡ None
shifted test x xs k here below zero h = here
shifted test x xs k here below (suc j) h = below j (omega (arith, h))

-- the place of the first, and nothing before it
pub first_at : (test : List Item → Option CodeError) (items : List Item) (e : CodeError) → first_refused test items ≡ Some e → (k : ℕ) × (test (drop k items) ≡ Some e) × ((j : ℕ) → j < k → test (drop j items) ≡ None)
first_at test [] e h = cc
first_at test (x ∷ xs) e h = elim (test (x ∷ xs)) as (λ o. test (x ∷ xs) ≡ o → or_else o (first_refused test xs) ≡ Some e → (k : ℕ) × (test (drop k (x ∷ xs)) ≡ Some e) × ((j : ℕ) → j < k → test (drop j (x ∷ xs)) ≡ None)) [
  | Some d ↦ λ is so. (0, is ∙ so, λ j below. absurd (omega (arith, below)))
  | None ↦ λ is so. let rest = first_at test xs e so in (suc rest.0, rest.1, shifted test x xs rest.0 is rest.2)
] refl h

-- where there is no first, the condition holds nowhere
pub nowhere : (test : List Item → Option CodeError) (items : List Item) → first_refused test items ≡ None → (k : ℕ) (x : Item) (behind : List Item) → drop k items ≡ x ∷ behind → test (x ∷ behind) ≡ None
nowhere test [] h zero x behind is = cc
nowhere test [] h (suc k) x behind is = cc
nowhere test (y ∷ ys) h zero x behind is = ap test (sym is) ∙ (neither (test (y ∷ ys)) (first_refused test ys) h).0
nowhere test (y ∷ ys) h (suc k) x behind is = nowhere test ys (neither (test (y ∷ ys)) (first_refused test ys) h).1 k x behind is

place_at : (items : List Item) (k : ℕ) (x : Item) (behind : List Item) → drop k items ≡ x ∷ behind → (k < length (places_in items)) × (get_or (places_in items) k 0 ≡ x.place)
place_at [] zero x behind is = cc
place_at [] (suc k) x behind is = cc
place_at (y ∷ ys) zero x behind is = let same : y ≡ x = cc in (omega arith, ap (λ item. item.place) same)
place_at (y ∷ ys) (suc k) x behind is = let rest = place_at ys k x behind is in (omega (arith, rest.0), rest.1)

-- what stands no earlier has no lesser word
pub no_lesser : (words : List ℕ) (i j : ℕ) (x y : Item) (xs ys : List Item) → i ≤ j → drop i (items_of words) ≡ x ∷ xs → drop j (items_of words) ≡ y ∷ ys → x.place ≤ y.place
no_lesser words i j x y xs ys order here there =
    let a = place_at (items_of words) i x xs here in
    let b = place_at (items_of words) j y ys there in
    ⊎_elim (λ (below : i < j). let less = places_rise words i j below b.0 in omega (arith, less, a.1, b.1))
    (λ (past : j ≤ i). let same : i ≡ j = omega (arith, order, past) in let e = ap (λ k. get_or (places_in (items_of words)) k 0) same in omega (arith, e, a.1, b.1))
    (cases_lt i j)

-- of all items at which the condition holds the first has the least word
pub least_word : (words : List ℕ) (test : List Item → Option CodeError) (k : ℕ) → ((j : ℕ) → j < k → test (drop j (items_of words)) ≡ None) → (x : Item) (xs : List Item) → drop k (items_of words) ≡ x ∷ xs → (j : ℕ) (y : Item) (ys : List Item) (e : CodeError) → drop j (items_of words) ≡ y ∷ ys → test (y ∷ ys) ≡ Some e → x.place ≤ y.place
least_word words test k before x xs here j y ys e there holds =
    ⊎_elim (λ (below : j < k). let none = before j below in let some : test (drop j (items_of words)) ≡ Some e = ap test there ∙ holds in absurd (some_none e (sym some ∙ none)))
    (λ (past : k ≤ j). no_lesser words k j x y xs ys past here there)
    (cases_lt j k)
