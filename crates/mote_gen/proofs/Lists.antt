-- What holds of each element of a list.
use Rattle.std.proofs.Common.{◌≡◌, ℕ, zero, suc, ◌+◌, ◌<◌, ◌&&◌, List, [], ◌∷◌, ◌++◌, map, Bool, true, false, refl, sym, ap, ◌∙◌, arith}
use Rattle.std.specs.List.{AllByRecursion, list_all, range_with_len}

pub all_map : {A B : Type 0} (P : B → Type 0) (f : A → B) (xs : List A) → AllByRecursion (λ x. P (f x)) xs → AllByRecursion P (map f xs)
all_map P f [] all = tt
all_map P f (x ∷ xs) all = (all.0, all_map P f xs all.1)

pub all_from : {A : Type 0} (P : A → Type 0) (f : ℕ → A) (start count : ℕ) → ((k : ℕ) → k < start + count → P (f k)) → AllByRecursion P (map f (range_with_len start count))
all_from P f start zero each = tt
all_from P f start (suc count) each =
    (each start (omega arith), all_from P f (start + 1) count (λ k low. each k (omega arith)))

pub all_append : {A : Type 0} (P : A → Type 0) (xs ys : List A) → AllByRecursion P xs → AllByRecursion P ys → AllByRecursion P (xs ++ ys)
all_append P [] ys first later = later
all_append P (x ∷ xs) ys first later = (first.0, all_append P xs ys first.1 later)

both : (a b : Bool) → (a && b) ≡ true → (a ≡ true) × (b ≡ true)
both true b is = (refl, is)
both false b is = absurd (cc)

-- a test that holds of all numbers from one on
pub test_at : (p : ℕ → Bool) (start count k j : ℕ) → list_all p (range_with_len start count) ≡ true → k < count → start + k ≡ j → p j ≡ true
test_at p start zero k j all low at = absurd (omega arith)
test_at p start (suc count) zero j all low at =
    let here : start ≡ j = omega arith in
    ap p (sym here) ∙ (both (p start) (list_all p (range_with_len (start + 1) count)) all).0
test_at p start (suc count) (suc k) j all low at =
    test_at p (start + 1) count k j (both (p start) (list_all p (range_with_len (start + 1) count)) all).1 (omega arith) (omega arith)
