-- The least mark at which no unit begins.
use Rattle.std.proofs.Common.{◌≡◌, ◌∙◌, ℕ, zero, suc, ◌<◌, ◌≤◌, min, cond, true, false, List, [], ◌∷◌, Option, Some, None, is_some, sym, refl, ap, subst, inl, inr, ◌⊎◌, arith}
use Rattle.std.specs.List.{Contains}
use Rattle.std.proofs.lemmas.Bool.{cases_lt}
use Rattle.unit_code.specs.Refusals.{least_stray, lesser}
use Rattle.unit_code.specs.Targets.{number_of}

-- What the least stray of marks is: a stray mark, and no greater than any other; or there is none.
abbrev pub IsLeastStray : List ℕ → List ℕ → Option ℕ → Type 0
IsLeastStray places marks None = (mark : ℕ) → Contains marks mark → number_of places mark ≡ None → ⊥
IsLeastStray places marks (Some w) = Contains marks w × (number_of places w ≡ None) × ((mark : ℕ) → Contains marks mark → number_of places mark ≡ None → w ≤ mark)

true_false : true ≡ false → ⊥
true_false h = cc

further : (m : ℕ) (ms : List ℕ) (mark : ℕ) → Contains ms mark → Contains (m ∷ ms) mark
further m ms mark (k, within, is) = (suc k, omega (arith, within), is)

front : (m : ℕ) (ms : List ℕ) → Contains (m ∷ ms) m
front m ms = (0, omega arith, refl)

-- an element is the front or one behind it
split : (P : ℕ → Type 0) (m : ℕ) (ms : List ℕ) → P m → ((mark : ℕ) → Contains ms mark → P mark) → (mark : ℕ) → Contains (m ∷ ms) mark → P mark
split P m ms here behind mark (zero, within, is) = subst P is here
split P m ms here behind mark (suc k, within, is) = behind mark (k, omega (arith, within), is)

begins : (places : List ℕ) (m : ℕ) (ms : List ℕ) (o : Option ℕ) → is_some (number_of places m) ≡ true → IsLeastStray places ms o → IsLeastStray places (m ∷ ms) o
begins places m ms None some all = split (λ x. number_of places x ≡ None → ⊥) m ms (λ none. let e = ap is_some none in cc) all
begins places m ms (Some w) some all =
    (further m ms w all.0, all.1, split (λ x. number_of places x ≡ None → w ≤ x) m ms (λ none. let e = ap is_some none in absurd (true_false (sym some ∙ e))) all.2)

none_is : (o : Option ℕ) → is_some o ≡ false → o ≡ None
none_is None h = refl
none_is (Some n) h = cc

stray_of_two : (places : List ℕ) (m : ℕ) (ms : List ℕ) (w : ℕ) → (m < w) ⊎ (w ≤ m) → number_of places m ≡ None → IsLeastStray places ms (Some w) → IsLeastStray places (m ∷ ms) (Some (min w m))
stray_of_two places m ms w (inl less) none all =
    let e : min w m ≡ m = omega (arith, less) in
    let P : ℕ → Type 0 = λ x. IsLeastStray places (m ∷ ms) (Some x) in
    subst P (sym e) (front m ms, none, split (λ x. number_of places x ≡ None → m ≤ x) m ms (λ _. omega arith) (λ mark here stray. omega (arith, less, all.2 mark here stray)))
stray_of_two places m ms w (inr more) none all =
    let e : min w m ≡ w = omega (arith, more) in
    let P : ℕ → Type 0 = λ x. IsLeastStray places (m ∷ ms) (Some x) in
    subst P (sym e) (further m ms w all.0, all.1, split (λ x. number_of places x ≡ None → w ≤ x) m ms (λ _. more) all.2)

strays : (places : List ℕ) (m : ℕ) (ms : List ℕ) (o : Option ℕ) → number_of places m ≡ None → IsLeastStray places ms o → IsLeastStray places (m ∷ ms) (lesser o m)
strays places m ms None none all =
    (front m ms, none, split (λ x. number_of places x ≡ None → m ≤ x) m ms (λ _. omega arith) (λ mark here stray. absurd (all mark here stray)))
strays places m ms (Some w) none all = stray_of_two places m ms w (cases_lt m w) none all

least : (places : List ℕ) (marks : List ℕ) → IsLeastStray places marks (least_stray places marks)
least places [] = λ mark (k, within, is) stray. omega (arith, within)
least places (m ∷ ms) = elim (is_some (number_of places m)) as (λ b. is_some (number_of places m) ≡ b → IsLeastStray places (m ∷ ms) (cond b (least_stray places ms) (lesser (least_stray places ms) m))) [
  | true ↦ λ is. begins places m ms (least_stray places ms) is (least places ms)
  | false ↦ λ is. strays places m ms (least_stray places ms) (none_is (number_of places m) is) (least places ms)
] refl

pub least_stray-some : (places marks : List ℕ) (w : ℕ) → least_stray places marks ≡ Some w → IsLeastStray places marks (Some w)
least_stray-some places marks w is = let P : Option ℕ → Type 0 = IsLeastStray places marks in subst P is (least places marks)

pub least_stray-none : (places marks : List ℕ) → least_stray places marks ≡ None → IsLeastStray places marks None
least_stray-none places marks is = let P : Option ℕ → Type 0 = IsLeastStray places marks in subst P is (least places marks)
