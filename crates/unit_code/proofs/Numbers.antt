-- The number of the unit that begins at a word.
use Rattle.std.proofs.Common.{◌≡◌, ◌∙◌, ℕ, ◌<◌, ◌≤◌, ◌≢◌, cond, eqb, ltb, true, false, List, length, get_or, Some, None, Ok, Err, ap, eq-eqb, arith, ◌⊎◌, ⊎_elim}
use Rattle.std.specs.List.Sorted.{IsBinarySearchResult}
use Rattle.std.specs.Ordering.{nat_cmp}
use Rattle.std.proofs.lemmas.Bool.{cases_lt, lt-ltb, le-ltb}
use Rattle.std.proofs.lemmas.Bool.Decides.{nat_tests}
use Rattle.std.proofs.lemmas.List.Quantifiers.{position-Some}
use Rattle.std.proofs.lemmas.List.Sorted.{searched}
use Rattle.std.proofs.lemmas.List.Sums.{position_or_len_is}
use Rattle.unit_code.specs.Targets.{AreFirstWords, number_of}

unequal : (a b : ℕ) → a ≢ b → eqb a b ≡ false
unequal a b h = grind (arith, nat_tests)

-- at a unit's first word it is the unit's
pub number_of-at : (places : List ℕ) (word i : ℕ) → AreFirstWords places → i < length places → get_or places i 0 ≡ word → number_of places word ≡ Some i
unfolding number_of
number_of-at places word i first within is =
    let e = position_or_len_is (λ place. eqb place word) places i 0 (omega arith) (λ k below. let less : get_or places k 0 < get_or places i 0 = first.rise k i below within in unequal (get_or places k 0) word (omega (arith, less))) (λ _. eq-eqb (get_or places i 0) word is) in
    let inside : ltb i (length places) ≡ true = lt-ltb i (length places) within in
    ap (λ n. cond (ltb n (length places)) (Some n) None) e ∙ ap (λ b. cond b (Some i) None) inside

-- at any other word it is none
pub number_of-none : (places : List ℕ) (word : ℕ) → ((k : ℕ) → k < length places → get_or places k 0 ≢ word) → number_of places word ≡ None
unfolding number_of
number_of-none places word apart =
    let n = length places in
    let e = position_or_len_is (λ place. eqb place word) places n 0 (omega arith) (λ k below. unequal (get_or places k 0) word (apart k below)) (λ below. absurd (omega (arith, below))) in
    let outside : ltb n n ≡ false = le-ltb n n (omega arith) in
    ap (λ m. cond (ltb m n) (Some m) None) e ∙ ap (λ b. cond b (Some n) None) outside

-- what it says where it is some unit's
pub number_of-some : (places : List ℕ) (word i : ℕ) → number_of places word ≡ Some i → (i < length places) × (get_or places i 0 ≡ word)
unfolding number_of
number_of-some places word i is =
    let found = position-Some (λ place. eqb place word) places i 0 is in
    let test : eqb (get_or places i 0) word ≡ true = found.1 in
    (found.0, grind (arith, nat_tests))

rise_or_stay : (places : List ℕ) → AreFirstWords places → (i j : ℕ) → i ≤ j → j < length places → get_or places i 0 ≤ get_or places j 0
rise_or_stay places first i j order within =
    let cases : (i < j) ⊎ (i ≡ j) = grind arith in
    ⊎_elim (λ (below : i < j). let less : get_or places i 0 < get_or places j 0 = first.rise i j below within in omega (arith, less)) (λ (same : i ≡ j). let e : get_or places i 0 ≡ get_or places j 0 = ap (λ k. get_or places k 0) same in omega (arith, e)) cases

-- what a binary search finds
pub number_of-found : (places : List ℕ) (word i : ℕ) → AreFirstWords places → IsBinarySearchResult (λ y. nat_cmp y word) places (Ok i) → number_of places word ≡ Some i
number_of-found places word i first answer =
    let at = searched places word (Ok i) answer (rise_or_stay places first) in
    number_of-at places word i first at.0 at.1

pub number_of-missed : (places : List ℕ) (word i : ℕ) → AreFirstWords places → IsBinarySearchResult (λ y. nat_cmp y word) places (Err i) → number_of places word ≡ None
number_of-missed places word i first answer =
    let at = searched places word (Err i) answer (rise_or_stay places first) in
    let apart : (k : ℕ) → k < length places → get_or places k 0 ≢ word = λ k within same.
    ⊎_elim (λ (below : k < i). let less : get_or places k 0 < word = at.1 k below in absurd (omega (arith, less)))
    (λ (past : i ≤ k). let more : word < get_or places k 0 = at.2 k past within in absurd (omega (arith, more)))
    (cases_lt k i) in
    number_of-none places word apart
