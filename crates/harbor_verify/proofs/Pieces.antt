-- Reading words piece by piece, whatever the pieces are.
use Rattle.std.proofs.Common.{◌≡◌, ◌∙◌, ℕ, zero, suc, ◌+◌, ◌≤◌, ◌<◌, List, [], ◌∷◌, drop, take, length, Option, Some, None, refl, sym, ap, subst, arith, length-drop}
use Rattle.std.proofs.lemmas.List.{drop-drop}
use Rattle.std.proofs.lemmas.Option.{none-some}
use Rattle.harbor_verify.specs.Walks.{and_behind, pieces, pieces_up_to}

-- What is read from words that are good takes some of them, and no more than there are. The total counts the words of pieces.
pub record Advances {A : Type 0} (first : List ℕ → Option A) (count : A → ℕ) (total : List A → ℕ) (Good : List ℕ → Type 0) : Type 0 where
  pub empty : first [] ≡ None
  pub some : (words : List ℕ) (x : A) → Good words → first words ≡ Some x → (0 < count x) × (count x ≤ length words)
  pub behind : (n : ℕ) (words : List ℕ) → Good words → Good (drop n words)
  pub none : total [] ≡ 0
  pub more : (x : A) (xs : List A) → total (x ∷ xs) ≡ count x + total xs

no_words : (words : List ℕ) → length words ≤ 0 → words ≡ []
no_words [] h = refl
no_words (w ∷ ws) h = absurd (omega (arith, h))

module _ {A : Type 0} (first : List ℕ → Option A) (count : A → ℕ) (total : List A → ℕ) (Good : List ℕ → Type 0) (h : Advances first count total Good) where
  abbrev up_to : ℕ → List ℕ → List A
  up_to n words = pieces_up_to first count n words

  abbrev from : ℕ → List ℕ → Option A → List A
  from n words o = and_behind o (λ x. up_to n (drop (count x) words))

  none_left : (n : ℕ) → up_to n [] ≡ []
  unfolding pieces_up_to
  none_left zero = refl
  none_left (suc n) = ap (from n []) h.empty

  -- so many that all words are read
  enough : (n m : ℕ) (words : List ℕ) → Good words → length words ≤ n → length words ≤ m → up_to n words ≡ up_to m words
  unfolding pieces_up_to
  enough zero m words good a b = let P : List ℕ → Type 0 = λ l. up_to zero l ≡ up_to m l in subst P (sym (no_words words a)) (sym (none_left m))
  enough (suc n) zero words good a b = let P : List ℕ → Type 0 = λ l. up_to (suc n) l ≡ up_to zero l in subst P (sym (no_words words b)) (none_left (suc n))
  enough (suc n) (suc m) words good a b =
      elim (first words) as (λ o. first words ≡ o → from n words o ≡ from m words o) [
        | None ↦ λ e. refl
        | Some x ↦ λ e.
            let taken = h.some words x good e in
            let left = length-drop (count x) words in
            ap (λ l. x ∷ l) (enough n m (drop (count x) words) (h.behind (count x) words good) (omega (arith, a, taken.0, left)) (omega (arith, b, taken.0, left)))
      ] refl

  pub nothing_first : (words : List ℕ) → first words ≡ None → pieces first count words ≡ []
  unfolding pieces_up_to
  nothing_first [] e = refl
  nothing_first (w ∷ ws) e = ap (from (length ws) (w ∷ ws)) e

  pub one_first : (words : List ℕ) (x : A) → Good words → first words ≡ Some x → pieces first count words ≡ x ∷ pieces first count (drop (count x) words)
  unfolding pieces_up_to
  one_first [] x good e = absurd (none-some x (sym h.empty ∙ e))
  one_first (w ∷ ws) x good e =
      let taken = h.some (w ∷ ws) x good e in
      let left = length-drop (count x) (w ∷ ws) in
      ap (from (length ws) (w ∷ ws)) e
      ∙ ap (λ l. x ∷ l) (enough (length ws) (length (drop (count x) (w ∷ ws))) (drop (count x) (w ∷ ws)) (h.behind (count x) (w ∷ ws) good) (omega (arith, taken.0, left)) (omega arith))

  inside : (n : ℕ) (words : List ℕ) → Good words → total (up_to n words) ≤ length words
  unfolding pieces_up_to
  inside zero words good = omega (arith, h.none)
  inside (suc n) words good =
      elim (first words) as (λ o. first words ≡ o → total (from n words o) ≤ length words) [
        | None ↦ λ e. omega (arith, h.none)
        | Some x ↦ λ e.
            let taken = h.some words x good e in
            let rest = inside n (drop (count x) words) (h.behind (count x) words good) in
            omega (arith, taken.1, rest, length-drop (count x) words, h.more x (up_to n (drop (count x) words)))
      ] refl

  -- no more words are read than there are
  pub read_within : (words : List ℕ) → Good words → total (pieces first count words) ≤ length words
  read_within words good = inside (length words) words good

  past : (x : A) (xs : List A) (words : List ℕ) → drop (total (x ∷ xs)) words ≡ drop (total xs) (drop (count x) words)
  past x xs words = ap (λ n. drop n words) (h.more x xs) ∙ sym (drop-drop (total xs) (count x) words)

  ended : (n : ℕ) (words : List ℕ) → Good words → length words ≤ n → first (drop (total (up_to n words)) words) ≡ None
  unfolding pieces_up_to
  ended zero words good a = ap (λ k. first (drop k words)) h.none ∙ ap first (no_words words a) ∙ h.empty
  ended (suc n) words good a =
      elim (first words) as (λ o. first words ≡ o → first (drop (total (from n words o)) words) ≡ None) [
        | None ↦ λ e. ap (λ k. first (drop k words)) h.none ∙ e
        | Some x ↦ λ e.
            let taken = h.some words x good e in
            ap first (past x (up_to n (drop (count x) words)) words)
            ∙ ended n (drop (count x) words) (h.behind (count x) words good) (omega (arith, a, taken.0, length-drop (count x) words))
      ] refl

  -- and nothing comes first behind them
  pub nothing_behind : (words : List ℕ) → Good words → first (drop (total (pieces first count words)) words) ≡ None
  nothing_behind words good = ended (length words) words good (omega arith)

  -- the pieces from the k-th on are those of the words behind
  pub pieces_behind : (k : ℕ) (words : List ℕ) → Good words → k ≤ length (pieces first count words)
      → drop k (pieces first count words) ≡ pieces first count (drop (total (take k (pieces first count words))) words)
  pieces_behind zero words good a = ap (λ n. pieces first count (drop n words)) (sym h.none)
  pieces_behind (suc k) words good a =
      elim (first words) as (λ o. first words ≡ o → drop (suc k) (pieces first count words) ≡ pieces first count (drop (total (take (suc k) (pieces first count words))) words)) [
        | None ↦ λ e. let none = ap length (nothing_first words e) in absurd (omega (arith, a, none))
        | Some x ↦ λ e.
            let behind = drop (count x) words in
            let all = one_first words x good e in
            let many = ap length all in
            let P : List A → Type 0 = λ l. drop (suc k) l ≡ pieces first count (drop (total (take (suc k) l)) words) in
            let rest = pieces_behind k behind (h.behind (count x) words good) (omega (arith, a, many)) in
            subst P (sym all) (rest ∙ ap (pieces first count) (sym (past x (take k (pieces first count behind)) words)))
      ] refl

-- A reader that reads all words, and gives nothing that the other doesn't, reads what the other reads.
module _ {A : Type 0} (first other : List ℕ → Option A) (count : A → ℕ) (total : List A → ℕ) (Good : List ℕ → Type 0) (h : Advances first count total Good) (none : other [] ≡ None) (so : (words : List ℕ) (x : A) → first words ≡ Some x → other words ≡ Some x) where
  same_up_to : (n : ℕ) (words : List ℕ) → Good words → total (pieces_up_to first count n words) ≡ length words → pieces_up_to first count n words ≡ pieces_up_to other count n words
  unfolding pieces_up_to
  same_up_to zero words good all = refl
  same_up_to (suc n) words good all =
      elim (first words) as (λ o. first words ≡ o → total (and_behind o (λ x. pieces_up_to first count n (drop (count x) words))) ≡ length words → and_behind o (λ x. pieces_up_to first count n (drop (count x) words)) ≡ pieces_up_to other count (suc n) words) [
        | None ↦ λ e all.
            let P : List ℕ → Type 0 = λ l. [] ≡ pieces_up_to other count (suc n) l in
            subst P (sym (no_words words (omega (arith, all, h.none)))) (sym (ap (λ o. and_behind o (λ x. pieces_up_to other count n (drop (count x) []))) none))
        | Some x ↦ λ e all.
            let rest = pieces_up_to first count n (drop (count x) words) in
            let left : total rest ≡ length (drop (count x) words) = omega (arith, all, h.more x rest, length-drop (count x) words) in
            ap (λ l. x ∷ l) (same_up_to n (drop (count x) words) (h.behind (count x) words good) left)
            ∙ sym (ap (λ o. and_behind o (λ x. pieces_up_to other count n (drop (count x) words))) (so words x e))
      ] refl all

  pub same_pieces : (words : List ℕ) → Good words → total (pieces first count words) ≡ length words → pieces first count words ≡ pieces other count words
  same_pieces words good all = same_up_to (length words) words good all
