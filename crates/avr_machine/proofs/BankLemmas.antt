-- The words of a bank that was filled, and of the others.
use Rattle.std.proofs.Common.{◌≡◌, ◌≢◌, ℕ, ◌+◌, ◌-◌, ◌/◌, ◌%◌, ◌<◌, ◌≤◌, Bool, true, false, cond, List, [], length, replicate, get_or, refl, sym, ap, ◌∙◌, inl, inr, arith}
use Rattle.std.specs.Prelude.{slice_index, slice_index_or, slice_set, nat_lt}
use Rattle.std.proofs.lemmas.Bool.{cases_lt, cond_above, ltb-false}
use Rattle.std.proofs.lemmas.List.{get_or-set_same, get_or-set_other, get_or-replicate, get_or_past, length-replicate}
use Rattle.mote_layout.specs.Memory.{domain_count, banks_start, bank_words, bank_start}
use Rattle.avr_machine.specs.Flash.{Banks, word_at, IsInBank, IsInSomeBank}

-- two choices with the same test are equal if what they choose where it fails is
cond_same : (b : Bool) (k m n : ℕ) → (b ≡ false → m ≡ n) → cond b k m ≡ cond b k n
cond_same true k m n same = refl
cond_same false k m n same = same refl

-- the domain whose bank has an address
place_in_bank : (d k : ℕ) → k < bank_words → (bank_start d + k - banks_start) / bank_words ≡ d
place_in_bank d k below = omega arith

word_in_bank : (d k : ℕ) → k < bank_words → (bank_start d + k - banks_start) % bank_words ≡ k
word_in_bank d k below = omega arith

-- a word of a bank
pub word_at-bank : (banks : Banks) (d k : ℕ) → k < bank_words
    → word_at banks (bank_start d + k) ≡ slice_index (slice_index_or banks d []) k
unfolding word_at
word_at-bank banks d k below =
    let quotient : (bank_start d + k - banks_start) / bank_words ≡ d = place_in_bank d k below in
    let rest : (bank_start d + k - banks_start) % bank_words ≡ k = word_in_bank d k below in
    sym (cond_above (bank_start d + k) banks_start 0 _ _ (omega arith) (rw (quotient, rest) refl))

-- a filled bank reads as its words
pub filled_word : (banks : Banks) (d k : ℕ) (code : List ℕ) → d < length banks → k < bank_words
    → word_at (slice_set banks d code) (bank_start d + k) ≡ slice_index code k
filled_word banks d k code inside below =
    word_at-bank (slice_set banks d code) d k below
    ∙ ap (λ bank. slice_index bank k) (get_or-set_same banks d code [] inside)

-- and so does a cleared one, which has none
pub cleared_word : (banks : Banks) (d k : ℕ) → d < length banks → k < bank_words
    → word_at (slice_set banks d []) (bank_start d + k) ≡ 0
cleared_word banks d k inside below = filled_word banks d k [] inside below ∙ get_or_past [] k 0 (omega arith)

-- the other words stay
pub other_word : (banks : Banks) (d a : ℕ) (code : List ℕ) → (IsInBank d a → ⊥)
    → word_at (slice_set banks d code) a ≡ word_at banks a
unfolding word_at
other_word banks d a code outside =
    cond_same (nat_lt a banks_start) 0 _ _ (λ from.
    let start : banks_start ≤ a = ltb-false a banks_start from in
    let apart : (a - banks_start) / bank_words ≢ d = λ same. outside (omega arith, omega arith) in
    ap (λ bank. slice_index bank ((a - banks_start) % bank_words))
    (get_or-set_other banks d ((a - banks_start) / bank_words) code [] apart))

-- a choice between 0 and a number that is 0
cond_is_zero : (b : Bool) (n : ℕ) → (b ≡ false → n ≡ 0) → cond b 0 n ≡ 0
cond_is_zero true n is_zero = refl
cond_is_zero false n is_zero = is_zero refl

-- what is read in no bank, or in an empty one, is 0
no_words : (banks : Banks) (q k : ℕ) → slice_index_or banks q [] ≡ [] → slice_index (slice_index_or banks q []) k ≡ 0
no_words banks q k empty = ap (λ bank. slice_index bank k) empty ∙ get_or_past [] k 0 (omega arith)

empty_bank : (n q : ℕ) → get_or {A = List ℕ} (replicate n []) q [] ≡ []
empty_bank n q =
    elim (cases_lt q n) [
      | inl inside ↦ get_or-replicate n q [] [] inside
      | inr past ↦ get_or_past (replicate n []) q [] (rw (length-replicate n) past)
    ]

-- empty banks read as 0
pub no_word : (banks : Banks) (a : ℕ) → banks ≡ replicate domain_count [] → word_at banks a ≡ 0
unfolding word_at
no_word banks a empty =
    cond_is_zero (nat_lt a banks_start) _ (λ _. no_words banks ((a - banks_start) / bank_words) ((a - banks_start) % bank_words)
    (ap (λ all. slice_index_or all ((a - banks_start) / bank_words) []) empty
    ∙ empty_bank domain_count ((a - banks_start) / bank_words)))

-- and so does what is in no bank
pub outside_word : (banks : Banks) (a : ℕ) → length banks ≡ domain_count → (IsInSomeBank a → ⊥) → word_at banks a ≡ 0
unfolding word_at
outside_word banks a count outside =
    cond_is_zero (nat_lt a banks_start) _ (λ from.
    let start : banks_start ≤ a = ltb-false a banks_start from in
    let past : length banks ≤ (a - banks_start) / bank_words =
    elim (cases_lt a (bank_start domain_count)) [
      | inl inside ↦ absurd (outside (start, inside))
      | inr above ↦ omega arith
    ]
    in no_words banks ((a - banks_start) / bank_words) ((a - banks_start) % bank_words)
    (get_or_past banks ((a - banks_start) / bank_words) [] past))
