-- Texts that a byte parts, and the value of a number's digits.
use Rattle.std.specs.Prelude.{ℕ, ◌+◌, ◌-◌, ◌*◌, ◌^◌, ◌<◌, ◌≡◌, ◌==◌, min, true, false, List, [], ◌∷◌, ◌++◌, decimal}
use Rattle.std.proofs.Common.{refl, sym, ◌∙◌, ap, cond, arith, rules}
use Rattle.std.proofs.lemmas.Bool.{and_parts, and_from, or_left, ne_eqb, eq-eqb, true≢false, cond-true, cond-false}
use Rattle.std.proofs.lemmas.Str.Parse.{IsNumeralModel, numerals_by_fold}
use Rattle.std.proofs.lemmas.Fmt.{digits_decimal, digits_value-decimal}
use Rattle.avr_asm.specs.Text.{is_digit, is_word, are_digits, are_word, most, value_from, value, front, back, has}

pub front-parted : (b : ℕ) (w t : List ℕ) → has b w ≡ false → front b (w ++ (b ∷ t)) ≡ w
front-parted b [] t h = cond-true (b == b) [] (b ∷ front b t) (eq-eqb b b refl)
front-parted b (x ∷ xs) t h = elim (x == b) as (λ e. cond e true (has b xs) ≡ false → cond e [] (x ∷ front b (xs ++ (b ∷ t))) ≡ x ∷ xs) [
  | true ↦ λ same. absurd (true≢false same)
  | false ↦ λ lacks. ap (λ z. x ∷ z) (front-parted b xs t lacks)
] h

pub back-parted : (b : ℕ) (w t : List ℕ) → has b w ≡ false → back b (w ++ (b ∷ t)) ≡ t
back-parted b [] t h = cond-true (b == b) t (back b t) (eq-eqb b b refl)
back-parted b (x ∷ xs) t h = elim (x == b) as (λ e. cond e true (has b xs) ≡ false → cond e (xs ++ (b ∷ t)) (back b (xs ++ (b ∷ t))) ≡ t) [
  | true ↦ λ same. absurd (true≢false same)
  | false ↦ λ lacks. back-parted b xs t lacks
] h

pub front-whole : (b : ℕ) (w : List ℕ) → has b w ≡ false → front b w ≡ w
front-whole b [] h = refl
front-whole b (x ∷ xs) h = elim (x == b) as (λ e. cond e true (has b xs) ≡ false → cond e [] (x ∷ front b xs) ≡ x ∷ xs) [
  | true ↦ λ same. absurd (true≢false same)
  | false ↦ λ lacks. ap (λ z. x ∷ z) (front-whole b xs lacks)
] h

pub back-none : (b : ℕ) (w : List ℕ) → has b w ≡ false → back b w ≡ []
back-none b [] h = refl
back-none b (x ∷ xs) h = elim (x == b) as (λ e. cond e true (has b xs) ≡ false → cond e xs (back b xs) ≡ []) [
  | true ↦ λ same. absurd (true≢false same)
  | false ↦ λ lacks. back-none b xs lacks
] h

pub has-parted : (b : ℕ) (w t : List ℕ) → has b (w ++ (b ∷ t)) ≡ true
has-parted b [] t = cond-true (b == b) _ _ (eq-eqb b b refl)
has-parted b (x ∷ xs) t = elim (x == b) as (λ e. cond e true (has b (xs ++ (b ∷ t))) ≡ true) [ true ↦ refl | false ↦ has-parted b xs t ]

-- a text in front lacks the byte
pub has-behind : (b : ℕ) (w t : List ℕ) → has b w ≡ false → has b (w ++ t) ≡ has b t
has-behind b [] t h = refl
has-behind b (x ∷ xs) t h = elim (x == b) as (λ e. cond e true (has b xs) ≡ false → cond e true (has b (xs ++ t)) ≡ has b t) [
  | true ↦ λ same. absurd (true≢false same)
  | false ↦ λ lacks. has-behind b xs t lacks
] h

pub lacks-word : (b : ℕ) (w : List ℕ) → is_word b ≡ false → are_word w ≡ true → has b w ≡ false
lacks-word b [] hb h = refl
lacks-word b (x ∷ xs) hb h = let p = and_parts (is_word x) (are_word xs) h in
    cond-false (x == b) true (has b xs) (ne_eqb x b (λ e. absurd (true≢false (sym p.0 ∙ ap is_word e ∙ hb)))) ∙ lacks-word b xs hb p.1

-- the value without its bound
abbrev whole_from : ℕ → List ℕ → ℕ
whole_from n [] = n
whole_from n (c ∷ cs) = whole_from (10 * n + (c - 48)) cs

model : IsNumeralModel (λ ds. are_digits ds ≡ true) (whole_from 0)
model = numerals_by_fold _ (search rules) whole_from (search rules)

bounded_step : (n d : ℕ) → min (10 * min n most + d) most ≡ min (10 * n + d) most
bounded_step n d = omega arith

bounded : (n : ℕ) (cs : List ℕ) → value_from (min n most) cs ≡ min (whole_from n cs) most
bounded n [] = refl
bounded n (c ∷ cs) = ap (λ m. value_from m cs) (bounded_step n (c - 48)) ∙ bounded (10 * n + (c - 48)) cs

pub value-decimal : (n : ℕ) → n < 2 ^ 16 → value (decimal n) ≡ n
value-decimal n h = bounded 0 (decimal n) ∙ ap (λ m. min m most) (digits_value-decimal model n (omega arith)) ∙ omega arith

pub digits-decimal : (n : ℕ) → n < 2 ^ 64 → are_digits (decimal n) ≡ true
digits-decimal n h = digits_decimal model n h

pub word_from_digits : (ds : List ℕ) → are_digits ds ≡ true → are_word ds ≡ true
word_from_digits [] h = refl
word_from_digits (c ∷ cs) h = let p = and_parts (is_digit c) (are_digits cs) h in and_from _ _ (or_left (is_digit c) _ p.0) (word_from_digits cs p.1)

pub word-decimal : (n : ℕ) → n < 2 ^ 64 → are_word (decimal n) ≡ true
word-decimal n h = word_from_digits (decimal n) (digits-decimal n h)

pub lacks-decimal : (b n : ℕ) → is_word b ≡ false → n < 2 ^ 16 → has b (decimal n) ≡ false
lacks-decimal b n hb h = lacks-word b (decimal n) hb (word-decimal n (omega arith))
