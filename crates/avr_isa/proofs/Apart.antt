-- Two patterns of which one has a 0 where the other has a 1 share no word. All lines of the table are apart in this way, so the
-- first line that a word has is its only one.
use Rattle.std.proofs.Common.{◌≡◌, ◌==◌, ℕ, zero, suc, Bool, true, false, ◌&&◌, ◌||◌, List, [], ◌∷◌, length, Option, Some, refl, if◌then◌else◌, subst, inl, inr, arith}
use Rattle.std.proofs.lemmas.Bool.{and_parts, or_cases, and_from, eqb-true, eq-eqb, false≢true}
use Rattle.std.specs.Int.{bit_at}
use Rattle.std.specs.Prelude.{slice_get}
use Rattle.avr_isa.specs.Pattern.{symbols, Fits, Matches}
use Rattle.avr_isa.specs.Decoded.{fits, matches, first_line}
use Rattle.avr_isa.specs.Table.{Line, table}

-- what a symbol asks of a bit, by its two tests
abbrev FitsBy : Bool → Bool → ℕ → Type 0
FitsBy zero? one? bit = elim zero? [ true ↦ bit ≡ 0 | false ↦ elim one? [ true ↦ bit ≡ 1 | false ↦ Unit {0} ] ]

abbrev fits_by : Bool → Bool → ℕ → Bool
fits_by zero? one? bit = if zero? then bit == 0 else (if one? then bit == 1 else true)

fits_by-from : (z o : Bool) (bit : ℕ) → FitsBy z o bit → fits_by z o bit ≡ true
fits_by-from true o bit h = eq-eqb bit 0 h
fits_by-from false true bit h = eq-eqb bit 1 h
fits_by-from false false bit h = refl

fits_by-true : (z o : Bool) (bit : ℕ) → fits_by z o bit ≡ true → FitsBy z o bit
fits_by-true true o bit h = eqb-true bit 0 h
fits_by-true false true bit h = eqb-true bit 1 h
fits_by-true false false bit h = tt

-- the test of a pattern decides it
pub matches-from : (pattern : List ℕ) (word : ℕ) → Matches pattern word → matches pattern word ≡ true
matches-from [] word h = refl
matches-from (s ∷ rest) word h =
    and_from (fits s (bit_at word (length rest))) (matches rest word) (fits_by-from (s == 48) (s == 49) (bit_at word (length rest)) h.0) (matches-from rest word h.1)

pub matches-true : (pattern : List ℕ) (word : ℕ) → matches pattern word ≡ true → Matches pattern word
matches-true [] word h = tt
matches-true (s ∷ rest) word h =
    let parts = and_parts (fits s (bit_at word (length rest))) (matches rest word) h in
    (fits_by-true (s == 48) (s == 49) (bit_at word (length rest)) parts.0, matches-true rest word parts.1)

-- one symbol is 0 and the other 1
abbrev opposed : ℕ → ℕ → Bool
opposed s t = ((s == 48) && (t == 49)) || ((s == 49) && (t == 48))

opposed_no_bit : (s t bit : ℕ) → opposed s t ≡ true → Fits s bit → Fits t bit → ⊥
opposed_no_bit s t bit h p q =
    let at : ℕ → Type 0 = λ c. Fits c bit in
    elim (or_cases ((s == 48) && (t == 49)) ((s == 49) && (t == 48)) h) [
      | inl e ↦
          let parts = and_parts (s == 48) (t == 49) e in
          let low : bit ≡ 0 = subst at (eqb-true s 48 parts.0) p in
          let high : bit ≡ 1 = subst at (eqb-true t 49 parts.1) q in
          omega arith
      | inr e ↦
          let parts = and_parts (s == 49) (t == 48) e in
          let high : bit ≡ 1 = subst at (eqb-true s 49 parts.0) p in
          let low : bit ≡ 0 = subst at (eqb-true t 48 parts.1) q in
          omega arith
    ]

-- at some place, one pattern has a 0 and the other a 1
abbrev pub apart : List ℕ → List ℕ → Bool
apart [] q = false
apart (s ∷ p) [] = false
apart (s ∷ p) (t ∷ q) = ((length p == length q) && opposed s t) || apart p q

pub apart_no_word : (p q : List ℕ) (word : ℕ) → apart p q ≡ true → Matches p word → Matches q word → ⊥
apart_no_word [] q word h m n = false≢true h
apart_no_word (s ∷ p) [] word h m n = false≢true h
apart_no_word (s ∷ p) (t ∷ q) word h m n =
    elim (or_cases ((length p == length q) && opposed s t) (apart p q) h) [
      | inl e ↦
          let parts = and_parts (length p == length q) (opposed s t) e in
          let at : ℕ → Type 0 = λ k. Fits s (bit_at word k) in
          opposed_no_bit s t (bit_at word (length q)) parts.1 (subst at (eqb-true (length p) (length q) parts.0) m.0) n.0
      | inr e ↦ apart_no_word p q word e m.1 n.1
    ]

-- the pattern is apart from each line's
abbrev apart_from : List ℕ → List Line → Bool
apart_from p [] = true
apart_from p (l ∷ ls) = apart p (symbols l.pattern) && apart_from p ls

-- each line is apart from those after it
abbrev all_apart : List Line → Bool
all_apart [] = true
all_apart (l ∷ ls) = apart_from (symbols l.pattern) ls && all_apart ls

table_apart : all_apart table ≡ true
table_apart = refl

apart_from_at : (p : List ℕ) (ls : List Line) (place : ℕ) (l : Line) → apart_from p ls ≡ true → slice_get ls place ≡ Some l → apart p (symbols l.pattern) ≡ true
apart_from_at p [] place l h e = cc
apart_from_at p (x ∷ ls) zero l h e =
    let same : x ≡ l = cc in
    let P : Line → Type 0 = λ y. apart p (symbols y.pattern) ≡ true in
    subst P same (and_parts (apart p (symbols x.pattern)) (apart_from p ls) h).0
apart_from_at p (x ∷ ls) (suc place) l h e = apart_from_at p ls place l (and_parts (apart p (symbols x.pattern)) (apart_from p ls) h).1 e

-- the first line, by the test of the head
first_here : (t : Bool) (x : Line) (rest : Option Line) → t ≡ true → (if t then Some x else rest) ≡ Some x
first_here true x rest h = refl
first_here false x rest h = absurd (false≢true h)

first_later : (t : Bool) (x l : Line) (rest : Option Line) → (t ≡ true → ⊥) → rest ≡ Some l → (if t then Some x else rest) ≡ Some l
first_later true x l rest h e = absurd (h refl)
first_later false x l rest h e = e

first_line-of : (ls : List Line) (place : ℕ) (l : Line) (word : ℕ) → all_apart ls ≡ true → slice_get ls place ≡ Some l → Matches (symbols l.pattern) word → first_line ls word ≡ Some l
first_line-of [] place l word h e m = cc
first_line-of (x ∷ ls) zero l word h e m =
    let same : l ≡ x = cc in
    let P : Line → Type 0 = λ y. Matches (symbols y.pattern) word in
    let here = first_here (matches (symbols x.pattern) word) x (first_line ls word) (matches-from (symbols x.pattern) word (subst P same m)) in
    cc
first_line-of (x ∷ ls) (suc place) l word h e m =
    let parts = and_parts (apart_from (symbols x.pattern) ls) (all_apart ls) h in
    first_later (matches (symbols x.pattern) word) x l (first_line ls word)
    (λ t. apart_no_word (symbols x.pattern) (symbols l.pattern) word (apart_from_at (symbols x.pattern) ls place l parts.0 e) (matches-true (symbols x.pattern) word t) m)
    (first_line-of ls place l word parts.1 e m)

-- a line of the table that a word has is the first that it has
pub table_first : (place : ℕ) (l : Line) (word : ℕ) → slice_get table place ≡ Some l → Matches (symbols l.pattern) word → first_line table word ≡ Some l
table_first place l word e m = first_line-of table place l word table_apart e m

-- and the first line stands there and has the word
found_by : (t : Bool) (x l : Line) (ls : List Line) (word : ℕ) → matches (symbols x.pattern) word ≡ t → (first_line ls word ≡ Some l → (place : ℕ) × (slice_get ls place ≡ Some l) × Matches (symbols l.pattern) word) → (if t then Some x else first_line ls word) ≡ Some l → (place : ℕ) × (slice_get (x ∷ ls) place ≡ Some l) × Matches (symbols l.pattern) word
found_by true x l ls word t later e =
    let same : x ≡ l = cc in
    let P : Line → Type 0 = λ y. Matches (symbols y.pattern) word in
    (zero, e, subst P same (matches-true (symbols x.pattern) word t))
found_by false x l ls word t later e = let at = later e in (suc at.0, at.1, at.2)

pub first_line_found : (ls : List Line) (l : Line) (word : ℕ) → first_line ls word ≡ Some l → (place : ℕ) × (slice_get ls place ≡ Some l) × Matches (symbols l.pattern) word
first_line_found [] l word e = cc
first_line_found (x ∷ ls) l word e = found_by (matches (symbols x.pattern) word) x l ls word refl (first_line_found ls l word) e
