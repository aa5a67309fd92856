-- A name and its operands are told by their text.
use Rattle.std.proofs.Common.{◌≡◌, ◌≢◌, ◌∙◌, ℕ, ◌+◌, ◌*◌, ◌/◌, ◌%◌, ◌^◌, ◌<◌, ◌≤◌, ◌==◌, not, cond, true, false, List, [], ◌∷◌, ◌++◌, length, refl, sym, ap, ap₂, append_assoc, arith}
use Rattle.std.specs.Prelude.{decimal}
use Rattle.std.specs.Char.{digit_char, digit_value}
use Rattle.std.specs.List.{AllByRecursion}
use Rattle.std.specs.Str.Parse.{AllDigits, digits_value}
use Rattle.std.proofs.lemmas.Bool.{and_parts}
use Rattle.std.proofs.lemmas.Bool.Decides.{nat_tests}
use Rattle.std.proofs.lemmas.Fmt.{decimal_is_IsNumeral}
use Rattle.std.proofs.lemmas.Str.{digit_value-digit_char}
use Rattle.std.proofs.lemmas.Str.Parse.{digit_from_value}
use Rattle.avr_list.specs.declared.operand.Pointer.{Pointer}
use Rattle.avr_list.specs.declared.operand.Pointer.TheVariants.{X, Y, Z}
use Rattle.avr_list.specs.declared.operand.Operand.{Operand}
use Rattle.avr_list.specs.declared.operand.Operand.TheVariants.{Register, Number, At, Raised, Lowered, Behind, Address, Target}
use Rattle.mote_base.specs.Digits.{word_digits}
use Rattle.avr_list.specs.Operands.{operand_text}
use Rattle.avr_list.proofs.Said.{Operands, nothing, one, two, joined}
use Rattle.avr_list.proofs.Ranged.{AreRanged, IsRanged, is_free}

-- the character is not in the list
abbrev pub IsFree : ℕ → List ℕ → Type 0
IsFree c xs = AllByRecursion (λ x. x ≢ c) xs

unequal : (x c : ℕ) → not (x == c) ≡ true → x ≢ c
unequal x c h same = grind (arith, nat_tests)

pub free_from : (c : ℕ) (xs : List ℕ) → is_free c xs ≡ true → IsFree c xs
free_from c [] h = tt
free_from c (x ∷ xs) h = let parts = and_parts (not (x == c)) (is_free c xs) h in (unequal x c parts.0, free_from c xs parts.1)

-- where lists are equal, what is before the first such character is, and what is behind it
cut : (c : ℕ) (xs xs' ys ys' : List ℕ) → IsFree c xs → IsFree c xs' → xs ++ (c ∷ ys) ≡ xs' ++ (c ∷ ys') → (xs ≡ xs') × (ys ≡ ys')
cut c [] [] ys ys' free free' e = (refl, cc)
cut c [] (x' ∷ xs') ys ys' free free' e = absurd (free'.0 (let same : x' ≡ c = cc in same))
cut c (x ∷ xs) [] ys ys' free free' e = absurd (free.0 (let same : x ≡ c = cc in same))
cut c (x ∷ xs) (x' ∷ xs') ys ys' free free' e =
    let first : x ≡ x' = cc in
    let behind : xs ++ (c ∷ ys) ≡ xs' ++ (c ∷ ys') = cc in
    let rest = cut c xs xs' ys ys' free.1 free'.1 behind in
    (ap₂ (λ (a : ℕ) (rest : List ℕ). a ∷ rest) first rest.0, rest.1)

none : (c : ℕ) (xs ys zs : List ℕ) → IsFree c xs → xs ≡ ys ++ (c ∷ zs) → ⊥
none c [] [] zs free e = cc
none c [] (y ∷ ys) zs free e = cc
none c (x ∷ xs) [] zs free e = free.0 (let same : x ≡ c = cc in same)
none c (x ∷ xs) (y ∷ ys) zs free e = let behind : xs ≡ ys ++ (c ∷ zs) = cc in none c xs ys zs free.1 behind

-- Digits are 0 to 9.
abbrev AreDigits : List ℕ → Type 0
AreDigits cs = AllByRecursion (λ c. (48 ≤ c) × (c ≤ 57)) cs

are_digits : (cs : List ℕ) → AllDigits 10 cs → AreDigits cs
are_digits [] all = tt
are_digits (c ∷ cs) all = let range = digit_from_value c all.0 in ((omega (arith, range), omega (arith, range)), are_digits cs all.1)

digits_free : (c : ℕ) (cs : List ℕ) → c < 48 → AreDigits cs → IsFree c cs
digits_free c [] low all = tt
digits_free c (d ∷ cs) low all = (λ same. omega (arith, all.0), digits_free c cs low all.1)

record IsDecimal (n : ℕ) : Type 0 where
  some : 0 < length (decimal n)
  digits : AreDigits (decimal n)
  value : digits_value 10 (decimal n) ≡ n

is_decimal : (n : ℕ) → n < 2 ^ 16 → IsDecimal n
is_decimal n small =
    let known = decimal_is_IsNumeral n (omega (arith, small)) in
    record { some = known.0.0; digits = are_digits (decimal n) known.0.1; value = known.1 }

glyph_free : (d : ℕ) → d < 16 → digit_char d ≢ 44
glyph_free d small same =
    let value : digit_value (digit_char d) ≡ d = digit_value-digit_char d (omega (arith, small)) in
    let other : digit_value 44 ≡ d = ap digit_value (sym same) ∙ value in
    omega (arith, other)

pub operand_free : (a : Operand) → IsRanged a → IsFree 44 (operand_text a)
operand_free (Register n) r = (λ e. omega arith, digits_free 44 (decimal n) (omega arith) (is_decimal n r).digits)
operand_free (Number n) r = digits_free 44 (decimal n) (omega arith) (is_decimal n r).digits
operand_free (At X) r = (λ e. omega arith, tt)
operand_free (At Y) r = (λ e. omega arith, tt)
operand_free (At Z) r = (λ e. omega arith, tt)
operand_free (Raised X) r = (λ e. omega arith, (λ e. omega arith, tt))
operand_free (Raised Y) r = (λ e. omega arith, (λ e. omega arith, tt))
operand_free (Raised Z) r = (λ e. omega arith, (λ e. omega arith, tt))
operand_free (Lowered X) r = (λ e. omega arith, (λ e. omega arith, tt))
operand_free (Lowered Y) r = (λ e. omega arith, (λ e. omega arith, tt))
operand_free (Lowered Z) r = (λ e. omega arith, (λ e. omega arith, tt))
operand_free (Behind X q) r = (λ e. omega arith, (λ e. omega arith, digits_free 44 (decimal q) (omega arith) (is_decimal q r).digits))
operand_free (Behind Y q) r = (λ e. omega arith, (λ e. omega arith, digits_free 44 (decimal q) (omega arith) (is_decimal q r).digits))
operand_free (Behind Z q) r = (λ e. omega arith, (λ e. omega arith, digits_free 44 (decimal q) (omega arith) (is_decimal q r).digits))
operand_free (Address a) r =
    (λ e. omega arith, (λ e. omega arith, (glyph_free (a / 4096) (omega arith), (glyph_free (a / 256 % 16) (omega arith), (glyph_free (a / 16 % 16) (omega arith), (glyph_free (a % 16) (omega arith), tt))))))
operand_free (Target u) r = (λ e. omega arith, digits_free 44 (decimal u) (omega arith) (is_decimal u r).digits)

-- An operand by its text.
abbrev pointer_by : ℕ → Pointer
pointer_by c = cond (c == 120) X (cond (c == 121) Y Z)

abbrev behind_by : Pointer → List ℕ → Operand
behind_by p [] = At p
behind_by p (plus ∷ []) = Raised p
behind_by p (plus ∷ d ∷ ds) = Behind p (digits_value 10 (d ∷ ds))

abbrev lowered_by : List ℕ → Operand
lowered_by [] = At X
lowered_by (c ∷ cs) = Lowered (pointer_by c)

abbrev address_by : List ℕ → Operand
address_by (a ∷ b ∷ c ∷ d ∷ []) = Address (4096 * digit_value a + 256 * digit_value b + 16 * digit_value c + digit_value d)
address_by _ = At X

abbrev number_by : List ℕ → Operand
number_by [] = At X
number_by (c ∷ []) = Number (digits_value 10 (c ∷ []))
number_by (c ∷ d ∷ ds) = cond (d == 120) (address_by ds) (Number (digits_value 10 (c ∷ d ∷ ds)))

unfoldable operand_by : List ℕ → Operand
operand_by [] = At X
operand_by (c ∷ cs) =
    cond (c == 114) (Register (digits_value 10 cs))
    (cond (c == 45) (lowered_by cs)
    (cond (c == 46) (Target (digits_value 10 cs))
    (cond (c == 120) (behind_by X cs) (cond (c == 121) (behind_by Y cs) (cond (c == 122) (behind_by Z cs) (number_by (c ∷ cs)))))))

read_behind : (p : Pointer) (ds : List ℕ) → 0 < length ds → behind_by p (43 ∷ ds) ≡ Behind p (digits_value 10 ds)
read_behind p [] some = absurd (omega (arith, some))
read_behind p (d ∷ ds) some = refl

digit_is : (c n : ℕ) → (48 ≤ c) × (c ≤ 57) → 57 < n → (c == n) ≡ false
digit_is c n range high = grind (arith, nat_tests)

digit_not : (c n : ℕ) → (48 ≤ c) × (c ≤ 57) → n < 48 → (c == n) ≡ false
digit_not c n range low = grind (arith, nat_tests)

number_is : (cs : List ℕ) → 0 < length cs → AreDigits cs → number_by cs ≡ Number (digits_value 10 cs)
number_is [] some digits = absurd (omega (arith, some))
number_is (c ∷ []) some digits = refl
number_is (c ∷ d ∷ ds) some digits = let other = digit_is d 120 digits.1.0 (omega arith) in rw other refl

read_number : (cs : List ℕ) → 0 < length cs → AreDigits cs → operand_by cs ≡ number_by cs
unfolding operand_by
read_number [] some digits = absurd (omega (arith, some))
read_number (c ∷ cs) some digits =
    let range = digits.0 in
    let r = digit_is c 114 range (omega arith) in
    let minus = digit_not c 45 range (omega arith) in
    let dot = digit_not c 46 range (omega arith) in
    let x = digit_is c 120 range (omega arith) in
    let y = digit_is c 121 range (omega arith) in
    let z = digit_is c 122 range (omega arith) in
    rw (r, minus, dot, x, y, z) refl

read_address : (a : ℕ) → a < 2 ^ 16 → address_by (word_digits a) ≡ Address a
read_address a small =
    let one : digit_value (digit_char (a / 4096)) ≡ a / 4096 = digit_value-digit_char (a / 4096) (omega arith) in
    let two : digit_value (digit_char (a / 256 % 16)) ≡ a / 256 % 16 = digit_value-digit_char (a / 256 % 16) (omega arith) in
    let three : digit_value (digit_char (a / 16 % 16)) ≡ a / 16 % 16 = digit_value-digit_char (a / 16 % 16) (omega arith) in
    let four : digit_value (digit_char (a % 16)) ≡ a % 16 = digit_value-digit_char (a % 16) (omega arith) in
    ap Address (omega (arith, one, two, three, four))

read_back : (a : Operand) → IsRanged a → operand_by (operand_text a) ≡ a
unfolding operand_by
read_back (Register n) r = ap Register (is_decimal n r).value
read_back (Number n) r =
    let d = is_decimal n r in
    read_number (decimal n) d.some d.digits ∙ number_is (decimal n) d.some d.digits ∙ ap Number d.value
read_back (At X) r = refl
read_back (At Y) r = refl
read_back (At Z) r = refl
read_back (Raised X) r = refl
read_back (Raised Y) r = refl
read_back (Raised Z) r = refl
read_back (Lowered X) r = refl
read_back (Lowered Y) r = refl
read_back (Lowered Z) r = refl
read_back (Behind X q) r = let d = is_decimal q r in read_behind X (decimal q) d.some ∙ ap (Behind X) d.value
read_back (Behind Y q) r = let d = is_decimal q r in read_behind Y (decimal q) d.some ∙ ap (Behind Y) d.value
read_back (Behind Z q) r = let d = is_decimal q r in read_behind Z (decimal q) d.some ∙ ap (Behind Z) d.value
read_back (Address a) r = read_address a r
read_back (Target u) r = ap Target (is_decimal u r).value

operand_told : (a b : Operand) → IsRanged a → IsRanged b → operand_text a ≡ operand_text b → a ≡ b
operand_told a b r s e = sym (read_back a r) ∙ ap operand_by e ∙ read_back b s

-- the same text, from the front on
abbrev pub flat : List ℕ → Operands → List ℕ
flat name nothing = name
flat name (one a) = name ++ (32 ∷ operand_text a)
flat name (two a b) = name ++ (32 ∷ (operand_text a ++ (44 ∷ operand_text b)))

pub joined_flat : (name : List ℕ) (p : Operands) → joined name p ≡ flat name p
joined_flat name nothing = refl
joined_flat name (one a) = simp append_assoc
joined_flat name (two a b) = simp append_assoc

-- names without a space and operands in range are told by the text that joins them
flat_tells : (n m : List ℕ) (p q : Operands) → is_free 32 n ≡ true → is_free 32 m ≡ true → AreRanged p → AreRanged q → flat n p ≡ flat m q → (n ≡ m) × (p ≡ q)
flat_tells n m nothing nothing fn fm rp rq e = (e, refl)
flat_tells n m nothing (one b) fn fm rp rq e = absurd (none 32 n m (operand_text b) (free_from 32 n fn) e)
flat_tells n m nothing (two b c) fn fm rp rq e = absurd (none 32 n m (operand_text b ++ (44 ∷ operand_text c)) (free_from 32 n fn) e)
flat_tells n m (one a) nothing fn fm rp rq e = absurd (none 32 m n (operand_text a) (free_from 32 m fm) (sym e))
flat_tells n m (two a b) nothing fn fm rp rq e = absurd (none 32 m n (operand_text a ++ (44 ∷ operand_text b)) (free_from 32 m fm) (sym e))
flat_tells n m (one a) (one b) fn fm rp rq e =
    let parts = cut 32 n m (operand_text a) (operand_text b) (free_from 32 n fn) (free_from 32 m fm) e in
    (parts.0, ap one (operand_told a b rp rq parts.1))
flat_tells n m (one a) (two b c) fn fm rp rq e =
    let parts = cut 32 n m (operand_text a) (operand_text b ++ (44 ∷ operand_text c)) (free_from 32 n fn) (free_from 32 m fm) e in
    absurd (none 44 (operand_text a) (operand_text b) (operand_text c) (operand_free a rp) parts.1)
flat_tells n m (two a b) (one c) fn fm rp rq e =
    let parts = cut 32 n m (operand_text a ++ (44 ∷ operand_text b)) (operand_text c) (free_from 32 n fn) (free_from 32 m fm) e in
    absurd (none 44 (operand_text c) (operand_text a) (operand_text b) (operand_free c rq) (sym parts.1))
flat_tells n m (two a b) (two c d) fn fm rp rq e =
    let parts = cut 32 n m (operand_text a ++ (44 ∷ operand_text b)) (operand_text c ++ (44 ∷ operand_text d)) (free_from 32 n fn) (free_from 32 m fm) e in
    let both = cut 44 (operand_text a) (operand_text c) (operand_text b) (operand_text d) (operand_free a rp.0) (operand_free c rq.0) parts.1 in
    (parts.0, ap₂ (λ (x y : Operand). two x y) (operand_told a c rp.0 rq.0 both.0) (operand_told b d rp.1 rq.1 both.1))

pub joined_tells : (n m : List ℕ) (p q : Operands) → is_free 32 n ≡ true → is_free 32 m ≡ true → AreRanged p → AreRanged q → joined n p ≡ joined m q → (n ≡ m) × (p ≡ q)
joined_tells n m p q fn fm rp rq e = flat_tells n m p q fn fm rp rq (sym (joined_flat n p) ∙ e ∙ joined_flat m q)
