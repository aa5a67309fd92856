-- One bit of a number: as the code tests it, under the operators on bits, and as an order on numbers.
use Rattle.std.proofs.Common.{◌≡◌, ◌≢◌, ℕ, ◌*◌, ◌-◌, ◌/◌, ◌%◌, ◌<◌, ◌^◌, Bool, true, false, not, ◌&&◌, ◌||◌, nat_eq, nat_le, bit_and, bit_or, min, max, arith, refl, w8}
use Rattle.std.specs.Int.{bit_at, from_bool}
use Rattle.std.proofs.lemmas.Nat.Bits.{bit_at_and, bit_at_or, bit_at-lt, shr_and_one, and_pow, bit_at_set_same, bit_at_set_other, bit_at_clear_same, bit_at_clear_other}
use Rattle.std.proofs.lemmas.Nat.{shl_whole, and-not, and_comm, pow_below, and_le_l}
use Rattle.std.specs.Int.Bits.{or_add_and}
use Rattle.std.proofs.lemmas.Bool.Decides.{nat_tests}
use Rattle.avr_alu.specs.Bits.{is_set, with_bit}

-- the code's tests of a bit
pub tested : (x k : ℕ) → nat_eq (bit_and (x / 2 ^ k) 1) 1 ≡ is_set x k
unfolding is_set
tested x k = rw (shr_and_one x k) refl

pub top_tested : (x : ℕ) → x < 65536 → nat_eq (x / 32768) 1 ≡ is_set x 15
unfolding is_set
top_tested x p = grind (arith, nat_tests)

-- a bit as a number
from_bool-test : (x : ℕ) → x < 2 → from_bool (nat_eq x 1) ≡ x
from_bool-test x p = grind (arith, nat_tests)

pub from_bool-is_set : (n k : ℕ) → from_bool (is_set n k) ≡ bit_at n k
unfolding is_set
from_bool-is_set n k = from_bool-test (bit_at n k) (bit_at-lt n k)

-- `1 << k`
shifted_one : (k : ℕ) → k < 8 → 1 * 2 ^ k % 256 ≡ 2 ^ k
shifted_one k p = let whole : 1 * 2 ^ k % 2 ^ 8 ≡ 1 * 2 ^ k = shl_whole 1 1 k 8 (omega arith) (omega arith) in omega (arith, whole)

-- `n | 1 << k` and `n & !(1 << k)`
pub set_is : (n k : ℕ) → k < 8 → bit_or n (1 * 2 ^ k % 256) ≡ with_bit n k true
unfolding with_bit
set_is n k p =
    let both = or_add_and n (2 ^ k) in
    let within = and_le_l n (2 ^ k) in
    let common : bit_and n (2 ^ k) ≡ from_bool (is_set n k) * 2 ^ k = rw (from_bool-is_set n k) (and_pow n k) in
    rw (shifted_one k p, ← common) (omega arith)

pub cleared_is : (n k : ℕ) → n < 256 → k < 8 → bit_and n (255 - 1 * 2 ^ k % 256) ≡ with_bit n k false
unfolding with_bit
cleared_is n k p q =
    let fits : 2 ^ k < 2 ^ 8 = pow_below k 8 (omega arith) in
    let others = and-not 8 (2 ^ k) n fits p in
    let common : bit_and n (2 ^ k) ≡ from_bool (is_set n k) * 2 ^ k = rw (from_bool-is_set n k) (and_pow n k) in
    rw (shifted_one k q, ← common, and_comm n (255 - 2 ^ k), and_comm n (2 ^ k)) (omega arith)

-- the bits of a byte with one bit changed
same_test : (x : ℕ) → x ≡ 1 → nat_eq x 1 ≡ true
same_test x e = rw e refl

pub same_bit : (n k : ℕ) (on : Bool) → n < 256 → k < 8 → is_set (with_bit n k on) k ≡ on
unfolding is_set
same_bit n k true p q = rw (← set_is n k q, bit_at_set_same w8 n k q) refl
same_bit n k false p q = rw (← cleared_is n k p q, bit_at_clear_same w8 n k q) refl

pub other_bit : (n k : ℕ) (on : Bool) → n < 256 → k < 8 → (j : ℕ) → j < 8 → j ≢ k → is_set (with_bit n k on) j ≡ is_set n j
unfolding is_set
other_bit n k true p q j r ne = rw (← set_is n k q, bit_at_set_other w8 n k q j ne) refl
other_bit n k false p q j r ne = rw (← cleared_is n k p q, bit_at_clear_other w8 n k q j r ne) refl

-- what `with_bit` of the code does to each bit
pub ruleset one_bit_changed = (set_is, cleared_is, same_bit, other_bit)

-- `&` and `|` of two numbers that are 0 or 1
and_test : (x y : ℕ) → x < 2 → y < 2 → nat_eq (min x y) 1 ≡ (nat_eq x 1 && nat_eq y 1)
and_test x y p q = grind (arith, nat_tests)

or_test : (x y : ℕ) → x < 2 → y < 2 → nat_eq (max x y) 1 ≡ (nat_eq x 1 || nat_eq y 1)
or_test x y p q = grind (arith, nat_tests)

-- a bit of `a & b` and of `a | b`
pub is_set-and : (a b k : ℕ) → is_set (bit_and a b) k ≡ (is_set a k && is_set b k)
unfolding is_set
is_set-and a b k = rw (bit_at_and a b k) (and_test (bit_at a k) (bit_at b k) (bit_at-lt a k) (bit_at-lt b k))

pub is_set-or : (a b k : ℕ) → is_set (bit_or a b) k ≡ (is_set a k || is_set b k)
unfolding is_set
is_set-or a b k = rw (bit_at_or a b k) (or_test (bit_at a k) (bit_at b k) (bit_at-lt a k) (bit_at-lt b k))

-- the top bit of a byte and of `!` of it
pub is_set-top : (a : ℕ) → a < 256 → is_set a 7 ≡ nat_le 128 a
unfolding is_set
is_set-top a p = grind (arith, nat_tests)

pub is_set-top_not : (a : ℕ) → a < 256 → is_set (255 - a) 7 ≡ not (nat_le 128 a)
unfolding is_set
is_set-top_not a p = grind (arith, nat_tests)

-- the top bit of the low half of a byte and of `!` of it
pub is_set-half : (a : ℕ) → is_set a 3 ≡ nat_le 8 (a % 16)
unfolding is_set
is_set-half a = grind (arith, nat_tests)

pub is_set-half_not : (a : ℕ) → a < 256 → is_set (255 - a) 3 ≡ not (nat_le 8 (a % 16))
unfolding is_set
is_set-half_not a p = grind (arith, nat_tests)

-- the lowest bit
pub is_set-lowest : (a : ℕ) → is_set a 0 ≡ nat_eq (a % 2) 1
unfolding is_set
is_set-lowest a = grind (arith, nat_tests)

-- the top bit of a word and of `!` of it
pub is_set-word : (a : ℕ) → a < 65536 → is_set a 15 ≡ nat_le 32768 a
unfolding is_set
is_set-word a p = grind (arith, nat_tests)

pub is_set-word_not : (a : ℕ) → a < 65536 → is_set (65535 - a) 15 ≡ not (nat_le 32768 a)
unfolding is_set
is_set-word_not a p = grind (arith, nat_tests)
