-- The flags of a sum and of a difference are those that the manual's formulas over bits give.
use Rattle.std.proofs.Common.{◌≡◌, ℕ, ◌+◌, ◌-◌, ◌%◌, ◌<◌, Bool, true, false, not, ◌&&◌, ◌||◌, nat_eq, nat_le, nat_lt, bit_and, bit_or, arith, refl}
use Rattle.std.specs.Prelude.{pos, ◌+ℤ◌, ◌-ℤ◌, if◌then◌else◌}
use Rattle.std.specs.Int.{from_bool}
use Rattle.std.proofs.lemmas.Bool.Decides.{nat_tests}
use Rattle.std.proofs.lemmas.Int.{ints}
use Rattle.avr_alu.specs.declared.flags.Flags.{Flags}
use Rattle.avr_alu.specs.Flags.{with_byte}
use Rattle.avr_alu.specs.Bits.{is_set}
use Rattle.avr_alu.specs.Signed.{signed, leaves_byte}
use Rattle.avr_alu.specs.Sum.{add_value, add_flags, sub_value, sub_flags}
use Rattle.avr_alu.proofs.BitLemmas.{is_set-and, is_set-or, is_set-top, is_set-top_not, is_set-half, is_set-half_not}
use Rattle.avr_alu.proofs.FlagLemmas.{below_two}

-- the bits from which a sum r of a and b carries, and its top bit where it overflows
abbrev pub carries : ℕ → ℕ → ℕ → ℕ
carries a b r = bit_or (bit_or (bit_and a b) (bit_and b (255 - r))) (bit_and (255 - r) a)

abbrev pub sum_overflows : ℕ → ℕ → ℕ → ℕ
sum_overflows a b r = bit_or (bit_and (bit_and a b) (255 - r)) (bit_and (bit_and (255 - a) (255 - b)) r)

-- the bits to which a difference r of a and b borrows, and its top bit where it overflows
abbrev pub borrows : ℕ → ℕ → ℕ → ℕ
borrows a b r = bit_or (bit_or (bit_and (255 - a) b) (bit_and b r)) (bit_and r (255 - a))

abbrev pub difference_overflows : ℕ → ℕ → ℕ → ℕ
difference_overflows a b r = bit_or (bit_and (bit_and a (255 - b)) (255 - r)) (bit_and (bit_and (255 - a) b) r)

-- Z of a difference
zero_kept : (is_zero was keep : Bool) → (is_zero && (was || not keep)) ≡ (if keep then was && is_zero else is_zero)
zero_kept true true true = refl
zero_kept true true false = refl
zero_kept true false true = refl
zero_kept true false false = refl
zero_kept false true true = refl
zero_kept false true false = refl
zero_kept false false true = refl
zero_kept false false false = refl

module _ (a b k : ℕ) (a_fits : a < 256) (b_fits : b < 256) (k_fits : k < 2) where
  module _ (r : ℕ) (r_is : r ≡ (a + b + k) % 256) where
    sum_carry : is_set (carries a b r) 7 ≡ nat_le 256 (a + b + k)
    sum_carry = let r_fits : r < 256 = omega arith in simp (is_set-or, is_set-and, is_set-top_not, is_set-top) (grind (arith, nat_tests))

    sum_half_carry : is_set (carries a b r) 3 ≡ nat_le 16 (a % 16 + b % 16 + k)
    sum_half_carry = let r_fits : r < 256 = omega arith in simp (is_set-or, is_set-and, is_set-half_not, is_set-half) (grind (arith, nat_tests))

    sum_overflow : is_set (sum_overflows a b r) 7 ≡ leaves_byte (signed a +ℤ signed b +ℤ pos k)
    unfolding leaves_byte signed
    sum_overflow = let r_fits : r < 256 = omega arith in simp (is_set-or, is_set-and, is_set-top_not, is_set-top) (grind (arith, nat_tests, ints))

  module _ (r : ℕ) (r_is : r ≡ (256 + a - (b + k)) % 256) where
    difference_borrow : is_set (borrows a b r) 7 ≡ nat_lt a (b + k)
    difference_borrow = let r_fits : r < 256 = omega arith in simp (is_set-or, is_set-and, is_set-top_not, is_set-top) (grind (arith, nat_tests))

    difference_half_borrow : is_set (borrows a b r) 3 ≡ nat_lt (a % 16) (b % 16 + k)
    difference_half_borrow = let r_fits : r < 256 = omega arith in simp (is_set-or, is_set-and, is_set-half_not, is_set-half) (grind (arith, nat_tests))

    difference_overflow : is_set (difference_overflows a b r) 7 ≡ leaves_byte (signed a -ℤ signed b -ℤ pos k)
    unfolding leaves_byte signed
    difference_overflow = let r_fits : r < 256 = omega arith in simp (is_set-or, is_set-and, is_set-top_not, is_set-top) (grind (arith, nat_tests, ints))

-- add8 as the code computes it
pub add_value_is : (a b : ℕ) (carry : Bool) → ((a + b) % 256 + from_bool carry) % 256 ≡ add_value a b carry
unfolding add_value
add_value_is a b carry = omega arith

pub add_flags_are : (a b : ℕ) (carry : Bool) (old : Flags) (r : ℕ) → a < 256 → b < 256 → r ≡ add_value a b carry →
    record (with_byte r (is_set (sum_overflows a b r) 7) old) {
      carry = is_set (carries a b r) 7;
      half_carry = is_set (carries a b r) 3;
    } ≡ add_flags a b carry old
unfolding add_value add_flags
add_flags_are a b carry old r a_fits b_fits r_is =
    let k_fits = below_two carry in
    rw (
      sum_carry a b (from_bool carry) a_fits b_fits k_fits r r_is,
      sum_half_carry a b (from_bool carry) a_fits b_fits k_fits r r_is,
      sum_overflow a b (from_bool carry) a_fits b_fits k_fits r r_is,
      r_is,
    ) refl

-- sub8 as the code computes it
pub sub_value_is : (a b : ℕ) (borrow : Bool) → a < 256 → b < 256 →
    ((a + (256 - b)) % 256 + (256 - from_bool borrow)) % 256 ≡ sub_value a b borrow
unfolding sub_value
sub_value_is a b borrow a_fits b_fits = let k_fits = below_two borrow in omega arith

pub sub_flags_are : (a b : ℕ) (borrow keep_z : Bool) (old : Flags) (r : ℕ) → a < 256 → b < 256 → r ≡ sub_value a b borrow →
    record (with_byte r (is_set (difference_overflows a b r) 7) old) {
      carry = is_set (borrows a b r) 7;
      half_carry = is_set (borrows a b r) 3;
      zero = nat_eq r 0 && (old.zero || not keep_z);
    } ≡ sub_flags a b borrow keep_z old
unfolding sub_value sub_flags
sub_flags_are a b borrow keep_z old r a_fits b_fits r_is =
    let k_fits = below_two borrow in
    rw (
      difference_borrow a b (from_bool borrow) a_fits b_fits k_fits r r_is,
      difference_half_borrow a b (from_bool borrow) a_fits b_fits k_fits r r_is,
      difference_overflow a b (from_bool borrow) a_fits b_fits k_fits r r_is,
      zero_kept (nat_eq r 0) old.zero keep_z,
      r_is,
    ) refl
