-- The operations on one byte are those that the code computes over bits.
use Rattle.std.proofs.Common.{◌≡◌, ℕ, ◌+◌, ◌*◌, ◌/◌, ◌%◌, ◌<◌, ◌^◌, Bool, false, not, nat_eq, nat_le, nat_lt, bit_and, bit_or, arith, refl}
use Rattle.std.specs.Prelude.{pos, ◌+ℤ◌, ◌-ℤ◌}
use Rattle.std.specs.Int.{bit_at, from_bool}
use Rattle.std.proofs.Math.Bool.{beq}
use Rattle.std.proofs.lemmas.Nat.{or_shifted}
use Rattle.std.proofs.lemmas.Nat.Bits.{and_pow}
use Rattle.std.proofs.lemmas.Bool.Decides.{nat_tests}
use Rattle.std.proofs.lemmas.Int.{ints}
use Rattle.avr_alu.specs.declared.flags.Flags.{Flags}
use Rattle.avr_alu.specs.declared.one.One.TheVariants.{Neg, Inc, Dec}
use Rattle.avr_alu.specs.Flags.{with_result, with_byte}
use Rattle.avr_alu.specs.Bits.{is_set}
use Rattle.avr_alu.specs.Signed.{signed, leaves_byte}
use Rattle.avr_alu.specs.Sum.{sub_value, sub_flags}
use Rattle.avr_alu.specs.One.{one_value, shift_flags}
use Rattle.avr_alu.proofs.BitLemmas.{is_set-or, is_set-top, is_set-half, is_set-lowest}
use Rattle.avr_alu.proofs.FlagLemmas.{xor_is, put_above_adds}

-- `a << 4 | a >> 4`
pub halves_swapped : (a : ℕ) → a < 256 → bit_or (a * 16 % 256) (a / 16) ≡ a % 16 * 16 + a / 16
halves_swapped a p =
    let low : a / 16 < 2 ^ 4 = omega arith in
    let shifted : a * 16 % 256 ≡ a % 16 * 2 ^ 4 = omega arith in
    rw (shifted, or_shifted (a % 16) 4 (a / 16) low) refl

-- `a >> 1` below a new top bit
pub top_rotated : (a : ℕ) (top : Bool) → a < 256 → bit_or (from_bool top * 128 % 256) (a / 2) ≡ a / 2 + 128 * from_bool top
top_rotated a top p =
    let low : a / 2 < 2 ^ 7 = omega arith in
    rw (put_above_adds 7 (a / 2) top low (omega arith)) (omega arith)

-- `a >> 1` below the old top bit
pub top_kept : (a : ℕ) → a < 256 → bit_or (bit_and a 128) (a / 2) ≡ a / 2 + 128 * from_bool (nat_le 128 a)
top_kept a p =
    let low : a / 2 < 2 ^ 7 = omega arith in
    let top : bit_and a 128 ≡ bit_at a 7 * 2 ^ 7 = and_pow a 7 in
    rw (top, or_shifted (bit_at a 7) 7 (a / 2) low) (grind (arith, nat_tests))

-- the bits that a swap, a rotation and a shift move
pub ruleset moved_bits = (halves_swapped, top_rotated, top_kept)

-- NEG's flags
pub neg_flags_are : (a byte : ℕ) (old : Flags) → a < 256 → byte ≡ one_value Neg a old →
    record (with_byte byte (nat_eq byte 128) old) {
      carry = not (nat_eq byte 0);
      half_carry = is_set (bit_or byte a) 3;
    } ≡ sub_flags 0 a false false old
unfolding one_value sub_value sub_flags with_byte with_result
neg_flags_are a byte old p byte_is =
    let carry : not (nat_eq byte 0) ≡ nat_lt 0 (a + 0) = grind (arith, nat_tests) in
    let half : is_set (bit_or byte a) 3 ≡ nat_lt (0 % 16) (a % 16 + 0) = simp (is_set-or, is_set-half) (grind (arith, nat_tests)) in
    let overflow : nat_eq byte 128 ≡ leaves_byte (signed 0 -ℤ signed a -ℤ pos 0) = unfold leaves_byte signed in grind (arith, nat_tests, ints) in
    rw (carry, half, overflow, byte_is) refl

-- V of INC and of DEC
inc_overflow : (a byte : ℕ) → a < 256 → byte ≡ (a + 1) % 256 → nat_eq byte 128 ≡ leaves_byte (signed a +ℤ pos 1)
unfolding leaves_byte signed
inc_overflow a byte p byte_is = grind (arith, nat_tests, ints)

dec_overflow : (a byte : ℕ) → a < 256 → byte ≡ (a + 255) % 256 → nat_eq byte 127 ≡ leaves_byte (signed a -ℤ pos 1)
unfolding leaves_byte signed
dec_overflow a byte p byte_is = grind (arith, nat_tests, ints)

pub inc_flags_are : (a byte : ℕ) (old : Flags) → a < 256 → byte ≡ one_value Inc a old →
    with_byte byte (nat_eq byte 128) old ≡ with_byte (one_value Inc a old) (leaves_byte (signed a +ℤ pos 1)) old
unfolding one_value
inc_flags_are a byte old p byte_is = rw (inc_overflow a byte p byte_is, byte_is) refl

pub dec_flags_are : (a byte : ℕ) (old : Flags) → a < 256 → byte ≡ one_value Dec a old →
    with_byte byte (nat_eq byte 127) old ≡ with_byte (one_value Dec a old) (leaves_byte (signed a -ℤ pos 1)) old
unfolding one_value
dec_flags_are a byte old p byte_is = rw (dec_overflow a byte p byte_is, byte_is) refl

pub ruleset step_flags = (inc_flags_are, dec_flags_are)

-- the flags after a shift to the right
pub shift_flags_are : (a byte : ℕ) (old : Flags) → byte < 256 →
    record (with_byte byte (not (beq (is_set byte 7) (is_set a 0))) old) { carry = is_set a 0 } ≡ shift_flags a byte old
unfolding shift_flags
shift_flags_are a byte old p = simp (is_set-top, is_set-lowest, xor_is)
