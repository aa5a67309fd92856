-- The products are those that the code computes.
use Rattle.std.proofs.Common.{◌≡◌, ℕ, ◌+◌, ◌*◌, ◌%◌, ◌<◌, ◌≤◌, nat_eq, arith, refl, w8, w16}
use Rattle.std.specs.Prelude.{ℤ, pos, negsuc, ◌*ℤ◌, FitsSigned, unsigned_abs}
use Rattle.std.specs.Int.{cast_unsigned, cast_signed}
use Rattle.std.proofs.lemmas.Int.{ints, to_z-of_z, of_z-to_z, fits_signed_mul}
use Rattle.std.proofs.lemmas.Bool.Decides.{nat_tests}
use Rattle.avr_alu.specs.declared.flags.Flags.{Flags}
use Rattle.avr_alu.specs.declared.mul.Mul.{Mul}
use Rattle.avr_alu.specs.declared.mul.Mul.TheVariants.{U, S, SU, FU, FS, FSU}
use Rattle.avr_alu.specs.Signed.{signed}
use Rattle.avr_alu.specs.Bits.{is_set}
use Rattle.avr_alu.specs.Mul.{word_of, mul_product, mul_scale, mul_value, mul_flags}
use Rattle.avr_alu.proofs.BitLemmas.{is_set-word}

pub unsigned_bits : (a b : ℕ) → a < 256 → b < 256 → a * b ≡ word_of (pos a *ℤ pos b)
unfolding word_of
unsigned_bits a b p q = grind arith

-- the code's signed value of a byte
signed_read : (a : ℕ) → a < 256 → cast_signed w8 a ≡ signed a
unfolding signed
signed_read a p = grind (arith, nat_tests, ints)

pub signed_is : (a : ℕ) → a < 256 → cast_signed w8 (cast_unsigned w8 (cast_signed w8 a)) ≡ signed a
signed_is a p = rw (of_z-to_z w8 a p) (signed_read a p)

-- how large signed and unsigned bytes are
signed-abs : (a : ℕ) → a < 256 → unsigned_abs (signed a) ≤ 128
unfolding signed
signed-abs a p = grind (arith, nat_tests, ints)

pub signed_product_fits : (a b : ℕ) → a < 256 → b < 256 → FitsSigned w16 (signed a *ℤ signed b)
signed_product_fits a b p q = fits_signed_mul w16 (signed a) (signed b) 128 128 (signed-abs a p) (signed-abs b q) (omega arith)

pub mixed_product_fits : (a b : ℕ) → a < 256 → b < 256 → FitsSigned w16 (signed a *ℤ pos b)
mixed_product_fits a b p q = fits_signed_mul w16 (signed a) (pos b) 128 255 (signed-abs a p) (omega arith) (omega arith)

-- the products that fit their types
pub ruleset products = (unsigned_bits, signed_product_fits, mixed_product_fits)

-- a number in the range of a signed word as its bits
bits_of_signed : (z : ℤ) → FitsSigned w16 z → cast_unsigned w16 z ≡ word_of z
unfolding word_of
bits_of_signed (pos n) p = grind (arith, ints)
bits_of_signed (negsuc n) p = grind (arith, ints)

-- the code's product of two signed words
pub signed_bits : (x y : ℤ) → FitsSigned w16 x → FitsSigned w16 y → FitsSigned w16 (x *ℤ y) →
    cast_unsigned w16 (cast_signed w16 (cast_unsigned w16 (cast_signed w16 (cast_unsigned w16 x) *ℤ cast_signed w16 (cast_unsigned w16 y)))) ≡ word_of (x *ℤ y)
signed_bits x y x_fits y_fits fits = simp to_z-of_z (bits_of_signed (x *ℤ y) fits)

-- the word of a number, doubled
doubled : (z : ℤ) → word_of z * 2 % 65536 ≡ word_of (z *ℤ pos 2)
unfolding word_of
doubled (pos n) = omega arith
doubled (negsuc n) = let e : negsuc n *ℤ pos 2 ≡ negsuc (2 * n + 1) = omega (arith, ints) in rw e (omega arith)

single : (z : ℤ) → word_of z * 1 % 65536 ≡ word_of (z *ℤ pos 1)
unfolding word_of
single (pos n) = omega arith
single (negsuc n) = let e : negsuc n *ℤ pos 1 ≡ negsuc n = omega (arith, ints) in rw e (omega arith)

pub kept_bits : (op : Mul) (a b : ℕ) → word_of (mul_product op a b) * mul_scale op % 65536 ≡ mul_value op a b
unfolding mul_scale mul_value
kept_bits U a b = single (mul_product U a b)
kept_bits S a b = single (mul_product S a b)
kept_bits SU a b = single (mul_product SU a b)
kept_bits FU a b = doubled (mul_product FU a b)
kept_bits FS a b = doubled (mul_product FS a b)
kept_bits FSU a b = doubled (mul_product FSU a b)

pub mul_flags_are : (op : Mul) (a b product : ℕ) (old : Flags) → product < 65536 → product ≡ word_of (mul_product op a b) →
    record old { carry = is_set product 15; zero = nat_eq (mul_value op a b) 0 } ≡ mul_flags op a b old
unfolding mul_flags
mul_flags_are op a b product old p product_is = rw (is_set-word product p, product_is) refl
