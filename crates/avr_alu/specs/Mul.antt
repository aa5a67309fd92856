-- Products of two bytes (MUL, MULS, MULSU, FMUL, FMULS and FMULSU of the AVR Instruction Set Manual).
use Rattle.std.specs.Prelude.{ℕ, ℤ, pos, ◌*ℤ◌, nat_eq, nat_le, unsigned_abs}
use Rattle.std.specs.Int.{int_rem_euclid}
use Rattle.avr_alu.specs.declared.flags.Flags.{Flags}
use Rattle.avr_alu.specs.declared.mul.Mul.{Mul}
use Rattle.avr_alu.specs.declared.mul.Mul.TheVariants.{U, S, SU, FU, FS, FSU}
use Rattle.avr_alu.specs.Signed.{signed}

-- the product: of unsigned numbers, of signed numbers, or of a signed a and an unsigned b
unfoldable pub mul_product : Mul → ℕ → ℕ → ℤ
mul_product U a b = pos a *ℤ pos b
mul_product S a b = signed a *ℤ signed b
mul_product SU a b = signed a *ℤ pos b
mul_product FU a b = pos a *ℤ pos b
mul_product FS a b = signed a *ℤ signed b
mul_product FSU a b = signed a *ℤ pos b

-- a number modulo 65536
unfoldable pub word_of : ℤ → ℕ
word_of z = unsigned_abs (int_rem_euclid z (pos 65536))

-- by how much the product is multiplied: a fractional one is shifted left once
unfoldable pub mul_scale : Mul → ℕ
mul_scale U = 1
mul_scale S = 1
mul_scale SU = 1
mul_scale FU = 2
mul_scale FS = 2
mul_scale FSU = 2

-- the 16 bits that are kept
unfoldable pub mul_value : Mul → ℕ → ℕ → ℕ
mul_value op a b = word_of (mul_product op a b *ℤ pos (mul_scale op))

-- C is bit 15 of the product before any shift, and Z says that the bits that are kept are 0
unfoldable pub mul_flags : Mul → ℕ → ℕ → Flags → Flags
mul_flags op a b old = record old {
  carry = nat_le 32768 (word_of (mul_product op a b));
  zero = nat_eq (mul_value op a b) 0;
}
