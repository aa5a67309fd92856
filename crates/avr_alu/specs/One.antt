-- The operations on one byte (COM, NEG, INC, DEC, SWAP, LSR, ROR and ASR of the AVR Instruction Set
-- Manual).
use Rattle.std.specs.Prelude.{ℕ, ◌+◌, ◌-◌, ◌*◌, ◌/◌, ◌%◌, Bool, true, false, pos, ◌+ℤ◌, ◌-ℤ◌, nat_eq, nat_le}
use Rattle.std.specs.Int.{from_bool}
use Rattle.std.proofs.Math.Bool.{xor}
use Rattle.avr_alu.specs.declared.flags.Flags.{Flags}
use Rattle.avr_alu.specs.declared.one.One.{One}
use Rattle.avr_alu.specs.declared.one.One.TheVariants.{Com, Neg, Inc, Dec, Swap, Lsr, Ror, Asr}
use Rattle.avr_alu.specs.Flags.{with_byte}
use Rattle.avr_alu.specs.Signed.{signed, leaves_byte}
use Rattle.avr_alu.specs.Sum.{sub_value, sub_flags}

-- the byte shifted right by one bit, with the new bit 7
unfoldable pub shifted_right : ℕ → Bool → ℕ
shifted_right a top = a / 2 + 128 * from_bool top

-- the result, where to subtract 1 modulo 256 is to add 255; the flags are those before the operation,
-- of which ROR takes C
unfoldable pub one_value : One → ℕ → Flags → ℕ
one_value Com a old = 255 - a
one_value Neg a old = sub_value 0 a false
one_value Inc a old = (a + 1) % 256
one_value Dec a old = (a + 255) % 256
one_value Swap a old = a % 16 * 16 + a / 16
one_value Lsr a old = shifted_right a false
one_value Ror a old = shifted_right a old.carry
one_value Asr a old = shifted_right a (nat_le 128 a)

-- after a shift to the right C is the old bit 0, and V is N xor C
unfoldable pub shift_flags : ℕ → ℕ → Flags → Flags
shift_flags a shifted old =
    let bit_zero = nat_eq (a % 2) 1 in
    record (with_byte shifted (xor (nat_le 128 shifted) bit_zero) old) { carry = bit_zero }

-- COM sets C and clears V; NEG is 0 minus the byte; V of INC and DEC says that the signed result
-- leaves the range of a byte; SWAP leaves every flag
unfoldable pub one_flags : One → ℕ → Flags → Flags
one_flags Com a old = record (with_byte (one_value Com a old) false old) { carry = true }
one_flags Neg a old = sub_flags 0 a false false old
one_flags Inc a old = with_byte (one_value Inc a old) (leaves_byte (signed a +ℤ pos 1)) old
one_flags Dec a old = with_byte (one_value Dec a old) (leaves_byte (signed a -ℤ pos 1)) old
one_flags Swap a old = old
one_flags Lsr a old = shift_flags a (one_value Lsr a old) old
one_flags Ror a old = shift_flags a (one_value Ror a old) old
one_flags Asr a old = shift_flags a (one_value Asr a old) old
