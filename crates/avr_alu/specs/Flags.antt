-- The status register SREG as a byte and as eight named flags ("Status Register (SREG)" in the AVR
-- Instruction Set Manual).
use Rattle.std.specs.Prelude.{ℕ, ◌+◌, ◌*◌, Bool, nat_eq, nat_le}
use Rattle.std.specs.Int.{from_bool}
use Rattle.std.proofs.Math.Bool.{xor}
use Rattle.avr_alu.specs.declared.flags.Flags.{Flags}
use Rattle.avr_alu.specs.Bits.{is_set}

-- the flags that a byte of SREG holds
unfoldable pub flags_of : ℕ → Flags
flags_of sreg = record {
  carry = is_set sreg 0;
  zero = is_set sreg 1;
  negative = is_set sreg 2;
  overflow = is_set sreg 3;
  sign = is_set sreg 4;
  half_carry = is_set sreg 5;
  transfer = is_set sreg 6;
  interrupt = is_set sreg 7;
}

-- the byte of SREG that holds the flags: C Z N V S H T I from bit 0 up
unfoldable pub sreg_of : Flags → ℕ
sreg_of f =
    from_bool f.carry + 2 * from_bool f.zero + 4 * from_bool f.negative + 8 * from_bool f.overflow
    + 16 * from_bool f.sign + 32 * from_bool f.half_carry + 64 * from_bool f.transfer + 128 * from_bool f.interrupt

-- the flags with Z, N and V as given, and S as N xor V
unfoldable pub with_result : Bool → Bool → Bool → Flags → Flags
with_result is_zero is_negative overflows old = record old {
  zero = is_zero;
  negative = is_negative;
  overflow = overflows;
  sign = xor is_negative overflows;
}

-- the flags after a byte as the result: Z says that it is 0, N is its top bit, and V is as given
unfoldable pub with_byte : ℕ → Bool → Flags → Flags
with_byte byte overflows old = with_result (nat_eq byte 0) (nat_le 128 byte) overflows old

-- the same after a word as the result
unfoldable pub with_word : ℕ → Bool → Flags → Flags
with_word word overflows old = with_result (nat_eq word 0) (nat_le 32768 word) overflows old
