-- Sums and differences of two bytes, with the carry or borrow that goes in (ADD, ADC, SUB, SUBI,
-- SBC, SBCI, CP, CPI and CPC of the AVR Instruction Set Manual).
use Rattle.std.specs.Prelude.{ℕ, ◌+◌, ◌-◌, ◌%◌, Bool, ◌&&◌, pos, ◌+ℤ◌, ◌-ℤ◌, nat_eq, nat_le, nat_lt, if◌then◌else◌}
use Rattle.std.specs.Int.{from_bool}
use Rattle.avr_alu.specs.declared.flags.Flags.{Flags}
use Rattle.avr_alu.specs.Flags.{with_byte}
use Rattle.avr_alu.specs.Signed.{signed, leaves_byte}

-- a + b + carry, modulo 256
unfoldable pub add_value : ℕ → ℕ → Bool → ℕ
add_value a b carry = (a + b + from_bool carry) % 256

-- C says that the sum is at least 256, H that the sum of the low halves is at least 16, and V that
-- the signed sum leaves the range of a byte
unfoldable pub add_flags : ℕ → ℕ → Bool → Flags → Flags
add_flags a b carry old =
    let k = from_bool carry in
    let overflows = leaves_byte (signed a +ℤ signed b +ℤ pos k) in
    record (with_byte (add_value a b carry) overflows old) {
      carry = nat_le 256 (a + b + k);
      half_carry = nat_le 16 (a % 16 + b % 16 + k);
    }

-- a - b - borrow, modulo 256
unfoldable pub sub_value : ℕ → ℕ → Bool → ℕ
sub_value a b borrow = (256 + a - (b + from_bool borrow)) % 256

-- C says that a is less than b + borrow, H the same of the low halves, and V that the signed
-- difference leaves the range of a byte; where Z is kept, a result of 0 leaves it as it was
unfoldable pub sub_flags : ℕ → ℕ → Bool → Bool → Flags → Flags
sub_flags a b borrow keep_z old =
    let k = from_bool borrow in
    let overflows = leaves_byte (signed a -ℤ signed b -ℤ pos k) in
    let is_zero = nat_eq (sub_value a b borrow) 0 in
    record (with_byte (sub_value a b borrow) overflows old) {
      carry = nat_lt a (b + k);
      half_carry = nat_lt (a % 16) (b % 16 + k);
      zero = if keep_z then old.zero && is_zero else is_zero;
    }
