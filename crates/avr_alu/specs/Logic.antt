-- The bitwise operations on two bytes (AND, ANDI, OR, ORI and EOR of the AVR Instruction Set Manual).
use Rattle.std.specs.Prelude.{ℕ, false, bit_and, bit_or, bit_xor}
use Rattle.avr_alu.specs.declared.flags.Flags.{Flags}
use Rattle.avr_alu.specs.declared.logic.Logic.{Logic}
use Rattle.avr_alu.specs.declared.logic.Logic.TheVariants.{And, Or, Eor}
use Rattle.avr_alu.specs.Flags.{with_byte}

-- the bitwise and, or, or exclusive or
unfoldable pub logic_value : Logic → ℕ → ℕ → ℕ
logic_value And a b = bit_and a b
logic_value Or a b = bit_or a b
logic_value Eor a b = bit_xor a b

-- V is cleared, C and H stay
unfoldable pub logic_flags : Logic → ℕ → ℕ → Flags → Flags
logic_flags op a b old = with_byte (logic_value op a b) false old
