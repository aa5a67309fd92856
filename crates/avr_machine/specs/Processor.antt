-- The state of the processor, and the words of the manual for its parts.
use Rattle.std.specs.Prelude.{ℕ, ◌+◌, ◌*◌, ◌/◌, ◌%◌, Bool, List, slice_index, replicate}
use Rattle.avr_alu.specs.Bits.{is_set}
use Rattle.mote_layout.specs.Memory.{register_count, ram_bytes}

-- R0 to R31, SREG, SP, PC, and the bytes of the internal SRAM: byte i has the data address 0x0100 + i. PC counts
-- words ("AVR CPU Core" in the ATmega128's data sheet).
pub record Processor : Type 0 where
  pub registers : List ℕ
  pub sreg : ℕ
  pub sp : ℕ
  pub pc : ℕ
  pub memory : List ℕ

-- Rd
abbrev pub register : Processor → ℕ → ℕ
register p d = slice_index p.registers d

-- the low and the high byte of a word
abbrev pub low : ℕ → ℕ
low word = word % 256

abbrev pub high : ℕ → ℕ
high word = word / 256

-- Rd+1:Rd, a pair of registers as a word, by its lower register
abbrev pub pair : Processor → ℕ → ℕ
pair p d = register p d + 256 * register p (d + 1)

-- the flags C and T of SREG, by the numbers of their bits
abbrev pub carry_bit : ℕ
carry_bit = 0

abbrev pub transfer_bit : ℕ
transfer_bit = 6

abbrev pub carry : Processor → Bool
carry p = is_set p.sreg carry_bit

abbrev pub transfer : Processor → Bool
transfer p = is_set p.sreg transfer_bit

-- an address or a pointer after it rose or fell by one, modulo 65536
abbrev pub raised : ℕ → ℕ
raised address = (address + 1) % 65536

abbrev pub lowered : ℕ → ℕ
lowered address = (address + 65535) % 65536

-- the processor with another PC
abbrev pub with_pc : Processor → ℕ → Processor
with_pc p address = record p { pc = address }

-- the memory of a new processor
unfoldable pub no_memory : List ℕ
no_memory = replicate ram_bytes 0

-- a new processor: 0 everywhere
abbrev pub no_processor : Processor
no_processor = record { registers = replicate register_count 0; sreg = 0; sp = 0; pc = 0; memory = no_memory }
