-- Runs of bytes in the memory.
use Rattle.std.specs.Prelude.{ℕ, ◌+◌, ◌-◌, ◌<◌, ◌≤◌, List, ◌++◌, length, take, drop, replicate}
use Rattle.mote_layout.specs.Memory.{ram_start}
use Rattle.avr_machine.specs.Processor.{Processor}

-- the list with these bytes from a place on
abbrev pub with_bytes : List ℕ → ℕ → List ℕ → List ℕ
with_bytes memory place bytes = take place memory ++ (bytes ++ drop (place + length bytes) memory)

-- n bytes from a place on are 0
abbrev pub with_zeros : List ℕ → ℕ → ℕ → List ℕ
with_zeros memory place n = take place memory ++ (replicate n 0 ++ drop (place + n) memory)

-- the processor with these bytes from an address on, and with n bytes from an address on that are 0
abbrev pub holding : ℕ → List ℕ → Processor → Processor
holding address bytes p = record p { memory = with_bytes p.memory (address - ram_start) bytes }

abbrev pub cleared : ℕ → ℕ → Processor → Processor
cleared address n p = record p { memory = with_zeros p.memory (address - ram_start) n }

-- one of n addresses from the first on
abbrev pub IsAmong : ℕ → ℕ → ℕ → Type 0
IsAmong first n address = (first ≤ address) × (address < first + n)
