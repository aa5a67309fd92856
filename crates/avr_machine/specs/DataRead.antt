-- What a load reads at an address of the data space.
use Rattle.std.specs.Prelude.{ℕ, ◌-◌, ◌≤◌, ◌==◌, ◌&&◌, nat_le, nat_lt, slice_index, if◌then◌else◌}
use Rattle.mote_layout.specs.Memory.{register_count, spl, sph, sreg, ram_start, ram_end}
use Rattle.avr_machine.specs.Processor.{Processor, register, low, high}

-- The data space begins with the registers; SP and SREG stand among the I/O addresses, and the internal SRAM
-- behind them ("SRAM Data Memory" in the data sheet). That everything else reads as 0 is our own rule.
unfoldable pub data_read : Processor → ℕ → ℕ
data_read p address =
    if nat_lt address register_count then register p address
    else (if address == spl then low p.sp
    else (if address == sph then high p.sp
    else (if address == sreg then p.sreg
    else (if nat_le ram_start address && nat_le address ram_end then slice_index p.memory (address - ram_start)
    else 0))))

-- an address of the internal SRAM
abbrev pub IsInMemory : ℕ → Type 0
IsInMemory address = (ram_start ≤ address) × (address ≤ ram_end)
