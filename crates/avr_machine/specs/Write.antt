-- What one instruction can change, and the processor after a list of changes.
use Rattle.std.specs.Prelude.{ℕ, ◌+◌, ◌-◌, ◌*◌, ◌==◌, List, [], ◌∷◌, slice_set, if◌then◌else◌}
use Rattle.mote_layout.specs.Memory.{ram_start, spl_port, sph_port, sreg_port}
use Rattle.avr_machine.specs.Processor.{Processor, low, high, with_pc}

-- A change: of a register, of a pair of registers by its lower one, of the byte at an address of the memory, of
-- what stands at an I/O port, of SP, of SREG, of PC. The last argument is the new value.
pub data Write : Type 0 where
  set_register : ℕ → ℕ → Write
  set_pair : ℕ → ℕ → Write
  set_byte : ℕ → ℕ → Write
  set_port : ℕ → ℕ → Write
  set_sp : ℕ → Write
  set_sreg : ℕ → Write
  set_pc : ℕ → Write

-- The processor after one change. All else stays as it was.
abbrev pub written : Write → Processor → Processor
written (set_register d value) p = record p { registers = slice_set p.registers d value }
written (set_pair d word) p =
    record p { registers = slice_set (slice_set p.registers d (low word)) (d + 1) (high word) }
written (set_byte address value) p = record p { memory = slice_set p.memory (address - ram_start) value }
written (set_port port value) p = record p {
  sp =
      if port == spl_port then high p.sp * 256 + value
      else (if port == sph_port then value * 256 + low p.sp else p.sp);
  sreg = if port == sreg_port then value else p.sreg;
}
written (set_sp address) p = record p { sp = address }
written (set_sreg value) p = record p { sreg = value }
written (set_pc address) p = with_pc p address

-- the processor after the changes, the first one first
abbrev pub after : List Write → Processor → Processor
after [] p = p
after (change ∷ rest) p = after rest (written change p)
