-- One step: the instruction that stands at PC, and where it leads.
use Rattle.std.specs.Prelude.{ℕ, ◌+◌, ◌%◌, ◌≡◌, Some, Result, Ok, Err, IsOk, IsOkAnd, nat_le, if◌then◌else◌}
use Rattle.mote_layout.specs.Page.{page_start}
use Rattle.avr_isa.specs.declared.instruction.Instr.{Instr}
use Rattle.avr_isa.specs.declared.instruction.DecodeError.{DecodeError}
use Rattle.avr_isa.specs.Decoded.{decoded}
use Rattle.avr_machine.specs.declared.step.Stepped.{Stepped}
use Rattle.avr_machine.specs.declared.step.Stepped.TheVariants.{Went, AtEntry}
use Rattle.avr_machine.specs.Processor.{Processor, raised, with_pc}
use Rattle.avr_machine.specs.Conditions.{IsRunnable, IsSkip, StoresInside}
use Rattle.avr_machine.specs.Flash.{Banks, word_at}

-- what the words at an address stand for: the instruction and its number of words
unfoldable pub fetched : Banks → ℕ → Result (Instr × ℕ) DecodeError
fetched banks address = decoded (word_at banks address) (Some (word_at banks (raised address)))

-- the words at an address are the instruction's, and there are n of them
abbrev pub Fetches : Banks → ℕ → Instr → ℕ → Type 0
Fetches banks address i n = fetched banks address ≡ Ok (i, n)

abbrev pub count_of : Result (Instr × ℕ) DecodeError → ℕ
count_of (Ok found) = found.1
count_of (Err e) = 0

-- the address after the instruction at an address
unfoldable pub following : Banks → ℕ → ℕ
following banks address = (address + count_of (fetched banks address)) % 65536

-- the condition of an instruction that is run, where PC is already the address of the next one
pub record CanRun (banks : Banks) (p : Processor) (i : Instr) : Type 0 where
  pub runnable : IsRunnable i
  pub inside : StoresInside i p
  pub next : IsSkip i → IsOk (fetched banks p.pc)

-- the processor, with PC at the next instruction
abbrev pub advanced : Processor → ℕ → Processor
advanced p n = with_pc p ((p.pc + n) % 65536)

-- the words at PC stand for an instruction that can be run
abbrev pub CanStep : Banks → Processor → Type 0
CanStep banks p = IsOkAnd (fetched banks p.pc) (λ found. CanRun banks (advanced p found.1) found.0)

-- whether an address belongs to the entry page or to code
abbrev pub arrived : ℕ → Stepped
arrived address = if nat_le page_start address then AtEntry address else Went
