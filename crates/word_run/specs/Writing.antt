-- Which bytes of the memory the words of a unit write.
use Rattle.std.specs.Prelude.{◌≡◌, ◌⊎◌, ℕ, zero, suc, ◌<◌, ◌≤◌, nat_le, List, [], ◌∷◌, Bool, true, false, Option, Some, None, Result, Ok, Err}
use Rattle.avr_isa.specs.declared.instruction.Instr.{Instr}
use Rattle.avr_isa.specs.declared.instruction.DecodeError.{DecodeError}
use Rattle.avr_machine.specs.Processor.{Processor as CountingProcessor}
use Rattle.avr_machine.specs.Write.{Write, set_register, set_pair, set_byte, set_port, set_sp, set_sreg, set_pc}
use Rattle.avr_machine.specs.Effect.{writes}
use Rattle.avr_machine.specs.Flash.{Banks}
use Rattle.avr_machine.specs.Step.{advanced, fetched, following}
use Rattle.mote_layout.specs.Page.{page_start, entry_at}
use Rattle.mote_layout.specs.declared.page.Entry.{Entry}
use Rattle.mote_layout.specs.declared.page.Entry.TheVariants.{SpGuard}
use Rattle.domain_model.specs.declared.handler.Running.{Running}
use Rattle.domain_model.specs.State.{Processor, KernelState, at_counter}
use Rattle.domain_model.specs.Act.{group_sp}
use Rattle.word_run.specs.FlashValue.{FlashValue, entry_point, unit_at}
use Rattle.word_run.specs.Entries.{Way, Goes, Ends, back_kernel, called_row}
use Rattle.word_run.specs.WordRun.{after_one, instruction_limit, one_step}

-- One of the changes is of the byte at this address.
abbrev pub Names : ℕ → List Write → Type 0
Names a [] = ⊥
Names a (set_byte address value ∷ rest) = (address ≡ a) ⊎ Names a rest
Names a (set_register d value ∷ rest) = Names a rest
Names a (set_pair d word ∷ rest) = Names a rest
Names a (set_port port value ∷ rest) = Names a rest
Names a (set_sp address ∷ rest) = Names a rest
Names a (set_sreg value ∷ rest) = Names a rest
Names a (set_pc address ∷ rest) = Names a rest

-- The instruction that is found at PC writes the byte.
abbrev pub InstructionWrites : ℕ → Result (Instr × ℕ) DecodeError → Banks → CountingProcessor → Type 0
InstructionWrites a (Ok found) flash c =
    Names a (writes found.0 (following flash (advanced c found.1).pc) (advanced c found.1))
InstructionWrites a (Err e) flash c = ⊥

-- A group's guard makes the bytes 0 that the group uncovers, where it lets the group pass. No other guard writes.
abbrev pub GuardClears : ℕ → Way → Processor → Type 0
GuardClears a (Goes address) p = (group_sp p < a) × (a ≤ p.sp)
GuardClears a (Ends ending) p = ⊥

abbrev pub EntryWrites : ℕ → Option Entry → FlashValue → Running → KernelState → CountingProcessor → Type 0
EntryWrites a (Some SpGuard) v run k c = GuardClears a (called_row SpGuard v run (back_kernel k c) 0).way (back_kernel k c).processor
EntryWrites a _ v run k c = ⊥

abbrev pub ArrivalWrites : ℕ → Bool → FlashValue → Running → KernelState → CountingProcessor → Type 0
ArrivalWrites a false v run k c = ⊥
ArrivalWrites a true v run k c = EntryWrites a (entry_at c.pc) v run k c

-- where an instruction leads, a guard writes the byte
abbrev pub GuardWrites : ℕ → FlashValue → Running → KernelState → CountingProcessor → Type 0
GuardWrites a v run k c = ArrivalWrites a (nat_le page_start c.pc) v run k c

-- The instruction at a program address writes the byte, or the guard to which it leads does.
abbrev pub StepWrites : ℕ → FlashValue → Running → KernelState → ℕ → Type 0
StepWrites a v run k address =
    InstructionWrites a (fetched v.flash address) v.flash (at_counter k.processor address)
    ⊎ GuardWrites a v run k (after_one v.flash (at_counter k.processor address))

abbrev pub WritesFrom : Option ℕ → (Running → KernelState → ℕ → Type 0) → Running → KernelState → ℕ → Type 0
WritesFrom (Some unit) next run k address = ⊥
WritesFrom None next run k address = next run k address

abbrev pub WritesIn : Option Running → (Running → KernelState → ℕ → Type 0) → FlashValue → KernelState → ℕ → Type 0
WritesIn None next v k address = ⊥
WritesIn (Some run) next v k address = WritesFrom (unit_at v run.domain address) next run k address

abbrev pub WritesBy : Way → (Running → KernelState → ℕ → Type 0) → FlashValue → KernelState → Type 0
WritesBy (Ends ending) next v k = ⊥
WritesBy (Goes address) next v k = WritesIn k.running next v k address

-- Of at most so many instructions from a program address on, with their guards, one writes the byte.
abbrev pub Writes : ℕ → ℕ → FlashValue → Running → KernelState → ℕ → Type 0
Writes a zero v run k address = ⊥
Writes a (suc n) v run k address =
    StepWrites a v run k address ⊎ WritesBy (one_step v run k address).way (Writes a n v) v (one_step v run k address).kernel

-- An instruction of the bank or a guard writes the byte, as the next unit runs in a domain.
abbrev pub UnitWrites : ℕ → FlashValue → Running → KernelState → Type 0
UnitWrites a v run k = Writes a instruction_limit v run k (entry_point v run.domain v.unit)
