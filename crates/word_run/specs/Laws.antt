-- The laws of the words.
use Rattle.std.specs.Prelude.{◌≡◌, ◌⊎◌, ℕ, ◌≤◌, length, true, Some, IsSome}
use Rattle.avr_isa.specs.declared.instruction.Instr.{Instr}
use Rattle.avr_isa.specs.declared.instruction.Instr.TheVariants.{Call}
use Rattle.avr_machine.specs.Step.{Fetches}
use Rattle.mote_layout.specs.Memory.{red_zone_start}
use Rattle.unit_code.specs.declared.unit.Unit.TheVariants.{Store}
use Rattle.domain_model.specs.declared.fault.FaultNote.{FaultNote}
use Rattle.domain_model.specs.declared.fault.UnitEnd.TheVariants.{Fault}
use Rattle.domain_model.specs.declared.handler.Running.{Running}
use Rattle.domain_model.specs.State.{KernelState}
use Rattle.domain_model.specs.Act.{may_store, next_unit, store_address}
use Rattle.domain_model.specs.Free.{UnitStep}
use Rattle.domain_model.specs.Good.{GoodMachine}
use Rattle.domain_model.specs.Runners.{unit_by, unit_lines}
use Rattle.word_run.specs.FlashValue.{FlashValue, HoldsWords, part, entry_point}
use Rattle.word_run.specs.Entries.{Ends}
use Rattle.word_run.specs.WordRun.{instruction_limit, one_step, words_act}
use Rattle.word_run.specs.CanRun.{CanRun}
use Rattle.word_run.specs.Writing.{UnitWrites}

-- Words that spell units run as the units do, in all but the free bytes and the lines of instructions.
abbrev pub WordsRunAsUnits : Type 0
WordsRunAsUnits = (k : KernelState) (v : FlashValue) → HoldsWords v → GoodMachine k (part v) → IsSome k.running
    → UnitStep k (part v) (unit_by part (words_act k v))

-- Each instruction can be run, and with so many the unit has ended.
abbrev pub FewInstructionsSuffice : Type 0
FewInstructionsSuffice = (k : KernelState) (v : FlashValue) (run : Running) → HoldsWords v → GoodMachine k (part v)
    → k.running ≡ Some run → CanRun instruction_limit v run k (entry_point v run.domain v.unit)

-- The words of a unit write no more lines than a unit may.
abbrev pub LinesAreFew : Type 0
LinesAreFew = (k : KernelState) (v : FlashValue) → length (words_act k v).lines ≤ unit_lines

-- A byte lies in the red zone or on the stack, up to the stack pointer as the unit begins.
abbrev pub IsBelowStack : KernelState → ℕ → Type 0
IsBelowStack k a = (red_zone_start ≤ a) × (a ≤ k.processor.sp)

-- The next unit is a store to that byte, which is permitted.
pub record IsStoredTo (k : KernelState) (v : FlashValue) (run : Running) (a : ℕ) : Type 0 where
  pub store : Instr
  pub next : next_unit (part v) run ≡ Some (Store store)
  pub address : store_address store k.processor ≡ a
  pub permitted : may_store k run a ≡ true

-- Each byte that an instruction of the bank or a guard writes lies there, or is the one that a store is permitted.
abbrev pub WritesLieInside : Type 0
WritesLieInside = (k : KernelState) (v : FlashValue) (run : Running) (a : ℕ) → HoldsWords v → GoodMachine k (part v)
    → k.running ≡ Some run → UnitWrites a v run k → IsBelowStack k a ⊎ IsStoredTo k v run a

-- The words of the next unit begin with a CALL.
abbrev pub BeginsWithCall : FlashValue → Running → Type 0
BeginsWithCall v run = (target : ℕ) × Fetches v.flash (entry_point v run.domain v.unit) (Call target) 2

-- In a unit that faults one instruction alone has run, and where it has written it was a CALL.
abbrev pub FaultsComeFirst : Type 0
FaultsComeFirst = (k : KernelState) (v : FlashValue) (run : Running) (note : FaultNote) → HoldsWords v → GoodMachine k (part v)
    → k.running ≡ Some run → (words_act k v).ending ≡ Fault note
    → ((one_step v run k (entry_point v run.domain v.unit)).way ≡ Ends (Fault note)) × ((a : ℕ) → UnitWrites a v run k → BeginsWithCall v run)
