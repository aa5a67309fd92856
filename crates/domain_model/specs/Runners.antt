-- Runners: what a unit does where a runner keeps the units and the place in them in its own way.
use Rattle.std.specs.Prelude.{ℕ, ◌≤◌, List, [], length, filter, not, Bool, true, false}
use Rattle.mote_layout.specs.Memory.{bank_words}
use Rattle.unit_code.specs.Listing.{BankListing}
use Rattle.unit_code.specs.Spelling.{Spells}
use Rattle.domain_model.specs.declared.fault.UnitEnd.{UnitEnd}
use Rattle.domain_model.specs.declared.line.TraceLine.{TraceLine}
use Rattle.domain_model.specs.declared.line.TraceLine.TheVariants as line
use Rattle.domain_model.specs.State.{KernelState, RunnerState}
use Rattle.domain_model.specs.Act.{Acted}

-- Code that a runner may be given: proper units, of an image that is sealed or of one that isn't, and words that fit a
-- bank of flash and spell these units, with the start of each one's template.
pub record IsPlaceable (code : BankListing) : Type 0 where
  pub sealed : Bool
  pub spelled : Spells code.words [] sealed code.units code.starts
  pub fits : length code.words ≤ bank_words

-- the most lines that a unit writes by a runner: its own, and those of the instructions that it runs
abbrev pub unit_lines : ℕ
unit_lines = 8

-- An instruction of a bank begins to run. A runner may add such lines to those of the machine.
abbrev pub is_ran : TraceLine → Bool
is_ran (line.Ran pc word sp sreg) = true
is_ran _ = false

-- the lines without those
abbrev pub without_ran : List TraceLine → List TraceLine
without_ran lines = filter (λ l. not (is_ran l)) lines

-- Kernel and runner after a unit, the lines that it wrote, and how it ended, where the runner is an R.
pub record ActedBy (R : Type 0) : Type 0 where
  pub kernel : KernelState
  pub runner : R
  pub lines : List TraceLine
  pub ending : UnitEnd

-- The same where the machine sees of the runner a part alone: the units of each domain, and which one is next.
abbrev pub seen_by : {R : Type 0} → (R → RunnerState) → ActedBy R → Acted
seen_by part got =
    record { kernel = got.kernel; runner = part got.runner; lines = got.lines; ending = got.ending }

-- and without the lines of instructions
abbrev pub without_ran_lines : Acted → Acted
without_ran_lines got = record got { lines = without_ran got.lines }

-- What a runner of the type R does, as a unit of the machine.
abbrev pub unit_by : {R : Type 0} → (R → RunnerState) → ActedBy R → Acted
unit_by part got = without_ran_lines (seen_by part got)
