-- The run of a unit's words, one instruction of the bank after the other.
use Rattle.std.specs.Prelude.{ℕ, zero, suc, nat_le, List, [], ◌∷◌, ◌++◌, Bool, true, false, Option, Some, None, Result, Ok, Err}
use Rattle.avr_isa.specs.declared.instruction.Instr.{Instr}
use Rattle.avr_isa.specs.declared.instruction.DecodeError.{DecodeError}
use Rattle.avr_machine.specs.Processor.{Processor as CountingProcessor}
use Rattle.avr_machine.specs.Effect.{effect}
use Rattle.avr_machine.specs.Flash.{Banks, word_at}
use Rattle.avr_machine.specs.Step.{advanced, fetched, following}
use Rattle.mote_layout.specs.Page.{page_start, entry_at}
use Rattle.mote_layout.specs.declared.page.Entry.{Entry}
use Rattle.domain_model.specs.declared.fault.UnitEnd.{UnitEnd}
use Rattle.domain_model.specs.declared.fault.UnitEnd.TheVariants.{On, Over}
use Rattle.domain_model.specs.declared.handler.Running.{Running}
use Rattle.domain_model.specs.declared.line.TraceLine.{TraceLine}
use Rattle.domain_model.specs.declared.line.TraceLine.TheVariants as line
use Rattle.domain_model.specs.State.{KernelState, at_counter, without_counter, with_processor}
use Rattle.domain_model.specs.Runners.{ActedBy}
use Rattle.word_run.specs.FlashValue.{FlashValue, entry_point, unit_at}
use Rattle.word_run.specs.Entries.{Way, Goes, Ends, Reached, going, ended, entry_row}

abbrev pub WordsActed : Type 0
WordsActed = ActedBy FlashValue

-- the most instructions of the bank that a unit runs
abbrev pub instruction_limit : ℕ
instruction_limit = 4

-- The processor after the instruction that is found at its PC. (Where none is, it does nothing.)
abbrev pub after_found : Result (Instr × ℕ) DecodeError → Banks → CountingProcessor → CountingProcessor
after_found (Ok found) flash c =
    effect found.0 (following flash (advanced c found.1).pc) (advanced c found.1)
after_found (Err e) flash c = c

abbrev pub after_one : Banks → CountingProcessor → CountingProcessor
after_one flash c = after_found (fetched flash c.pc) flash c

-- In the page the row of the entry is done, if one stands there.
abbrev pub at_entry : Option Entry → FlashValue → Running → KernelState → CountingProcessor → Reached
at_entry None v run k c = ended (with_processor k (without_counter c)) Over
at_entry (Some e) v run k c = entry_row e v run k c

abbrev pub arrived : Bool → FlashValue → Running → KernelState → CountingProcessor → Reached
arrived false v run k c = going (with_processor k (without_counter c)) c.pc
arrived true v run k c = at_entry (entry_at c.pc) v run k c

-- by where PC stands after an instruction
abbrev pub led_by : FlashValue → Running → KernelState → CountingProcessor → Reached
led_by v run k c = arrived (nat_le page_start c.pc) v run k c

-- One instruction of the bank, from a program address on, with the entry to which it may lead.
abbrev pub one_step : FlashValue → Running → KernelState → ℕ → Reached
one_step v run k address = led_by v run k (after_one v.flash (at_counter k.processor address))

-- the line of the instruction that begins to run
abbrev pub ran_lines : Bool → Banks → CountingProcessor → List TraceLine
ran_lines true flash c = line.Ran c.pc (word_at flash c.pc) c.sp c.sreg ∷ []
ran_lines false flash c = []

abbrev pub begun_lines : FlashValue → KernelState → ℕ → List TraceLine
begun_lines v k address = ran_lines v.tells v.flash (at_counter k.processor address)

-- these lines, and behind them those of the rest
abbrev pub behind : List TraceLine → WordsActed → WordsActed
behind lines rest = record rest { lines = lines ++ rest.lines }

-- the end of a unit that isn't another one's start
abbrev pub ends_as : UnitEnd → FlashValue → KernelState → WordsActed
ends_as ending v k = record { kernel = k; runner = v; lines = []; ending = ending }

-- another unit is next
abbrev pub lands_on : ℕ → FlashValue → KernelState → WordsActed
lands_on unit v k = record { kernel = k; runner = record v { unit = unit }; lines = []; ending = On }

-- The unit ends where the template of one starts. Elsewhere the words run on.
abbrev pub goes_from : Option ℕ → (Running → KernelState → ℕ → WordsActed) → FlashValue → Running → KernelState → ℕ → WordsActed
goes_from (Some unit) next v run k address = lands_on unit v k
goes_from None next v run k address = next run k address

-- That is looked for in the bank of the domain that then runs. (In a handler one does.)
abbrev pub goes_in : Option Running → (Running → KernelState → ℕ → WordsActed) → FlashValue → KernelState → ℕ → WordsActed
goes_in None next v k address = ends_as Over v k
goes_in (Some run) next v k address = goes_from (unit_at v run.domain address) next v run k address

abbrev pub goes_by : Way → (Running → KernelState → ℕ → WordsActed) → FlashValue → KernelState → WordsActed
goes_by (Ends ending) next v k = ends_as ending v k
goes_by (Goes address) next v k = goes_in k.running next v k address

-- with the lines that were written on the way
abbrev pub goes_on : Reached → (Running → KernelState → ℕ → WordsActed) → FlashValue → WordsActed
goes_on r next v = behind r.lines (goes_by r.way next v r.kernel)

-- At most so many instructions of the bank, from a program address on. (Where they are spent nothing is left to do.)
abbrev pub run_from : ℕ → FlashValue → Running → KernelState → ℕ → WordsActed
run_from zero v run k address = ends_as Over v k
run_from (suc n) v run k address = behind (begun_lines v k address) (goes_on (one_step v run k address) (run_from n v) v)

-- The next unit, from the start of its template in the bank of the domain that runs.
abbrev pub words_by : Option Running → KernelState → FlashValue → WordsActed
words_by None k v = ends_as Over v k
words_by (Some run) k v = run_from instruction_limit v run k (entry_point v run.domain v.unit)

-- What the words of the next unit do.
abbrev pub words_act : KernelState → FlashValue → WordsActed
words_act k v = words_by k.running k v
