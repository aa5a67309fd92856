-- What the program has to answer.
use Rattle.std.specs.Prelude.{◌≡◌, ℕ, Bool, List, [], ◌∷◌, length, codes, Option, Some, None}
use Rattle.mote_base.specs.Files.{Named}
use Rattle.mote_base.specs.declared.fault.Status.{Status}
use Rattle.mote_base.specs.declared.fault.Status.TheVariants.{Done, Usage, Refused}
use Rattle.command_line.specs.declared.command.Kind.{Kind}
use Rattle.command_line.specs.declared.command.Kind.TheVariants as kinds
use Rattle.command_line.specs.declared.command.Tool.{Tool}
use Rattle.domain_model.specs.declared.script.Event.{Event}
use Rattle.command_line.specs.Command.{Command}
use Rattle.domain_model.specs.State.{Input}
use Rattle.event_script.specs.declared.error.ScriptError.{ScriptError}
use Rattle.event_script.specs.Refusals.{refusal_of, events_of}
use Rattle.mote_sim.specs.Generating.{IsSummaryOf}
use Rattle.mote_sim.specs.Reading.{Gathered, Whole, Longer, Missing, gathered}
use Rattle.mote_sim.specs.Refusal.{Refusal, TooLong, BadScript, line_of}
use Rattle.mote_sim.specs.Tools.{TellsOf}
use Rattle.mote_sim.specs.Trace.{IsTraceOf, run_input}

-- The words are no command; a file of the command isn't held; the command refuses its files; this input is run, and its
-- instructions are told or not; this tool works on the file of these bytes; or what this seed makes is run.
pub data Outcome : Type 0 where
  NoCommand : Outcome
  Unheld : Outcome
  Refuses : Refusal → Outcome
  Runs : Input → Bool → Outcome
  Makes : Tool → List ℕ → Outcome
  Generates : ℕ → Outcome

-- A script is refused before its images are looked at. It loads images by their numbers, so how many there are decides
-- whether its lines are events.
abbrev pub outcome_of_script : ℕ → ℕ → Bool → Option ScriptError → List Event → List (List ℕ) → Outcome
outcome_of_script units handler words (Some e) events images = Refuses (BadScript e)
outcome_of_script units handler words None events images = Runs (run_input units handler images events) words

-- By the bytes of a command's files: of `run` a script and its images, of a tool one file, of `gen` none. (No command has
-- other numbers of files.)
abbrev pub outcome_by : Kind → List (List ℕ) → Outcome
outcome_by (kinds.Run units handler words) (script ∷ images) =
    outcome_of_script units handler words (refusal_of (length images) script) (events_of script) images
outcome_by (kinds.Run units handler words) [] = Unheld
outcome_by (kinds.Tool tool) (file ∷ []) = Makes tool file
outcome_by (kinds.Tool tool) _ = Unheld
outcome_by (kinds.Generation seed) files = Generates seed

-- The size comes before all that the bytes say.
abbrev pub outcome_of : Kind → Gathered → Outcome
outcome_of kind (Whole files) = outcome_by kind files
outcome_of kind (Longer number) = Refuses (TooLong number)
outcome_of kind Missing = Unheld

-- What the words come to over a shelf that holds these files.
abbrev pub outcome : Option Command → List Named → Outcome
outcome None files = NoCommand
outcome (Some command) files = outcome_of command.kind (gathered command files)

abbrev pub usage_line : List ℕ
usage_line = codes "mote: usage\n"

-- The status and the whole output that answer.
abbrev pub Answers : Outcome → Status → List ℕ → Type 0
Answers NoCommand status text = (status ≡ Usage) × (text ≡ usage_line)
Answers Unheld status text = ⊥
Answers (Refuses refusal) status text = (status ≡ Refused) × (text ≡ line_of refusal)
Answers (Runs i words) status text = (status ≡ Done) × IsTraceOf i words text
Answers (Makes tool file) status text = TellsOf tool file status text
Answers (Generates seed) status text = (status ≡ Done) × IsSummaryOf seed text

-- The files, read in the order of the words, come to this outcome. Their bytes are what came by the calls of the shelf;
-- and where it tells its files they are those.
pub record Finds (files : Option (List Named)) (came : Gathered → Type 0) (command : Command) (found : Outcome) : Type 0 where
  pub bytes : Gathered
  pub read : came bytes
  pub is : found ≡ outcome_of command.kind bytes
  pub told : (fs : List Named) → files ≡ Some fs → gathered command fs ≡ bytes

abbrev pub MayFind : Option (List Named) → (Command → Gathered → Type 0) → Option Command → Outcome → Type 0
MayFind files came None found = found ≡ NoCommand
MayFind files came (Some command) found = Finds files (came command) command found

-- The status and the output answer these words over this shelf, by what came of the files of each command.
pub record AnswersOver (files : Option (List Named)) (came : Command → Gathered → Type 0) (command : Option Command) (status : Status) (text : List ℕ) : Type 0 where
  pub found : Outcome
  pub may : MayFind files came command found
  pub answer : Answers found status text
