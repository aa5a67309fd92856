-- What the clauses of the top call say.
use Rattle.std.specs.Prelude.{◌≡◌, ℕ, ◌≤◌, Bool, false, List, [], ◌∷◌, ◌++◌, length, Option, Some, None, Result, Ok, Err, ⊤}
use Rattle.mote_base.specs.Files.{Named, held}
use Rattle.mote_base.specs.Written.{Grows, IsStartOf}
use Rattle.mote_base.specs.declared.fault.Status.{Status}
use Rattle.mote_base.specs.declared.fault.Status.TheVariants as status
use Rattle.mote_layout.specs.Limits.{script_limit, image_limit, images_limit}
use Rattle.module_image.specs.Reading.{image_of}
use Rattle.module_image.specs.Spelling.{spelling}
use Rattle.command_line.specs.declared.command.Tool.{Tool}
use Rattle.domain_model.specs.declared.script.Event.{Event}
use Rattle.domain_model.specs.declared.line.TraceLine.{TraceLine}
use Rattle.domain_model.specs.Runners.{without_ran}
use Rattle.command_line.specs.declared.command.Kind.TheVariants as kinds
use Rattle.command_line.specs.Command.{limit_of}
use Rattle.event_script.specs.Refusals.{refusal_of, events_of}
use Rattle.trace_text.specs.Text.{texts}
use Rattle.avr_asm.specs.Assembly.{IsImageOf}
use Rattle.harbor_rewrite.specs.Rewritten.{IsRewritten, SpellsOriginal}
use Rattle.mote_sim.specs.Generating.{IsSummaryOf}
use Rattle.mote_sim.specs.Listing.{listing_text}
use Rattle.mote_sim.specs.Outcome.{Outcome, NoCommand, Unheld, Refuses, Runs, Makes, Generates, Answers}
use Rattle.mote_sim.specs.Refusal.{Refusal, line_of}
use Rattle.mote_sim.specs.Tools.{Output, Lists, Writes, Rewrites, Counts, Assembles, Says, IsMadeBy, verdict_line}
use Rattle.mote_sim.specs.Trace.{IsLawfulRun, run_input}
use Rattle.mote_sim.specs.WordRun.{IsWordRun}

-- These are the bytes of the images of these names: each image is held, and within the limit of an image.
abbrev pub AreImages : List Named → List (List ℕ) → List (List ℕ) → Type 0
AreImages files [] [] = ⊤
AreImages files [] (image ∷ images) = ⊥
AreImages files (name ∷ names) [] = ⊥
AreImages files (name ∷ names) (image ∷ images) =
    (held files name ≡ Some image) × (length image ≤ image_limit) × AreImages files names images

-- The files of `run` are a script and one image or more, up to their limit. Each was read whole and is within its
-- limit, the script is not refused, and the bytes that were added are the text of the word run of them within these
-- limits, whatever the images hold. Without the lines of instructions, of which there are none where they aren't asked
-- for, its lines are a lawful run of the machine.
pub record WritesRun (units handler : ℕ) (words : Bool) (names : List (List ℕ)) (files : List Named) (before : List ℕ) (new : Option (List ℕ)) : Type 0 where
  pub script_name : List ℕ
  pub image_names : List (List ℕ)
  pub named : names ≡ script_name ∷ image_names
  pub least : 1 ≤ length image_names
  pub most : length image_names ≤ images_limit
  pub script : List ℕ
  pub script_held : held files script_name ≡ Some script
  pub script_fits : length script ≤ script_limit
  pub images : List (List ℕ)
  pub images_are : AreImages files image_names images
  pub events : List Event
  pub accepted : refusal_of (length images) script ≡ None
  pub events_are : events ≡ events_of script
  pub lines : List TraceLine
  pub exact : IsWordRun (run_input units handler images events) words lines
  pub run : IsLawfulRun (run_input units handler images events) (without_ran lines)
  pub plain : words ≡ false → without_ran lines ≡ lines
  pub written : new ≡ Some (before ++ texts lines)

-- What a tool wrote. The file of an image reads as that image.
abbrev pub Reads : Output → List ℕ → Type 0
Reads (Lists units places) text = text ≡ listing_text units places
Reads (Writes c) text = (text ≡ spelling c) × (image_of text ≡ Ok c)
Reads (Rewrites c) text = IsRewritten c text × SpellsOriginal c text
Reads (Counts count) text = text ≡ verdict_line count
Reads (Assembles source) text = IsImageOf source text
Reads (Says said) text = text ≡ said

-- The tool has one file, which was read whole and is within its limit. Nothing refuses it, and the bytes that were added
-- are what the tool makes of it.
pub record WritesTool (tool : Tool) (names : List (List ℕ)) (files : List Named) (before : List ℕ) (new : Option (List ℕ)) : Type 0 where
  pub name : List ℕ
  pub named : names ≡ name ∷ []
  pub file : List ℕ
  pub file_held : held files name ≡ Some file
  pub file_fits : length file ≤ limit_of (kinds.Tool tool) 0
  pub output : Output
  pub made : IsMadeBy tool file (Ok output)
  pub text : List ℕ
  pub reads : Reads output text
  pub written : new ≡ Some (before ++ text)

-- The bytes that were added are the summary of a run of what the seed makes.
pub record WritesSummary (seed : ℕ) (before : List ℕ) (new : Option (List ℕ)) : Type 0 where
  pub text : List ℕ
  pub sums_up : IsSummaryOf seed text
  pub written : new ≡ Some (before ++ text)

-- The command refuses its files, and the line that says why was added.
abbrev pub RefusesFiles : Outcome → Option (List ℕ) → Option (List ℕ) → Type 0
RefusesFiles NoCommand old new = ⊥
RefusesFiles Unheld old new = ⊥
RefusesFiles (Refuses refusal) old new = Grows old new (line_of refusal)
RefusesFiles (Runs i words) old new = ⊥
RefusesFiles (Generates seed) old new = ⊥
RefusesFiles (Makes tool file) old new = (refusal : Refusal) × IsMadeBy tool file (Err refusal) × Grows old new (line_of refusal)

-- The status that tells what a tool made.
abbrev pub HasToolStatus : Result Output Refusal → Status → Type 0
HasToolStatus (Ok output) s = s ≡ status.Done
HasToolStatus (Err refusal) s = s ≡ status.Refused

-- The status that answers where no call fails and memory is left. No status does where a file isn't held,
-- for then a call of the shelf fails.
abbrev pub HasStatus : Outcome → Status → Type 0
HasStatus NoCommand s = s ≡ status.Usage
HasStatus Unheld s = ⊥
HasStatus (Refuses refusal) s = s ≡ status.Refused
HasStatus (Runs i words) s = s ≡ status.Done
HasStatus (Generates seed) s = s ≡ status.Done
HasStatus (Makes tool file) s = (made : Result Output Refusal) × IsMadeBy tool file made × HasToolStatus made s

-- A front of an output that answers was added.
pub record WritesFront (found : Outcome) (before : List ℕ) (new : Option (List ℕ)) : Type 0 where
  pub status : Status
  pub text : List ℕ
  pub answer : Answers found status text
  pub front : List ℕ
  pub is_front : IsStartOf front text
  pub written : new ≡ Some (before ++ front)
