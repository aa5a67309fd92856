-- What an answer says of the files and of the words.
use Rattle.std.proofs.Common.{◌≡◌, ◌∙◌, ℕ, zero, suc, ◌+◌, ◌≤◌, refl, sym, ap, subst, arith, Bool, true, false, nat_lt, if◌then◌else◌, List, [], ◌∷◌, ◌++◌, length, Option, Some, None, Result, Ok, Err}
use Rattle.std.proofs.Math.Dec.{eqb-suc-zero}
use Rattle.std.proofs.lemmas.Bool.{ltb-false}
use Rattle.mote_base.specs.Files.{Named, held}
use Rattle.mote_base.specs.Written.{Grows}
use Rattle.mote_base.specs.declared.fault.Status.{Status}
use Rattle.mote_base.specs.declared.fault.Status.TheVariants.{Done, Usage, Refused}
use Rattle.mote_layout.specs.Limits.{script_limit, image_limit}
use Rattle.domain_model.specs.declared.script.Event.{Event}
use Rattle.command_line.specs.declared.command.Kind.{Kind}
use Rattle.command_line.specs.declared.command.Kind.TheVariants as kinds
use Rattle.command_line.specs.declared.command.Tool.{Tool}
use Rattle.command_line.specs.Command.{Command, limit_of}
use Rattle.event_script.specs.declared.error.ScriptError.{ScriptError}
use Rattle.event_script.specs.Refusals.{refusal_of, events_of}
use Rattle.mote_sim.specs.Clauses.{AreImages, WritesRun, RefusesFiles, HasStatus, HasToolStatus}
use Rattle.mote_sim.specs.Outcome.{Outcome, NoCommand, Unheld, Refuses, Runs, Makes, Generates, outcome, outcome_of, outcome_by, outcome_of_script, Answers, MayFind, AnswersOver, usage_line}
use Rattle.mote_sim.specs.Generating.{IsSummaryOf}
use Rattle.mote_sim.specs.Refusal.{Refusal}
use Rattle.mote_sim.specs.Tools.{Output, IsMadeBy, Tells}
use Rattle.mote_sim.specs.Reading.{Gathered, Whole, Longer, Missing, gathered_from, gathered_file, with_first}
use Rattle.mote_sim.specs.Trace.{IsTraceOf, run_input}
use Rattle.mote_sim.proofs.Counts.{HasItsFiles, one_at_least, most_images}

-- Where the shelf tells its files, what answers over the shelf answers for them.
found_is : (files : Option (List Named)) (came : Command → Gathered → Type 0) (command : Option Command) (fs : List Named) (found : Outcome) → files ≡ Some fs → MayFind files came command found → found ≡ outcome command fs
found_is files came None fs found told may = may
found_is files came (Some c) fs found told may = may.is ∙ ap (outcome_of c.kind) (sym (may.told fs told))

pub over_told : (files : Option (List Named)) (came : Command → Gathered → Type 0) (command : Option Command) (fs : List Named) (s : Status) (text : List ℕ) → files ≡ Some fs → AnswersOver files came command s text → Answers (outcome command fs) s text
over_told files came command fs s text told a = subst (λ found. Answers found s text) (found_is files came command fs a.found told a.may) a.answer

-- The first of files that are all whole is held, and within its limit.
pub record First (limit : ℕ) (content : Option (List ℕ)) (others : Gathered) (files : List (List ℕ)) : Type 0 where
  pub bytes : List ℕ
  pub held : content ≡ Some bytes
  pub fits : length bytes ≤ limit
  pub rest : List (List ℕ)
  pub others_are : others ≡ Whole rest
  pub files_are : files ≡ bytes ∷ rest

first_whole : (limit : ℕ) (bytes : List ℕ) (others : Gathered) (files : List (List ℕ)) → length bytes ≤ limit → with_first bytes others ≡ Whole files → First limit (Some bytes) others files
first_whole limit bytes (Whole rest) files fits e =
    record { bytes = bytes; held = refl; fits = fits; rest = rest; others_are = refl; files_are = cc }
first_whole limit bytes (Longer n) files fits e = absurd (cc)
first_whole limit bytes Missing files fits e = absurd (cc)

first_within : (test : Bool) (number limit : ℕ) (bytes : List ℕ) (others : Gathered) (files : List (List ℕ)) → nat_lt limit (length bytes) ≡ test → (if test then Longer number else with_first bytes others) ≡ Whole files → First limit (Some bytes) others files
first_within true number limit bytes others files is e = absurd (cc)
first_within false number limit bytes others files is e = first_whole limit bytes others files (ltb-false limit (length bytes) is) e

pub first_of : (number limit : ℕ) (content : Option (List ℕ)) (others : Gathered) (files : List (List ℕ)) → gathered_file number limit content others ≡ Whole files → First limit content others files
first_of number limit None others files e = absurd (cc)
first_of number limit (Some bytes) others files e = first_within (nat_lt limit (length bytes)) number limit bytes others files refl e

-- Files that are answered by Done are all whole.
pub record AllWhole (kind : Kind) (found : Gathered) (text : List ℕ) : Type 0 where
  pub files : List (List ℕ)
  pub is : found ≡ Whole files
  pub answer : Answers (outcome_by kind files) Done text

pub all_whole : (kind : Kind) (found : Gathered) (text : List ℕ) → Answers (outcome_of kind found) Done text → AllWhole kind found text
all_whole kind (Whole files) text a = record { files = files; is = refl; answer = a }
all_whole kind (Longer n) text a = let e : Done ≡ Refused = a.0 in absurd (cc)
all_whole kind Missing text a = absurd a

-- What files other than the first come to: they are images within their limit.
later_limit : (units handler : ℕ) (words : Bool) (number : ℕ) → 1 ≤ number → limit_of (kinds.Run units handler words) number ≡ image_limit
later_limit units handler words zero low = absurd (omega (arith, low))
later_limit units handler words (suc n) low = ap (λ t. if t then script_limit else image_limit) (eqb-suc-zero n)

images_whole : (units handler : ℕ) (words : Bool) (number : ℕ) (fs : List Named) (names files : List (List ℕ)) → 1 ≤ number → gathered_from (kinds.Run units handler words) number fs names ≡ Whole files → AreImages fs names files
images_whole units handler words number fs [] [] low e = tt
images_whole units handler words number fs [] (file ∷ files) low e = absurd (cc)
images_whole units handler words number fs (name ∷ names) files low e =
    let one = first_of number (limit_of (kinds.Run units handler words) number) (held fs name) (gathered_from (kinds.Run units handler words) (number + 1) fs names) files e in
    let others = images_whole units handler words (number + 1) fs names one.rest (omega (arith, low)) one.others_are in
    subst (AreImages fs (name ∷ names)) (sym one.files_are)
    (one.held, subst (λ limit. length one.bytes ≤ limit) (later_limit units handler words number low) one.fits, others)

-- A run that is answered by Done has a script that is not refused.
record Ran (units handler : ℕ) (words : Bool) (images : List (List ℕ)) (events : List Event) (refused : Option ScriptError) (text : List ℕ) : Type 0 where
  pub none : refused ≡ None
  pub trace : IsTraceOf (run_input units handler images events) words text

ran : (units handler : ℕ) (words : Bool) (images : List (List ℕ)) (events : List Event) (refused : Option ScriptError) (text : List ℕ) → Answers (outcome_of_script units handler words refused events images) Done text → Ran units handler words images events refused text
ran units handler words images events (Some error) text a = let e : Done ≡ Refused = a.0 in absurd (cc)
ran units handler words images events None text a = record { none = refl; trace = a.1 }

ran_from : (units handler : ℕ) (words : Bool) (files images : List (List ℕ)) (script text : List ℕ) → files ≡ script ∷ images → Answers (outcome_by (kinds.Run units handler words) files) Done text → Ran units handler words images (events_of script) (refusal_of (length images) script) text
ran_from units handler words files images script text is a =
    ran units handler words images (events_of script) (refusal_of (length images) script) text (subst (λ xs. Answers (outcome_by (kinds.Run units handler words) xs) Done text) is a)

pub writes_run : (units handler : ℕ) (words : Bool) (fs : List Named) (names : List (List ℕ)) (text before : List ℕ) (new : Option (List ℕ)) → HasItsFiles (record { kind = kinds.Run units handler words; files = names }) → Answers (outcome_of (kinds.Run units handler words) (gathered_from (kinds.Run units handler words) 0 fs names)) Done text → new ≡ Some (before ++ text) → WritesRun units handler words names fs before new
writes_run units handler words fs [] text before new few a written = absurd a
writes_run units handler words fs (s ∷ names) text before new few a written =
    let w = all_whole (kinds.Run units handler words) (gathered_from (kinds.Run units handler words) 0 fs (s ∷ names)) text a in
    let one = first_of 0 (limit_of (kinds.Run units handler words) 0) (held fs s) (gathered_from (kinds.Run units handler words) 1 fs names) w.files w.is in
    let r = ran_from units handler words w.files one.rest one.bytes text one.files_are w.answer in
    record {
      script_name = s;
      image_names = names;
      named = refl;
      least = one_at_least units handler words (length names) few;
      most = most_images units handler words (length names) few;
      script = one.bytes;
      script_held = one.held;
      script_fits = one.fits;
      images = one.rest;
      images_are = images_whole units handler words 1 fs names one.rest (omega arith) one.others_are;
      accepted = r.none;
      events = events_of one.bytes;
      events_are = refl;
      lines = r.trace.lines;
      exact = r.trace.exact;
      run = r.trace.run;
      plain = r.trace.plain;
      written = written ∙ ap (λ t. Some (before ++ t)) r.trace.spelled;
    }

-- What is answered by Done where a seed was asked for is a summary, whatever came of files.
pub generated_by : (seed : ℕ) (found : Gathered) (text : List ℕ) → Answers (outcome_of (kinds.Generation seed) found) Done text → IsSummaryOf seed text
generated_by seed (Whole files) text a = a.1
generated_by seed (Longer n) text a = let e : Done ≡ Refused = a.0 in absurd (cc)
generated_by seed Missing text a = absurd a

-- Usage tells of no tool.
not_usage : (made : Result Output Refusal) (text : List ℕ) → Tells made Usage text → ⊥
not_usage (Ok output) text told = let e : Usage ≡ Done = told.0 in absurd (cc)
not_usage (Err refusal) text told = let e : Usage ≡ Refused = told.0 in absurd (cc)

-- Usage answers no command alone.
usage_outcome : (found : Outcome) (text : List ℕ) → Answers found Usage text → (found ≡ NoCommand) × (text ≡ usage_line)
usage_outcome NoCommand text a = (refl, a.1)
usage_outcome Unheld text a = absurd a
usage_outcome (Refuses refusal) text a = let e : Usage ≡ Refused = a.0 in absurd (cc)
usage_outcome (Runs i words) text a = let e : Usage ≡ Done = a.0 in absurd (cc)
usage_outcome (Generates seed) text a = let e : Usage ≡ Done = a.0 in absurd (cc)
usage_outcome (Makes tool file) text a = absurd (not_usage a.made text a.told)

script_is_command : (units handler : ℕ) (words : Bool) (refused : Option ScriptError) (events : List Event) (images : List (List ℕ)) → outcome_of_script units handler words refused events images ≡ NoCommand → ⊥
script_is_command units handler words (Some error) events images e = cc
script_is_command units handler words None events images e = cc

by_is_command : (kind : Kind) (files : List (List ℕ)) → outcome_by kind files ≡ NoCommand → ⊥
by_is_command (kinds.Run units handler words) [] e = cc
by_is_command (kinds.Run units handler words) (script ∷ images) e = script_is_command units handler words (refusal_of (length images) script) (events_of script) images e
by_is_command (kinds.Tool tool) [] e = cc
by_is_command (kinds.Tool tool) (file ∷ []) e = cc
by_is_command (kinds.Tool tool) (file ∷ other ∷ files) e = cc
by_is_command (kinds.Generation seed) files e = cc

is_command : (kind : Kind) (found : Gathered) → outcome_of kind found ≡ NoCommand → ⊥
is_command kind (Whole files) e = by_is_command kind files e
is_command kind (Longer n) e = cc
is_command kind Missing e = cc

no_command : (files : Option (List Named)) (came : Command → Gathered → Type 0) (command : Option Command) (found : Outcome) → found ≡ NoCommand → MayFind files came command found → command ≡ None
no_command files came None found is may = refl
no_command files came (Some c) found is may = absurd (is_command c.kind may.bytes (sym may.is ∙ is))

pub usage_answers : (files : Option (List Named)) (came : Command → Gathered → Type 0) (command : Option Command) (text : List ℕ) → AnswersOver files came command Usage text → (command ≡ None) × (text ≡ usage_line)
usage_answers files came command text a =
    let u = usage_outcome a.found text a.answer in (no_command files came command a.found u.0 a.may, u.1)

-- Refused tells of a refusal of the tool, with its line.
tool_refuses : (tool : Tool) (file text : List ℕ) (old new : Option (List ℕ)) (made : Result Output Refusal) → IsMadeBy tool file made → Tells made Refused text → Grows old new text → RefusesFiles (Makes tool file) old new
tool_refuses tool file text old new (Ok output) is told grows = let e : Refused ≡ Done = told.0 in absurd (cc)
tool_refuses tool file text old new (Err refusal) is told grows = (refusal, is, subst (λ t. Grows old new t) told.1 grows)

tool_status : (made : Result Output Refusal) (s : Status) (text : List ℕ) → Tells made s text → HasToolStatus made s
tool_status (Ok output) s text told = told.0
tool_status (Err refusal) s text told = told.0

-- Refused answers a refusal, with its line.
pub refuses : (found : Outcome) (text : List ℕ) (old new : Option (List ℕ)) → Answers found Refused text → Grows old new text → RefusesFiles found old new
refuses NoCommand text old new a grows = let e : Refused ≡ Usage = a.0 in absurd (cc)
refuses Unheld text old new a grows = absurd a
refuses (Refuses refusal) text old new a grows = subst (λ t. Grows old new t) a.1 grows
refuses (Runs i words) text old new a grows = let e : Refused ≡ Done = a.0 in absurd (cc)
refuses (Generates seed) text old new a grows = let e : Refused ≡ Done = a.0 in absurd (cc)
refuses (Makes tool file) text old new a grows = tool_refuses tool file text old new a.made a.is_made a.told grows

-- Each answer has the status of its outcome.
pub has_status : (found : Outcome) (s : Status) (text : List ℕ) → Answers found s text → HasStatus found s
has_status NoCommand s text a = a.0
has_status Unheld s text a = a
has_status (Refuses refusal) s text a = a.0
has_status (Runs i words) s text a = a.0
has_status (Generates seed) s text a = a.0
has_status (Makes tool file) s text a = (a.made, a.is_made, tool_status a.made s text a.told)
