-- What Done says of the tools: the commands that take one file.
use Rattle.std.proofs.Common.{◌≡◌, ℕ, ◌≤◌, refl, subst, List, [], ◌∷◌, ◌++◌, length, Option, Some, Result, Ok, Err}
use Rattle.std.specs.Prelude.{IsTrue, ◌==◌}
use Rattle.mote_base.specs.Files.{Named, held}
use Rattle.mote_base.specs.declared.fault.Status.TheVariants.{Done, Refused}
use Rattle.module_image.specs.Reading.{image_of}
use Rattle.module_image.proofs.Images.{image_read}
use Rattle.command_line.specs.declared.command.Kind.{Kind}
use Rattle.command_line.specs.declared.command.Kind.TheVariants as kinds
use Rattle.command_line.specs.declared.command.Tool.{Tool}
use Rattle.command_line.specs.Command.{limit_of}
use Rattle.mote_sim.specs.Clauses.{Reads, WritesTool}
use Rattle.mote_sim.specs.Outcome.{outcome_of, outcome_by, Answers}
use Rattle.mote_sim.specs.Reading.{Whole, gathered_from}
use Rattle.mote_sim.specs.Refusal.{Refusal}
use Rattle.mote_sim.specs.Tools.{Output, Lists, Writes, Rewrites, Counts, Assembles, Says, IsOutput, IsMadeBy, Tells}
use Rattle.mote_sim.proofs.Counts.{HasItsFiles, one_alone}
use Rattle.mote_sim.proofs.Inversion.{first_of, all_whole}

-- The one file of a command, and what answers for it.
record One (kind : Kind) (fs : List Named) (names : List (List ℕ)) (text : List ℕ) : Type 0 where
  pub name : List ℕ
  pub named : names ≡ name ∷ []
  pub bytes : List ℕ
  pub is_held : held fs name ≡ Some bytes
  pub fits : length bytes ≤ limit_of kind 0
  pub answer : Answers (outcome_by kind (bytes ∷ [])) Done text

alone : (kind : Kind) (files rest : List (List ℕ)) (bytes text : List ℕ) → files ≡ bytes ∷ rest → Whole [] ≡ Whole rest → Answers (outcome_by kind files) Done text → Answers (outcome_by kind (bytes ∷ [])) Done text
alone kind files rest bytes text is none a =
    let one : files ≡ bytes ∷ [] = cc in subst (λ xs. Answers (outcome_by kind xs) Done text) one a

one_file : (kind : Kind) (fs : List Named) (names : List (List ℕ)) (text : List ℕ) → IsTrue (length names == 1) → Answers (outcome_of kind (gathered_from kind 0 fs names)) Done text → One kind fs names text
one_file kind fs [] text few a = absurd (cc)
one_file kind fs (name ∷ []) text few a =
    let w = all_whole kind (gathered_from kind 0 fs (name ∷ [])) text a in
    let one = first_of 0 (limit_of kind 0) (held fs name) (Whole []) w.files w.is in
    record {
      name = name;
      named = refl;
      bytes = one.bytes;
      is_held = one.held;
      fits = one.fits;
      answer = alone kind w.files one.rest one.bytes text one.files_are one.others_are w.answer;
    }
one_file kind fs (name ∷ other ∷ names) text few a = absurd (one_alone (length names) few)

-- What is written with Done is an output.
record MakesOutput (tool : Tool) (file text : List ℕ) : Type 0 where
  pub output : Output
  pub is : IsMadeBy tool file (Ok output)
  pub written : IsOutput output text

made_output : (tool : Tool) (file text : List ℕ) (made : Result Output Refusal) → IsMadeBy tool file made → Tells made Done text → MakesOutput tool file text
made_output tool file text (Ok output) is told = record { output = output; is = is; written = told.1 }
made_output tool file text (Err refusal) is told = let e : Done ≡ Refused = told.0 in absurd (cc)

-- The file of an image reads as that image.
reads : (output : Output) (text : List ℕ) → IsOutput output text → Reads output text
reads (Lists units places) text is = is
reads (Rewrites c) text is = is
reads (Counts count) text is = is
reads (Assembles source) text is = is
reads (Says said) text is = is
reads (Writes c) text is = (is.spelled, image_read text (image_of text) c refl is)

tool_writes : (tool : Tool) (fs : List Named) (names : List (List ℕ)) (text before : List ℕ) (new : Option (List ℕ)) (one : One (kinds.Tool tool) fs names text) → MakesOutput tool one.bytes text → new ≡ Some (before ++ text) → WritesTool tool names fs before new
tool_writes tool fs names text before new one m written =
    record {
      name = one.name;
      named = one.named;
      file = one.bytes;
      file_held = one.is_held;
      file_fits = one.fits;
      output = m.output;
      made = m.is;
      text = text;
      reads = reads m.output text m.written;
      written = written;
    }

pub writes_tool : (tool : Tool) (fs : List Named) (names : List (List ℕ)) (text before : List ℕ) (new : Option (List ℕ)) → HasItsFiles (record { kind = kinds.Tool tool; files = names }) → Answers (outcome_of (kinds.Tool tool) (gathered_from (kinds.Tool tool) 0 fs names)) Done text → new ≡ Some (before ++ text) → WritesTool tool names fs before new
writes_tool tool fs names text before new few a written =
    let one = one_file (kinds.Tool tool) fs names text few a in
    tool_writes tool fs names text before new one (made_output tool one.bytes text one.answer.made one.answer.is_made one.answer.told) written
