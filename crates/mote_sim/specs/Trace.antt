-- The traces of a run.
use Rattle.std.specs.Prelude.{◌≡◌, ℕ, Bool, false, List}
use Rattle.domain_model.specs.declared.script.Event.{Event}
use Rattle.domain_model.specs.declared.line.TraceLine.{TraceLine}
use Rattle.domain_model.specs.Laws.{LawfulRunFrom}
use Rattle.domain_model.specs.Runners.{without_ran}
use Rattle.domain_model.specs.State.{Input}
use Rattle.trace_text.specs.Text.{texts}
use Rattle.domain_model.specs.Turn.{Run}
use Rattle.mote_sim.specs.WordRun.{IsWordRun}

-- What `run` gives the machine: the limits on the units of the run and of one handler, the bytes of the images and the
-- events of the script. Any bytes are an image's: what they come to shows at their loads.
abbrev pub run_input : ℕ → ℕ → List (List ℕ) → List Event → Input
run_input units handler images events =
    record { images = images; events = events; unit_limit = units; handler_limit = handler }

-- The lines of a run of the machine, of which each turn is lawful.
pub record IsLawfulRun (i : Input) (lines : List TraceLine) : Type 0 where
  pub run : Run i lines
  pub lawful : LawfulRunFrom run.first lines

-- The text of the lines of the word run of an input, with those of its instructions where they are asked for. Without these the lines are a
-- lawful run of the machine.
pub record IsTraceOf (i : Input) (words : Bool) (text : List ℕ) : Type 0 where
  pub lines : List TraceLine
  pub exact : IsWordRun i words lines
  pub run : IsLawfulRun i (without_ran lines)
  pub plain : words ≡ false → without_ran lines ≡ lines
  pub spelled : text ≡ texts lines
