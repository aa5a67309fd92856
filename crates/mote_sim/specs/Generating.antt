-- A run of what a seed makes, summed up.
use Rattle.std.specs.Prelude.{◌≡◌, ℕ, false, List}
use Rattle.domain_model.specs.declared.line.TraceLine.{TraceLine}
use Rattle.domain_model.specs.State.{State, Input}
use Rattle.domain_model.specs.Turn.{RunBy, over, more}
use Rattle.word_run.specs.FlashValue.{FlashValue, part}
use Rattle.mote_gen.specs.Generated.{generated}
use Rattle.mote_core.specs.Value.{MoteValue, state_of}
use Rattle.mote_sim.specs.declared.summary.Summary.{Summary}
use Rattle.mote_sim.specs.Summary.{summary_of, summary_text}
use Rattle.mote_sim.specs.Trace.{IsLawfulRun}
use Rattle.mote_sim.specs.Turns.{EndsAt}
use Rattle.mote_sim.specs.WordRun.{IsWordRun, by_words}

-- the state in which the turns of a run come to its end
abbrev pub last_of : {T : State → State → List TraceLine → Type 0} {s : State} {lines : List TraceLine} → RunBy T s lines → State
last_of {s = s} (over ended) = s
last_of (more t lines rest live turn run) = last_of run

-- It sums up the run of a mote, which comes to that other one.
pub record SumsUpFrom (first last : MoteValue FlashValue) (summary : Summary) : Type 0 where
  pub lines : List TraceLine
  pub run : EndsAt by_words first lines last
  pub is : summary ≡ summary_of lines (state_of part last)

-- It sums up the word run of this input, which is a lawful run of the machine. (Its instructions are not told.)
pub record SumsUp (i : Input) (summary : Summary) : Type 0 where
  pub lines : List TraceLine
  pub exact : IsWordRun i false lines
  pub run : IsLawfulRun i lines
  pub is : summary ≡ summary_of lines (last_of run.lawful)

-- The text of the summary of a run of what the seed makes.
pub record IsSummaryOf (seed : ℕ) (text : List ℕ) : Type 0 where
  pub summary : Summary
  pub sums_up : SumsUp (generated seed) summary
  pub spelled : text ≡ summary_text seed summary
