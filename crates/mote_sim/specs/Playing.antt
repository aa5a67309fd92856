-- What putting the lines of a run comes to.
use Rattle.std.specs.Prelude.{◌≡◌, ℕ, Bool, List, Option, Result, OnOk, OnErr}
use Rattle.mote_base.specs.Written.{Wrote, Broke}
use Rattle.domain_model.specs.declared.line.TraceLine.{TraceLine}
use Rattle.domain_model.specs.Good.{Good}
use Rattle.domain_model.specs.State.{Input}
use Rattle.trace_text.specs.Text.{texts}
use Rattle.word_run.specs.FlashValue.{FlashValue, part}
use Rattle.mod_loader.specs.Banks.{Readied}
use Rattle.mote_core.specs.Value.{MoteValue, state_of}
use Rattle.mote_sim.specs.Turns.{EndsAt, LeadsTo}
use Rattle.mote_sim.specs.WordRun.{AreReadied, by_words, word_start}

-- All lines of a mote's run were put, and it stands at the end of the run.
pub record Played {K : Type 0} (written : K → Option (List ℕ)) (faults : K → ℕ) (leads : K → List ℕ → Bool → K → Type 0) (old new : K) (first last : MoteValue FlashValue) : Type 0 where
  pub lines : List TraceLine
  pub run : EndsAt by_words first lines last
  pub wrote : Wrote written faults leads old new (texts lines)

-- A put failed among the lines of the turns that were made, and the mote stands behind them. So it failed within the text of the whole
-- run, if there is one.
pub record Stopped {K : Type 0} (written : K → Option (List ℕ)) (faults : K → ℕ) (leads : K → List ℕ → Bool → K → Type 0) (old new : K) (first now : MoteValue FlashValue) : Type 0 where
  pub lines : List TraceLine
  pub turns : LeadsTo by_words first lines now
  pub broke : Broke written faults leads old new (texts lines)
  pub within : (whole : List TraceLine) (last : MoteValue FlashValue) → EndsAt by_words first whole last → Broke written faults leads old new (texts whole)

pub record Plays {K T E : Type 0} (written : K → Option (List ℕ)) (faults : K → ℕ) (leads : K → List ℕ → Bool → K → Type 0) (old new : K) (first now : MoteValue FlashValue) (result : Result T E) : Type 0 where
  pub played : OnOk result (Played written faults leads old new first now)
  pub stopped : OnErr result (Stopped written faults leads old new first now)

-- A mote stands where the word run of the input begins.
pub record StandsAt (m : MoteValue FlashValue) (i : Input) (words : Bool) : Type 0 where
  pub images : List Readied
  pub readied : AreReadied i.images images
  pub starts : m ≡ word_start i images words
  pub good : Good (state_of part m)
