-- The turns of a mote one after the other, in the values of its own runner.
use Rattle.std.specs.Prelude.{◌≡◌, ◌≢◌, ℕ, zero, suc, List, [], ◌++◌}
use Rattle.domain_model.specs.declared.event.Turned.TheVariants.{More}
use Rattle.domain_model.specs.declared.line.TraceLine.{TraceLine}
use Rattle.mote_core.specs.Exact.{Turning, Workings, turned}
use Rattle.mote_core.specs.Value.{MoteValue}

-- One more turn behind others, with the lines of all.
abbrev pub one_more : {R : Type 0} → Workings R → Turning R → Turning R
one_more w t = record { value = (turned w t.value).value; lines = t.lines ++ (turned w t.value).lines }

-- So many turns of a mote.
abbrev pub turns : {R : Type 0} → Workings R → ℕ → MoteValue R → Turning R
turns w zero m = record { value = m; lines = [] }
turns w (suc count) m = one_more w (turns w count m)

-- Turns lead from one mote to another, and these are their lines, with those of the instructions that ran.
pub record LeadsTo {R : Type 0} (w : Workings R) (m : MoteValue R) (lines : List TraceLine) (now : MoteValue R) : Type 0 where
  pub count : ℕ
  pub are : turns w count m ≡ record { value = now; lines = lines }

-- They lead to an end.
pub record EndsAt {R : Type 0} (w : Workings R) (m : MoteValue R) (lines : List TraceLine) (last : MoteValue R) : Type 0 where
  pub leads : LeadsTo w m lines last
  pub ended : last.ended ≢ More
