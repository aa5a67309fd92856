-- The summary of a run.
use Rattle.std.specs.Prelude.{ℕ, ◌+◌, ◌^◌, ◌<◌, Bool, true, false, List, [], ◌++◌, codes}
use Rattle.std.specs.List.{count_by}
use Rattle.domain_model.specs.declared.event.Turned.{Turned}
use Rattle.domain_model.specs.declared.event.Turned.TheVariants.{More, EndIdle, EndBudget}
use Rattle.domain_model.specs.declared.line.TraceLine.{TraceLine}
use Rattle.domain_model.specs.declared.line.TraceLine.TheVariants as line
use Rattle.domain_model.specs.State.{State}
use Rattle.mote_sim.specs.declared.summary.Summary.{Summary}
use Rattle.mote_sim.specs.declared.tally.Tally.{Tally}
use Rattle.mote_sim.specs.Fields.{field}

-- The kinds of lines that are counted: a module was loaded, a handler began, an interrupt was queued or dropped, and a handler
-- was stopped.
abbrev pub is_load : TraceLine → Bool
is_load (line.Load time id domain state) = true
is_load _ = false

abbrev pub is_run : TraceLine → Bool
is_run (line.Run time id sort from) = true
is_run _ = false

abbrev pub is_queued : TraceLine → Bool
is_queued (line.Queued time id sort) = true
is_queued _ = false

abbrev pub is_drop : TraceLine → Bool
is_drop (line.Dropped time why id sort) = true
is_drop _ = false

abbrev pub is_fault : TraceLine → Bool
is_fault (line.Fault time rule id unit address) = true
is_fault _ = false

-- how many of the lines are of each kind
abbrev pub tally_of : List TraceLine → Tally
tally_of lines = record {
  loads = count_by is_load lines;
  runs = count_by is_run lines;
  queued = count_by is_queued lines;
  drops = count_by is_drop lines;
  faults = count_by is_fault lines;
}

-- A tally with further lines, and a tally whose numbers can be kept.
abbrev pub with_lines : Tally → List TraceLine → Tally
with_lines t lines = record {
  loads = t.loads + count_by is_load lines;
  runs = t.runs + count_by is_run lines;
  queued = t.queued + count_by is_queued lines;
  drops = t.drops + count_by is_drop lines;
  faults = t.faults + count_by is_fault lines;
}

pub record IsKept (t : Tally) : Type 0 where
  pub loads : t.loads < 2 ^ 64
  pub runs : t.runs < 2 ^ 64
  pub queued : t.queued < 2 ^ 64
  pub drops : t.drops < 2 ^ 64
  pub faults : t.faults < 2 ^ 64

-- By the lines of a run and its last state: how many units ran, how many lines of each kind it has, and how it ended.
abbrev pub summary_of : List TraceLine → State → Summary
summary_of lines last = record { units = last.total; tally = tally_of lines; ended = last.ended }

-- The text.

-- a line of a name and a number
abbrev pub entry : List ℕ → ℕ → List ℕ
entry name number = name ++ field number ++ codes "\n"

-- the line of the end (a run that goes on has none)
abbrev pub end_line : Turned → List ℕ
end_line More = []
end_line EndIdle = codes "end idle\n"
end_line EndBudget = codes "end budget\n"

-- The eight lines of a summary, with the seed from which the run was made.
abbrev pub summary_text : ℕ → Summary → List ℕ
summary_text seed s =
    entry (codes "seed") seed
    ++ entry (codes "units") s.units
    ++ entry (codes "load") s.tally.loads
    ++ entry (codes "run") s.tally.runs
    ++ entry (codes "queued") s.tally.queued
    ++ entry (codes "drop") s.tally.drops
    ++ entry (codes "fault") s.tally.faults
    ++ end_line s.ended
