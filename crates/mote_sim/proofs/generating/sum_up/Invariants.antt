use Rattle.std.proofs.Common.{◌≡◌}
use Rattle.domain_model.specs.Remaining.{remaining}
use Rattle.word_run.specs.FlashValue.{part}
use Rattle.mote_core.specs.Value.{state_of}
use Rattle.mote_sim.proofs.Counting.{Counted}
use Rattle.mote_sim.proofs.generating.sum_up.Given as goal

-- the lines up to here are counted
abbrev pub invariant-turns : goal.invariant-turns
invariant-turns l = record {
  ended : l.turned ≡ l.mote.ended;
  counted : Counted l.fn.mote l.mote l.tally;
}

abbrev pub decreases-turns : goal.decreases-turns
decreases-turns l = remaining (state_of part l.mote)
