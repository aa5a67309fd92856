use Rattle.mote_sim.proofs.WordLines.{texts_are_left}
use Rattle.mote_sim.proofs.WordRuns.{left_out, one_run}
use Rattle.mote_sim.proofs.laws.word_runs_are_one.Goals as goal

pub returns-clause-one : goal.returns-clause-one
returns-clause-one c = one_run

pub returns-clause-left_out : goal.returns-clause-left_out
returns-clause-left_out c = left_out

pub returns-clause-text : goal.returns-clause-text
returns-clause-text c = texts_are_left
