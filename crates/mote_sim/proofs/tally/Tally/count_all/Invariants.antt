use Rattle.std.proofs.Common.{◌≡◌, drop}
use Rattle.mote_sim.specs.Summary.{with_lines}
use Rattle.mote_sim.proofs.tally.Tally.count_all.Given as goal

-- with the lines to come it is the tally of all
abbrev pub invariant-loop-line : goal.invariant-loop-line
invariant-loop-line l = with_lines l.self (drop l.line-index l.told) ≡ with_lines l.fn.self l.told
