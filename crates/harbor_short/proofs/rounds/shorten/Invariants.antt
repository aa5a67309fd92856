use Rattle.harbor_short.proofs.Turning.{HasTurned}
use Rattle.harbor_short.proofs.rounds.shorten.Given as goal

abbrev pub invariant-loop-i : goal.invariant-loop-i
invariant-loop-i l = HasTurned l.units l.starts l.initial.shapes l.shapes l.i l.changed
