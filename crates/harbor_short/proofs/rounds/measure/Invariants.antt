use Rattle.harbor_short.proofs.Measured.{HasMeasured}
use Rattle.harbor_short.proofs.rounds.measure.Given as goal

abbrev pub invariant-loop-i : goal.invariant-loop-i
invariant-loop-i l = HasMeasured l.units l.shapes l.starts l.place l.i
