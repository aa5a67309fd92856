use Rattle.memory_map.proofs.Loops.{ComesFrom}
use Rattle.memory_map.proofs.marks.start_of.Given as goal

abbrev pub invariant-loop-first : goal.invariant-loop-first
invariant-loop-first l = ComesFrom l.bytes l.block l.first

abbrev pub decreases-loop-first : goal.decreases-loop-first
decreases-loop-first l = l.first
