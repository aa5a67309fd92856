use Rattle.memory_map.proofs.Loops.{IsPainted}
use Rattle.memory_map.proofs.marks.paint.Given as goal

abbrev pub invariant-loop-block : goal.invariant-loop-block
invariant-loop-block l = IsPainted l.fn.first l.owner l.fn.bytes l.bytes l.block
