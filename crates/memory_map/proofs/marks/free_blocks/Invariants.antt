use Rattle.memory_map.proofs.Loops.{IsWiped}
use Rattle.memory_map.proofs.marks.free_blocks.Given as goal

abbrev pub invariant-loop-block : goal.invariant-loop-block
invariant-loop-block l = IsWiped l.first l.fn.bytes l.bytes l.block
