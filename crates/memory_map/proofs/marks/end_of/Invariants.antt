use Rattle.std.proofs.Common.{◌-◌}
use Rattle.mote_layout.specs.Memory.{block_count}
use Rattle.memory_map.proofs.Loops.{GoesOn}
use Rattle.memory_map.proofs.marks.end_of.Given as goal

abbrev pub invariant-loop-end : goal.invariant-loop-end
invariant-loop-end l = GoesOn l.bytes l.first l.end

abbrev pub decreases-loop-end : goal.decreases-loop-end
decreases-loop-end l = block_count - l.end
