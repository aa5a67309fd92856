use Rattle.std.proofs.Common.{◌-◌}
use Rattle.sos_heap.specs.Tree.{leaf_count}
use Rattle.sos_heap.proofs.Descents.{IsDown}
use Rattle.sos_heap.proofs.tree.lowest.Given as goal

abbrev pub invariant-loop-node : goal.invariant-loop-node
invariant-loop-node l = IsDown l.nodes l.count l.node l.low

abbrev pub decreases-loop-node : goal.decreases-loop-node
decreases-loop-node l = leaf_count - l.node
