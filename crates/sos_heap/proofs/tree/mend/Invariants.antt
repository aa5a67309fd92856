use Rattle.sos_heap.proofs.Mends.{IsRising}
use Rattle.sos_heap.proofs.tree.mend.Given as goal

abbrev pub invariant-loop-behind : goal.invariant-loop-behind
invariant-loop-behind l = IsRising l.fn.nodes l.low l.end l.nodes l.first l.behind

abbrev pub decreases-loop-behind : goal.decreases-loop-behind
decreases-loop-behind l = l.behind
