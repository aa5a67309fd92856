use Rattle.std.proofs.Common.{◌≡◌, ℕ, Bool, length}
use Rattle.sos_heap.specs.Tree.{IsTree, node_count}
use Rattle.sos_heap.proofs.Mends.{IsMending}
use Rattle.sos_heap.proofs.tree.mend_level.Given as goal

abbrev pub invariant-loop-node : goal.invariant-loop-node
invariant-loop-node l =
    record {
      size : length l.nodes ≡ node_count;
      tree : (free : ℕ → Bool) → IsTree free l.fn.nodes l.low l.end → IsMending free l.nodes l.low l.end l.node;
    }
