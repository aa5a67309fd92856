use Rattle.std.proofs.Common.{◌≡◌, ℕ, Bool, length, ◌+◌, ◌/◌}
use Rattle.sos_heap.specs.Tree.{IsTree, changed, leaf_count, node_count}
use Rattle.sos_heap.proofs.tree.set_leaves.Given as goal

abbrev pub invariant-loop-block : goal.invariant-loop-block
invariant-loop-block l =
    record {
      size : length l.nodes ≡ node_count;
      tree : (was : ℕ → Bool) → IsTree was l.fn.nodes 0 0 → IsTree (changed was l.first l.block l.free) l.nodes ((leaf_count + l.first) / 2) ((leaf_count + l.block + 1) / 2);
    }
