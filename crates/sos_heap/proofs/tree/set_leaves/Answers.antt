-- Leaf by leaf the test of the blocks is changed.
use Rattle.std.proofs.Common.{rules, ℕ, ◌+◌, ◌/◌, refl, subst, arith}
use Rattle.sos_heap.specs.Tree.{IsTree, changed, leaf_count}
use Rattle.sos_heap.proofs.Mends.{leaves_start, leaves_more}
use Rattle.sos_heap.proofs.tree.set_leaves.Goals as goal

pub loop-block-init : goal.loop-block-init
loop-block-init c = record { size = c.requires.size; tree = λ was is. leaves_start was c.args.free c.args.first c.args.nodes.now is }

pub loop-block-preserved : goal.loop-block-preserved
loop-block-preserved c = record {
  size = search rules;
  tree = λ was is.
      leaves_more was c.args.free c.args.first c.loop-block.nodes c.loop-block.block _ c.leaf.result c.leaf.ensures.value refl (omega arith) (omega arith) (c.loop-block.invariant.tree was is);
}

pub returns-clause-tree : goal.returns-clause-tree
returns-clause-tree c was is =
    subst (λ (k : ℕ). IsTree (changed was c.args.first k c.args.free) c.loop-block.nodes ((leaf_count + c.args.first) / 2) ((leaf_count + k + 1) / 2)) (omega arith) (c.loop-block.invariant.tree was is)
