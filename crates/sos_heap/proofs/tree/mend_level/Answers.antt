-- Each node is joined again from halves that are right by then.
use Rattle.std.proofs.Common.{rules, arith}
use Rattle.sos_heap.proofs.Mends.{mending_starts, mending_more, mending_ends}
use Rattle.sos_heap.proofs.tree.mend_level.Goals as goal

pub loop-node-init : goal.loop-node-init
loop-node-init c = record { size = c.requires.size; tree = λ free is. mending_starts free c.args.nodes.now c.args.low c.args.end _ c.max-node.ensures is }

pub loop-node-preserved : goal.loop-node-preserved
loop-node-preserved c = record {
  size = search rules;
  tree = λ free is.
      mending_more free c.loop-node.nodes c.args.low c.args.end c.loop-node.node c.joined.result c.joined.ensures.value (omega (arith, c.max-node.ensures)) (omega (arith, c.max-node.ensures)) (omega arith) c.requires.few (c.loop-node.invariant.tree free is);
}

pub returns-clause-tree : goal.returns-clause-tree
returns-clause-tree c free is =
    mending_ends free c.loop-node.nodes c.args.low c.args.end c.loop-node.node (omega arith) (c.loop-node.invariant.tree free is)
