-- Level by level fewer nodes are open, until none is.
use Rattle.std.proofs.Common.{arith}
use Rattle.sos_heap.proofs.Mends.{closed}
use Rattle.sos_heap.proofs.tree.mend.Goals as goal

pub loop-behind-preserved : goal.loop-behind-preserved
loop-behind-preserved c = record {
  size = c.mend_level.ensures.size;
  few = omega (arith, c.loop-behind.invariant.few);
  tree = λ free is. c.mend_level.ensures.tree free (c.loop-behind.invariant.tree free is);
}

pub returns-clause-tree : goal.returns-clause-tree
returns-clause-tree c free is =
    closed free c.loop-behind.nodes c.loop-behind.first c.loop-behind.behind c.loop-behind-test.false (c.loop-behind.invariant.tree free is)
