-- The leaves are written, and what this opens is joined again.
use Rattle.sos_heap.proofs.tree.set_blocks.Goals as goal

pub returns-clause-tree : goal.returns-clause-tree
returns-clause-tree c was is = c.mend.ensures.tree _ (c.set_leaves.ensures.tree was is)
