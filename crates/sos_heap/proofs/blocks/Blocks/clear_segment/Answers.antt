-- The blocks of the segment are free in the index too.
use Rattle.std.proofs.Common.{arith}
use Rattle.sos_heap.specs.Tree.{IsIndexed}
use Rattle.sos_heap.proofs.Holes.{index_clear, segment_within}
use Rattle.sos_heap.proofs.blocks.Blocks.clear_segment.Goals as goal

pub set_blocks-requires-clause-within : goal.set_blocks-requires-clause-within
set_blocks-requires-clause-within c =
    let is : IsIndexed c.args.self.now c.self.inside.nodes.value = rw (← c.self.view_is) c.self.invariant in
    let within = segment_within c.args.self.now c.args.segment is.blocks c.requires in
    omega (arith, within, c.from-block.ensures, c.from-number.ensures)

pub invariant_of-self : goal.invariant_of-self
invariant_of-self c =
    let old = c.args.self.now in
    let is : IsIndexed old c.self.inside.nodes.value = rw (← c.self.view_is) c.self.invariant in
    index_clear c.args.segment old c.clear_segment.new.self c.self.inside.nodes.value _ c.set_blocks.new.nodes c.from-block.result c.from-number.result c.deref_mut.ensures.value is (cc)
    c.clear_segment.ensures.blocks.1 c.requires c.from-block.ensures c.from-number.ensures c.set_blocks.ensures.tree
