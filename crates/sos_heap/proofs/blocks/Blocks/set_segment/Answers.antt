-- The blocks of the segment are taken in the index too.
use Rattle.mote_layout.specs.declared.segment.Segment.{Segment}
use Rattle.sos_heap.specs.Tree.{IsIndexed}
use Rattle.sos_heap.proofs.Holes.{index_set}
use Rattle.sos_heap.proofs.blocks.Blocks.set_segment.Goals as goal

pub invariant_of-self : goal.invariant_of-self
invariant_of-self c =
    let old = c.args.self.now in
    let is : IsIndexed old c.self.inside.nodes.value = rw (← c.self.view_is) c.self.invariant in
    let s : Segment = record { first = c.args.first; count = c.args.count; owner = c.args.owner } in
    index_set s old c.set_segment.new.self c.self.inside.nodes.value _ c.set_blocks.new.nodes c.from-block.result c.from-number.result c.deref_mut.ensures.value is (cc)
    c.set_segment.ensures.blocks.1 c.from-block.ensures c.from-number.ensures c.set_blocks.ensures.tree
