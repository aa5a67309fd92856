-- The tree's answer is the least fit of the map.
use Rattle.sos_heap.specs.Tree.{IsIndexed}
use Rattle.sos_heap.proofs.Holes.{placed_fit}
use Rattle.sos_heap.proofs.blocks.Blocks.lowest_fit.Goals as goal

pub returns : goal.returns
returns c =
    let is : IsIndexed c.args.self.now c.self.inside.nodes.value = rw (← c.self.view_is) c.self.invariant in
    placed_fit c.args.self.now c.self.inside.nodes.value _ c.args.count c.lowest.result c.deref.ensures is c.requires c.lowest.ensures
