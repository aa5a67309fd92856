-- Without the segment its blocks are free, and put back for the other owner it is handed over. The same blocks are free.
use Rattle.std.proofs.Common.{◌≡◌, Some}
use Rattle.mote_layout.specs.Blocks.{starting_at}
use Rattle.mote_layout.proofs.OneSegment.{starting_at-fits, Fits-without, handed_over-inserted}
use Rattle.sos_heap.proofs.Holes.{index_handed}
use Rattle.sos_heap.proofs.blocks.Blocks.hand_over.Goals as goal

pub set_segment-requires-clause-some : goal.set_segment-requires-clause-some
set_segment-requires-clause-some c =
    let map = c.self.inside.map in
    let there : starting_at map c.args.segment.first ≡ Some c.args.segment = rw c.self.view_is c.requires.there in
    (starting_at-fits 0 map c.args.segment.first c.args.segment c.self.invariant.blocks there).1

pub set_segment-requires-clause-free : goal.set_segment-requires-clause-free
set_segment-requires-clause-free c =
    let map = c.self.inside.map in
    let there : starting_at map c.args.segment.first ≡ Some c.args.segment = rw c.self.view_is c.requires.there in
    rw c.clear_segment.ensures.cleared (Fits-without map c.args.segment.first c.args.segment c.self.invariant.blocks there)

pub returns-clause-handed_over : goal.returns-clause-handed_over
returns-clause-handed_over c =
    let map = c.self.inside.map in
    let there : starting_at map c.args.segment.first ≡ Some c.args.segment = rw c.self.view_is c.requires.there in
    rw (c.set_segment.ensures.set, c.clear_segment.ensures.cleared, ← c.self.view_is)
    (handed_over-inserted map c.args.segment.first c.args.owner c.args.segment c.self.invariant.blocks there)

pub invariant_of-self : goal.invariant_of-self
invariant_of-self c =
    let map = c.self.inside.map in
    let there : starting_at map c.args.segment.first ≡ Some c.args.segment = rw c.self.view_is c.requires.there in
    index_handed c.args.segment.first c.args.owner map c.set_segment.new.self c.self.inside.nodes.value c.self.invariant
    (rw (c.set_segment.ensures.set, c.clear_segment.ensures.cleared)
    (handed_over-inserted map c.args.segment.first c.args.owner c.args.segment c.self.invariant.blocks there))
    c.set_segment.ensures.blocks.1
