-- The bytes of the segment are written over those of free blocks.
use Rattle.mote_layout.specs.declared.segment.Segment.{Segment}
use Rattle.memory_map.specs.Marks.{StandFor}
use Rattle.memory_map.proofs.OneList.{set_there}
use Rattle.memory_map.proofs.map.MemoryMap.set_segment.Goals as goal

pub invariant_of-self : goal.invariant_of-self
invariant_of-self c =
    let old = c.args.self.now in
    let stand : StandFor old c.self.inside.bytes.value = rw (← c.self.view_is) c.self.invariant in
    let s : Segment = record { first = c.args.first; count = c.args.count; owner = c.args.owner } in
    (set_there s old c.self.inside.bytes.value _ c.paint.new.bytes c.deref_mut.ensures.value stand c.requires.some c.requires.owner c.requires.free c.paint.ensures.size c.paint.ensures.each).stand

pub returns-clause-set : goal.returns-clause-set
returns-clause-set c =
    let old = c.args.self.now in
    let stand : StandFor old c.self.inside.bytes.value = rw (← c.self.view_is) c.self.invariant in
    let s : Segment = record { first = c.args.first; count = c.args.count; owner = c.args.owner } in
    (set_there s old c.self.inside.bytes.value _ c.paint.new.bytes c.deref_mut.ensures.value stand c.requires.some c.requires.owner c.requires.free c.paint.ensures.size c.paint.ensures.each).told

pub returns-clause-blocks : goal.returns-clause-blocks
returns-clause-blocks c =
    let old = c.args.self.now in
    let stand : StandFor old c.self.inside.bytes.value = rw (← c.self.view_is) c.self.invariant in
    let s : Segment = record { first = c.args.first; count = c.args.count; owner = c.args.owner } in
    (set_there s old c.self.inside.bytes.value _ c.paint.new.bytes c.deref_mut.ensures.value stand c.requires.some c.requires.owner c.requires.free c.paint.ensures.size c.paint.ensures.each).blocks
