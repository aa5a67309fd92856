-- The bytes of the segment are freed up to its end.
use Rattle.memory_map.specs.Marks.{StandFor}
use Rattle.memory_map.proofs.OneList.{clear_there, starts_within}
use Rattle.memory_map.proofs.map.MemoryMap.clear_segment.Goals as goal

pub wipe-requires-clause-within : goal.wipe-requires-clause-within
wipe-requires-clause-within c =
    let old = c.args.self.now in
    let stand : StandFor old c.self.inside.bytes.value = rw (← c.self.view_is) c.self.invariant in
    starts_within c.args.first old stand.blocks c.requires

pub invariant_of-self : goal.invariant_of-self
invariant_of-self c =
    let old = c.args.self.now in
    let stand : StandFor old c.self.inside.bytes.value = rw (← c.self.view_is) c.self.invariant in
    (clear_there c.args.first old c.self.inside.bytes.value _ c.wipe.new.bytes c.deref_mut.ensures.value stand c.requires c.wipe.ensures.size c.wipe.ensures.each).stand

pub returns-clause-cleared : goal.returns-clause-cleared
returns-clause-cleared c =
    let old = c.args.self.now in
    let stand : StandFor old c.self.inside.bytes.value = rw (← c.self.view_is) c.self.invariant in
    (clear_there c.args.first old c.self.inside.bytes.value _ c.wipe.new.bytes c.deref_mut.ensures.value stand c.requires c.wipe.ensures.size c.wipe.ensures.each).told

pub returns-clause-blocks : goal.returns-clause-blocks
returns-clause-blocks c =
    let old = c.args.self.now in
    let stand : StandFor old c.self.inside.bytes.value = rw (← c.self.view_is) c.self.invariant in
    (clear_there c.args.first old c.self.inside.bytes.value _ c.wipe.new.bytes c.deref_mut.ensures.value stand c.requires c.wipe.ensures.size c.wipe.ensures.each).blocks
