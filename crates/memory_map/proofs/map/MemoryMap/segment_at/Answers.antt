-- The bytes tell the segment at the address.
use Rattle.mote_layout.specs.Blocks.{segment_at}
use Rattle.mote_layout.proofs.Owners.{segment_at-none}
use Rattle.memory_map.specs.Marks.{StandFor}
use Rattle.memory_map.proofs.Telling.{tells}
use Rattle.memory_map.proofs.map.MemoryMap.segment_at.Goals as goal

pub returns-clause-segment : goal.returns-clause-segment
returns-clause-segment c =
    let old = c.args.self.now in
    let stand : StandFor old c.self.inside.bytes.value = rw (← c.self.view_is) c.self.invariant in
    c.segment_in.ensures (segment_at old c.args.a) (tells old c.self.inside.bytes.value _ c.args.a c.deref.ensures stand)

pub returns-clause-none : goal.returns-clause-none
returns-clause-none c =
    let old = c.args.self.now in
    let stand : StandFor old c.self.inside.bytes.value = rw (← c.self.view_is) c.self.invariant in
    rw (returns-clause-segment c) (segment_at-none old c.args.a stand.blocks)
