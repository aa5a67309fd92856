-- The bytes tell the segment at the address, and so its owner.
use Rattle.mote_layout.specs.Blocks.{segment_at}
use Rattle.memory_map.specs.Marks.{StandFor}
use Rattle.memory_map.proofs.Telling.{tells}
use Rattle.memory_map.proofs.map.MemoryMap.owner_at.Goals as goal

pub returns-clause-owner : goal.returns-clause-owner
returns-clause-owner c =
    let old = c.args.self.now in
    let stand : StandFor old c.self.inside.bytes.value = rw (← c.self.view_is) c.self.invariant in
    c.owner_in.ensures (segment_at old c.args.a) (tells old c.self.inside.bytes.value _ c.args.a c.deref.ensures stand)
