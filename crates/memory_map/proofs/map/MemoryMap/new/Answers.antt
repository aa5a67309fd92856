-- Bytes of 0 stand for no segments.
use Rattle.std.proofs.Common.{refl}
use Rattle.mote_layout.specs.Memory.{block_count}
use Rattle.memory_map.proofs.OneList.{none_stand}
use Rattle.memory_map.proofs.map.MemoryMap.new.Goals as goal

pub invariant_of-result : goal.invariant_of-result
invariant_of-result c = (none_stand block_count c.in_ok-bytes.bytes.value c.in_ok-bytes.ensures.ok refl).stand
