use Rattle.std.proofs.Common.{◌≡◌}
use Rattle.mote_gen.specs.Packets.{first_loads}
use Rattle.mote_gen.proofs.packets.loads.Given as goal

abbrev pub invariant-loop-image : goal.invariant-loop-image
invariant-loop-image l = l.events.items ≡ first_loads l.image
