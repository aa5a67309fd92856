use Rattle.mote_gen.specs.Numbers.{module_count, numbers_of}
use Rattle.mote_gen.specs.Packets.{events_of}
use Rattle.mote_gen.proofs.EventLaws.{are_events}
use Rattle.mote_gen.proofs.laws.events_are_read.Goals as goal

pub returns : goal.returns
returns c = λ seed. c.spelled_events_are_read.ensures module_count (events_of (numbers_of seed)) (are_events (numbers_of seed))
