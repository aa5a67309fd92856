use Rattle.mote_gen.specs.Numbers.{numbers_of}
use Rattle.mote_gen.proofs.EventLaws.{are_events}
use Rattle.mote_gen.proofs.laws.events_are_of_a_script.Goals as goal

pub returns : goal.returns
returns c = λ seed. are_events (numbers_of seed)
