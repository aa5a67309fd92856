use Rattle.mote_core.proofs.SeenLaws.{turn_is_seen}
use Rattle.mote_core.proofs.laws.turns_are_seen.Goals as goal

pub returns : goal.returns
returns g c = λ w lawful m. turn_is_seen w lawful m
