use Rattle.avr_machine.proofs.EffectLaws.{spared_bytes_stay, memory_keeps_its_length}
use Rattle.avr_machine.proofs.laws.memory_laws.Goals as goal

pub returns-clause-spared : goal.returns-clause-spared
returns-clause-spared c = spared_bytes_stay

pub returns-clause-length : goal.returns-clause-length
returns-clause-length c = memory_keeps_its_length
