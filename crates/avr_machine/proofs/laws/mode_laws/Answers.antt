use Rattle.avr_machine.proofs.EffectLaws.{stores_go_by_mode, loads_go_by_mode}
use Rattle.avr_machine.proofs.laws.mode_laws.Goals as goal

pub returns-clause-stores : goal.returns-clause-stores
returns-clause-stores c = stores_go_by_mode

pub returns-clause-loads : goal.returns-clause-loads
returns-clause-loads c = loads_go_by_mode
