use Rattle.avr_machine.proofs.EffectLaws.{straight_leaves_pc, only_skips_look_over}
use Rattle.avr_machine.proofs.laws.counter_laws.Goals as goal

pub returns-clause-straight : goal.returns-clause-straight
returns-clause-straight c = straight_leaves_pc

pub returns-clause-skips : goal.returns-clause-skips
returns-clause-skips c = only_skips_look_over
