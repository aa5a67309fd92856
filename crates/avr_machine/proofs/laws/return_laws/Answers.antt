use Rattle.avr_machine.proofs.EffectLaws.{call_pushes, relative_call_pushes, ret_gives_back}
use Rattle.avr_machine.proofs.laws.return_laws.Goals as goal

pub returns-clause-call : goal.returns-clause-call
returns-clause-call c = call_pushes

pub returns-clause-relative : goal.returns-clause-relative
returns-clause-relative c = relative_call_pushes

pub returns-clause-back : goal.returns-clause-back
returns-clause-back c = ret_gives_back
