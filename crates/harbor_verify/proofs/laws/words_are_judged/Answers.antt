use Rattle.harbor_verify.proofs.FirstLaw.{refusal_is_first}
use Rattle.harbor_verify.proofs.NoRefusal.{no_refusal_spells}
use Rattle.harbor_verify.proofs.Straight.{judged}
use Rattle.harbor_verify.proofs.laws.words_are_judged.Goals as goal

pub returns-clause-first : goal.returns-clause-first
returns-clause-first c = λ words marks sealed e few small is. refusal_is_first sealed words marks few small e is

pub returns-clause-read : goal.returns-clause-read
returns-clause-read c = λ words marks sealed units starts few small h. judged sealed words marks few small units starts h

pub returns-clause-spell : goal.returns-clause-spell
returns-clause-spell c = λ words marks sealed small none. no_refusal_spells sealed words marks small none
