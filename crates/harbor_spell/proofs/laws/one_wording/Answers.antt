use Rattle.harbor_spell.proofs.Wording.{one_wording}
use Rattle.harbor_spell.proofs.laws.one_wording.Goals as goal

pub returns : goal.returns
returns c = λ is ws vs small fine h k. one_wording is ws vs small fine h k
