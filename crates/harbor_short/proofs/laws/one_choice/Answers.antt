use Rattle.harbor_short.proofs.Chosen.{one_choice}
use Rattle.harbor_short.proofs.laws.one_choice.Goals as goal

pub returns : goal.returns
returns c = one_choice
