use Rattle.harbor_short.proofs.Ends.{some_choice}
use Rattle.harbor_short.proofs.laws.some_choice.Goals as goal

pub returns : goal.returns
returns c = some_choice
