use Rattle.harbor_rewrite.proofs.Emission.{one_emission}
use Rattle.harbor_rewrite.proofs.laws.one_emission.Goals as goal

pub returns : goal.returns
returns c = one_emission
