use Rattle.harbor_short.proofs.Distances.{distances_stay}
use Rattle.harbor_short.proofs.laws.distances_stay.Goals as goal

pub returns : goal.returns
returns c = distances_stay
