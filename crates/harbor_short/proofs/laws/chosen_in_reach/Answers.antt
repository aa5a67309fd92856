use Rattle.harbor_short.proofs.Chosen.{chosen_read, chosen_shapes}
use Rattle.harbor_short.proofs.laws.chosen_in_reach.Goals as goal

pub returns : goal.returns
returns c = λ us a below h. (chosen_shapes us a below h, chosen_read us a h)
