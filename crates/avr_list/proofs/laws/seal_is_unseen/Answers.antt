use Rattle.avr_list.proofs.Unsealed.{seal_is_unseen}
use Rattle.avr_list.proofs.laws.seal_is_unseen.Goals as goal

pub returns : goal.returns
returns c = seal_is_unseen
