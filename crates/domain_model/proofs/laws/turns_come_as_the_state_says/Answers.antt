use Rattle.domain_model.proofs.ChoiceLaws.{choices_are_founded}
use Rattle.domain_model.proofs.laws.turns_come_as_the_state_says.Goals as goal

pub returns : goal.returns
returns c = choices_are_founded
