use Rattle.domain_model.proofs.InstructionLaws.{counter_comes_back, acts_at_every_counter, units_are_of_their_sorts, skips_pass_as_instructions}
use Rattle.domain_model.proofs.ActLaws.{last_units_change_nothing}
use Rattle.domain_model.proofs.laws.units_act_as_instructions.Goals as goal

pub returns-clause-counter : goal.returns-clause-counter
returns-clause-counter c = counter_comes_back

pub returns-clause-sorts : goal.returns-clause-sorts
returns-clause-sorts c = units_are_of_their_sorts

pub returns-clause-effect : goal.returns-clause-effect
returns-clause-effect c = acts_at_every_counter

pub returns-clause-skip : goal.returns-clause-skip
returns-clause-skip c = skips_pass_as_instructions

pub returns-clause-last : goal.returns-clause-last
returns-clause-last c = last_units_change_nothing
