use Rattle.domain_model.proofs.LawfulLaws.{turns_are_lawful, runs_are_lawful}
use Rattle.domain_model.proofs.laws.every_turn_is_lawful.Goals as goal

pub returns-clause-turns : goal.returns-clause-turns
returns-clause-turns c = turns_are_lawful

pub returns-clause-runs : goal.returns-clause-runs
returns-clause-runs c = runs_are_lawful
