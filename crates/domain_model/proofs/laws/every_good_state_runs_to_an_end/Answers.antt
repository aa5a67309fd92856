use Rattle.domain_model.proofs.FewerLaws.{remaining_falls}
use Rattle.domain_model.proofs.RunLaws.{runs_end}
use Rattle.domain_model.proofs.laws.every_good_state_runs_to_an_end.Goals as goal

pub returns-clause-fewer : goal.returns-clause-fewer
returns-clause-fewer c = remaining_falls

pub returns-clause-end : goal.returns-clause-end
returns-clause-end c = runs_end
