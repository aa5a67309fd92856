use Rattle.domain_model.proofs.OwningLaws.{calls_leave_others, refused_calls_change_nothing, own_blocks_are_served}
use Rattle.domain_model.proofs.laws.kernel_calls_leave_others.Goals as goal

pub returns-clause-others : goal.returns-clause-others
returns-clause-others c = calls_leave_others

pub returns-clause-refused : goal.returns-clause-refused
returns-clause-refused c = refused_calls_change_nothing

pub returns-clause-served : goal.returns-clause-served
returns-clause-served c = own_blocks_are_served
