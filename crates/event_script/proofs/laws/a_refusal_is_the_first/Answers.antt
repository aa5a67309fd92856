use Rattle.event_script.proofs.FirstLaw.{refusal_is_first, none_is_refused}
use Rattle.event_script.proofs.laws.a_refusal_is_the_first.Goals as goal

pub returns-clause-first : goal.returns-clause-first
returns-clause-first c = refusal_is_first

pub returns-clause-none : goal.returns-clause-none
returns-clause-none c = none_is_refused
