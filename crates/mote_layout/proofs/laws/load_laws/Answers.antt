-- Each law is a lemma on loads.
use Rattle.mote_layout.proofs.Loads.{may_load-true, IsConstant-segment_at, IsConstant-none}
use Rattle.mote_layout.proofs.laws.load_laws.Goals as goal

pub returns-clause-may_load : goal.returns-clause-may_load
returns-clause-may_load c = may_load-true

pub returns-clause-constants : goal.returns-clause-constants
returns-clause-constants c = IsConstant-segment_at

pub returns-clause-without_constants : goal.returns-clause-without_constants
returns-clause-without_constants c = IsConstant-none
