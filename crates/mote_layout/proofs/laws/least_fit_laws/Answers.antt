-- Each law is a lemma on `fit`.
use Rattle.mote_layout.proofs.LeastFit.{fit-some, fit-none}
use Rattle.mote_layout.proofs.laws.least_fit_laws.Goals as goal

pub returns-clause-least : goal.returns-clause-least
returns-clause-least c = fit-some

pub returns-clause-none : goal.returns-clause-none
returns-clause-none c = fit-none
