use Rattle.mote_sim.specs.Outcome.{Answers, Generates}
use Rattle.mote_sim.proofs.Ends.{ends_as}
use Rattle.mote_sim.proofs.generating.generate.Goals as goal

pub returns-in-Ok : goal.returns-in-Ok
returns-in-Ok g c =
    ends_as _ _ _ _ _ _ (Answers (Generates c.args.seed))
    (λ s t a. (a.0, record { summary = c.in-Ok.summary; sums_up = c.in-Ok.ensures; spelled = a.1 })) c.put_summary.result c.put_summary.ensures
