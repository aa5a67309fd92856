use Rattle.std.proofs.Common.{◌≡◌, length, None, sym, subst}
use Rattle.event_script.specs.Refusals.{refusal_of, events_of}
use Rattle.mote_sim.specs.Outcome.{Answers, Runs, outcome_of_script}
use Rattle.mote_sim.specs.Reading.{bytes_of}
use Rattle.mote_sim.specs.Trace.{run_input}
use Rattle.mote_sim.proofs.Ends.{ends_as}
use Rattle.mote_sim.proofs.answer.run.Goals as goal

pub returns-in-Ok : goal.returns-in-Ok
returns-in-Ok g c =
    let bytes = bytes_of c.args.images.now in
    let events = events_of c.args.script.now in
    let none : refusal_of (length c.args.images.now) c.args.script.now ≡ None = c.in-Ok.ensures.ok.0 in
    ends_as _ _ _ _ _ _ (Answers (outcome_of_script c.args.limits.units c.args.limits.handler c.args.words (refusal_of (length c.args.images.now) c.args.script.now) events bytes))
    (λ s t a. subst (λ o. Answers (outcome_of_script c.args.limits.units c.args.limits.handler c.args.words o events bytes) s t) (sym none)
    (subst (λ es. Answers (Runs (run_input c.args.limits.units c.args.limits.handler bytes es) c.args.words) s t) c.in-Ok.ensures.ok.1 a)) c.run_script.result c.run_script.ensures
