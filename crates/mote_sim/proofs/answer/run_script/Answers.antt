use Rattle.mote_sim.specs.Reading.{bytes_of}
use Rattle.mote_sim.specs.Trace.{run_input}
use Rattle.mote_sim.proofs.Prepared.{played_answers, stopped_cuts}
use Rattle.mote_sim.proofs.answer.run_script.Goals as goal

pub returns-in-Ok-play : goal.returns-in-Ok-play
returns-in-Ok-play g c =
    played_answers (run_input c.args.limits.units c.args.limits.handler (bytes_of c.args.images.now) c.args.script.events.items) c.args.words c.in-Ok.ensures c.in-Ok-play.ensures.played

pub returns : goal.returns
returns g c =
    stopped_cuts (run_input c.args.limits.units c.args.limits.handler (bytes_of c.args.images.now) c.args.script.events.items) c.args.words c.in-Ok.ensures c.in-Err-play.ensures.stopped
