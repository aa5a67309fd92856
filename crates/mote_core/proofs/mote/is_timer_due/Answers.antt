use Rattle.std.proofs.Common.{◌∙◌, sym}
use Rattle.domain_model.specs.Events.{timer_times}
use Rattle.mote_core.proofs.Clocks.{moment_due, no_moment_due}
use Rattle.mote_core.proofs.mote.is_timer_due.Goals as goal

pub returns-in-Some : goal.returns-in-Some
returns-in-Some c =
    rw c.clock.ensures.clock (moment_due (timer_times c.args.k.now.timers) c.in-Some.due c.args.k.now.clock (sym c.in-Some.is ∙ c.next_due.ensures))

pub returns-in-None : goal.returns-in-None
returns-in-None c = no_moment_due (timer_times c.args.k.now.timers) c.args.k.now.clock (sym c.in-None.is ∙ c.next_due.ensures)
