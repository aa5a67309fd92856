use Rattle.sos_timer.proofs.Order.{firing-none, map-none}
use Rattle.sos_timer.proofs.timers.Timers.due.Goals as goal

pub returns-clause-none : goal.returns-clause-none
returns-clause-none c =
    let held = map-none _ _ _ c.fire.ensures.fired in
    let first = firing-none c.args.now c.args.self.now c.fire.ensures.order in
    (λ e. first.0 (held.0 e), λ all. held.1 (first.1 all))
