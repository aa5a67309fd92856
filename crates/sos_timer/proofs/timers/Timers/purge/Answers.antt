-- What is kept is the list without those timers, in the order in which it stood.
use Rattle.std.proofs.Common.{◌≡◌, ◌==◌, not, Bool, filter, arith, rules}
use Rattle.arrayvec.proofs.ArrayVecLemmas.{filter-from_retain}
use Rattle.mote_base.specs.declared.timer.Timer.{Timer}
use Rattle.sos_timer.proofs.Order.{order-filter, length-filtered}
use Rattle.sos_timer.proofs.timers.Timers.purge.Goals as goal

pub invariant_of-self : goal.invariant_of-self
invariant_of-self c =
    let test : Timer → Bool = λ t. not (t.«module» == c.args.«module») in
    let ts = c.self.inside.timers.items in
    let kept : c.retain.new.self.items ≡ filter test ts = filter-from_retain _ _ _ (λ x b f' y called. search rules) _ _ c.retain.ensures.filtered in
    rw kept (order-filter test ts c.self.invariant.0, omega (arith, length-filtered test ts, c.self.invariant.1))

pub returns : goal.returns
returns c =
    let test : Timer → Bool = λ t. not (t.«module» == c.args.«module») in
    let ts = c.self.inside.timers.items in
    let kept : c.retain.new.self.items ≡ filter test ts = filter-from_retain _ _ _ (λ x b f' y called. search rules) _ _ c.retain.ensures.filtered in
    rw (← c.self.view_is) kept
