-- The place is behind the timers that fire before the new one.
use Rattle.std.proofs.Common.{◌≡◌, ◌<◌, ◌≤◌, length, ◌∙◌, ap, arith, lit<}
use Rattle.std.specs.List.{prefix_len, insert}
use Rattle.std.proofs.lemmas.List.Sums.{prefix_len-le-length}
use Rattle.mote_base.specs.declared.timer.Timer.{Timer}
use Rattle.mote_base.specs.Timers.{fires_before, inserted, timer_limit}
use Rattle.sos_timer.proofs.Order.{insert-inserted, order-inserted, length-inserted}
use Rattle.sos_timer.proofs.timers.Timers.insert.Goals as goal

pub insert-requires : goal.insert-requires
insert-requires c =
    let before = λ (s : Timer). fires_before s c.args.timer in
    let ts = c.self.inside.timers.items in
    let at : c.count_before-place.result ≡ prefix_len before ts = c.count_before-place.ensures ∙ ap (prefix_len before) c.as_slice.ensures.value in
    let within : c.count_before-place.result ≤ length ts = rw at (prefix_len-le-length before ts) in
    let room : length ts < timer_limit = rw c.self.view_is c.requires in
    (lit< tt, (within, room))

pub invariant_of-self : goal.invariant_of-self
invariant_of-self c =
    let before = λ (s : Timer). fires_before s c.args.timer in
    let ts = c.self.inside.timers.items in
    let at : c.count_before-place.result ≡ prefix_len before ts = c.count_before-place.ensures ∙ ap (prefix_len before) c.as_slice.ensures.value in
    let new : c.insert.new.self.items ≡ inserted c.args.timer ts = c.insert.ensures.items ∙ ap (λ k. insert ts k c.args.timer) at ∙ insert-inserted c.args.timer ts in
    let room : length ts < timer_limit = rw c.self.view_is c.requires in
    rw new (order-inserted c.args.timer ts c.self.invariant.0, omega (arith, length-inserted c.args.timer ts, room))

pub returns-clause-timers : goal.returns-clause-timers
returns-clause-timers c =
    let before = λ (s : Timer). fires_before s c.args.timer in
    let ts = c.self.inside.timers.items in
    let at : c.count_before-place.result ≡ prefix_len before ts = c.count_before-place.ensures ∙ ap (prefix_len before) c.as_slice.ensures.value in
    let new : c.insert.new.self.items ≡ inserted c.args.timer ts = c.insert.ensures.items ∙ ap (λ k. insert ts k c.args.timer) at ∙ insert-inserted c.args.timer ts in
    rw (← c.self.view_is) new
