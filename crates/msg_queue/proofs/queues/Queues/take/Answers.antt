-- What is found in the high list is found in both, and what the high list has not is found in the low one.
use Rattle.std.proofs.Common.{◌≡◌, true, false, find, is_some, ◌∙◌, ap, sym}
use Rattle.mote_base.specs.Messages.{names}
use Rattle.msg_queue.proofs.Taken.{find-front, find-back}
use Rattle.msg_queue.proofs.queues.Queues.take.Goals as goal

pub returns-then-is_some-clause-first : goal.returns-then-is_some-clause-first
returns-then-is_some-clause-first g c =
    let test = names {P = g.row.P.Denot} c.args.id in
    let high = c.self.inside.high.items in
    let low = c.self.inside.low.items in
    let found : c.take_first-m.result ≡ find test high = c.take_first-m.ensures.first in
    let some : is_some (find test high) ≡ true = ap is_some (sym found) ∙ sym c.is_some.ensures ∙ c.if-is_some.true in
    rw (← c.self.view_is) (found ∙ sym (find-front test high low some))

pub returns-clause-first : goal.returns-clause-first
returns-clause-first g c =
    let test = names {P = g.row.P.Denot} c.args.id in
    let high = c.self.inside.high.items in
    let low = c.self.inside.low.items in
    let found : c.take_first-m.result ≡ find test high = c.take_first-m.ensures.first in
    let none : is_some (find test high) ≡ false = ap is_some (sym found) ∙ sym c.is_some.ensures ∙ c.if-is_some.false in
    rw (← c.self.view_is) (c.take_first.ensures.first ∙ sym (find-back test high low none))
