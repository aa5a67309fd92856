-- Sixteen timers leave room exactly where the one asked for is among them.
use Rattle.std.proofs.Common.{not, ◌∙◌, sym, ap}
use Rattle.std.specs.List.{list_any}
use Rattle.mote_base.specs.Timers.{is_of}
use Rattle.sos_timer.proofs.Order.{room}
use Rattle.sos_timer.proofs.timers.Timers.has_room.Goals as goal

pub returns-then-not-full-clause-room : goal.returns-then-not-full-clause-room
returns-then-not-full-clause-room c =
    let ts = c.self.inside.timers.items in
    let runs = c.runs-held.ensures ∙ ap (list_any (is_of c.args.«module» c.args.id)) (sym c.self.view_is) in
    let both = room c.args.«module» c.args.id ts c.is_full-full.result c.runs-held.result c.self.invariant.1 c.is_full-full.ensures.value runs in
    let here = rw c.if-not-full.true at both in
    rw (← c.self.view_is) (ap not c.if-not-full.true ∙ here)

pub returns-else-not-full-clause-room : goal.returns-else-not-full-clause-room
returns-else-not-full-clause-room c =
    let ts = c.self.inside.timers.items in
    let runs = c.runs-held.ensures ∙ ap (list_any (is_of c.args.«module» c.args.id)) (sym c.self.view_is) in
    let both = room c.args.«module» c.args.id ts c.is_full-full.result c.runs-held.result c.self.invariant.1 c.is_full-full.ensures.value runs in
    let here = rw c.if-not-full.false at both in
    rw (← c.self.view_is) here
