use Rattle.std.proofs.Common.{◌≡◌, ◌<◌, length, sym, arith, inr}
use Rattle.std.proofs.lemmas.Bool.Decides.{nat_tests}
use Rattle.event_script.proofs.Times.{script_runs}
use Rattle.event_script.proofs.Steps.{at_end, so_far-start, so_far-blank, so_far-event, refused-unended, refused-line, refused-event}
use Rattle.event_script.proofs.script.parse_script.Goals as goal

pub loop-rest-init : goal.loop-rest-init
loop-rest-init c = rw c.new-events.ensures.items (so_far-start c.args.images c.args.text.now)

pub returns-in_default-clause-err : goal.returns-in_default-clause-err
returns-in_default-clause-err c =
    let some : 0 < length c.loop-rest.rest.now = grind (arith, nat_tests) in
    inr (refused-unended _ _ _ _ _ _ c.loop-rest.invariant c.in_default.ensures some)

pub loop-rest-preserved-then-is_blank : goal.loop-rest-preserved-then-is_blank
loop-rest-preserved-then-is_blank c = so_far-blank _ _ _ _ _ _ _ _ c.loop-rest.invariant c.in-Some.ensures (cc)

pub returns-in_default-event_of-clause-err : goal.returns-in_default-event_of-clause-err
returns-in_default-event_of-clause-err c = inr (refused-line _ _ _ _ _ _ _ _ c.loop-rest.invariant c.in-Some.ensures (cc) (cc))

pub returns-in-Err-clause-err : goal.returns-in-Err-clause-err
returns-in-Err-clause-err c =
    inr (refused-event _ _ _ _ _ _ _ _ _ _ c.loop-rest.invariant c.in-Some.ensures (cc) (sym c.in-Some-event_of.ensures) _ (omega arith) (sym c.in-Err.ensures))

pub loop-rest-preserved : goal.loop-rest-preserved
loop-rest-preserved c =
    rw c.in_ok-push.ensures.items
    (so_far-event _ _ _ _ _ _ _ _ _ c.loop-rest.invariant c.in-Some.ensures (cc) (sym c.in-Some-event_of.ensures) _ (omega arith) (sym c.in_default-admit.ensures))

pub returns-clause-times : goal.returns-clause-times
returns-clause-times c =
    let none : length c.loop-rest.rest.now ≡ 0 = grind (arith, nat_tests) in
    let read = at_end _ _ _ _ _ _ c.loop-rest.invariant none in
    (script_runs c.args.images c.args.text.now c.loop-rest.events.items read.0 read.1).times

pub returns-clause-packet_times : goal.returns-clause-packet_times
returns-clause-packet_times c =
    let none : length c.loop-rest.rest.now ≡ 0 = grind (arith, nat_tests) in
    let read = at_end _ _ _ _ _ _ c.loop-rest.invariant none in
    (script_runs c.args.images c.args.text.now c.loop-rest.events.items read.0 read.1).packet_times

pub returns-clause-packets : goal.returns-clause-packets
returns-clause-packets c =
    let none : length c.loop-rest.rest.now ≡ 0 = grind (arith, nat_tests) in
    let read = at_end _ _ _ _ _ _ c.loop-rest.invariant none in
    (script_runs c.args.images c.args.text.now c.loop-rest.events.items read.0 read.1).packets
