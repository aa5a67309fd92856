use Rattle.std.proofs.Common.{◌≡◌, ◌+◌, ◌++◌, ◌∙◌, ap, sym, append-nil, arith}
use Rattle.mote_gen.specs.Numbers.{number, numbers_of, packet_draws}
use Rattle.mote_gen.specs.Packets.{loads, place_of, time_after}
use Rattle.mote_gen.proofs.Drawn.{number_later}
use Rattle.mote_gen.proofs.EventLaws.{are_few, may_run}
use Rattle.mote_gen.proofs.Events.{first_packets-zero, packets_more, time_after-zero, time_more, what_is}
use Rattle.mote_gen.proofs.bundle.make.Goals as goal

pub loop-place-init : goal.loop-place-init
loop-place-init c = record {
  last = c.in_ok-images.ensures.last;
  time = sym (time_after-zero (numbers_of c.args.seed));
  early = omega arith;
  events = c.in_ok-events.ensures ∙ sym (ap (λ es. loads ++ es) (first_packets-zero (numbers_of c.args.seed)) ∙ append-nil loads);
}

pub loop-place-preserved : goal.loop-place-preserved
loop-place-preserved c =
    let more : c.packet-event.result.time ≡ time_after (numbers_of c.args.seed) (c.loop-place.place + 1) =
    time_more _ _ c.loop-place.place _ _ (omega arith) c.loop-place.invariant.last c.loop-place.invariant.time c.packet-event.ensures.time in
    record {
      last = number_later _ _ (place_of c.loop-place.place) packet_draws _ c.loop-place.invariant.last c.packet-event.ensures.last
          ∙ ap (number c.args.seed) (let at : place_of c.loop-place.place + packet_draws ≡ place_of (c.loop-place.place + 1) = omega arith in at);
      time = more;
      early = omega (arith, c.packet-event.ensures.rise, c.loop-place.invariant.early);
      events = c.in_ok-push.ensures.items
          ∙ packets_more _ c.loop-place.place loads _ _ c.loop-place.invariant.events more
          (c.packet-event.ensures.what ∙ what_is _ _ c.loop-place.place (omega arith) c.loop-place.invariant.last);
    }

pub returns-clause-packets : goal.returns-clause-packets
returns-clause-packets c = (may_run _ c.loop-place.place _ (omega arith) c.loop-place.invariant.events).packets

pub returns-clause-packet_times : goal.returns-clause-packet_times
returns-clause-packet_times c = (may_run _ c.loop-place.place _ (omega arith) c.loop-place.invariant.events).packet_times

pub returns-clause-times : goal.returns-clause-times
returns-clause-times c = (may_run _ c.loop-place.place _ (omega arith) c.loop-place.invariant.events).times

pub returns-clause-few : goal.returns-clause-few
returns-clause-few c = are_few _ c.loop-place.place _ (omega arith) c.loop-place.invariant.events
