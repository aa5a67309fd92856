-- The times of what a script asks for, and the numbers of its packets.
use Rattle.std.specs.Prelude.{ℕ, zero, suc, ◌≡◌, ◌<◌, ◌≤◌, List, [], ◌∷◌, Option, Some, None}
use Rattle.std.specs.List.{AllByRecursion}
use Rattle.std.proofs.Common.{refl, sym, subst, arith}
use Rattle.domain_model.specs.declared.event.LoaderEvent.{LoaderEvent}
use Rattle.domain_model.specs.declared.event.Packet.{Packet}
use Rattle.domain_model.specs.declared.script.Event.{Event}
use Rattle.domain_model.specs.declared.script.What.{What}
use Rattle.domain_model.specs.declared.script.What.TheVariants as what
use Rattle.domain_model.specs.Bytes.{AreBytes}
use Rattle.domain_model.specs.Good.{AreTimesFrom, AreTimes, ArePackets}
use Rattle.domain_model.specs.Events.{at_time, onto_events, loader_events, event_times, packet_at, onto_packets, packets_in, packet_times}
use Rattle.event_script.specs.Numbers.{last_time}
use Rattle.event_script.specs.Refusals.{refusal_of, events_of}
use Rattle.event_script.specs.Spelled.{AreEvents, AreInOrder, AsksInRange, IsInRange}
use Rattle.event_script.proofs.Ranges.{scripts_have_events}

earlier_from : (low before : ℕ) (times : List ℕ) → low ≤ before → AreTimesFrom before times → AreTimesFrom low times
earlier_from low before [] p h = tt
earlier_from low before (t ∷ ts) p h = (omega (arith, p, h.0), h.1, h.2)

-- the loader's events
onto_times : (o : Option LoaderEvent) (before time : ℕ) (events : List LoaderEvent) → ((e : LoaderEvent) → o ≡ Some e → e.time ≡ time) → before ≤ time → time ≤ last_time → AreTimesFrom time (event_times events) → AreTimesFrom before (event_times (onto_events o events))
onto_times None before time events same p q h = earlier_from before time (event_times events) p h
onto_times (Some e) before time events same p q h =
    let at = same e refl in
    (omega (arith, p, at), omega (arith, q, at), subst (λ (t : ℕ). AreTimesFrom t (event_times events)) (sym at) h)

loader_time : (time : ℕ) (w : What) (e : LoaderEvent) → at_time time w ≡ Some e → e.time ≡ time
loader_time time (what.Load image) e at = cc
loader_time time (what.Unload id) e at = cc
loader_time time (what.Radio to sort bytes) e at = absurd (cc)
loader_time time what.Dump e at = cc

times_from : (images before : ℕ) (events : List Event) → AllByRecursion (λ (e : Event). before ≤ e.time) events → AreInOrder events → AllByRecursion (IsInRange images) events → AreTimesFrom before (event_times (loader_events events))
times_from images before [] later order ranges = tt
times_from images before (e ∷ es) later order ranges =
    onto_times (at_time e.time e.what) before e.time (loader_events es) (loader_time e.time e.what) later.0 ranges.0.0
    (times_from images e.time es order.0 order.1 ranges.1)

-- the packets
onto_heard : (o : Option Packet) (before time : ℕ) (packets : List Packet) → ((p : Packet) → o ≡ Some p → p.time ≡ time) → before ≤ time → time ≤ last_time → AreTimesFrom time (packet_times packets) → AreTimesFrom before (packet_times (onto_packets o packets))
onto_heard None before time packets same p q h = earlier_from before time (packet_times packets) p h
onto_heard (Some x) before time packets same p q h =
    let at = same x refl in
    (omega (arith, p, at), omega (arith, q, at), subst (λ (t : ℕ). AreTimesFrom t (packet_times packets)) (sym at) h)

heard_time : (time : ℕ) (w : What) (p : Packet) → packet_at time w ≡ Some p → p.time ≡ time
heard_time time (what.Load image) p at = absurd (cc)
heard_time time (what.Unload id) p at = absurd (cc)
heard_time time (what.Radio to sort bytes) p at = cc
heard_time time what.Dump p at = absurd (cc)

heard_from : (images before : ℕ) (events : List Event) → AllByRecursion (λ (e : Event). before ≤ e.time) events → AreInOrder events → AllByRecursion (IsInRange images) events → AreTimesFrom before (packet_times (packets_in events))
heard_from images before [] later order ranges = tt
heard_from images before (e ∷ es) later order ranges =
    onto_heard (packet_at e.time e.what) before e.time (packets_in es) (heard_time e.time e.what) later.0 ranges.0.0
    (heard_from images e.time es order.0 order.1 ranges.1)

-- and their numbers
are_bytes : (bytes : List ℕ) → AllByRecursion (λ b. b < 256) bytes → AreBytes bytes
are_bytes [] h i = omega arith
are_bytes (b ∷ bs) h zero = h.0
are_bytes (b ∷ bs) h (suc i) = are_bytes bs h.1 i

one_more : (images time : ℕ) (w : What) (packets : List Packet) → AsksInRange images w → ArePackets packets → ArePackets (onto_packets (packet_at time w) packets)
one_more images time (what.Load image) packets range h = h
one_more images time (what.Unload id) packets range h = h
one_more images time (what.Radio to sort bytes) packets range h = (
  record { to = omega (arith, range.0); sort = omega (arith, range.1); bytes = are_bytes bytes range.3; short = range.2 },
  h,
)
one_more images time what.Dump packets range h = h

packets_are : (images : ℕ) (events : List Event) → AllByRecursion (IsInRange images) events → ArePackets (packets_in events)
packets_are images [] ranges = tt
packets_are images (e ∷ es) ranges = one_more images e.time e.what (packets_in es) ranges.0.1 (packets_are images es ranges.1)

all_from_zero : (events : List Event) → AllByRecursion (λ (e : Event). 0 ≤ e.time) events
all_from_zero [] = tt
all_from_zero (e ∷ es) = (omega arith, all_from_zero es)

-- What a script asks for may stand in a run.
pub record MayRun (events : List Event) : Type 0 where
  pub times : AreTimes (event_times (loader_events events))
  pub packet_times : AreTimes (packet_times (packets_in events))
  pub packets : ArePackets (packets_in events)

pub events_run : (images : ℕ) (events : List Event) → AreEvents images events → MayRun events
events_run images events good = record {
  times = times_from images 0 events (all_from_zero events) good.order good.ranges;
  packet_times = heard_from images 0 events (all_from_zero events) good.order good.ranges;
  packets = packets_are images events good.ranges;
}

pub script_runs : (images : ℕ) (text : List ℕ) (events : List Event) → refusal_of images text ≡ None → events ≡ events_of text → MayRun events
script_runs images text events none are =
    subst MayRun (sym are) (events_run images (events_of text) (scripts_have_events images text none))
