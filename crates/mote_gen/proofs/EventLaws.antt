-- The events are such as a script can have.
use Rattle.std.proofs.Common.{◌≡◌, ℕ, zero, suc, ◌+◌, ◌-◌, ◌*◌, ◌<◌, ◌≤◌, List, [], ◌∷◌, ◌++◌, length, length-append, map, refl, sym, subst, ap, ◌∙◌, arith}
use Rattle.std.specs.List.{AllByRecursion, range_with_len}
use Rattle.std.proofs.lemmas.List.FromFn.{length-map-range_with_len}
use Rattle.mote_layout.specs.Limits.{event_limit}
use Rattle.domain_model.specs.declared.script.Event.{Event}
use Rattle.event_script.specs.Spelled.{AreEvents, AreInOrder, IsInRange}
use Rattle.event_script.proofs.Times.{MayRun, events_run}
use Rattle.mote_gen.specs.Numbers.{draw, from, module_count, packet_count}
use Rattle.mote_gen.specs.Packets.{byte_bound, events_of, first_loads, first_packets, load_of, loads, packet_at, packet_bytes, packets_of, place_of, rise_bound, time_after}
use Rattle.mote_gen.proofs.Lists.{all_append, all_from}
use Rattle.mote_gen.proofs.Events.{time_after-more, time_after-zero}

-- The time rises with each packet, by 99 at most.
rises : (numbers : List ℕ) (count more : ℕ) → time_after numbers count ≤ time_after numbers (count + more)
rises numbers count zero = let same : count + 0 ≡ count = omega arith in omega (arith, ap (time_after numbers) same)
rises numbers count (suc more) =
    let same : count + suc more ≡ count + more + 1 = omega arith in
    omega (arith, ap (time_after numbers) same, time_after-more numbers (count + more), rises numbers count more)

early : (numbers : List ℕ) (count : ℕ) → time_after numbers count ≤ rise_bound * count
early numbers zero = omega (arith, time_after-zero numbers)
early numbers (suc count) =
    let same : suc count ≡ count + 1 = omega arith in
    omega (arith, ap (time_after numbers) same, time_after-more numbers count, early numbers count)

-- Events that come one after the other are in order.
all_later : (f : ℕ → Event) (time start count : ℕ) → ((k : ℕ) → start ≤ k → time ≤ (f k).time)
    → AllByRecursion (λ (e : Event). time ≤ e.time) (map f (range_with_len start count))
all_later f time start zero later = tt
all_later f time start (suc count) later = (later start (omega arith), all_later f time (start + 1) count (λ k low. later k (omega arith)))

in_order : (f : ℕ → Event) (start count : ℕ) → ((j k : ℕ) → j ≤ k → (f j).time ≤ (f k).time) → AreInOrder (map f (range_with_len start count))
in_order f start zero rise = tt
in_order f start (suc count) rise =
    (all_later f (f start).time (start + 1) count (λ k low. rise start k (omega arith)), in_order f (start + 1) count rise)

packets_rise : (numbers : List ℕ) (j k : ℕ) → j ≤ k → (packet_at numbers j).time ≤ (packet_at numbers k).time
packets_rise numbers j k low =
    let at : j + 1 + (k - j) ≡ k + 1 = omega arith in
    omega (arith, rises numbers (j + 1) (k - j), ap (time_after numbers) at)

packets_in_order : (numbers : List ℕ) (count : ℕ) → AreInOrder (first_packets numbers count)
unfolding first_packets
packets_in_order numbers count = in_order (packet_at numbers) 0 count (packets_rise numbers)

-- Events at time 0 come before any.
all_from_zero : (time : ℕ) (events : List Event) → time ≡ 0 → AllByRecursion (λ (e : Event). time ≤ e.time) events
all_from_zero time [] at = tt
all_from_zero time (e ∷ es) at = (omega arith, all_from_zero time es at)

in_order_behind : (front back : List Event) → AllByRecursion (λ (e : Event). e.time ≡ 0) front → AreInOrder back → AreInOrder (front ++ back)
in_order_behind [] back at order = order
in_order_behind (e ∷ es) back at order = (all_from_zero e.time (es ++ back) at.0, in_order_behind es back at.1 order)

loads_at_zero : (count : ℕ) → AllByRecursion (λ (e : Event). e.time ≡ 0) (first_loads count)
unfolding first_loads
loads_at_zero count = all_from (λ (e : Event). e.time ≡ 0) load_of 0 count (λ k low. refl)

loads_in_range : (count : ℕ) → count ≤ module_count → AllByRecursion (IsInRange module_count) (first_loads count)
unfolding first_loads
loads_in_range count few = all_from (IsInRange module_count) load_of 0 count (λ k low. (omega arith, (omega arith, omega arith)))

bytes_in_range : (numbers : ℕ → ℕ) (count : ℕ) → AllByRecursion (λ b. b < 256) (map (λ byte. draw numbers byte byte_bound) (range_with_len 0 count))
bytes_in_range numbers count = all_from (λ b. b < 256) (λ byte. draw numbers byte byte_bound) 0 count (λ k low. omega arith)

packet_in_range : (numbers : List ℕ) (k : ℕ) → k < packet_count → IsInRange module_count (packet_at numbers k)
packet_in_range numbers k low = (
  omega (arith, early numbers (k + 1)),
  ((omega arith, omega arith), omega arith, omega arith, bytes_in_range (λ byte. from numbers (place_of k) (2 + byte)) packet_bytes),
)

packets_in_range : (numbers : List ℕ) (count : ℕ) → count ≤ packet_count → AllByRecursion (IsInRange module_count) (first_packets numbers count)
unfolding first_packets
packets_in_range numbers count few = all_from (IsInRange module_count) (packet_at numbers) 0 count (λ k low. packet_in_range numbers k (omega arith))

length-first_loads : (count : ℕ) → length (first_loads count) ≡ count
unfolding first_loads
length-first_loads count = length-map-range_with_len load_of 0 count

length-first_packets : (numbers : List ℕ) (count : ℕ) → length (first_packets numbers count) ≡ count
unfolding first_packets
length-first_packets numbers count = length-map-range_with_len (packet_at numbers) 0 count

pub are_events : (numbers : List ℕ) → AreEvents module_count (events_of numbers)
are_events numbers = record {
  order = in_order_behind loads (packets_of numbers) (loads_at_zero module_count) (packets_in_order numbers packet_count);
  ranges = all_append (IsInRange module_count) loads (packets_of numbers)
      (loads_in_range module_count (omega arith)) (packets_in_range numbers packet_count (omega arith));
  few = omega (arith, length-append loads (packets_of numbers), length-first_loads module_count, length-first_packets numbers packet_count);
}

-- With all packets they are as few as a script may have, and they may stand in a run.
pub are_few : (numbers : List ℕ) (count : ℕ) (events : List Event) → count ≡ packet_count → events ≡ loads ++ first_packets numbers count → length events ≤ event_limit
are_few numbers count events all are =
    subst (λ (es : List Event). length es ≤ event_limit) (sym (are ∙ ap (λ n. loads ++ first_packets numbers n) all)) (are_events numbers).few

pub may_run : (numbers : List ℕ) (count : ℕ) (events : List Event) → count ≡ packet_count → events ≡ loads ++ first_packets numbers count → MayRun events
may_run numbers count events all are =
    subst MayRun (sym (are ∙ ap (λ n. loads ++ first_packets numbers n) all)) (events_run module_count (events_of numbers) (are_events numbers))
