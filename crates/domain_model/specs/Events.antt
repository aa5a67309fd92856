-- The lines of a script in two lists, each in the script's order: the packets that come by radio, and the events that
-- are for the loader. The first of each is the next of its kind.
use Rattle.std.specs.Prelude.{ℕ, nat_le, min, Option, Some, None, slice_get, Bool, false, List, [], ◌∷◌, map}
use Rattle.mote_base.specs.declared.timer.Timer.{Timer}
use Rattle.domain_model.specs.declared.event.LoaderEvent.{LoaderEvent}
use Rattle.domain_model.specs.declared.event.LoaderOrder.TheVariants as order
use Rattle.domain_model.specs.declared.event.Packet.{Packet}
use Rattle.domain_model.specs.declared.script.Event.{Event}
use Rattle.domain_model.specs.declared.script.What.{What}
use Rattle.domain_model.specs.declared.script.What.TheVariants.{Load, Unload, Radio, Dump}

-- The event as the loader's, where it is for the loader.
abbrev pub at_time : ℕ → What → Option LoaderEvent
at_time time (Load image) = Some (record { time = time; what = order.Load image })
at_time time (Unload id) = Some (record { time = time; what = order.Unload id })
at_time time (Radio to sort bytes) = None
at_time time Dump = Some (record { time = time; what = order.Dump })

abbrev pub loader_event : Event → Option LoaderEvent
loader_event e = at_time e.time e.what

-- The loader's events, in their order.
abbrev pub onto_events : Option LoaderEvent → List LoaderEvent → List LoaderEvent
onto_events None events = events
onto_events (Some event) events = event ∷ events

abbrev pub loader_events : List Event → List LoaderEvent
loader_events [] = []
loader_events (e ∷ events) = onto_events (loader_event e) (loader_events events)

-- The packet that comes by an event, where it is one of the radio's.
abbrev pub packet_at : ℕ → What → Option Packet
packet_at time (Load image) = None
packet_at time (Unload id) = None
packet_at time (Radio to sort bytes) = Some (record { time = time; to = to; sort = sort; bytes = bytes })
packet_at time Dump = None

abbrev pub packet_of : Event → Option Packet
packet_of e = packet_at e.time e.what

-- The packets, in their order.
abbrev pub onto_packets : Option Packet → List Packet → List Packet
onto_packets None packets = packets
onto_packets (Some packet) packets = packet ∷ packets

abbrev pub packets_in : List Event → List Packet
packets_in [] = []
packets_in (e ∷ events) = onto_packets (packet_of e) (packets_in events)

-- the times of both, and the due moments of timers
abbrev pub event_times : List LoaderEvent → List ℕ
event_times events = map (λ (e : LoaderEvent). e.time) events

abbrev pub packet_times : List Packet → List ℕ
packet_times packets = map (λ (p : Packet). p.time) packets

abbrev pub timer_times : List Timer → List ℕ
timer_times timers = map (λ (t : Timer). t.due) timers

-- The first of these times has come.
abbrev pub is_due : List ℕ → ℕ → Bool
is_due [] now = false
is_due (time ∷ times) now = nat_le time now

-- the lesser of two times
abbrev pub earlier : Option ℕ → Option ℕ → Option ℕ
earlier None other = other
earlier (Some time) None = Some time
earlier (Some time) (Some other) = Some (min time other)

-- the time at which the next line of the script or the next timer is due; none where none is to come
abbrev pub next_time : List Packet → List LoaderEvent → List Timer → Option ℕ
next_time packets events timers =
    earlier (earlier (slice_get (packet_times packets) 0) (slice_get (event_times events) 0)) (slice_get (timer_times timers) 0)
