-- The events of a bundle's script.
use Rattle.std.specs.Prelude.{ℕ, zero, suc, ◌+◌, ◌*◌, List, ◌++◌, map}
use Rattle.std.specs.List.{range_with_len}
use Rattle.domain_model.specs.declared.script.Event.{Event}
use Rattle.domain_model.specs.declared.script.What.{What}
use Rattle.domain_model.specs.declared.script.What.TheVariants.{Load, Radio}
use Rattle.mote_gen.specs.Numbers.{draw, from, module_count, module_draws, packet_count, packet_draws}

-- Each image is loaded at time 0.
abbrev pub load_of : ℕ → Event
load_of image = record { time = 0; what = Load image }

unfoldable pub first_loads : ℕ → List Event
first_loads count = map load_of (range_with_len 0 count)

abbrev pub loads : List Event
loads = first_loads module_count

-- the type of a packet, and how many bytes it has
abbrev pub packet_type : ℕ
packet_type = 7

abbrev pub packet_bytes : ℕ
packet_bytes = 8

-- Below which bounds a packet's numbers are drawn: by how much more than one unit it comes after the packet before it,
-- which module gets it, and each of its bytes.
abbrev pub rise_bound : ℕ
rise_bound = 99

abbrev pub packet_receivers : ℕ
packet_receivers = module_count

abbrev pub byte_bound : ℕ
byte_bound = 256

abbrev pub rise_of : (ℕ → ℕ) → ℕ
rise_of numbers = 1 + draw numbers 0 rise_bound

abbrev pub bytes_of : (ℕ → ℕ) → List ℕ
bytes_of numbers = map (λ byte. draw numbers byte byte_bound) (range_with_len 0 packet_bytes)

-- What a packet is, by the numbers that are drawn for it.
abbrev pub what_of : (ℕ → ℕ) → What
what_of numbers = Radio (1 + draw numbers 1 packet_receivers) packet_type (bytes_of (λ byte. numbers (2 + byte)))

-- the place of the first number that is drawn for a packet; packets are counted from 0
abbrev pub place_of : ℕ → ℕ
place_of packet = module_count * module_draws + packet_draws * packet

-- The time when as many packets have come: it rises with each.
unfoldable pub time_after : List ℕ → ℕ → ℕ
time_after numbers zero = 0
time_after numbers (suc packet) = time_after numbers packet + rise_of (from numbers (place_of packet))

abbrev pub packet_at : List ℕ → ℕ → Event
packet_at numbers packet = record {
  time = time_after numbers (packet + 1);
  what = what_of (from numbers (place_of packet));
}

unfoldable pub first_packets : List ℕ → ℕ → List Event
first_packets numbers count = map (packet_at numbers) (range_with_len 0 count)

abbrev pub packets_of : List ℕ → List Event
packets_of numbers = first_packets numbers packet_count

-- The loads, and behind them the packets.
abbrev pub events_of : List ℕ → List Event
events_of numbers = loads ++ packets_of numbers
