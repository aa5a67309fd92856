-- A run begins in a good state.
use Rattle.std.proofs.Common.{ℕ, ◌≤◌, List, map, refl, arith}
use Rattle.std.specs.List.{AllByRecursion}
use Rattle.mote_layout.specs.Limits.{unit_limit, handler_limit}
use Rattle.mote_layout.specs.Memory.{register_count, ram_bytes}
use Rattle.domain_model.specs.declared.event.LoaderEvent.{LoaderEvent}
use Rattle.domain_model.specs.declared.event.Packet.{Packet}
use Rattle.domain_model.specs.Events.{packet_times, event_times, loader_events, packets_in}
use Rattle.domain_model.specs.Prepared.{Prep, prepared}
use Rattle.domain_model.specs.State.{State, Input, begins, start, no_memory}
use Rattle.domain_model.specs.Turn.{IsStart, is_unstated}
use Rattle.domain_model.specs.Good.{Good, IsGoodImage, ArePackets, AreTimes}
use Rattle.domain_model.proofs.ByteLists.{bytes_zeros}
use Rattle.domain_model.proofs.TurnLaws.{same_state_good}

pub begins_good : (images : List Prep) (packets : List Packet) (events : List LoaderEvent) (units handler : ℕ) → AllByRecursion IsGoodImage images → ArePackets packets → AreTimes (packet_times packets) → AreTimes (event_times events) → units ≤ unit_limit → 1 ≤ handler → handler ≤ handler_limit → Good (begins images packets events units handler)
unfolding no_memory
begins_good images packets events units handler good heard heard_times times most least highest = record {
  machine = record {
    processor = record { registers = refl; memory = refl; register_bytes = bytes_zeros register_count; memory_bytes = bytes_zeros ram_bytes; sreg_byte = omega arith };
    banks = refl;
    modules = tt;
    distinct = tt;
    blocks = tt;
    owners = tt;
    queues = record { within = (omega arith, omega arith); high = tt; low = tt };
    timers = record { few = omega arith; order = tt; apart = tt; each = tt };
    payloads = record { once = λ b. refl; high = tt; low = tt; in_hand = tt; beside = tt };
    handler = (refl, refl, refl);
  };
  images = good;
  packets = heard;
  packet_times = heard_times;
  times = times;
  clock = omega arith;
  total = omega arith;
  units = most;
  spent = omega arith;
  handler = (least, highest);
}

-- so is each state in which a run of such an input may begin
pub start_good : (i : Input) (s : State) → AllByRecursion IsGoodImage (map prepared i.images) → ArePackets (packets_in i.events) → AreTimes (packet_times (packets_in i.events)) → AreTimes (event_times (loader_events i.events)) → i.unit_limit ≤ unit_limit → 1 ≤ i.handler_limit → i.handler_limit ≤ handler_limit → IsStart i s → Good s
start_good i s good heard heard_times times most least highest first =
    same_state_good is_unstated (start i) s first.same (begins_good (map prepared i.images) (packets_in i.events) (loader_events i.events) i.unit_limit i.handler_limit good heard heard_times times most least highest)
