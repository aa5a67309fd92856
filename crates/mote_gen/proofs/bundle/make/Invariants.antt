use Rattle.std.proofs.Common.{◌≡◌, ◌≤◌, ◌*◌, ◌++◌}
use Rattle.mote_gen.specs.Numbers.{number, numbers_of}
use Rattle.mote_gen.specs.Packets.{first_packets, loads, place_of, rise_bound, time_after}
use Rattle.mote_gen.proofs.bundle.make.Given as goal

abbrev pub invariant-loop-place : goal.invariant-loop-place
invariant-loop-place l = record {
  last : l.numbers.last ≡ number l.seed (place_of l.place);
  time : l.time ≡ time_after (numbers_of l.seed) l.place;
  early : l.time ≤ rise_bound * l.place;
  events : l.events.items ≡ loads ++ first_packets (numbers_of l.seed) l.place;
}
