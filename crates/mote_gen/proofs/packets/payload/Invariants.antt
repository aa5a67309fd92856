use Rattle.std.proofs.Common.{◌≡◌, map, length}
use Rattle.std.specs.List.{range_with_len}
use Rattle.mote_gen.specs.Numbers.{behind, draw, number}
use Rattle.mote_gen.specs.Packets.{byte_bound}
use Rattle.mote_gen.proofs.packets.payload.Given as goal

abbrev pub invariant-loop-place : goal.invariant-loop-place
invariant-loop-place l = record {
  last : l.numbers.last ≡ number l.fn.numbers.last l.place;
  bytes : l.bytes ≡ map (λ byte. draw (behind l.fn.numbers.last) byte byte_bound) (range_with_len 0 l.place);
  held : length l.bytes ≡ l.place;
}
