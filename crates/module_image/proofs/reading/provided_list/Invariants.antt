use Rattle.std.proofs.Common.{◌≡◌, ◌+◌, ◌*◌, ◌-◌, ◌≤◌, length}
use Rattle.module_image.specs.Reading.{provided_at}
use Rattle.module_image.proofs.Loop.{with_front}
use Rattle.module_image.proofs.reading.provided_list.Given as goal

abbrev pub invariant-loop : goal.invariant-loop
invariant-loop l = record {
  so_far : with_front l.list.items (provided_at (l.count - l.counter) l.at l.least l.rest) ≡ provided_at l.count l.start 0 l.bytes;
  held : length l.list.items ≡ l.counter;
  place : l.at ≡ l.start + 7 * l.counter;
  bound : l.counter ≤ l.count;
}
