use Rattle.std.proofs.Common.{◌≡◌, ◌+◌, ◌*◌, ◌-◌, ◌≤◌, length}
use Rattle.module_image.specs.Reading.{subscribed_at}
use Rattle.module_image.proofs.Loop.{with_front}
use Rattle.module_image.proofs.reading.subscribed_list.Given as goal

abbrev pub invariant-loop : goal.invariant-loop
invariant-loop l = record {
  so_far : with_front l.list.items (subscribed_at (l.count - l.counter) l.at l.rest) ≡ subscribed_at l.count l.start l.bytes;
  held : length l.list.items ≡ l.counter;
  place : l.at ≡ l.start + 6 * l.counter;
  bound : l.counter ≤ l.count;
}
