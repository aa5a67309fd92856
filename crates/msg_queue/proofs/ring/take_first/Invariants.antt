-- What was passed stands behind what is ahead, and no place of the ring is lost.
use Rattle.std.proofs.Common.{◌≡◌, ◌≤◌, length}
use Rattle.mote_base.specs.Messages.{names}
use Rattle.msg_queue.proofs.Round.{Round}
use Rattle.msg_queue.proofs.ring.take_first.Given as goal

abbrev pub invariant-loop : goal.invariant-loop
invariant-loop g l =
    (l.queue.capacity ≡ l.fn.queue.capacity) × (length l.queue.items ≤ l.queue.capacity) × Round (names l.id) l.fn.queue.items l.counter l.queue.items l.taken × (l.end ≡ length l.fn.queue.items)
