use Rattle.std.proofs.Common.{◌≡◌, ◌≤◌, ◌+◌, length, ◌++◌, drop, map}
use Rattle.mote_base.specs.Messages.{list_of}
use Rattle.domain_model.specs.Dump.{message_line}
use Rattle.kernel_call.proofs.dump.dump_messages.Given as goal

-- with the lines of the messages still to come these are all
abbrev pub invariant-loop-place : goal.invariant-loop-place
invariant-loop-place l =
    (l.lines ++ map (message_line l.high) (drop l.place (list_of l.high l.mail.queues))
    ≡ l.fn.lines ++ map (message_line l.high) (list_of l.high l.mail.queues)) × (length l.lines ≤ length l.fn.lines + l.place)
