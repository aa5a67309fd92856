use Rattle.std.proofs.Common.{length}
use Rattle.mote_base.specs.Messages.{in_order}
use Rattle.kernel_call.proofs.Mails.{IsClearing}
use Rattle.kernel_call.proofs.mail.Mail.clear_named.Given as goal

-- some of the messages are gone with their payloads
abbrev pub invariant-named : goal.invariant-named
invariant-named l =
    IsClearing l.id l.fn.self.blocks l.fn.self.queues l.fn.self.hand l.fn.self.kept l.self-inside.heap l.self-inside.queues l.self-inside.hand l.self-inside.kept

abbrev pub decreases-named : goal.decreases-named
decreases-named l = length (in_order l.self-inside.queues)
