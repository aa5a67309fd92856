use Rattle.kernel_call.proofs.Mails.{held_within}
use Rattle.kernel_call.proofs.mail.Mail.holds.Goals as goal

pub returns-clause-within : goal.returns-clause-within
returns-clause-within c = λ is. held_within c.self.inside.heap c.args.d c.args.a c.args.len c.holds.ensures.blocks (c.holds.ensures.held.0 is)
