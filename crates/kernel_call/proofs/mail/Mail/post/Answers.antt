use Rattle.kernel_call.proofs.Mails.{posted_kept}
use Rattle.kernel_call.proofs.mail.Mail.post.Goals as goal

pub invariant_of-self : goal.invariant_of-self
invariant_of-self c =
    rw c.post.ensures.posted
    (posted_kept c.self.inside.heap c.self.inside.queues c.self.inside.hand c.self.inside.kept c.args.m c.requires.plain c.self.invariant)
