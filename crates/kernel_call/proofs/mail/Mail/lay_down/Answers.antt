use Rattle.std.proofs.Common.{◌≡◌, ◌∙◌, ap, sym, Option, Some}
use Rattle.domain_model.specs.State.{Message}
use Rattle.domain_model.specs.Payloads.{load_of}
use Rattle.domain_model.proofs.PayloadLaws.{payloads_ended}
use Rattle.kernel_call.proofs.mail.Mail.lay_down.Goals as goal

pub invariant_of-self : goal.invariant_of-self
invariant_of-self c =
    let held : c.self.inside.hand ≡ Some c.in-Some.message = sym c.take.ensures.value ∙ c.in-Some.is in
    let load : c.in-Some.message.load ≡ load_of c.self.inside.hand = ap (λ (o : Option Message). load_of o) (sym held) in
    rw (c.free_load.ensures.load, load, c.take.ensures.after)
    (payloads_ended c.self.inside.heap c.self.inside.queues c.self.inside.hand c.self.inside.kept c.free_load.ensures.blocks.0 c.self.invariant)
