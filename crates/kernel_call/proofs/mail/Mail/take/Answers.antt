use Rattle.std.proofs.Common.{◌≡◌, ◌∙◌, ap, sym, Option, Some, None}
use Rattle.domain_model.specs.State.{Message}
use Rattle.domain_model.specs.Payloads.{load_of}
use Rattle.kernel_call.proofs.Mails.{unloaded_none}
use Rattle.domain_model.proofs.PayloadLaws.{payloads_taken}
use Rattle.kernel_call.proofs.mail.Mail.take.Goals as goal

pub invariant_of-self-in-Some : goal.invariant_of-self-in-Some
invariant_of-self-in-Some c =
    let p = c.in-Some.parcel in
    let load : load_of c.self.inside.hand ≡ Some p = sym c.unload.ensures.load ∙ c.in-Some.is in
    let none : load_of c.unload.new.hand ≡ None = ap (λ (o : Option Message). load_of o) c.unload.ensures.rest ∙ unloaded_none c.self.inside.hand in
    payloads_taken c.self.inside.heap c.settle.new.self c.self.inside.queues c.self.inside.hand c.unload.new.hand c.self.inside.kept p load none c.settle.ensures.blocks.1 c.settle.ensures.kernel c.self.invariant
