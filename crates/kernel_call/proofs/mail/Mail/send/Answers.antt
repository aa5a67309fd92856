use Rattle.std.proofs.Common.{◌≡◌, ap, Some}
use Rattle.domain_model.specs.State.{Message}
use Rattle.domain_model.proofs.PayloadLaws.{payloads_gained}
use Rattle.kernel_call.proofs.mail.Mail.send.Goals as goal

pub invariant_of-self : goal.invariant_of-self
invariant_of-self c =
    let load : c.carrying.result.load ≡ Some c.in-Ok.parcel = ap (λ (m : Message). m.load) c.carrying.ensures in
    rw c.append.ensures
    (payloads_gained c.self.inside.heap c.lift.new.self c.self.inside.queues c.self.inside.hand c.self.inside.kept c.carrying.result c.in-Ok.parcel load c.in-Ok.ensures.kernel c.self.invariant)
