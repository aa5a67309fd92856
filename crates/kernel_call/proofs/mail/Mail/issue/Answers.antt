use Rattle.std.proofs.Common.{◌≡◌, ap, Some}
use Rattle.domain_model.specs.State.{Message}
use Rattle.domain_model.proofs.PayloadLaws.{payloads_gained}
use Rattle.kernel_call.proofs.mail.Mail.issue.Goals as goal

pub invariant_of-self-2 : goal.invariant_of-self-2
invariant_of-self-2 c =
    let p = c.in_ok-parcel.parcel in
    let load : c.carrying.result.load ≡ Some p = ap (λ (m : Message). m.load) c.carrying.ensures in
    rw c.append.ensures
    (payloads_gained c.self.inside.heap c.issue.new.self c.self.inside.queues c.self.inside.hand c.self.inside.kept c.carrying.result p load c.in_ok-parcel.ensures.kernel c.self.invariant)
