use Rattle.std.proofs.Common.{subst, sym}
use Rattle.domain_model.specs.Payloads.{IsHeld}
use Rattle.kernel_call.proofs.Parcels.{kept_held, kept_let_go}
use Rattle.kernel_call.proofs.mail.Mail.let_go.Goals as goal

pub free_load-requires : goal.free_load-requires
free_load-requires c =
    subst (IsHeld c.self.inside.heap) (sym c.hand_out-parcel.ensures.parcel) (kept_held c.self.inside.heap c.self.inside.kept c.args.d c.self.invariant.beside)

pub invariant_of-self : goal.invariant_of-self
invariant_of-self c =
    rw (c.free_load.ensures.load, c.hand_out-parcel.ensures.rest, c.hand_out-parcel.ensures.parcel)
    (kept_let_go c.self.inside.heap c.self.inside.queues c.self.inside.hand c.self.inside.kept c.args.d c.free_load.ensures.blocks.0
    (rw c.known.ensures c.requires) c.self.invariant)
