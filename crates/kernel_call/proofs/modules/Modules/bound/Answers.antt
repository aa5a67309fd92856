use Rattle.std.proofs.Common.{◌∙◌, ap, List}
use Rattle.module_image.specs.Links.{Seat, bound_slot}
use Rattle.kernel_call.proofs.Tables.{bound_target, bound_used}
use Rattle.kernel_call.proofs.modules.Modules.bound.Goals as goal

pub returns-clause-within : goal.returns-clause-within
returns-clause-within c =
    bound_target c.self.inside.list.items c.args.domain c.args.slot c.bound.result c.self.invariant.seated
    (c.bound.ensures.slot ∙ ap (λ (l : List Seat). bound_slot l c.args.domain c.args.slot) c.self.invariant.tabled.linked)

pub returns-clause-used : goal.returns-clause-used
returns-clause-used c =
    rw (← c.self.view_is)
    (bound_used c.self.inside.list.items c.args.domain c.args.slot c.bound.result
    (c.bound.ensures.slot ∙ ap (λ (l : List Seat). bound_slot l c.args.domain c.args.slot) c.self.invariant.tabled.linked))
