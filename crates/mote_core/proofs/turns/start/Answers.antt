use Rattle.std.proofs.Common.{◌∙◌, sym}
use Rattle.kernel_call.proofs.Seats.{used_row}
use Rattle.mote_core.proofs.turns.start.Goals as goal

pub unreachable-requires : goal.unreachable-requires
unreachable-requires g c = used_row c.args.k.now.modules c.args.domain c.requires.used (sym c.in_default.is ∙ c.module_at.ensures.row)
