use Rattle.std.proofs.Common.{◌≡◌, ℕ, ◌<◌, None, get_or, length}
use Rattle.mote_layout.specs.Limits.{subscribed_limit}
use Rattle.module_image.specs.Links.{bound_slot}
use Rattle.func_link.proofs.slots.row_of.Given as goal

abbrev pub invariant-loop-slot : goal.invariant-loop-slot
invariant-loop-slot l =
    (length l.row ≡ subscribed_limit) × ((k : ℕ) → k < l.slot → get_or l.row k None ≡ bound_slot l.seats l.domain k)
