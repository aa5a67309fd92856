use Rattle.std.proofs.Common.{◌≡◌, ℕ, ◌<◌, length}
use Rattle.mote_layout.specs.Memory.{domain_count}
use Rattle.module_image.specs.Links.{bound_slot}
use Rattle.func_link.specs.Slots.{entry}
use Rattle.func_link.proofs.slots.Slots.of.Given as goal

abbrev pub invariant-loop-domain : goal.invariant-loop-domain
invariant-loop-domain l =
    (length l.rows ≡ domain_count) × ((k i : ℕ) → k < l.domain → entry l.rows k i ≡ bound_slot l.seats k i)
