use Rattle.std.proofs.Common.{ℕ, ◌<◌, length, None, inl, inr, sym, ◌∙◌, arith}
use Rattle.std.proofs.lemmas.Bool.{cases_lt}
use Rattle.std.proofs.lemmas.List.{get_or_past, length-set}
use Rattle.std.proofs.lemmas.List.Edits.{fill_by_more}
use Rattle.mote_layout.specs.Limits.{subscribed_limit}
use Rattle.module_image.specs.Links.{bound_slot}
use Rattle.func_link.proofs.Seats.{bound_slot-past}
use Rattle.func_link.proofs.slots.row_of.Goals as goal

pub loop-slot-preserved : goal.loop-slot-preserved
loop-slot-preserved c =
    let size = c.loop-slot.invariant.0 in
    let within : c.loop-slot.slot < length c.loop-slot.row = omega arith in
    let f = λ (j : ℕ). bound_slot c.args.seats.now c.args.domain j in (
      length-set c.loop-slot.row c.loop-slot.slot c.bound_slot.result ∙ size,
      λ k below. rw c.bound_slot.ensures (fill_by_more f c.loop-slot.row c.loop-slot.slot None within c.loop-slot.invariant.1 k below),
    )

pub returns : goal.returns
returns c = λ i.
    elim (cases_lt i subscribed_limit) [
      | inl below ↦ c.loop-slot.invariant.1 i (omega arith)
      | inr past ↦
          let size = c.loop-slot.invariant.0 in
          get_or_past c.loop-slot.row i None (omega arith) ∙ sym (bound_slot-past c.args.seats.now c.args.domain i c.requires past)
    ]
