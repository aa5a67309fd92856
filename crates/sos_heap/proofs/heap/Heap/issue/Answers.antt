-- The kernel gets the place of its request, which is the parcel's.
use Rattle.std.proofs.Common.{◌≡◌, Some, None, sym, ap, ◌∙◌, arith}
use Rattle.std.proofs.lemmas.Option.{none-some}
use Rattle.mote_layout.specs.Requests.{place_for}
use Rattle.mote_layout.specs.Blocks.{block_address}
use Rattle.mote_layout.specs.Parcels.{Payload}
use Rattle.mote_layout.proofs.Places.{placed, no_place, a_place, lies_at}
use Rattle.mote_layout.proofs.Entries.{served_gains}
use Rattle.sos_heap.proofs.heap.Heap.issue.Goals as goal

pub new-requires : goal.new-requires
new-requires c =
    let place = placed c.self.inside.blocks c.args.size c.in_ok-block.block (sym c.serve.ensures.place ∙ c.in_ok-block.was) in
    omega (arith, place.some, place.fits.0)

pub returns-clause-kernel : goal.returns-clause-kernel
returns-clause-kernel c =
    let found : place_for c.self.inside.blocks c.args.size ≡ Some c.in_ok-block.block = sym c.serve.ensures.place ∙ c.in_ok-block.was in
    rw (c.new.ensures, c.serve.ensures.served, ← c.self.view_is)
    (served_gains c.self.inside.blocks c.args.size c.in_ok-block.block found c.self.invariant)

pub returns-in_err-block-clause-none : goal.returns-in_err-block-clause-none
returns-in_err-block-clause-none c =
    let nowhere : place_for c.self.inside.blocks c.args.size ≡ None = sym c.serve.ensures.place ∙ c.in_err-block.was in
    rw (← c.self.view_is) (λ _. no_place c.self.inside.blocks c.args.size nowhere, λ _. c.from_residual.ensures)

pub returns-clause-none : goal.returns-clause-none
returns-clause-none c =
    let found : place_for c.self.inside.blocks c.args.size ≡ Some c.in_ok-block.block = sym c.serve.ensures.place ∙ c.in_ok-block.was in
    rw (← c.self.view_is)
    (λ e. absurd (none-some c.new.result (sym e)), λ nowhere. absurd (a_place c.self.inside.blocks c.args.size c.in_ok-block.block found nowhere))

pub returns-clause-within : goal.returns-clause-within
returns-clause-within c =
    let place = placed c.self.inside.blocks c.args.size c.in_ok-block.block (sym c.serve.ensures.place ∙ c.in_ok-block.was) in
    lies_at c.in_ok-block.block c.args.size _ place.fits.0 (ap (λ (p : Payload). block_address p.block) c.new.ensures)
