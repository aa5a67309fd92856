-- A domain gets the place of its request, and the kernel's entries stay.
use Rattle.std.proofs.Common.{◌≡◌, Some, None, sym, ◌∙◌, arith}
use Rattle.std.proofs.lemmas.Option.{none-some}
use Rattle.mote_layout.specs.Requests.{place_for}
use Rattle.mote_layout.proofs.Places.{placed, no_place, a_place, lies_at}
use Rattle.mote_layout.proofs.Entries.{served_stays}
use Rattle.sos_heap.proofs.heap.Heap.give.Goals as goal

pub block_address-requires : goal.block_address-requires
block_address-requires c =
    let place = placed c.self.inside.blocks c.args.size c.in_ok-block.block (sym c.serve.ensures.place ∙ c.in_ok-block.was) in
    omega (arith, place.some, place.fits.0)

pub returns-clause-kernel : goal.returns-clause-kernel
returns-clause-kernel c =
    let found : place_for c.self.inside.blocks c.args.size ≡ Some c.in_ok-block.block = sym c.serve.ensures.place ∙ c.in_ok-block.was in
    rw (c.serve.ensures.served, ← c.self.view_is)
    (served_stays c.self.inside.blocks c.args.d c.args.size c.in_ok-block.block found c.requires.domain c.self.invariant)

pub returns-in_err-block-clause-none : goal.returns-in_err-block-clause-none
returns-in_err-block-clause-none c =
    let nowhere : place_for c.self.inside.blocks c.args.size ≡ None = sym c.serve.ensures.place ∙ c.in_err-block.was in
    rw (← c.self.view_is) (λ _. no_place c.self.inside.blocks c.args.size nowhere, λ _. c.from_residual.ensures)

pub returns-clause-none : goal.returns-clause-none
returns-clause-none c =
    let found : place_for c.self.inside.blocks c.args.size ≡ Some c.in_ok-block.block = sym c.serve.ensures.place ∙ c.in_ok-block.was in
    rw (← c.self.view_is)
    (λ e. absurd (none-some c.block_address.result (sym e)), λ nowhere. absurd (a_place c.self.inside.blocks c.args.size c.in_ok-block.block found nowhere))

pub returns-clause-within : goal.returns-clause-within
returns-clause-within c =
    let place = placed c.self.inside.blocks c.args.size c.in_ok-block.block (sym c.serve.ensures.place ∙ c.in_ok-block.was) in
    lies_at c.in_ok-block.block c.args.size c.block_address.result place.fits.0 c.block_address.ensures
