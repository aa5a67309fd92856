-- What the domain has at the address begins there within the heap, and the kernel gains it.
use Rattle.std.proofs.Common.{◌<◌, ◌≤◌, ◌*◌, ap, ◌∙◌, arith}
use Rattle.mote_layout.specs.Memory.{kernel, block_bytes}
use Rattle.mote_layout.specs.Blocks.{block_address}
use Rattle.mote_layout.specs.Parcels.{Payload}
use Rattle.mote_layout.proofs.Beginnings.{begins_at}
use Rattle.mote_layout.proofs.Entries.{handed_over_gains}
use Rattle.sos_heap.proofs.heap.Heap.lift.Goals as goal

pub hand_over-requires-clause-there : goal.hand_over-requires-clause-there
hand_over-requires-clause-there c =
    (begins_at c.self.inside.blocks c.args.a c.in_ok-segment.segment c.held_bytes.ensures.blocks c.in_ok-segment.ensures.held.0).starts

pub new-requires : goal.new-requires
new-requires c =
    let begun = begins_at c.self.inside.blocks c.args.a c.in_ok-segment.segment c.held_bytes.ensures.blocks c.in_ok-segment.ensures.held.0 in
    omega (arith, begun.fits.1, begun.fits.2)

pub returns-clause-parcel : goal.returns-clause-parcel
returns-clause-parcel c =
    let begun = begins_at c.self.inside.blocks c.args.a c.in_ok-segment.segment c.held_bytes.ensures.blocks c.in_ok-segment.ensures.held.0 in
    (ap (λ (p : Payload). block_address p.block) c.new.ensures ∙ begun.address, ap (λ (p : Payload). p.len) c.new.ensures)

pub returns-clause-kernel : goal.returns-clause-kernel
returns-clause-kernel c =
    let domain : c.in_ok-segment.segment.owner < kernel = omega (arith, c.in_ok-segment.ensures.held.1, c.requires.domain) in
    let bytes : c.args.len ≤ block_bytes * c.in_ok-segment.segment.count = c.in_ok-segment.ensures.held.2 in
    rw (c.new.ensures, c.hand_over.ensures.handed_over, ← c.self.view_is)
    (handed_over_gains c.self.inside.blocks c.args.a c.args.len c.in_ok-segment.segment c.held_bytes.ensures.blocks c.in_ok-segment.ensures.held.0 domain bytes)
