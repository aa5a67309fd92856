-- The parcel's entry is the one that begins at its address.
use Rattle.std.proofs.Common.{◌≡◌, Some, sym, ap, ◌∙◌, arith}
use Rattle.mote_layout.specs.Blocks.{starting_at, handed_over}
use Rattle.mote_layout.specs.Parcels.{IsParcelOf}
use Rattle.mote_layout.proofs.Beginnings.{begins_at}
use Rattle.mote_layout.proofs.Entries.{handed_over_loses}
use Rattle.sos_heap.proofs.heap.Heap.settle.Goals as goal

pub hand_over-requires-clause-there : goal.hand_over-requires-clause-there
hand_over-requires-clause-there c =
    (begins_at c.self.inside.blocks c.addr-address.result c.in-Some.segment c.beginning_at.ensures.blocks (sym c.in-Some.ensures.segment)).starts

pub returns-clause-settled : goal.returns-clause-settled
returns-clause-settled c =
    let begun = begins_at c.self.inside.blocks c.addr-address.result c.in-Some.segment c.beginning_at.ensures.blocks (sym c.in-Some.ensures.segment) in
    let first : c.in-Some.segment.first ≡ c.args.p.block = omega (arith, begun.address, c.addr-address.ensures.address) in
    c.hand_over.ensures.handed_over
    ∙ ap (λ block. handed_over block c.args.d c.self.inside.blocks) first
    ∙ ap (λ ss. handed_over c.args.p.block c.args.d ss) c.self.view_is

pub returns-clause-kernel : goal.returns-clause-kernel
returns-clause-kernel c =
    let begun = begins_at c.self.inside.blocks c.addr-address.result c.in-Some.segment c.beginning_at.ensures.blocks (sym c.in-Some.ensures.segment) in
    let first : c.in-Some.segment.first ≡ c.args.p.block = omega (arith, begun.address, c.addr-address.ensures.address) in
    let starts : starting_at c.self.inside.blocks c.args.p.block ≡ Some c.in-Some.segment = ap (λ block. starting_at c.self.inside.blocks block) (sym first) ∙ begun.starts in
    let parcel : IsParcelOf c.self.inside.blocks c.args.p = rw c.self.view_is c.requires.parcel in
    let is : c.hand_over.new.self ≡ handed_over c.args.p.block c.args.d c.self.inside.blocks = c.hand_over.ensures.handed_over ∙ ap (λ block. handed_over block c.args.d c.self.inside.blocks) first in
    rw (is, ← c.self.view_is)
    (handed_over_loses c.self.inside.blocks c.args.p c.args.d c.in-Some.segment c.beginning_at.ensures.blocks parcel starts c.requires.domain)
