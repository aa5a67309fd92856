-- The parcel's entry is gone.
use Rattle.std.proofs.Common.{◌≡◌, sym, ap, ◌∙◌, arith}
use Rattle.mote_layout.specs.Blocks.{without}
use Rattle.mote_layout.specs.Parcels.{IsParcelOf}
use Rattle.mote_layout.proofs.Beginnings.{begins_at}
use Rattle.mote_layout.proofs.Entries.{without_loses}
use Rattle.sos_heap.proofs.heap.Heap.scrap.Goals as goal

pub clear_segment-requires : goal.clear_segment-requires
clear_segment-requires c =
    (begins_at c.self.inside.blocks c.addr-address.result c.in-Some.segment c.beginning_at.ensures.blocks (sym c.in-Some.ensures.segment)).starts

pub returns-clause-scrapped : goal.returns-clause-scrapped
returns-clause-scrapped c =
    let begun = begins_at c.self.inside.blocks c.addr-address.result c.in-Some.segment c.beginning_at.ensures.blocks (sym c.in-Some.ensures.segment) in
    let first : c.in-Some.segment.first ≡ c.args.p.block = omega (arith, begun.address, c.addr-address.ensures.address) in
    c.clear_segment.ensures.cleared
    ∙ ap (λ block. without block c.self.inside.blocks) first
    ∙ ap (λ ss. without c.args.p.block ss) c.self.view_is

pub returns-clause-kernel : goal.returns-clause-kernel
returns-clause-kernel c =
    let begun = begins_at c.self.inside.blocks c.addr-address.result c.in-Some.segment c.beginning_at.ensures.blocks (sym c.in-Some.ensures.segment) in
    let first : c.in-Some.segment.first ≡ c.args.p.block = omega (arith, begun.address, c.addr-address.ensures.address) in
    let parcel : IsParcelOf c.self.inside.blocks c.args.p = rw c.self.view_is c.requires.parcel in
    let is : c.clear_segment.new.self ≡ without c.args.p.block c.self.inside.blocks = c.clear_segment.ensures.cleared ∙ ap (λ block. without block c.self.inside.blocks) first in
    rw (is, ← c.self.view_is) (without_loses c.self.inside.blocks c.args.p c.clear_segment.ensures.blocks.0 parcel)
