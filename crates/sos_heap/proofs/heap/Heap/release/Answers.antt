-- What the domain has at the address begins with the address's block, and is not the kernel's.
use Rattle.std.proofs.Common.{◌<◌, sym, ap, ◌∙◌, arith}
use Rattle.mote_layout.specs.Memory.{kernel}
use Rattle.mote_layout.specs.Blocks.{block_of, without}
use Rattle.mote_layout.proofs.Beginnings.{begins_at}
use Rattle.mote_layout.proofs.Entries.{without_stays}
use Rattle.sos_heap.proofs.heap.Heap.release.Goals as goal

pub clear_segment-requires : goal.clear_segment-requires
clear_segment-requires c =
    (begins_at c.self.inside.blocks c.args.a c.in_ok-segment.segment c.held.ensures.blocks c.in_ok-segment.ensures.held.0).starts

pub returns-clause-released : goal.returns-clause-released
returns-clause-released c =
    let begun = begins_at c.self.inside.blocks c.args.a c.in_ok-segment.segment c.held.ensures.blocks c.in_ok-segment.ensures.held.0 in
    c.clear_segment.ensures.cleared
    ∙ ap (λ block. without block c.self.inside.blocks) (sym begun.block)
    ∙ ap (λ ss. without (block_of c.args.a) ss) c.self.view_is

pub returns-clause-kernel : goal.returns-clause-kernel
returns-clause-kernel c =
    let domain : c.in_ok-segment.segment.owner < kernel = omega (arith, c.in_ok-segment.ensures.held.1, c.requires.domain) in
    rw (c.clear_segment.ensures.cleared, ← c.self.view_is)
    (without_stays c.self.inside.blocks c.args.a c.in_ok-segment.segment c.held.ensures.blocks c.in_ok-segment.ensures.held.0 domain)
