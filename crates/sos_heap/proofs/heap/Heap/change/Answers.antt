-- What the domain has at the address begins with the address's block, and is a domain's before and after.
use Rattle.std.proofs.Common.{◌<◌, sym, ap, ◌∙◌, arith}
use Rattle.mote_layout.specs.Memory.{kernel}
use Rattle.mote_layout.specs.Blocks.{block_of, handed_over}
use Rattle.mote_layout.proofs.Beginnings.{begins_at}
use Rattle.mote_layout.proofs.Entries.{handed_over_stays}
use Rattle.sos_heap.proofs.heap.Heap.change.Goals as goal

pub hand_over-requires-clause-there : goal.hand_over-requires-clause-there
hand_over-requires-clause-there c =
    (begins_at c.self.inside.blocks c.args.a c.in_ok-segment.segment c.held.ensures.blocks c.in_ok-segment.ensures.held.0).starts

pub returns-clause-changed : goal.returns-clause-changed
returns-clause-changed c =
    let begun = begins_at c.self.inside.blocks c.args.a c.in_ok-segment.segment c.held.ensures.blocks c.in_ok-segment.ensures.held.0 in
    c.hand_over.ensures.handed_over
    ∙ ap (λ block. handed_over block c.args.to c.self.inside.blocks) (sym begun.block)
    ∙ ap (λ ss. handed_over (block_of c.args.a) c.args.to ss) c.self.view_is

pub returns-clause-kernel : goal.returns-clause-kernel
returns-clause-kernel c =
    let domain : c.in_ok-segment.segment.owner < kernel = omega (arith, c.in_ok-segment.ensures.held.1, c.requires.domain) in
    rw (c.hand_over.ensures.handed_over, ← c.self.view_is)
    (handed_over_stays c.self.inside.blocks c.args.a c.args.to c.in_ok-segment.segment c.held.ensures.blocks c.in_ok-segment.ensures.held.0 domain c.requires.to)
