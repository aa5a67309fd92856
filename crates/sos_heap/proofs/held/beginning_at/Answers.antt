-- The segment that begins at the address is the one there, if it begins there.
use Rattle.std.proofs.Common.{◌≡◌, Some, None, sym, ap, ◌∙◌, arith, eq-eqb}
use Rattle.std.proofs.lemmas.Bool.{cond-true, cond-false, ne_eqb}
use Rattle.mote_layout.specs.Blocks.{segment_at}
use Rattle.mote_layout.proofs.OneSegment.{segment_at-within}
use Rattle.mote_layout.proofs.Beginnings.{if_begins, beginning_at-segment_at}
use Rattle.sos_heap.proofs.held.beginning_at.Goals as goal

pub returns-in_err-segment-clause-segment : goal.returns-in_err-segment-clause-segment
returns-in_err-segment-clause-segment c =
    let ss = c.args.blocks.now in
    let at : segment_at ss c.args.a ≡ None = sym c.segment_at.ensures.segment ∙ c.in_err-segment.was in
    c.from_residual.ensures ∙ sym (beginning_at-segment_at ss c.args.a c.segment_at.ensures.blocks ∙ ap (λ o. if_begins c.args.a o) at)

pub block_address-requires : goal.block_address-requires
block_address-requires c =
    let ss = c.args.blocks.now in
    let at : segment_at ss c.args.a ≡ Some c.in_ok-segment.segment = sym c.segment_at.ensures.segment ∙ c.in_ok-segment.was in
    let within = segment_at-within ss c.args.a c.in_ok-segment.segment c.segment_at.ensures.blocks at in
    omega (arith, within.1, within.2)

pub returns-then-block_address-a-clause-segment : goal.returns-then-block_address-a-clause-segment
returns-then-block_address-a-clause-segment c =
    let ss = c.args.blocks.now in
    let s = c.in_ok-segment.segment in
    let at : segment_at ss c.args.a ≡ Some s = sym c.segment_at.ensures.segment ∙ c.in_ok-segment.was in
    let begins = sym c.block_address.ensures ∙ c.if-block_address-a.true in
    sym (beginning_at-segment_at ss c.args.a c.segment_at.ensures.blocks ∙ ap (λ o. if_begins c.args.a o) at ∙ cond-true _ (Some s) None (eq-eqb _ _ begins))

pub returns-else-block_address-a-clause-segment : goal.returns-else-block_address-a-clause-segment
returns-else-block_address-a-clause-segment c =
    let ss = c.args.blocks.now in
    let s = c.in_ok-segment.segment in
    let at : segment_at ss c.args.a ≡ Some s = sym c.segment_at.ensures.segment ∙ c.in_ok-segment.was in
    sym (beginning_at-segment_at ss c.args.a c.segment_at.ensures.blocks ∙ ap (λ o. if_begins c.args.a o) at ∙ cond-false _ (Some s) None (ne_eqb _ _ (λ e. c.if-block_address-a.false (c.block_address.ensures ∙ e))))
