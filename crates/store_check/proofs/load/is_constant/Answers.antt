-- The segment at the address is the block of constants, or the address lies in none.
use Rattle.std.proofs.Common.{◌≡◌, Some, sym, refl, ◌∙◌, arith}
use Rattle.mote_layout.specs.Blocks.{segment_at}
use Rattle.mote_layout.proofs.OneSegment.{segment_at-within}
use Rattle.store_check.proofs.Owners.{constants_tell, constants_test-is, kernels_block, others_block}
use Rattle.store_check.proofs.load.is_constant.Goals as goal

pub returns-in_default-clause-held : goal.returns-in_default-clause-held
returns-in_default-clause-held c =
    constants_tell c.args.map.now c.args.constants c.args.a _ _ c.segment_at.ensures.blocks (sym c.in_default.is ∙ c.segment_at.ensures.segment) refl

pub returns-in_default-clause-value : goal.returns-in_default-clause-value
returns-in_default-clause-value c = constants_test-is c.args.map.now c.args.constants c.args.a _ (returns-in_default-clause-held c)

pub block_address-requires : goal.block_address-requires
block_address-requires c =
    let at : segment_at c.args.map.now c.args.a ≡ Some c.in-Some.segment = sym c.segment_at.ensures.segment ∙ c.in-Some.is in
    let within = segment_at-within c.args.map.now c.args.a c.in-Some.segment c.segment_at.ensures.blocks at in
    omega (arith, within.2)

pub returns-then-segment-eq-KERNEL-clause-held : goal.returns-then-segment-eq-KERNEL-clause-held
returns-then-segment-eq-KERNEL-clause-held c =
    constants_tell c.args.map.now c.args.constants c.args.a _ _ c.segment_at.ensures.blocks (sym c.in-Some.is ∙ c.segment_at.ensures.segment)
    (kernels_block c.in-Some.segment c.args.constants c.block_address.result c.if-segment-eq-KERNEL.true c.block_address.ensures)

pub returns-then-segment-eq-KERNEL-clause-value : goal.returns-then-segment-eq-KERNEL-clause-value
returns-then-segment-eq-KERNEL-clause-value c = constants_test-is c.args.map.now c.args.constants c.args.a _ (returns-then-segment-eq-KERNEL-clause-held c)

pub returns-else-segment-eq-KERNEL-clause-held : goal.returns-else-segment-eq-KERNEL-clause-held
returns-else-segment-eq-KERNEL-clause-held c =
    constants_tell c.args.map.now c.args.constants c.args.a _ _ c.segment_at.ensures.blocks (sym c.in-Some.is ∙ c.segment_at.ensures.segment)
    (others_block c.in-Some.segment c.args.constants c.if-segment-eq-KERNEL.false)

pub returns-else-segment-eq-KERNEL-clause-value : goal.returns-else-segment-eq-KERNEL-clause-value
returns-else-segment-eq-KERNEL-clause-value c = constants_test-is c.args.map.now c.args.constants c.args.a _ (returns-else-segment-eq-KERNEL-clause-held c)
