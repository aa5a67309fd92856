use Rattle.std.proofs.Common.{◌≡◌, ◌∙◌, sym, ap, ℕ, Option}
use Rattle.mote_layout.specs.Blocks.{segment_at, starting_at}
use Rattle.mote_layout.specs.declared.segment.Segment.{Segment}
use Rattle.kernel_call.specs.Values.{begun_by}
use Rattle.kernel_call.proofs.Dumps.{starting_by, starting_within}
use Rattle.kernel_call.proofs.dump.starting_at.Goals as goal

pub returns-clause-at : goal.returns-clause-at
returns-clause-at c =
    let found = c.segment_at.ensures.segment ∙ ap (λ (a : ℕ). segment_at c.args.blocks.now a) c.block_address.ensures in
    c.begun_by.ensures ∙ ap (λ (o : Option Segment). begun_by c.args.block o) found ∙ sym (starting_by c.args.blocks.now c.args.block c.segment_at.ensures.blocks)

pub returns-clause-within : goal.returns-clause-within
returns-clause-within c =
    let found = c.segment_at.ensures.segment ∙ ap (λ (a : ℕ). segment_at c.args.blocks.now a) c.block_address.ensures in
    let at : c.begun_by.result ≡ starting_at c.args.blocks.now c.args.block = c.begun_by.ensures ∙ ap (λ (o : Option Segment). begun_by c.args.block o) found ∙ sym (starting_by c.args.blocks.now c.args.block c.segment_at.ensures.blocks) in
    starting_within c.begun_by.result c.args.blocks.now c.args.block c.segment_at.ensures.blocks at
