use Rattle.std.proofs.Common.{◌≡◌, ◌∙◌, sym, ap, ℕ, suc, ◌+◌, List, ◌++◌, length, map, arith, append_assoc, append-nil, length-append}
use Rattle.mote_layout.specs.Memory.{block_count}
use Rattle.mote_layout.specs.Blocks.{starting_at}
use Rattle.mote_layout.specs.declared.segment.Segment.{Segment}
use Rattle.domain_model.specs.declared.line.TraceLine.{TraceLine}
use Rattle.domain_model.specs.Dump.{block_line}
use Rattle.kernel_call.specs.Values.{at_most_one}
use Rattle.kernel_call.proofs.Dumps.{from, from_first, from_last, segments_next, one_segment}
use Rattle.kernel_call.proofs.dump.dump_blocks.Goals as goal

pub loop-block-init : goal.loop-block-init
loop-block-init c =
    (ap (λ (ss : List Segment). c.args.lines.now ++ map (block_line c.args.modules.now) ss) (from_first c.args.blocks.now c.requires.sorted), omega arith)

pub loop-block-preserved : goal.loop-block-preserved
loop-block-preserved c =
    let modules = c.args.modules.now in
    let ss = c.args.blocks.now in
    let b = c.loop-block.block in
    let lines = c.loop-block.lines in
    let one = map (block_line modules) (at_most_one (starting_at ss b)) in
    let next : b + 1 ≡ suc b = omega arith in
    let size : length c.tell_block.new.lines ≡ length lines + length one = ap (λ (l : List TraceLine). length l) c.tell_block.ensures ∙ length-append lines one in (
      ap (λ (l : List TraceLine). l ++ map (block_line modules) (from (b + 1) ss)) c.tell_block.ensures
          ∙ ap (λ (n : ℕ). (lines ++ one) ++ map (block_line modules) (from n ss)) next
          ∙ append_assoc lines one (map (block_line modules) (from (suc b) ss))
          ∙ ap (λ (l : List TraceLine). lines ++ l) (sym (segments_next modules ss b c.requires.sorted))
          ∙ c.loop-block.invariant.0,
      omega (arith, size, one_segment modules (starting_at ss b), c.loop-block.invariant.1),
    )

pub returns-clause-lines : goal.returns-clause-lines
returns-clause-lines c =
    let end : block_count ≡ c.loop-block.block = omega arith in
    let lines = c.loop-block.lines in
    let rest = λ (ss : List Segment). lines ++ map (block_line c.args.modules.now) ss in
    sym (append-nil lines) ∙ ap rest (sym (from_last c.args.blocks.now c.requires.sorted)) ∙ ap (λ (n : ℕ). rest (from n c.args.blocks.now)) end ∙ c.loop-block.invariant.0
