use Rattle.std.proofs.Common.{◌≡◌, ◌≤◌, ◌+◌, length, ◌++◌, map}
use Rattle.domain_model.specs.Dump.{block_line}
use Rattle.kernel_call.proofs.Dumps.{from}
use Rattle.kernel_call.proofs.dump.dump_blocks.Given as goal

-- with the lines of the segments still to come these are all
abbrev pub invariant-loop-block : goal.invariant-loop-block
invariant-loop-block l =
    (l.lines ++ map (block_line l.modules) (from l.block l.blocks) ≡ l.fn.lines ++ map (block_line l.modules) l.blocks) × (length l.lines ≤ length l.fn.lines + l.block)
