-- Each turn takes out what the domain has that begins with one block more.
use Rattle.std.proofs.Common.{◌≡◌, Some, arith}
use Rattle.mote_layout.specs.Memory.{block_count}
use Rattle.mote_layout.specs.Blocks.{AreBlocks, block_address, without}
use Rattle.mote_layout.specs.Requests.{beginning_at, Holds}
use Rattle.mote_layout.proofs.Beginnings.{begins_at}
use Rattle.sos_heap.proofs.Purged.{purge_passed, purge_taken, purge_end}
use Rattle.sos_heap.proofs.held.clear_owner.Goals as goal
use Rattle.sos_heap.proofs.held.clear_owner.Goals.{in-Ok, in_default}

pub clear_segment-requires : goal.clear_segment-requires
clear_segment-requires c =
    (begins_at c.loop-block.blocks c.block_address.result c.in-Ok.segment c.in-Ok.ensures.blocks c.in-Ok.ensures.held.0).starts

pub loop-block-preserved : goal.loop-block-preserved
loop-block-preserved c =
    let old = c.args.blocks.now in
    let now = c.loop-block.blocks in
    elim c.match-held.branch [
      | in-Ok w ↦
          let s = w.in-Ok.segment in
          let begins : beginning_at now (block_address c.loop-block.block) ≡ Some s = rw (← c.block_address.ensures) w.in-Ok.ensures.held.0 in
          let after : AreBlocks (without s.first now) = rw (← w.clear_segment.ensures.cleared) w.clear_segment.ensures.blocks.1 in
          rw (w.blocks-is, w.clear_segment.ensures.cleared)
          (purge_taken c.args.d old now c.loop-block.block s w.in-Ok.ensures.blocks after c.loop-block.invariant begins w.in-Ok.ensures.held.1)
      | in_default w ↦
          let nothing : ¬ Holds now c.args.d (block_address c.loop-block.block) = rw (← c.block_address.ensures) w.in_default.ensures.held in
          rw w.blocks-is (purge_passed c.args.d old now c.loop-block.block c.held.ensures.blocks c.loop-block.invariant nothing)
    ]

pub returns : goal.returns
returns c =
    let end : c.loop-block.block ≡ block_count = omega arith in
    record { cleared = purge_end c.args.d c.args.blocks.now c.loop-block.blocks (rw end at c.loop-block.invariant) }
