-- What begins at the address lies in the heap, so its bytes are few.
use Rattle.std.proofs.Common.{arith}
use Rattle.mote_layout.proofs.Beginnings.{begins_at}
use Rattle.sos_heap.proofs.held.held_bytes.Goals as goal

pub overflow_mul-segment : goal.overflow_mul-segment
overflow_mul-segment c =
    let begun = begins_at c.args.blocks.now c.args.a c.in_ok-segment.segment c.held.ensures.blocks c.in_ok-segment.ensures.held.0 in
    omega (arith, begun.fits.2)
