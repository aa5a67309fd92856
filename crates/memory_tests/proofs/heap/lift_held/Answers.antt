-- What the kernel gains is a parcel.
use Rattle.memory_tests.proofs.heap.lift_held.Goals as goal

pub returns-clause-parcel : goal.returns-clause-parcel
returns-clause-parcel c = c.in-Ok.ensures.kernel.gained
