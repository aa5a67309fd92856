use Rattle.std.proofs.Common.{◌≤◌}
use Rattle.memory_tests.proofs.heap.scanned.Given as goal

abbrev pub invariant-loop-block : goal.invariant-loop-block
invariant-loop-block l = l.run ≤ l.block
