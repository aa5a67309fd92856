use Rattle.std.proofs.Common.{◌≡◌, ◌-◌}
use Rattle.mote_layout.specs.Memory.{ram_start}
use Rattle.domain_model.specs.Free.{with_memory}
use Rattle.mote_tests.specs.Scribble.{inked}
use Rattle.mote_tests.proofs.scribble.scribble.Given as goal

-- as many bytes are ink as were passed
abbrev pub invariant-loop-passed : goal.invariant-loop-passed
invariant-loop-passed l = l.k ≡ with_memory l.fn.k (inked (l.first - ram_start) l.passed l.fn.k.processor.memory)
