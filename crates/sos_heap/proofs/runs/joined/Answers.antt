-- The join has the runs of both stretches.
use Rattle.std.proofs.Common.{sym, subst}
use Rattle.sos_heap.specs.declared.runs.Runs.{Runs}
use Rattle.sos_heap.specs.Runs.{AreRuns}
use Rattle.sos_heap.proofs.Joins.{AreRuns-joined}
use Rattle.sos_heap.proofs.runs.joined.Goals as goal

pub returns-clause-runs : goal.returns-clause-runs
returns-clause-runs c free low p q few =
    subst (λ (n : Runs). AreRuns free low n) (sym c.sums.ensures) (AreRuns-joined free low c.args.a c.args.b p q few)
