-- The plain runner meets the law of runners.
use Rattle.domain_model.specs.State.{KernelState, RunnerState}
use Rattle.domain_model.specs.Free.{UnitStep}
use Rattle.domain_model.specs.Good.{GoodMachine}
use Rattle.domain_model.specs.Runners.{unit_by}
use Rattle.domain_model.proofs.TurnLaws.{step_itself}
use Rattle.domain_model.proofs.RanLaws.{act_without_ran}
use Rattle.unit_run.specs.PlainUnits.{plain_acts}

pub plain_law : (k : KernelState) (r : RunnerState) → GoodMachine k r → UnitStep k r (unit_by (λ x. x) (plain_acts k r))
plain_law k r good =
    let step = step_itself k r good in
    record { kernel = step.kernel; runner = step.runner; lines = act_without_ran k r; ending = step.ending }
