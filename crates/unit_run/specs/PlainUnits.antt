-- What the plain runner does.
use Rattle.std.specs.Prelude.{ℕ}
use Rattle.unit_code.specs.Listing.{BankListing}
use Rattle.domain_model.specs.State.{KernelState, RunnerState}
use Rattle.domain_model.specs.Act.{act}
use Rattle.domain_model.specs.Runners.{ActedBy}
use Rattle.domain_model.specs.Turn.{placed}

-- a unit itself, in the free bytes too, with no line but the unit's
abbrev pub plain_acts : KernelState → RunnerState → ActedBy RunnerState
plain_acts k r =
    record { kernel = (act k r).kernel; runner = (act k r).runner; lines = (act k r).lines; ending = (act k r).ending }

-- it keeps the units alone
abbrev pub plain_placed : RunnerState → ℕ → BankListing → RunnerState
plain_placed r domain code = placed r domain code.units
