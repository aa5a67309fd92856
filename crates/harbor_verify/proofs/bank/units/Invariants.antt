use Rattle.std.proofs.Common.{◌≡◌, ◌++◌, drop}
use Rattle.harbor_verify.specs.Verdict.{units_in}
use Rattle.harbor_verify.proofs.bank.units.Given as goal

-- the units that were read, and those left
abbrev pub invariant-loop-n : goal.invariant-loop-n
invariant-loop-n l = l.read.items ++ drop l.n (units_in l.code) ≡ units_in l.code
