use Rattle.std.proofs.Common.{◌≡◌, replicate, []}
use Rattle.unit_run.proofs.plain.PlainRunner.new.Given as goal

-- as many empty banks as were made
abbrev pub invariant-loop-domain : goal.invariant-loop-domain
invariant-loop-domain l = l.banks.items ≡ replicate l._domain []
