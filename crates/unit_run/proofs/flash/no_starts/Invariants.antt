use Rattle.std.proofs.Common.{◌≡◌, replicate, []}
use Rattle.unit_run.proofs.flash.no_starts.Given as goal

-- as many empty lists as were made
abbrev pub invariant-loop-domain : goal.invariant-loop-domain
invariant-loop-domain l = l.starts.items ≡ replicate l._domain []
