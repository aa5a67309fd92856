use Rattle.std.proofs.Common.{◌≡◌, replicate, None}
use Rattle.kernel_call.proofs.kept.Kept.new.Given as goal

-- as many empty places as were made
abbrev pub invariant-loop-domain : goal.invariant-loop-domain
invariant-loop-domain l = l.places.items ≡ replicate l._domain None
