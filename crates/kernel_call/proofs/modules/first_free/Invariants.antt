use Rattle.std.proofs.Common.{◌≡◌, ◌<◌, ℕ, true}
use Rattle.domain_model.specs.Modules.{in_use}
use Rattle.kernel_call.proofs.modules.first_free.Given as goal

-- the domains passed are in use
abbrev pub invariant-loop-domain : goal.invariant-loop-domain
invariant-loop-domain l = (lower : ℕ) → lower < l.domain → in_use l.list lower ≡ true
