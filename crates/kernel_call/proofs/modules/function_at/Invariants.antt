use Rattle.std.proofs.Common.{◌≡◌, drop}
use Rattle.domain_model.specs.Modules.{module_at}
use Rattle.kernel_call.proofs.modules.function_at.Given as goal

-- the modules passed are in other domains
abbrev pub invariant-loop-loaded : goal.invariant-loop-loaded
invariant-loop-loaded l = module_at (drop l.loaded-index l.list) l.domain ≡ module_at l.list l.domain
