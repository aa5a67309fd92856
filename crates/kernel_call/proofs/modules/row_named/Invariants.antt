use Rattle.std.proofs.Common.{◌≡◌, drop}
use Rattle.domain_model.specs.Modules.{module_named}
use Rattle.kernel_call.proofs.modules.row_named.Given as goal

-- the modules passed have other ids
abbrev pub invariant-loop-loaded : goal.invariant-loop-loaded
invariant-loop-loaded l = module_named (drop l.loaded-index l.list) l.id ≡ module_named l.list l.id
