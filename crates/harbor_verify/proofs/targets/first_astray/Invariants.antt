use Rattle.std.proofs.Common.{◌≡◌, drop}
use Rattle.harbor_verify.specs.Resolved.{astray_at, resolve_from}
use Rattle.harbor_verify.specs.Walks.{forms_in}
use Rattle.harbor_verify.proofs.targets.first_astray.Given as goal

-- what is left leads astray where all does
abbrev pub invariant-loop-n : goal.invariant-loop-n
invariant-loop-n l = astray_at (resolve_from l.starts l.n (drop l.n (forms_in l.code))) ≡ astray_at (resolve_from l.starts 0 (forms_in l.code))
