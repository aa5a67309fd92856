use Rattle.std.proofs.Common.{◌≡◌, drop}
use Rattle.unit_code.specs.Refusals.{first_refused, refused_by}
use Rattle.unit_code.proofs.refusals.first_refused.Given as goal

-- nothing so far is refused, so the first is in what is left
abbrev pub invariant-loop-i : goal.invariant-loop-i
invariant-loop-i l = first_refused (refused_by l.condition l.places) (drop l.i l.items) ≡ first_refused (refused_by l.condition l.places) l.items
