use Rattle.std.proofs.Common.{◌≡◌, drop}
use Rattle.unit_code.proofs.Marks.{least_of}
use Rattle.unit_code.specs.Refusals.{least_stray}
use Rattle.unit_code.proofs.refusals.stray_mark.Given as goal

-- the least so far, and that of what is left
abbrev pub invariant-loop-mark : goal.invariant-loop-mark
invariant-loop-mark l = least_of l.least (least_stray l.places (drop l.mark-index l.marks)) ≡ least_stray l.places l.marks
