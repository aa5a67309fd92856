use Rattle.std.proofs.Common.{◌≡◌, drop}
use Rattle.unit_code.proofs.Marks.{least_of}
use Rattle.unit_code.specs.Refusals.{least_stray}
use Rattle.harbor_verify.proofs.ends.stray_entry.Given as goal

-- the least of the marks before, with that of those left
abbrev pub invariant-loop-mark : goal.invariant-loop-mark
invariant-loop-mark l = least_of l.least (least_stray l.starts (drop l.mark-index l.marks)) ≡ least_stray l.starts l.marks
