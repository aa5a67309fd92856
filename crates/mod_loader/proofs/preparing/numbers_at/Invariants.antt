use Rattle.std.proofs.Common.{◌≡◌, ◌++◌, drop}
use Rattle.std.specs.List.{filter_map}
use Rattle.unit_code.specs.Targets.{number_of}
use Rattle.mod_loader.proofs.preparing.numbers_at.Given as goal

-- the numbers so far, and those of what is left
abbrev pub invariant-loop-mark : goal.invariant-loop-mark
invariant-loop-mark l = l.numbers.items ++ filter_map (number_of l.starts) (drop l.mark-index l.marks) ≡ filter_map (number_of l.starts) l.marks
