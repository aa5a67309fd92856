use Rattle.std.proofs.Common.{◌≡◌, ◌++◌, drop}
use Rattle.unit_code.specs.Spelling.{starts_after, starts_of}
use Rattle.module_tests.proofs.spelled.starts.Given as goal

-- the starts so far, and those of the units left
abbrev pub invariant-loop-n : goal.invariant-loop-n
invariant-loop-n g l = l.starts.items ++ starts_after l.place (drop l.n l.units) (drop l.n l.shapes) ≡ starts_of l.units l.shapes
