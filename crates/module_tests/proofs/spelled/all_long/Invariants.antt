use Rattle.std.proofs.Common.{◌≡◌, replicate}
use Rattle.unit_code.specs.declared.unit.Shape.TheVariants.{Long}
use Rattle.module_tests.proofs.spelled.all_long.Given as goal

abbrev pub invariant-loop : goal.invariant-loop
invariant-loop l = l.shapes.items ≡ replicate l.counter Long
