use Rattle.std.proofs.Common.{◌≡◌, ◌++◌, drop}
use Rattle.std.specs.List.{AllByRecursion}
use Rattle.unit_code.specs.Proper.{IsOfKind}
use Rattle.avr_asm.specs.Source.{text_of, unit_lines}
use Rattle.avr_asm.proofs.sourcing.put_units.Given as goal

abbrev pub invariant-loop-unit : goal.invariant-loop-unit
invariant-loop-unit l =
    (l.out.items ++ text_of (unit_lines (drop l.unit-index l.units)) ≡ l.fn.out.items ++ text_of (unit_lines l.units))
    × AllByRecursion IsOfKind (drop l.unit-index l.units)
