use Rattle.std.proofs.Common.{◌≡◌, ◌++◌, drop}
use Rattle.std.specs.List.{filter_map}
use Rattle.unit_code.specs.Units.{unit_of}
use Rattle.unit_code.proofs.reading.resolved.Given as goal

-- the units so far, and those of what is left
abbrev pub invariant-loop-item : goal.invariant-loop-item
invariant-loop-item l = l.units.items ++ filter_map (unit_of l.fn.sealed l.places) (drop l.item-index l.items) ≡ filter_map (unit_of l.fn.sealed l.places) l.items
