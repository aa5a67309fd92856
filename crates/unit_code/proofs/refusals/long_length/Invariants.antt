use Rattle.std.proofs.Common.{◌≡◌, ◌+◌, ◌*◌, ◌≤◌, drop}
use Rattle.unit_code.specs.Ends.{long_length}
use Rattle.unit_code.proofs.refusals.long_length.Given as goal

-- the words so far, of which a unit has at most 5, and those of what is left
abbrev pub invariant-loop-unit : goal.invariant-loop-unit
invariant-loop-unit l = record {
  sum : l.words + long_length (drop l.unit-index l.units) ≡ long_length l.units;
  few : l.words ≤ 5 * l.unit-index;
}
