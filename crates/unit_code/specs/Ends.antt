-- How a list of units ends, and how long it is.
use Rattle.std.specs.Prelude.{ℕ, Bool, true, false, not, List, [], ◌∷◌, sum_by}
use Rattle.unit_code.specs.declared.unit.Unit.{Unit}
use Rattle.unit_code.specs.declared.unit.Unit.TheVariants.{Jump, Return}
use Rattle.unit_code.specs.declared.unit.Shape.TheVariants.{Long}
use Rattle.unit_code.specs.Lengths.{spelled_length}

-- whether control never reaches the unit that follows
abbrev pub leaves : Unit → Bool
leaves (Jump target) = true
leaves Return = true
leaves _ = false

-- whether there is a last unit, and control runs past it
abbrev pub goes_on : List Unit → Bool
goes_on [] = false
goes_on (u ∷ []) = not (leaves u)
goes_on (u ∷ v ∷ us) = goes_on (v ∷ us)

-- the number of words in which the units are spelled when each is long
abbrev pub long_length : List Unit → ℕ
long_length us = sum_by (λ u. spelled_length u Long) us
