-- What holds of rounds.
use Rattle.std.specs.Prelude.{ℕ, ◌+◌, ◌<◌, ◌≤◌, List, length}
use Rattle.unit_code.specs.declared.unit.Unit.{Unit}
use Rattle.unit_code.specs.declared.unit.Shape.{Shape}
use Rattle.unit_code.specs.Spelling.{start_of, starts_of}

-- In a round no distance grows: from one unit's start to that of a later one there are at most as many words as before.
abbrev pub DistancesStay : List Unit → List Shape → List Shape → Type 0
DistancesStay us shapes next = (i j : ℕ) → i ≤ j → j < length us
    → start_of (starts_of us next) j + start_of (starts_of us shapes) i
    ≤ start_of (starts_of us shapes) j + start_of (starts_of us next) i
