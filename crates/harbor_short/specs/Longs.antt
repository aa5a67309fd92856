-- What is left to shorten.
use Rattle.std.specs.Prelude.{ℕ, suc, List, [], ◌∷◌}
use Rattle.unit_code.specs.declared.unit.Shape.{Shape}
use Rattle.unit_code.specs.declared.unit.Shape.TheVariants.{Long, Short}

-- how many shapes are long
abbrev pub longs : List Shape → ℕ
longs [] = 0
longs (Long ∷ shapes) = suc (longs shapes)
longs (Short ∷ shapes) = longs shapes
