-- Units that are all spelled long.
use Rattle.std.specs.Prelude.{◌≡◌, ℕ, ◌+◌, List, [], ◌∷◌, length, replicate}
use Rattle.std.proofs.Common.{subst, sym}
use Rattle.unit_code.specs.declared.unit.Shape.{Shape}
use Rattle.unit_code.specs.declared.unit.Shape.TheVariants.{Long}
use Rattle.unit_code.specs.declared.unit.Unit.{Unit}
use Rattle.unit_code.specs.Spelling.{AreShapesFrom, AreShapesOf, starts_of}

long_from : (starts : List ℕ) (i : ℕ) (us : List Unit) → AreShapesFrom starts i us (replicate (length us) Long)
long_from starts i [] = tt
long_from starts i (u ∷ us) = (tt, long_from starts (i + 1) us)

-- each unit may be long
pub long_shapes : (us : List Unit) (ss : List Shape) → ss ≡ replicate (length us) Long → AreShapesOf us ss
long_shapes us ss same =
    let P : List Shape → Type 0 = λ l. AreShapesOf us l in
    let all : List Shape = replicate (length us) Long in
    subst P (sym same) (long_from (starts_of us all) 0 us)
