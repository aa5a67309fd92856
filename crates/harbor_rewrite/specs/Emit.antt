-- The words that the rewriter gives to units.
use Rattle.std.specs.Prelude.{◌≡◌, ℕ, ◌<◌, ◌^◌, List}
use Rattle.std.specs.List.{AllByRecursion}
use Rattle.unit_code.specs.declared.unit.Unit.{Unit}
use Rattle.unit_code.specs.declared.unit.Shape.{Shape}
use Rattle.unit_code.specs.Spelling.{AreTemplatesOf, starts_of}
use Rattle.harbor_short.specs.Rounds.{AreChosen}

-- The words, of 16 bits, are the templates of the units, one after the other, in the shapes to which the rounds come,
-- and these are their starts.
pub record AreEmitted (us : List Unit) (words starts : List ℕ) : Type 0 where
  pub shapes : List Shape
  pub chosen : AreChosen us shapes
  pub places : starts ≡ starts_of us shapes
  pub templates : AreTemplatesOf us shapes words
  pub small : AllByRecursion (λ word. word < 2 ^ 16) words
