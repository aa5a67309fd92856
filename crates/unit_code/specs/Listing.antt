-- What is told of code: lists.
use Rattle.std.specs.Prelude.{◌≡◌, ℕ, ◌<◌, List, length}
use Rattle.std.specs.List.{AllByRecursion}
use Rattle.unit_code.specs.declared.unit.Unit.{Unit}

-- units, the first word of each, and the unit numbers at which the code is entered
pub record Listing : Type 0 where
  pub units : List Unit
  pub places : List ℕ
  pub marks : List ℕ

-- The lists fit together: each unit has a first word, and each of the marks has the number of a unit.
pub record FitsTogether (l : Listing) (marks : List ℕ) : Type 0 where
  pub placed : length l.places ≡ length l.units
  pub marked : length l.marks ≡ length marks
  pub entered : AllByRecursion (λ number. number < length l.units) l.marks

-- units, the words that spell them, and the word at which each unit's template starts
pub record BankListing : Type 0 where
  pub units : List Unit
  pub words : List ℕ
  pub starts : List ℕ
