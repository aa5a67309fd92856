-- Rows of a table.
use Rattle.std.specs.Prelude.{ℕ, ◌<◌, List, [], ◌∷◌, length, zero, suc}
use Rattle.std.specs.List.{AllByRecursion}
use Rattle.std.proofs.Common.{get_or, arith}

-- what holds of each row holds of the row at each place
pub at_place : {X : Type 0} (P : X → Type 0) (rows : List X) (k : ℕ) (d : X) →
    k < length rows → AllByRecursion P rows → P (get_or rows k d)
at_place P [] k d below all = absurd (omega arith)
at_place P (row ∷ rows) zero d below all = all.0
at_place P (row ∷ rows) (suc k) d below all = at_place P rows k d (omega arith) all.1
