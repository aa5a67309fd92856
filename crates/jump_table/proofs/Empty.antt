-- A table in which no entry is set.
use Rattle.std.proofs.Common.{◌≡◌, ℕ, zero, suc, ◌&&◌, Bool, true, false, List, [], ◌∷◌, get_or, Option, Some, None, refl}
use Rattle.std.proofs.lemmas.Bool.{and_parts}
use Rattle.jump_table.specs.Entries.{Entries, unit_at}

abbrev pub is_empty : List (Option ℕ) → Bool
is_empty [] = true
is_empty (None ∷ row) = is_empty row
is_empty (Some unit ∷ row) = false

abbrev pub are_empty : Entries → Bool
are_empty [] = true
are_empty (row ∷ rows) = is_empty row && are_empty rows

row_none : (row : List (Option ℕ)) (i : ℕ) → is_empty row ≡ true → get_or row i None ≡ None
row_none [] i empty = refl
row_none (None ∷ row) zero empty = refl
row_none (None ∷ row) (suc i) empty = row_none row i empty
row_none (Some unit ∷ row) i empty = absurd cc

pub table_none : (rows : Entries) (d i : ℕ) → are_empty rows ≡ true → unit_at rows d i ≡ None
table_none [] d i empty = refl
table_none (row ∷ rows) zero i empty = row_none row i (and_parts (is_empty row) (are_empty rows) empty).0
table_none (row ∷ rows) (suc d) i empty = table_none rows d i (and_parts (is_empty row) (are_empty rows) empty).1
