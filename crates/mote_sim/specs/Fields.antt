-- The fields of a line.
use Rattle.std.specs.Prelude.{ℕ, List, ◌++◌, codes, decimal}

-- a number behind a space
abbrev pub field : ℕ → List ℕ
field n = codes " " ++ decimal n
