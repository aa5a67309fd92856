-- Bytes as words of 16 bits.
use Rattle.std.specs.Prelude.{ℕ, ◌+◌, ◌*◌, ◌<◌, ◌^◌, List, [], ◌∷◌}
use Rattle.std.specs.List.{AllByRecursion}

-- Two bytes make a word, the low byte first. A last byte without a second makes none.
abbrev pub words_of : List ℕ → List ℕ
words_of [] = []
words_of (low ∷ []) = []
words_of (low ∷ high ∷ rest) = (low + 256 * high) ∷ words_of rest

-- a number of 16 bits
abbrev pub IsWord : ℕ → Type 0
IsWord n = n < 2 ^ 16

abbrev pub AreWords : List ℕ → Type 0
AreWords words = AllByRecursion IsWord words
