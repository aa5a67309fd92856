-- Words with single spaces between them.
use Rattle.std.specs.Prelude.{ℕ, ◌==◌, ◌++◌, List, [], ◌∷◌, if◌then◌else◌}

-- The words of a text, which single spaces (32) part.
abbrev pub onto_word : ℕ → List (List ℕ) → List (List ℕ)
onto_word byte [] = (byte ∷ []) ∷ []
onto_word byte (word ∷ words) = (byte ∷ word) ∷ words

abbrev pub words_of : List ℕ → List (List ℕ)
words_of [] = [] ∷ []
words_of (byte ∷ bytes) = if byte == 32 then [] ∷ words_of bytes else onto_word byte (words_of bytes)

-- The text of words.
abbrev pub spaced : List (List ℕ) → List ℕ
spaced [] = []
spaced (word ∷ []) = word
spaced (word ∷ next ∷ words) = word ++ (32 ∷ spaced (next ∷ words))
