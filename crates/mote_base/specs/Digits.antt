-- Numbers as digits.
use Rattle.std.specs.Prelude.{ℕ, ◌/◌, ◌%◌, List, [], ◌∷◌, codes}
use Rattle.std.specs.Char.{digit_char}

-- A word of 16 bits: four hexadecimal digits in lower case, with its leading zeros.
abbrev pub word_digits : ℕ → List ℕ
word_digits w = digit_char (w / 4096) ∷ digit_char (w / 256 % 16) ∷ digit_char (w / 16 % 16) ∷ digit_char (w % 16) ∷ []

-- A byte: two of them.
abbrev pub byte_digits : ℕ → List ℕ
byte_digits b = digit_char (b / 16) ∷ digit_char (b % 16) ∷ []

-- Bytes one after the other, and `-` for none.
abbrev pub pairs_text : List ℕ → List ℕ
pairs_text [] = []
pairs_text (byte ∷ bytes) = digit_char (byte / 16) ∷ digit_char (byte % 16) ∷ pairs_text bytes

abbrev pub bytes_text : List ℕ → List ℕ
bytes_text [] = codes "-"
bytes_text (byte ∷ bytes) = pairs_text (byte ∷ bytes)

-- How many bytes these take at most: a number of 64 bits and one of 16 bits in decimal, a word, a byte.
abbrev pub long_width : ℕ
long_width = 20

abbrev pub short_width : ℕ
short_width = 5

abbrev pub word_width : ℕ
word_width = 4

abbrev pub byte_width : ℕ
byte_width = 2
