-- Characters, names and numbers of a module's text, its lines, and what a byte parts.
use Rattle.std.specs.Prelude.{ℕ, ◌+◌, ◌-◌, ◌*◌, ◌==◌, ◌&&◌, ◌||◌, nat_le, nat_lt, min, Bool, true, false, if◌then◌else◌, List, [], ◌∷◌, length}
use Rattle.std.specs.Str.{bytes_eq}

abbrev pub is_digit : ℕ → Bool
is_digit c = nat_le 48 c && nat_le c 57

-- an ASCII letter of either case
abbrev pub is_letter : ℕ → Bool
is_letter c = (nat_le 65 c && nat_le c 90) || (nat_le 97 c && nat_le c 122)

-- a digit, a letter or `_`
abbrev pub is_word : ℕ → Bool
is_word c = is_digit c || (is_letter c || (c == 95))

-- a hexadecimal digit in lower case
abbrev pub is_hex : ℕ → Bool
is_hex c = is_digit c || (nat_le 97 c && nat_le c 102)

-- a printable character other than the space
abbrev pub is_printable : ℕ → Bool
is_printable c = nat_le 33 c && nat_le c 126

abbrev pub are_digits : List ℕ → Bool
are_digits [] = true
are_digits (c ∷ cs) = is_digit c && are_digits cs

abbrev pub are_word : List ℕ → Bool
are_word [] = true
are_word (c ∷ cs) = is_word c && are_word cs

abbrev pub begins_with_letter : List ℕ → Bool
begins_with_letter [] = false
begins_with_letter (c ∷ cs) = is_letter c

-- one digit, or more of which the first isn't 0
abbrev pub begins_well : List ℕ → Bool
begins_well [] = false
begins_well (c ∷ []) = true
begins_well (c ∷ d ∷ ds) = nat_lt 48 c

-- a decimal number without leading zeros
abbrev pub is_number : List ℕ → Bool
is_number text = are_digits text && begins_well text

-- how many characters a name has at most
abbrev pub name_limit : ℕ
name_limit = 16

-- a letter, and letters, digits or `_` behind it
abbrev pub is_name : List ℕ → Bool
is_name text = are_word text && (begins_with_letter text && nat_le (length text) name_limit)

-- what stands behind the dot of a target: the number of a unit, or a name
abbrev pub is_goal : List ℕ → Bool
is_goal text = are_word text && (is_number text || is_name text)

-- four printable characters
abbrev pub is_prototype : List ℕ → Bool
is_prototype (a ∷ b ∷ c ∷ d ∷ []) = is_printable a && (is_printable b && (is_printable c && is_printable d))
is_prototype _ = false

-- pairs of hexadecimal digits
abbrev pub are_pairs : List ℕ → Bool
are_pairs [] = true
are_pairs (high ∷ []) = false
are_pairs (high ∷ low ∷ rest) = is_hex high && (is_hex low && are_pairs rest)

abbrev pub is_none : List ℕ → Bool
is_none [] = true
is_none (c ∷ cs) = false

-- The greatest number that is told from others: more than any text has units, and more than any other number of the language.
abbrev pub most : ℕ
most = 1000000000000000000

abbrev pub value_from : ℕ → List ℕ → ℕ
value_from n [] = n
value_from n (c ∷ cs) = value_from (min (10 * n + (c - 48)) most) cs

-- the value of digits
abbrev pub value : List ℕ → ℕ
value text = value_from 0 text

-- the value of a hexadecimal digit
abbrev pub hex_value : ℕ → ℕ
hex_value c = if nat_le 97 c then c - 87 else c - 48

-- the bytes that pairs of digits spell
abbrev pub pair_bytes : List ℕ → List ℕ
pair_bytes [] = []
pair_bytes (high ∷ []) = []
pair_bytes (high ∷ low ∷ rest) = (16 * hex_value high + hex_value low) ∷ pair_bytes rest

-- what stands before the first such byte
abbrev pub front : ℕ → List ℕ → List ℕ
front byte [] = []
front byte (x ∷ xs) = if x == byte then [] else x ∷ front byte xs

-- what stands behind the first such byte
abbrev pub back : ℕ → List ℕ → List ℕ
back byte [] = []
back byte (x ∷ xs) = if x == byte then xs else back byte xs

abbrev pub has : ℕ → List ℕ → Bool
has byte [] = false
has byte (x ∷ xs) = if x == byte then true else has byte xs

abbrev pub begins : ℕ → List ℕ → Bool
begins byte [] = false
begins byte (x ∷ xs) = x == byte

-- The lines of a text, each with its line feed (10), which only the last can lack.
abbrev pub onto_first : ℕ → List (List ℕ) → List (List ℕ)
onto_first byte [] = (byte ∷ []) ∷ []
onto_first byte (line ∷ lines) = (byte ∷ line) ∷ lines

abbrev pub lines_in : List ℕ → List (List ℕ)
lines_in [] = []
lines_in (byte ∷ bytes) = if byte == 10 then (10 ∷ []) ∷ lines_in bytes else onto_first byte (lines_in bytes)

-- an empty line, or a remark: `#` (35) and any bytes, with a line feed
abbrev pub is_blank : List ℕ → Bool
is_blank line = bytes_eq line (10 ∷ []) || (begins 35 line && has 10 line)
