-- A pattern is an opcode as the AVR Instruction Set Manual prints it, as in "0011 KKKK dddd KKKK". A 0 and a 1 stand
-- for that bit, a letter for any bit, and a space only parts groups. The first symbol is the word's highest bit.
use Rattle.std.specs.Prelude.{◌≡◌, ◌==◌, ◌+◌, ◌*◌, ◌-◌, ◌^◌, ℕ, ℤ, pos, negsuc, nat_lt, List, [], ◌∷◌, length, filter, codes, if◌then◌else◌, true, false, not}
use Rattle.std.specs.Int.{bit_at}
use Prim.Native.String.{String}
use Prim.Native.Char.{Char, code}

-- the symbols of a pattern, from the highest bit to the lowest: all but the spaces
abbrev pub symbols : String → List ℕ
symbols pattern = filter (λ symbol. not (symbol == code " ")) (codes pattern)

-- whether a bit can stand at the place of a symbol
abbrev pub Fits : ℕ → ℕ → Type 0
Fits symbol bit = elim (symbol == code "0") [ true ↦ bit ≡ 0 | false ↦ elim (symbol == code "1") [ true ↦ bit ≡ 1 | false ↦ Unit {0} ] ]

-- each bit of the word fits the symbol at its place
abbrev pub Matches : List ℕ → ℕ → Type 0
Matches [] word = Unit {0}
Matches (symbol ∷ rest) word = Fits symbol (bit_at word (length rest)) × Matches rest word

-- the number so far, continued by the word's bits at the places of one letter, joined from left to right
abbrev pub joined : ℕ → ℕ → List ℕ → ℕ → ℕ
joined letter so_far [] word = so_far
joined letter so_far (symbol ∷ rest) word = joined letter (if symbol == letter then 2 * so_far + bit_at word (length rest) else so_far) rest word

-- the operand that a letter of the pattern stands for in the word
abbrev pub operand : String → ℕ → Char → ℕ
operand pattern word letter = joined (code letter) 0 (symbols pattern) word

-- a number of some bits, read in two's complement
abbrev pub signed : ℕ → ℕ → ℤ
signed bits number = if nat_lt number (2 ^ (bits - 1)) then pos number else negsuc (2 ^ bits - 1 - number)
