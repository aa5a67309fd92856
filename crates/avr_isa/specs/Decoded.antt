-- What the table says of two words, as a function: the first line whose pattern the word has. No word has two lines.
use Rattle.std.specs.Prelude.{◌==◌, ◌&&◌, ℕ, Bool, true, List, [], ◌∷◌, length, Option, None, Some, Result, Ok, Err, if◌then◌else◌}
use Rattle.std.specs.Int.{bit_at}
use Rattle.avr_isa.specs.Pattern.{symbols, operand}
use Rattle.avr_isa.specs.Table.{Line, Form, one_word, two_words, table}
use Rattle.avr_isa.specs.declared.instruction.Instr.{Instr}
use Rattle.avr_isa.specs.declared.instruction.DecodeError.{DecodeError}
use Rattle.avr_isa.specs.declared.instruction.DecodeError.TheVariants.{Undefined, NeedsSecond}
use Prim.Native.Char.{Char, code}

-- whether a bit can stand at the place of a symbol
abbrev pub fits : ℕ → ℕ → Bool
fits symbol bit = if symbol == code "0" then bit == 0 else (if symbol == code "1" then bit == 1 else true)

-- whether each bit of the word fits the symbol at its place
abbrev pub matches : List ℕ → ℕ → Bool
matches [] word = true
matches (symbol ∷ rest) word = fits symbol (bit_at word (length rest)) && matches rest word

-- the first of these lines whose pattern the word has
abbrev pub first_line : List Line → ℕ → Option Line
first_line [] word = None
first_line (l ∷ rest) word = if matches (symbols l.pattern) word then Some l else first_line rest word

-- the instruction and its number of words, by a line's form, the numbers at its letters and perhaps the second word
abbrev pub read : Form → (Char → ℕ) → Option ℕ → Result (Instr × ℕ) DecodeError
read (one_word instruction) at second = Ok (instruction at, 1)
read (two_words instruction) at None = Err NeedsSecond
read (two_words instruction) at (Some k) = Ok (instruction at k, 2)

abbrev pub read_line : Option Line → ℕ → Option ℕ → Result (Instr × ℕ) DecodeError
read_line None first second = Err (Undefined first)
read_line (Some l) first second = read l.form (operand l.pattern first) second

-- the instruction that the words begin with and its number of words
unfoldable pub decoded : ℕ → Option ℕ → Result (Instr × ℕ) DecodeError
decoded first second = read_line (first_line table first) first second
