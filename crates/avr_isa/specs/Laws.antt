-- What holds of the table as a whole.
use Rattle.std.specs.Prelude.{◌≡◌, ◌==◌, ◌^◌, ◌<◌, ◌↔◌, ℕ, Option, None, Ok, Err, if◌then◌else◌, IfSome}
use Rattle.avr_isa.specs.Table.{Row, HasNoRow, HasSecondWord, word_count}
use Rattle.avr_isa.specs.Place.{second_word}
use Rattle.avr_isa.specs.Operands.{IsEncodable}
use Rattle.avr_isa.specs.Decoded.{decoded}
use Rattle.avr_isa.specs.declared.instruction.Instr.{Instr}
use Rattle.avr_isa.specs.declared.instruction.DecodeError.TheVariants.{Undefined, NeedsSecond}

-- the numbers are words of 16 bits
abbrev pub AreWords : ℕ → Option ℕ → Type 0
AreWords first second = (first < 2 ^ 16) × IfSome second (λ k. k < 2 ^ 16)

-- words have at most one row
abbrev pub RowsAreUnique : Type 0
RowsAreUnique = (first : ℕ) (second : Option ℕ) (i j : Instr) (n m : ℕ) → Row first second i n → Row first second j m → (i ≡ j) × (n ≡ m)

-- how many words there are is told by the instruction
abbrev pub LengthsAreTheRows : Type 0
LengthsAreTheRows = (first : ℕ) (second : Option ℕ) (i : Instr) (n : ℕ) → Row first second i n → n ≡ word_count (second_word i)

-- the instruction of words has its operands in range
abbrev pub RowsAreEncodable : Type 0
RowsAreEncodable = (first : ℕ) (second : Option ℕ) (i : Instr) (n : ℕ) → AreWords first second → Row first second i n → IsEncodable i

-- the second of n words; a word that follows an instruction of one word is not of it
abbrev pub kept : ℕ → Option ℕ → Option ℕ
kept n second = if n == 2 then second else None

-- an instruction has at most one row, so its words are determined
abbrev pub WordsAreUnique : Type 0
WordsAreUnique = (first other : ℕ) (second further : Option ℕ) (i : Instr) (n m : ℕ) → AreWords first second → AreWords other further → Row first second i n → Row other further i m → (first ≡ other) × (kept n second ≡ kept m further) × (n ≡ m)

-- the row of an instruction of one word does not look at the word that follows
abbrev pub OneWordStandsAlone : Type 0
OneWordStandsAlone = (first : ℕ) (second other : Option ℕ) (i : Instr) → Row first second i 1 → Row first other i 1

-- the function `decoded` gives an instruction exactly where the table has a row, and each refusal exactly where none
-- can be
abbrev pub DecodesRows : Type 0
DecodesRows = (first : ℕ) (second : Option ℕ) (i : Instr) (n : ℕ) → (decoded first second ≡ Ok (i, n)) ↔ Row first second i n

abbrev pub RefusesUndefined : Type 0
RefusesUndefined = (first : ℕ) (second : Option ℕ) → (decoded first second ≡ Err (Undefined first)) ↔ HasNoRow first

abbrev pub RefusesCutShort : Type 0
RefusesCutShort = (first : ℕ) (second : Option ℕ) → (decoded first second ≡ Err NeedsSecond) ↔ ((second ≡ None) × HasSecondWord first)
