-- The laws of the table, for the proofs of the crates above.
use Rattle.std.proofs.Common.{◌≡◌, ◌≤◌, ℕ, Option, Some, None, Ok, arith}
use Rattle.avr_isa.specs.Table.{Form, one_word, two_words, Reads, Row, word_count}
use Rattle.avr_isa.specs.Decoded.{decoded}
use Rattle.avr_isa.specs.Operands.{IsEncodable}
use Rattle.avr_isa.specs.Laws.{AreWords}
use Rattle.avr_isa.specs.Place.{second_word}
use Rattle.avr_isa.specs.declared.instruction.Instr.{Instr}
use Prim.Native.Char.{Char}
pub use Rattle.avr_isa.proofs.Exact.{rows_are_unique, decodes_rows, refuses_undefined, refuses_cut_short, decoded-row, row-decoded}
pub use Rattle.avr_isa.proofs.Encodable.{rows_are_encodable, one_word_stands_alone}
pub use Rattle.avr_isa.proofs.Length.{row_length}
pub use Rattle.avr_isa.proofs.Unique.{words_are_unique}

read_count : (form : Form) (at : Char → ℕ) (second : Option ℕ) (i : Instr) (n : ℕ) → Reads form at second i n → (1 ≤ n) × (n ≤ word_count second)
read_count (one_word f) at None i n reads = (omega arith, omega arith)
read_count (one_word f) at (Some k) i n reads = (omega arith, omega arith)
read_count (two_words f) at None i n reads = cc
read_count (two_words f) at (Some k) i n reads = (omega arith, omega arith)

-- a row has one word or two, and they are there
pub row_count : (first : ℕ) (second : Option ℕ) (i : Instr) (n : ℕ) → Row first second i n → (1 ≤ n) × (n ≤ word_count second)
unfolding Row
row_count first second i n row = read_count row.0.form _ second i n row.2

pub decoded_count : (first : ℕ) (second : Option ℕ) (i : Instr) (n : ℕ) → decoded first second ≡ Ok (i, n) → (1 ≤ n) × (n ≤ word_count second)
decoded_count first second i n e = row_count first second i n (row-decoded first second i n e)

-- what is decoded has as many words as the instruction
pub decoded_length : (first : ℕ) (second : Option ℕ) (i : Instr) (n : ℕ) → decoded first second ≡ Ok (i, n) → n ≡ word_count (second_word i)
decoded_length first second i n e = row_length first second i n (row-decoded first second i n e)

-- what is decoded has its operands in range
pub decoded_is_encodable : (first : ℕ) (second : Option ℕ) (i : Instr) (n : ℕ) → AreWords first second → decoded first second ≡ Ok (i, n) → IsEncodable i
decoded_is_encodable first second i n words e = rows_are_encodable first second i n words (row-decoded first second i n e)

-- an instruction of one word is decoded whatever word follows
pub decoded_alone : (first : ℕ) (second other : Option ℕ) (i : Instr) → decoded first second ≡ Ok (i, 1) → decoded first other ≡ Ok (i, 1)
decoded_alone first second other i e = decoded-row first other i 1 (one_word_stands_alone first second other i (row-decoded first second i 1 e))
