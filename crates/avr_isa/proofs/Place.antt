-- A row of the table by the place of its line.
use Rattle.std.proofs.Common.{◌≡◌, ℕ, Option, Some, refl, subst, sym}
use Rattle.std.specs.Prelude.{slice_get}
use Rattle.avr_isa.specs.Pattern.{symbols, Matches, operand}
use Rattle.avr_isa.specs.Table.{Line, Form, one_word, two_words, table, HasLine, Reads, Row}
use Rattle.avr_isa.specs.declared.instruction.Instr.{Instr}
use Prim.Native.Char.{Char}

pub row_at : (place : ℕ) (l : Line) (f : (Char → ℕ) → Instr) (w : ℕ) (s : Option ℕ) (i : Instr) → slice_get table place ≡ Some l → l.form ≡ one_word f → Matches (symbols l.pattern) w → i ≡ f (operand l.pattern w) → Row w s i 1
unfolding Row HasLine
row_at place l f w s i at form fits same =
    let P : Form → Type 0 = λ x. Reads x (operand l.pattern w) s i 1 in
    (l, (place, at, fits), subst P (sym form) (same, refl))

pub row_with_word_at : (place : ℕ) (l : Line) (f : (Char → ℕ) → ℕ → Instr) (w k : ℕ) (i : Instr) → slice_get table place ≡ Some l → l.form ≡ two_words f → Matches (symbols l.pattern) w → i ≡ f (operand l.pattern w) k → Row w (Some k) i 2
unfolding Row HasLine
row_with_word_at place l f w k i at form fits same =
    let P : Form → Type 0 = λ x. Reads x (operand l.pattern w) (Some k) i 2 in
    (l, (place, at, fits), subst P (sym form) (k, refl, same, refl))
