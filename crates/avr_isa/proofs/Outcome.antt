-- The clauses of `decode` from what the table says of the words.
use Rattle.std.proofs.Common.{◌≡◌, ◌↔◌, ℕ, Option, None, Result, Ok, Err, sym, subst}
use Rattle.avr_isa.specs.Table.{Form, one_word, two_words, Reads, Row, HasNoRow, HasSecondWord, IsTwoWords, IsDecoded}
use Rattle.avr_isa.specs.declared.instruction.Instr.{Instr}
use Rattle.avr_isa.specs.declared.instruction.DecodeError.{DecodeError}
use Rattle.avr_isa.specs.declared.instruction.DecodeError.TheVariants.{Undefined, NeedsSecond}
use Rattle.avr_isa.proofs.Exact.{exact, decodes_rows, refuses_undefined, refuses_cut_short}
use Prim.Native.Char.{Char}

abbrev Outcome : Type 0
Outcome = Result (Instr × ℕ) DecodeError

pub outcome_ok : (first : ℕ) (second : Option ℕ) (r : Result (Instr × ℕ) DecodeError) → IsDecoded first second r → (i : Instr) (n : ℕ) → (r ≡ Ok (i, n)) ↔ Row first second i n
outcome_ok first second r h i n =
    let P : Outcome → Type 0 = λ x. (x ≡ Ok (i, n)) ↔ Row first second i n in
    subst P (sym (exact first second r h)) (decodes_rows first second i n)

pub outcome_undefined : (first : ℕ) (second : Option ℕ) (r : Result (Instr × ℕ) DecodeError) → IsDecoded first second r → (r ≡ Err (Undefined first)) ↔ HasNoRow first
outcome_undefined first second r h =
    let P : Outcome → Type 0 = λ x. (x ≡ Err (Undefined first)) ↔ HasNoRow first in
    subst P (sym (exact first second r h)) (refuses_undefined first second)

pub outcome_needs_second : (first : ℕ) (second : Option ℕ) (r : Result (Instr × ℕ) DecodeError) → IsDecoded first second r → (r ≡ Err NeedsSecond) ↔ ((second ≡ None) × HasSecondWord first)
outcome_needs_second first second r h =
    let P : Outcome → Type 0 = λ x. (x ≡ Err NeedsSecond) ↔ ((second ≡ None) × HasSecondWord first) in
    subst P (sym (exact first second r h)) (refuses_cut_short first second)

two_words_of : (form : Form) (at : Char → ℕ) (second : Option ℕ) (i : Instr) → Reads form at second i 2 → IsTwoWords form
two_words_of (one_word f) at second i reads = absurd (let e : 2 ≡ 1 = reads.1 in cc)
two_words_of (two_words f) at second i reads = tt

-- a row of two words has a second word
pub second_of_row : (first : ℕ) (second : Option ℕ) (i : Instr) → Row first second i 2 → HasSecondWord first
unfolding Row HasSecondWord
second_of_row first second i row = (row.0, row.1, two_words_of row.0.form _ second i row.2)

pub ruleset outcomes = (outcome_ok, outcome_undefined, outcome_needs_second, exact)
