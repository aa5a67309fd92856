-- How many words a line's instruction has.
use Rattle.std.proofs.Common.{◌≡◌, ℕ, zero, suc, List, [], ◌∷◌, map, Option, Some, Result, Ok, Err, ap, sym, subst, refl, ◌∙◌}
use Rattle.std.specs.Prelude.{slice_get, IfOk}
use Rattle.avr_isa.specs.Table.{Line, Form, one_word, two_words, table, HasLine, Reads, Row, word_count, IsDecoded}
use Rattle.avr_isa.specs.Place.{second_word}
use Rattle.avr_isa.specs.declared.instruction.Instr.{Instr}
use Rattle.avr_isa.specs.declared.instruction.DecodeError.{DecodeError}
use Prim.Native.Char.{Char}

-- the instruction that a form gives, of the numbers at its letters and the word that follows
abbrev given : Form → (Char → ℕ) → ℕ → Instr
given (one_word instruction) at k = instruction at
given (two_words instruction) at k = instruction at k

-- the words that such an instruction has, and those that the form says
abbrev words_had : (Char → ℕ) → ℕ → Line → ℕ
words_had at k l = word_count (second_word (given l.form at k))

abbrev form_words : Form → ℕ
form_words (one_word instruction) = 1
form_words (two_words instruction) = 2

abbrev words_said : Line → ℕ
words_said l = form_words l.form

-- they are the same, line by line
table_lengths : (at : Char → ℕ) (k : ℕ) → map (words_had at k) table ≡ map words_said table
table_lengths at k = refl

same_at : (f g : Line → ℕ) (lines : List Line) (place : ℕ) (l : Line) → map f lines ≡ map g lines → slice_get lines place ≡ Some l → f l ≡ g l
same_at f g [] place l same e = cc
same_at f g (x ∷ lines) zero l same e =
    let found : x ≡ l = cc in
    subst (λ (y : Line). f y ≡ g y) found (cc)
same_at f g (x ∷ lines) (suc place) l same e = same_at f g lines place l (cc) e

line_length : (w : ℕ) (l : Line) (at : Char → ℕ) (k : ℕ) → HasLine w l → words_had at k l ≡ form_words l.form
unfolding HasLine
line_length w l at k has = same_at (words_had at k) words_said table has.0 l (table_lengths at k) has.1

-- what a form gives has as many words as the form says, and as are read
reads_length : (form : Form) (at : Char → ℕ) (second : Option ℕ) (i : Instr) (n : ℕ) → ((k : ℕ) → word_count (second_word (given form at k)) ≡ form_words form) → Reads form at second i n → n ≡ word_count (second_word i)
reads_length (one_word f) at second i n lengths reads =
    reads.1 ∙ sym (ap (λ (j : Instr). word_count (second_word j)) reads.0 ∙ lengths 0)
reads_length (two_words f) at second i n lengths reads =
    reads.3 ∙ sym (ap (λ (j : Instr). word_count (second_word j)) reads.2 ∙ lengths reads.0)

pub row_length : (first : ℕ) (second : Option ℕ) (i : Instr) (n : ℕ) → Row first second i n → n ≡ word_count (second_word i)
unfolding Row
row_length first second i n row =
    reads_length row.0.form _ second i n (λ k. line_length first row.0 _ k row.1) row.2

pub outcome_length : (first : ℕ) (second : Option ℕ) (r : Result (Instr × ℕ) DecodeError) → IsDecoded first second r → IfOk r (λ found. found.1 ≡ word_count (second_word found.0))
outcome_length first second (Ok found) h = row_length first second found.0 found.1 h
outcome_length first second (Err e) h = tt
