-- What the table says of words is one thing, and it is what the function `decoded` gives.
use Rattle.std.proofs.Common.{◌≡◌, ◌↔◌, ℕ, Option, None, Some, Result, Ok, Err, refl, sym, ap, ap₂, ◌∙◌}
use Rattle.avr_isa.specs.Pattern.{operand}
use Rattle.avr_isa.specs.Table.{Line, Form, one_word, two_words, table, HasLine, Reads, Row, HasNoRow, HasSecondWord, IsTwoWords, IsDecoded}
use Rattle.avr_isa.specs.Decoded.{first_line, read, read_line, decoded}
use Rattle.avr_isa.specs.declared.instruction.Instr.{Instr}
use Rattle.avr_isa.specs.declared.instruction.DecodeError.{DecodeError}
use Rattle.avr_isa.specs.declared.instruction.DecodeError.TheVariants.{Undefined, NeedsSecond}
use Rattle.avr_isa.proofs.Apart.{table_first, first_line_found}
use Prim.Native.Char.{Char}

has_line-first : (word : ℕ) (l : Line) → HasLine word l → first_line table word ≡ Some l
unfolding HasLine
has_line-first word l has = table_first has.0 l word has.1 has.2

first-has_line : (word : ℕ) (l : Line) → first_line table word ≡ Some l → HasLine word l
unfolding HasLine
first-has_line word l e = first_line_found table l word e

-- `decoded` by the line that the word has
decoded-line : (first : ℕ) (second : Option ℕ) (l : Line) → HasLine first l → decoded first second ≡ read l.form (operand l.pattern first) second
unfolding decoded
decoded-line first second l has = ap (λ o. read_line o first second) (has_line-first first l has)

-- one line's form against its relation
read-from : (form : Form) (at : Char → ℕ) (second : Option ℕ) (i : Instr) (n : ℕ) → Reads form at second i n → read form at second ≡ Ok (i, n)
read-from (one_word f) at second i n reads = ap₂ (λ (a : Instr) (b : ℕ). Ok (a, b)) (sym reads.0) (sym reads.1)
read-from (two_words f) at None i n reads = cc
read-from (two_words f) at (Some k) i n reads =
    let same : k ≡ reads.0 = cc in
    ap₂ (λ (a : Instr) (b : ℕ). Ok (a, b)) (ap (f at) same ∙ sym reads.2) (sym reads.3)

same_found : (x y : Instr × ℕ) → (let found : Result (Instr × ℕ) DecodeError = Ok x in found ≡ Ok y) → (y.0 ≡ x.0) × (y.1 ≡ x.1)
same_found x y e =
    let same : y ≡ x = cc in
    (ap (λ z. z.0) same, ap (λ z. z.1) same)

reads-from : (form : Form) (at : Char → ℕ) (second : Option ℕ) (i : Instr) (n : ℕ) → read form at second ≡ Ok (i, n) → Reads form at second i n
reads-from (one_word f) at second i n e = same_found (f at, 1) (i, n) e
reads-from (two_words f) at None i n e = cc
reads-from (two_words f) at (Some k) i n e = let same = same_found (f at k, 2) (i, n) e in (k, refl, same.0, same.1)

-- a row is what `decoded` gives
pub decoded-row : (first : ℕ) (second : Option ℕ) (i : Instr) (n : ℕ) → Row first second i n → decoded first second ≡ Ok (i, n)
unfolding Row
decoded-row first second i n row =
    decoded-line first second row.0 row.1 ∙ read-from row.0.form (operand row.0.pattern first) second i n row.2

row-line : (first : ℕ) (second : Option ℕ) (i : Instr) (n : ℕ) (o : Option Line) → first_line table first ≡ o → read_line o first second ≡ Ok (i, n) → Row first second i n
unfolding Row
row-line first second i n None at e = cc
row-line first second i n (Some l) at e = (l, first-has_line first l at, reads-from l.form (operand l.pattern first) second i n e)

pub row-decoded : (first : ℕ) (second : Option ℕ) (i : Instr) (n : ℕ) → decoded first second ≡ Ok (i, n) → Row first second i n
unfolding decoded
row-decoded first second i n e = row-line first second i n (first_line table first) refl e

-- no row is what `decoded` refuses as undefined
no_line : (first : ℕ) (second : Option ℕ) (o : Option Line) → first_line table first ≡ o → HasNoRow first → read_line o first second ≡ Err (Undefined first)
unfolding HasNoRow
no_line first second None at none = refl
no_line first second (Some l) at none = absurd (none l (first-has_line first l at))

pub decoded-no_row : (first : ℕ) (second : Option ℕ) → HasNoRow first → decoded first second ≡ Err (Undefined first)
unfolding decoded
decoded-no_row first second none = no_line first second (first_line table first) refl none

read_defined : (form : Form) (at : Char → ℕ) (second : Option ℕ) (word : ℕ) → read form at second ≡ Err (Undefined word) → ⊥
read_defined (one_word f) at second word e = cc
read_defined (two_words f) at None word e = let same : NeedsSecond ≡ Undefined word = cc in cc
read_defined (two_words f) at (Some k) word e = cc

pub no_row-decoded : (first : ℕ) (second : Option ℕ) → decoded first second ≡ Err (Undefined first) → HasNoRow first
unfolding HasNoRow
no_row-decoded first second e = λ l has. read_defined l.form (operand l.pattern first) second first (sym (decoded-line first second l has) ∙ e)

-- a missing second word is what `decoded` refuses as cut short
read-two : (form : Form) (at : Char → ℕ) (second : Option ℕ) → IsTwoWords form → second ≡ None → read form at second ≡ Err NeedsSecond
read-two (one_word f) at second two none = absurd two
read-two (two_words f) at None two none = refl
read-two (two_words f) at (Some k) two none = cc

two-read : (form : Form) (at : Char → ℕ) (second : Option ℕ) → read form at second ≡ Err NeedsSecond → (second ≡ None) × IsTwoWords form
two-read (one_word f) at second e = cc
two-read (two_words f) at None e = (refl, tt)
two-read (two_words f) at (Some k) e = cc

pub decoded-cut_short : (first : ℕ) (second : Option ℕ) → (second ≡ None) × HasSecondWord first → decoded first second ≡ Err NeedsSecond
unfolding HasSecondWord
decoded-cut_short first second short =
    let l = short.1.0 in
    decoded-line first second l short.1.1 ∙ read-two l.form (operand l.pattern first) second short.1.2 short.0

cut_short-line : (first : ℕ) (second : Option ℕ) (o : Option Line) → first_line table first ≡ o → read_line o first second ≡ Err NeedsSecond → (second ≡ None) × HasSecondWord first
unfolding HasSecondWord
cut_short-line first second None at e = let same : Undefined first ≡ NeedsSecond = cc in cc
cut_short-line first second (Some l) at e =
    let two = two-read l.form (operand l.pattern first) second e in
    (two.0, (l, first-has_line first l at, two.1))

pub cut_short-decoded : (first : ℕ) (second : Option ℕ) → decoded first second ≡ Err NeedsSecond → (second ≡ None) × HasSecondWord first
unfolding decoded
cut_short-decoded first second e = cut_short-line first second (first_line table first) refl e

-- what the table says is what `decoded` gives
pub exact : (first : ℕ) (second : Option ℕ) (r : Result (Instr × ℕ) DecodeError) → IsDecoded first second r → r ≡ decoded first second
exact first second (Ok found) h = sym (decoded-row first second found.0 found.1 h)
exact first second (Err (Undefined word)) h = ap (λ w. Err (Undefined w)) h.0 ∙ sym (decoded-no_row first second h.1)
exact first second (Err NeedsSecond) h = sym (decoded-cut_short first second h)

-- the laws of `decoded`
pub decodes_rows : (first : ℕ) (second : Option ℕ) (i : Instr) (n : ℕ) → (decoded first second ≡ Ok (i, n)) ↔ Row first second i n
decodes_rows first second i n = (row-decoded first second i n, decoded-row first second i n)

pub refuses_undefined : (first : ℕ) (second : Option ℕ) → (decoded first second ≡ Err (Undefined first)) ↔ HasNoRow first
refuses_undefined first second = (no_row-decoded first second, decoded-no_row first second)

pub refuses_cut_short : (first : ℕ) (second : Option ℕ) → (decoded first second ≡ Err NeedsSecond) ↔ ((second ≡ None) × HasSecondWord first)
refuses_cut_short first second = (cut_short-decoded first second, decoded-cut_short first second)

pub rows_are_unique : (first : ℕ) (second : Option ℕ) (i j : Instr) (n m : ℕ) → Row first second i n → Row first second j m → (i ≡ j) × (n ≡ m)
rows_are_unique first second i j n m a b =
    same_found (j, m) (i, n) (sym (decoded-row first second j m b) ∙ decoded-row first second i n a)
