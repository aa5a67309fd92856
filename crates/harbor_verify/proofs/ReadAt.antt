-- The instruction at a place.
use Rattle.std.proofs.Common.{◌≡◌, ◌∙◌, ℕ, suc, ◌+◌, ◌≤◌, ◌<◌, List, [], ◌∷◌, drop, length, get_or, Some, None, Result, Ok, Err, sym, ap, arith, length-drop}
use Rattle.std.proofs.Math.Seq.{drop-cons}
use Rattle.std.proofs.lemmas.List.{drop-drop, drop_all}
use Rattle.avr_isa.specs.Decoded.{decoded}
use Rattle.avr_isa.specs.declared.instruction.DecodeError.{DecodeError}
use Rattle.avr_isa.specs.declared.instruction.Instr.{Instr}
use Rattle.avr_isa.proofs.TableLaws.{decoded_length}
use Rattle.unit_code.specs.Items.{next_word}
use Rattle.unit_code.specs.Lengths.{instruction_length}
use Rattle.harbor_verify.specs.Decoding.{instruction_first, instruction_of}
use Rattle.harbor_verify.specs.Walks.{instructions}
use Rattle.harbor_verify.proofs.Decoded.{instruction_within, none_read, one_read}

-- The words from a place on.
there : (words : List ℕ) (place : ℕ) → place < length words → drop place words ≡ get_or words place 0 ∷ drop (place + 1) words
there words place inside =
    let next : suc place ≡ place + 1 = omega arith in
    drop-cons words place 0 inside ∙ ap (λ n. get_or words place 0 ∷ drop n words) next

abbrev pub Decodes : List ℕ → ℕ → Result (Instr × ℕ) DecodeError → Type 0
Decodes words place r = decoded (get_or words place 0) (next_word (drop (place + 1) words)) ≡ r

first_of : (words : List ℕ) (place : ℕ) (r : Result (Instr × ℕ) DecodeError) → place < length words → Decodes words place r → instruction_first (drop place words) ≡ instruction_of r
first_of words place r inside e = ap instruction_first (there words place inside) ∙ ap instruction_of e

length_of : (words : List ℕ) (place : ℕ) (i : Instr) (n : ℕ) → Decodes words place (Ok (i, n)) → n ≡ instruction_length i
length_of words place i n e = decoded_length (get_or words place 0) (next_word (drop (place + 1) words)) i n e

pub first_at : (words : List ℕ) (place : ℕ) (i : Instr) (n : ℕ) → place < length words → Decodes words place (Ok (i, n)) → Some i ≡ instruction_first (drop place words)
first_at words place i n inside e = sym (first_of words place (Ok (i, n)) inside e)

pub next_at : (words : List ℕ) (place : ℕ) (i : Instr) (n : ℕ) → Decodes words place (Ok (i, n)) → place + n ≡ place + instruction_length i
next_at words place i n e = ap (λ m. place + m) (length_of words place i n e)

pub within_at : (words : List ℕ) (place : ℕ) (i : Instr) (n : ℕ) → place < length words → Decodes words place (Ok (i, n)) → place + n ≤ length words
within_at words place i n inside e =
    omega (arith, instruction_within (drop place words) i (first_of words place (Ok (i, n)) inside e), length-drop place words, inside, length_of words place i n e)

pub rest_at : (words : List ℕ) (place : ℕ) (i : Instr) (n : ℕ) → place < length words → Decodes words place (Ok (i, n)) → instructions (drop place words) ≡ i ∷ instructions (drop (place + n) words)
rest_at words place i n inside e =
    one_read (drop place words) i (first_of words place (Ok (i, n)) inside e)
    ∙ ap (λ l. i ∷ instructions l) (drop-drop (instruction_length i) place words ∙ ap (λ m. drop (place + m) words) (sym (length_of words place i n e)))

pub none_at : (words : List ℕ) (place : ℕ) (x : DecodeError) → place < length words → Decodes words place (Err x) → None ≡ instruction_first (drop place words)
none_at words place x inside e = sym (first_of words place (Err x) inside e)

pub nothing_at : (words : List ℕ) (place : ℕ) (x : DecodeError) → place < length words → Decodes words place (Err x) → instructions (drop place words) ≡ []
nothing_at words place x inside e = none_read (drop place words) (first_of words place (Err x) inside e)

pub no_first : (words : List ℕ) (place : ℕ) → length words ≤ place → None ≡ instruction_first (drop place words)
no_first words place past = sym (ap instruction_first (drop_all place words past))

pub nothing_left : (words : List ℕ) (place : ℕ) → length words ≤ place → instructions (drop place words) ≡ []
nothing_left words place past = none_read (drop place words) (ap instruction_first (drop_all place words past))

pub ruleset read_at = (next_at)
