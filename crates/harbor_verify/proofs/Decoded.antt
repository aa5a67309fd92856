-- The instructions of words.
use Rattle.std.proofs.Common.{◌≡◌, ◌∙◌, ℕ, zero, suc, ◌≤◌, ◌<◌, ◌^◌, List, [], ◌∷◌, ◌++◌, drop, length, length-drop, Some, None, Ok, Err, refl, sym, ap, subst, arith}
use Rattle.std.specs.Prelude.{⊤, IfSome}
use Rattle.std.specs.List.{AllByRecursion}
use Rattle.std.proofs.lemmas.List.{drop-drop}
use Rattle.std.proofs.lemmas.Option.{none-some, same_Some}
use Rattle.avr_isa.specs.Decoded.{decoded}
use Rattle.avr_isa.specs.Operands.{IsEncodable}
use Rattle.avr_isa.specs.declared.instruction.Instr.{Instr}
use Rattle.avr_isa.proofs.TableLaws.{decoded_is_encodable, decoded_length}
use Rattle.unit_code.specs.Beside.{AreWordsOf, words_in}
use Rattle.unit_code.specs.Items.{next_word}
use Rattle.unit_code.specs.Lengths.{instruction_length}
use Rattle.unit_code.specs.Spelled.{BeginWith}
use Rattle.harbor_spell.proofs.Joined.{within}
use Rattle.harbor_spell.proofs.OneSpelling.{Words16}
use Rattle.harbor_spell.proofs.Starts.{instruction_length-some}
use Rattle.harbor_verify.specs.Decoding.{instruction_first, instruction_of}
use Rattle.harbor_verify.specs.Walks.{and_behind, instructions, pieces_up_to}
use Rattle.harbor_verify.proofs.Pieces.{Advances, nothing_first, one_first}

abbrev pub Any : List ℕ → Type 0
Any words = ⊤

-- what the first word is decoded to
pub decoded_first : (w : ℕ) (ws : List ℕ) (i : Instr) → instruction_first (w ∷ ws) ≡ Some i → decoded w (next_word ws) ≡ Ok (i, instruction_length i)
decoded_first w ws i e =
    elim (decoded w (next_word ws)) as (λ r. decoded w (next_word ws) ≡ r → instruction_of r ≡ Some i → decoded w (next_word ws) ≡ Ok (i, instruction_length i)) [
      | Err x ↦ λ d e. absurd (none-some i e)
      | Ok found ↦ λ d e.
          let same : found.0 ≡ i = same_Some found.0 i e in
          let long : found.1 ≡ instruction_length found.0 = decoded_length w (next_word ws) found.0 found.1 d in
          d ∙ ap (λ n. Ok (found.0, n)) long ∙ ap (λ (x : Instr). Ok (x, instruction_length x)) same
    ] refl e

pub first_decoded : (w : ℕ) (ws : List ℕ) (i : Instr) (n : ℕ) → decoded w (next_word ws) ≡ Ok (i, n) → instruction_first (w ∷ ws) ≡ Some i
first_decoded w ws i n e = ap instruction_of e

pub instruction_within : (words : List ℕ) (i : Instr) → instruction_first words ≡ Some i → instruction_length i ≤ length words
instruction_within [] i e = absurd (none-some i e)
instruction_within (w ∷ ws) i e = within w ws i (instruction_length i) (decoded_first w ws i e)

pub advances : Advances instruction_first instruction_length words_in Any
advances = record {
  empty = refl;
  some = λ words i good e. (instruction_length-some i, instruction_within words i e);
  behind = λ n words good. tt;
  none = refl;
  more = λ i is. refl;
}

pub none_read : (words : List ℕ) → instruction_first words ≡ None → instructions words ≡ []
unfolding instructions
none_read words e = nothing_first instruction_first instruction_length words_in Any advances words e

pub one_read : (words : List ℕ) (i : Instr) → instruction_first words ≡ Some i → instructions words ≡ i ∷ instructions (drop (instruction_length i) words)
unfolding instructions
one_read words i e = one_first instruction_first instruction_length words_in Any advances words i tt e

-- The instruction that is read first, with those behind it.
pub read_first : (words : List ℕ) (i : Instr) (is : List Instr) → instructions words ≡ i ∷ is → (instruction_first words ≡ Some i) × (instructions (drop (instruction_length i) words) ≡ is)
read_first words i is e =
    elim (instruction_first words) as (λ o. instruction_first words ≡ o → (o ≡ Some i) × (instructions (drop (instruction_length i) words) ≡ is)) [
      | None ↦ λ f. let none = none_read words f in cc
      | Some x ↦ λ f.
          let all : x ∷ instructions (drop (instruction_length x) words) ≡ i ∷ is = sym (one_read words x f) ∙ e in
          let same : x ≡ i = cc in
          let rest : instructions (drop (instruction_length x) words) ≡ is = cc in
          (ap Some same, ap (λ (y : Instr). instructions (drop (instruction_length y) words)) (sym same) ∙ rest)
    ] refl

-- Words that begin with instructions, and instructions that words are read as.
pub begun : (is : List Instr) (words rest : List ℕ) → BeginWith is words rest → (instructions words ≡ is ++ instructions rest) × (rest ≡ drop (words_in is) words)
begun [] words rest h = (ap instructions h, sym h)
begun (i ∷ is) [] rest h = absurd h
begun (i ∷ is) (w ∷ ws) rest h =
    let behind = begun is (drop (instruction_length i) (w ∷ ws)) rest h.1 in (
      one_read (w ∷ ws) i (first_decoded w ws i (instruction_length i) h.0) ∙ ap (λ l. i ∷ l) behind.0,
      behind.1 ∙ drop-drop (words_in is) (instruction_length i) (w ∷ ws),
    )

pub begins : (front is : List Instr) (words : List ℕ) → instructions words ≡ front ++ is
    → BeginWith front words (drop (words_in front) words) × (instructions (drop (words_in front) words) ≡ is)
begins [] is words e = (refl, e)
begins (i ∷ front) is [] e = let none = none_read [] refl in cc
begins (i ∷ front) is (w ∷ ws) e =
    let first = read_first (w ∷ ws) i (front ++ is) e in
    let rest = begins front is (drop (instruction_length i) (w ∷ ws)) first.1 in
    let there = drop-drop (words_in front) (instruction_length i) (w ∷ ws) in
    let P : List ℕ → Type 0 = λ l. BeginWith front (drop (instruction_length i) (w ∷ ws)) l in
    ((decoded_first w ws i first.0, subst P there rest.0), ap instructions (sym there) ∙ rest.1)

append_nothing : (is : List Instr) → is ++ [] ≡ is
append_nothing [] = refl
append_nothing (i ∷ is) = ap (λ l. i ∷ l) (append_nothing is)

pub all_read : (is : List Instr) (words : List ℕ) → AreWordsOf is words → instructions words ≡ is
all_read is words h = (begun is words [] h).0 ∙ ap (λ l. is ++ l) (none_read [] refl) ∙ append_nothing is

-- instructions have as many words as their words are
pub words_count : (is : List Instr) (words : List ℕ) → AreWordsOf is words → length words ≡ words_in is
words_count [] words h = ap length h
words_count (i ∷ is) [] h = absurd h
words_count (i ∷ is) (w ∷ ws) h =
    let n = instruction_length i in
    omega (arith, words_count is (drop n (w ∷ ws)) h.1, length-drop n (w ∷ ws), within w ws i n h.0)

pub small_behind : (n : ℕ) (words : List ℕ) → Words16 words → Words16 (drop n words)
small_behind zero words h = h
small_behind (suc n) [] h = tt
small_behind (suc n) (w ∷ ws) h = small_behind n ws h.1

small_next : (ws : List ℕ) → Words16 ws → IfSome (next_word ws) (λ w. w < 2 ^ 16)
small_next [] h = tt
small_next (w ∷ ws) h = h.0

pub first_encodable : (words : List ℕ) (i : Instr) → Words16 words → instruction_first words ≡ Some i → IsEncodable i
first_encodable [] i small e = absurd (none-some i e)
first_encodable (w ∷ ws) i small e = decoded_is_encodable w (next_word ws) i (instruction_length i) (small.0, small_next ws small.1) (decoded_first w ws i e)

encodable_up_to : (n : ℕ) (words : List ℕ) → Words16 words → AllByRecursion IsEncodable (pieces_up_to instruction_first instruction_length n words)
unfolding pieces_up_to
encodable_up_to zero words small = tt
encodable_up_to (suc n) words small =
    elim (instruction_first words) as (λ o. instruction_first words ≡ o → AllByRecursion IsEncodable (and_behind o (λ i. pieces_up_to instruction_first instruction_length n (drop (instruction_length i) words)))) [
      | None ↦ λ e. tt
      | Some i ↦ λ e. (first_encodable words i small e, encodable_up_to n (drop (instruction_length i) words) (small_behind (instruction_length i) words small))
    ] refl

-- what is read from words of 16 bits has its operands in range
pub are_encodable : (words : List ℕ) → Words16 words → AllByRecursion IsEncodable (instructions words)
unfolding instructions
are_encodable words small = encodable_up_to (length words) words small
