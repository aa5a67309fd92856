-- What stands in a bank is fetched there.
use Rattle.std.proofs.Common.{◌≡◌, ◌∙◌, ℕ, ◌+◌, ◌%◌, ◌<◌, ◌≤◌, List, [], ◌∷◌, drop, length, length-drop, get_or, None, Some, Ok, refl, sym, ap, subst, arith}
use Rattle.std.specs.Prelude.{slice_index, slice_index_or}
use Rattle.std.proofs.lemmas.List.{drop-drop, get_or-drop}
use Rattle.avr_isa.specs.Decoded.{decoded}
use Rattle.avr_isa.specs.Place.{second_word}
use Rattle.avr_isa.specs.Table.{word_count}
use Rattle.avr_isa.specs.declared.instruction.Instr.{Instr}
use Rattle.avr_isa.proofs.TableLaws.{decoded_alone, decoded_count}
use Rattle.avr_machine.specs.Processor.{raised}
use Rattle.avr_machine.specs.Flash.{Banks, word_at}
use Rattle.avr_machine.specs.Step.{fetched, following}
use Rattle.avr_machine.proofs.BankLemmas.{word_at-bank}
use Rattle.mote_layout.specs.Memory.{bank_words, domain_count}
use Rattle.unit_code.specs.Items.{next_word}
use Rattle.unit_code.specs.Lengths.{instruction_length}
use Rattle.unit_code.specs.Spelled.{BeginWith}
use Rattle.word_run.specs.FlashValue.{address_in}
use Rattle.word_run.proofs.SecondWords.{IsAddressed, decoded_address}

-- From a place on the words are those of these instructions, and others may follow.
abbrev pub Stand : List ℕ → ℕ → List Instr → Type 0
Stand words place is = (rest : List ℕ) × BeginWith is (drop place words) rest

pub one_word_at_least : (i : Instr) → (1 ≤ instruction_length i) × (instruction_length i ≤ 2)
one_word_at_least i = elim (second_word i) as (λ o. (1 ≤ word_count o) × (word_count o ≤ 2)) [ None ↦ (omega arith, omega arith) | Some k ↦ (omega arith, omega arith) ]

-- The first instruction, by the words from the place on.
record IsFirst (words : List ℕ) (place : ℕ) (i : Instr) (is : List Instr) (rest : List ℕ) : Type 0 where
  word : ℕ
  behind : List ℕ
  from : drop place words ≡ word ∷ behind
  is_read : decoded word (next_word behind) ≡ Ok (i, instruction_length i)
  others : BeginWith is (drop (instruction_length i) (word ∷ behind)) rest

first_by : (words : List ℕ) (place : ℕ) (i : Instr) (is : List Instr) (rest xs : List ℕ) → drop place words ≡ xs → BeginWith (i ∷ is) xs rest → IsFirst words place i is rest
first_by words place i is rest [] e h = absurd h
first_by words place i is rest (w ∷ ws) e h = record { word = w; behind = ws; from = e; is_read = h.0; others = h.1 }

first_there : (words : List ℕ) (place : ℕ) (i : Instr) (is : List Instr) (s : Stand words place (i ∷ is)) → IsFirst words place i is s.0
first_there words place i is s = first_by words place i is s.0 (drop place words) refl s.1

-- the instructions behind the first
pub stand_behind : (words : List ℕ) (place : ℕ) (i : Instr) (is : List Instr) → Stand words place (i ∷ is) → Stand words (place + instruction_length i) is
stand_behind words place i is s =
    let f = first_there words place i is s in
    let e : drop (instruction_length i) (f.word ∷ f.behind) ≡ drop (place + instruction_length i) words
    = ap (drop (instruction_length i)) (sym f.from) ∙ drop-drop (instruction_length i) place words in
    (s.0, subst (λ (xs : List ℕ). BeginWith is xs s.0) e f.others)

pub stand_within : (words : List ℕ) (place : ℕ) (i : Instr) (is : List Instr) → Stand words place (i ∷ is) → place < length words
stand_within words place i is s =
    let f = first_there words place i is s in
    let left = ap length f.from in
    omega (arith, left, length-drop place words)

word_there : (words : List ℕ) (place n : ℕ) (xs : List ℕ) → drop place words ≡ xs → slice_index words (place + n) ≡ slice_index xs n
word_there words place n xs e = sym (get_or-drop place words n 0) ∙ ap (λ l. get_or l n 0) e

-- an instruction by the words of a bank, whatever follows it where it has one word
fetched_by : (banks : Banks) (d place word : ℕ) (behind : List ℕ) (i : Instr) → d < domain_count → length (slice_index_or banks d []) ≤ bank_words
    → drop place (slice_index_or banks d []) ≡ word ∷ behind → decoded word (next_word behind) ≡ Ok (i, instruction_length i)
    → decoded word (Some (word_at banks (raised (address_in d place)))) ≡ Ok (i, instruction_length i)
fetched_by banks d place word [] i below fits from read =
    let one : instruction_length i ≡ 1 = let few = decoded_count word None i (instruction_length i) read in omega (arith, few) in
    let alone : decoded word None ≡ Ok (i, 1) = read ∙ ap (λ n. Ok (i, n)) one in
    decoded_alone word None (Some _) i alone ∙ ap (λ n. Ok (i, n)) (sym one)
fetched_by banks d place word (next ∷ more) i below fits from read =
    let words = slice_index_or banks d [] in
    let left = ap length from in
    let inside : place + 1 < length words = omega (arith, left, length-drop place words) in
    let next_is : raised (address_in d place) ≡ address_in d (place + 1) = omega (arith, inside, fits, below) in
    let second : word_at banks (raised (address_in d place)) ≡ next
    = ap (word_at banks) next_is ∙ word_at-bank banks d (place + 1) (omega (arith, inside, fits)) ∙ word_there words place 1 (word ∷ next ∷ more) from in
    ap (λ x. decoded word (Some x)) second ∙ read

-- The instruction is fetched at its place.
pub fetches : (banks : Banks) (d place : ℕ) (i : Instr) (is : List Instr) → d < domain_count → length (slice_index_or banks d []) ≤ bank_words
    → Stand (slice_index_or banks d []) place (i ∷ is) → fetched banks (address_in d place) ≡ Ok (i, instruction_length i)
unfolding fetched
fetches banks d place i is below fits s =
    let words = slice_index_or banks d [] in
    let f = first_there words place i is s in
    let inside = stand_within words place i is s in
    let zero_more : place + 0 ≡ place = omega arith in
    let first : word_at banks (address_in d place) ≡ f.word
    = word_at-bank banks d place (omega (arith, inside, fits)) ∙ ap (slice_index words) (sym zero_more) ∙ word_there words place 0 (f.word ∷ f.behind) f.from in
    ap (λ w. decoded w (Some (word_at banks (raised (address_in d place))))) first
    ∙ fetched_by banks d place f.word f.behind i below fits f.from f.is_read

-- and its address, where it has one as its second word, is read behind its place
pub fetched_address : (banks : Banks) (a : ℕ) (i : Instr) → fetched banks a ≡ Ok (i, 2) → IsAddressed (word_at banks (raised a)) i
unfolding fetched
fetched_address banks a i e = decoded_address (word_at banks a) (word_at banks (raised a)) i e

-- what follows it
pub follows : (banks : Banks) (a : ℕ) (i : Instr) (n : ℕ) → fetched banks a ≡ Ok (i, n) → following banks a ≡ (a + n) % 65536
unfolding following
follows banks a i n e = rw e refl
