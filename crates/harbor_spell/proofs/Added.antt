-- Instructions put one behind the other, and their words.
use Rattle.std.proofs.Common.{◌≡◌, ◌∙◌, ℕ, zero, suc, ◌+◌, ◌≤◌, List, [], ◌∷◌, ◌++◌, take, drop, Option, Some, None, Ok, sym, ap, arith}
use Rattle.avr_isa.specs.Decoded.{decoded}
use Rattle.avr_isa.specs.Table.{word_count}
use Rattle.avr_isa.specs.declared.instruction.Instr.{Instr}
use Rattle.avr_isa.proofs.TableLaws.{decoded_length}
use Rattle.unit_code.specs.Beside.{AreWordsOf, words_in}

pub words_more : (is js : List Instr) → words_in (is ++ js) ≡ words_in is + words_in js
words_more (i ∷ is) js = omega (arith, words_more is js)
words_more [] js = omega arith

-- what is taken of instructions has fewer words
pub words_taken : (is : List Instr) (k : ℕ) → words_in (take k is) ≤ words_in is
words_taken is zero = omega arith
words_taken [] (suc k) = omega arith
words_taken (i ∷ is) (suc k) = omega (arith, words_taken is k)

abbrev pub second_words : Option ℕ → List ℕ
second_words None = []
second_words (Some w) = w ∷ []

-- The words of one instruction, as they are encoded.
pub encoded : (i : Instr) (w : ℕ) (o : Option ℕ) → decoded w o ≡ Ok (i, word_count o) → AreWordsOf (i ∷ []) (w ∷ second_words o)
encoded i w None is =
    let n = decoded_length w None i 1 is in (is ∙ ap (λ m. Ok (i, m)) n, ap (λ m. drop m (w ∷ [])) (sym n))
encoded i w (Some k) is =
    let n = decoded_length w (Some k) i 2 is in (is ∙ ap (λ m. Ok (i, m)) n, ap (λ m. drop m (w ∷ k ∷ [])) (sym n))
