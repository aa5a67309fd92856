-- Words of instructions with others behind them.
use Rattle.std.proofs.Common.{◌≡◌, ◌∙◌, ℕ, ◌≤◌, List, [], ◌∷◌, ◌++◌, length, drop, Some, None, Ok, sym, ap, subst, arith, length-drop}
use Rattle.std.proofs.lemmas.List.{drop-append-le}
use Rattle.avr_isa.specs.Decoded.{decoded}
use Rattle.avr_isa.specs.declared.instruction.Instr.{Instr}
use Rattle.avr_isa.proofs.TableLaws.{decoded_alone, decoded_count}
use Rattle.unit_code.specs.Beside.{AreWordsOf, words_in}
use Rattle.unit_code.specs.Items.{next_word}
use Rattle.unit_code.specs.Lengths.{instruction_length}
use Rattle.unit_code.specs.Spelled.{BeginWith}

-- An instruction has no more words than there are, so those behind don't change it.
pub within : (w : ℕ) (ws : List ℕ) (i : Instr) (n : ℕ) → decoded w (next_word ws) ≡ Ok (i, n) → n ≤ length (w ∷ ws)
within w (next ∷ ws) i n is = let few = (decoded_count w (Some next) i n is).1 in omega (arith, few)
within w [] i n is = (decoded_count w None i n is).1

still : (w : ℕ) (ws more : List ℕ) (i : Instr) (n : ℕ) → decoded w (next_word ws) ≡ Ok (i, n) → decoded w (next_word (ws ++ more)) ≡ Ok (i, n)
still w (next ∷ ws) more i n is = is
still w [] more i n is =
    let count = decoded_count w None i n is in
    let one : n ≡ 1 = omega (arith, count.0, count.1) in
    subst (λ (m : ℕ). decoded w (next_word more) ≡ Ok (i, m)) (sym one) (decoded_alone w None (next_word more) i (is ∙ ap (λ m. Ok (i, m)) one))

extended : (is : List Instr) (ws rest more : List ℕ) → BeginWith is ws rest → BeginWith is (ws ++ more) (rest ++ more)
extended [] ws rest more h = ap (λ l. l ++ more) h
extended (i ∷ is) [] rest more h = absurd h
extended (i ∷ is) (w ∷ ws) rest more h =
    let n = instruction_length i in
    (still w ws more i n h.0, subst (λ (l : List ℕ). BeginWith is l (rest ++ more)) (sym (drop-append-le n (w ∷ ws) more (within w ws i n h.0))) (extended is (drop n (w ∷ ws)) rest more h.1))

continued_by : (is js : List Instr) (ws mid rest : List ℕ) → BeginWith is ws mid → BeginWith js mid rest → BeginWith (is ++ js) ws rest
continued_by [] js ws mid rest h k = subst (λ (l : List ℕ). BeginWith js l rest) (sym h) k
continued_by (i ∷ is) js [] mid rest h k = absurd h
continued_by (i ∷ is) js (w ∷ ws) mid rest h k = (h.0, continued_by is js (drop (instruction_length i) (w ∷ ws)) mid rest h.1 k)

pub words_joined : (is js : List Instr) (ws vs : List ℕ) → AreWordsOf is ws → AreWordsOf js vs → AreWordsOf (is ++ js) (ws ++ vs)
words_joined is js ws vs h k = continued_by is js (ws ++ vs) vs [] (extended is ws [] vs h) k

-- Instructions have as many words as their lengths say.
pub counted : (is : List Instr) (ws : List ℕ) → AreWordsOf is ws → length ws ≡ words_in is
counted [] ws h = ap length h
counted (i ∷ is) [] h = absurd h
counted (i ∷ is) (w ∷ ws) h =
    let n = instruction_length i in
    omega (arith, counted is (drop n (w ∷ ws)) h.1, length-drop n (w ∷ ws), within w ws i n h.0)
