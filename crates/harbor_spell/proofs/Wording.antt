-- Instructions have at most one list of words.
use Rattle.std.proofs.Common.{◌≡◌, ◌∙◌, ℕ, zero, suc, List, [], ◌∷◌, drop, Some, None, Ok, sym, ap₂, arith}
use Rattle.std.proofs.lemmas.Option.{same_Some}
use Rattle.avr_isa.specs.Decoded.{decoded}
use Rattle.avr_isa.specs.declared.instruction.Instr.{Instr}
use Rattle.avr_isa.proofs.TableLaws.{decoded_count, row-decoded, words_are_unique}
use Rattle.unit_code.specs.Beside.{AreWordsOf}
use Rattle.unit_code.specs.Items.{next_word}
use Rattle.unit_code.specs.Lengths.{instruction_length}
use Rattle.harbor_spell.proofs.OneSpelling.{Words16, next_small}

same_list : (w v : ℕ) (ws vs : List ℕ) → w ≡ v → ws ≡ vs → w ∷ ws ≡ v ∷ vs
same_list w v ws vs e f = ap₂ (λ (x : ℕ) (l : List ℕ). x ∷ l) e f

-- the first instruction has the same words, and so do those behind it
step : (i : Instr) (is : List Instr) (w v : ℕ) (ws vs : List ℕ) (n : ℕ) → Words16 (w ∷ ws) → Words16 (v ∷ vs) → decoded w (next_word ws) ≡ Ok (i, n)
    → decoded v (next_word vs) ≡ Ok (i, n) → AreWordsOf is (drop n (w ∷ ws)) → AreWordsOf is (drop n (v ∷ vs))
    → ((xs ys : List ℕ) → Words16 xs → Words16 ys → AreWordsOf is xs → AreWordsOf is ys → xs ≡ ys) → w ∷ ws ≡ v ∷ vs
step i is w v ws vs zero small fine d e h k behind = absurd (omega (arith, (decoded_count w (next_word ws) i 0 d).0))
step i is w v ws vs (suc zero) small fine d e h k behind =
    let same = words_are_unique w v (next_word ws) (next_word vs) i 1 1 (small.0, next_small ws small.1) (fine.0, next_small vs fine.1)
    (row-decoded w (next_word ws) i 1 d) (row-decoded v (next_word vs) i 1 e) in
    same_list w v ws vs same.0 (behind ws vs small.1 fine.1 h k)
step i is w v [] vs (suc (suc n)) small fine d e h k behind = absurd (omega (arith, (decoded_count w None i (suc (suc n)) d).1))
step i is w v (x ∷ ws) [] (suc (suc n)) small fine d e h k behind = absurd (omega (arith, (decoded_count v None i (suc (suc n)) e).1))
step i is w v (x ∷ ws) (y ∷ vs) (suc (suc zero)) small fine d e h k behind =
    let same = words_are_unique w v (Some x) (Some y) i 2 2 (small.0, small.1.0) (fine.0, fine.1.0) (row-decoded w (Some x) i 2 d) (row-decoded v (Some y) i 2 e) in
    same_list w v (x ∷ ws) (y ∷ vs) same.0 (same_list x y ws vs (same_Some x y same.1) (behind ws vs small.1.1 fine.1.1 h k))
step i is w v (x ∷ ws) (y ∷ vs) (suc (suc (suc n))) small fine d e h k behind = absurd (omega (arith, (decoded_count w (Some x) i (suc (suc (suc n))) d).1))

pub one_wording : (is : List Instr) (ws vs : List ℕ) → Words16 ws → Words16 vs → AreWordsOf is ws → AreWordsOf is vs → ws ≡ vs
one_wording [] ws vs small fine h k = h ∙ sym k
one_wording (i ∷ is) [] vs small fine h k = absurd h
one_wording (i ∷ is) (w ∷ ws) [] small fine h k = absurd k
one_wording (i ∷ is) (w ∷ ws) (v ∷ vs) small fine h k =
    step i is w v ws vs (instruction_length i) small fine h.0 k.0 h.1 k.1 (λ xs ys a b f g. one_wording is xs ys a b f g)
