-- What a cut of a text says of its parts.
use Rattle.std.specs.Prelude.{ℕ, suc, ◌+◌, ◌<◌, ◌≡◌, ◌==◌, true, false, List, [], ◌∷◌, ◌++◌, length, take}
use Rattle.std.proofs.Common.{refl, sym, ◌∙◌, ap, cond, arith}
use Rattle.std.proofs.lemmas.Bool.{ne_eqb, true≢false, cond-false}
use Rattle.std.proofs.Math.Seq.{take-append-add}
use Rattle.avr_asm.specs.Cut.{Lacks, IsCut}
use Rattle.avr_asm.specs.Text.{front, back, has, onto_first, lines_in}
use Rattle.avr_asm.proofs.Texts.{front-parted, back-parted, back-none, front-whole, has-parted}

pub has_lacks : (byte : ℕ) (text : List ℕ) → Lacks byte text → has byte text ≡ false
has_lacks byte [] h = refl
has_lacks byte (x ∷ xs) h = cond-false (x == byte) _ _ (ne_eqb x byte (h 0 (omega arith))) ∙ has_lacks byte xs (λ k p. h (suc k) (omega arith))

pub has_cut : (byte : ℕ) (text before behind : List ℕ) → IsCut byte text before behind → has byte text ≡ true
has_cut byte text before behind h = ap (has byte) h.whole ∙ has-parted byte before behind

pub front_is : (byte : ℕ) (text before behind : List ℕ) → IsCut byte text before behind → front byte text ≡ before
front_is byte text before behind h = ap (front byte) h.whole ∙ front-parted byte before behind (has_lacks byte before h.first)

pub front_all : (byte : ℕ) (text : List ℕ) → Lacks byte text → front byte text ≡ text
front_all byte text h = front-whole byte text (has_lacks byte text h)

pub back_is : (byte : ℕ) (text before behind : List ℕ) → IsCut byte text before behind → back byte text ≡ behind
back_is byte text before behind h = ap (back byte) h.whole ∙ back-parted byte before behind (has_lacks byte before h.first)

pub back_none : (byte : ℕ) (text : List ℕ) → Lacks byte text → back byte text ≡ []
back_none byte text h = back-none byte text (has_lacks byte text h)

-- a line is what comes up to its line feed
pub line_parted : (w t : List ℕ) → has 10 w ≡ false → lines_in (w ++ (10 ∷ t)) ≡ (w ++ (10 ∷ [])) ∷ lines_in t
line_parted [] t h = refl
line_parted (x ∷ xs) t h = elim (x == 10) as (λ e. cond e true (has 10 xs) ≡ false → cond e ((10 ∷ []) ∷ lines_in (xs ++ (10 ∷ t))) (onto_first x (lines_in (xs ++ (10 ∷ t)))) ≡ (x ∷ (xs ++ (10 ∷ []))) ∷ lines_in t) [
  | true ↦ λ same. absurd (true≢false same)
  | false ↦ λ lacks. ap (onto_first x) (line_parted xs t lacks)
] h

taken : (w t : List ℕ) → take (length w + 1) (w ++ (10 ∷ t)) ≡ w ++ (10 ∷ [])
taken w t = take-append-add w (10 ∷ t) 1

pub first_is : (text before behind : List ℕ) → IsCut 10 text before behind → lines_in text ≡ take (length before + 1) text ∷ lines_in behind
first_is text before behind h = ap lines_in h.whole ∙ line_parted before behind (has_lacks 10 before h.first) ∙ ap (λ z. z ∷ lines_in behind) (sym (ap (take (length before + 1)) h.whole ∙ taken before behind))

pub first_all : (text : List ℕ) → Lacks 10 text → 0 < length text → lines_in text ≡ text ∷ []
first_all [] h p = absurd (omega arith)
first_all (x ∷ []) h p = cond-false (x == 10) _ _ (ne_eqb x 10 (h 0 (omega arith)))
first_all (x ∷ y ∷ ys) h p = cond-false (x == 10) _ _ (ne_eqb x 10 (h 0 (omega arith))) ∙ ap (onto_first x) (first_all (y ∷ ys) (λ k q. h (suc k) (omega arith)) (omega arith))
