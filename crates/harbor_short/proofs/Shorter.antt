-- A round makes shapes short and none long.
use Rattle.std.proofs.Common.{◌≡◌, ◌↔◌, ◌⊎◌, ⊎_elim, inl, inr, ℕ, suc, ◌+◌, ◌<◌, ◌≤◌, true, false, List, [], ◌∷◌, length, refl, ap, ap₂, arith}
use Rattle.std.specs.Prelude.{⊤}
use Rattle.unit_code.specs.declared.unit.Unit.{Unit}
use Rattle.unit_code.specs.declared.unit.Unit.TheVariants as unit
use Rattle.unit_code.specs.declared.unit.Shape.{Shape}
use Rattle.unit_code.specs.declared.unit.Shape.TheVariants.{Long, Short}
use Rattle.unit_code.specs.Lengths.{spelled_length}
use Rattle.unit_code.specs.Spelling.{start_of}
use Rattle.harbor_short.specs.Longs.{longs}
use Rattle.harbor_short.specs.Rounds.{AreTurned, BecomesShort}

-- what was short is short
abbrev pub AreShorter : List Shape → List Shape → Type 0
AreShorter [] [] = ⊤
AreShorter [] (t ∷ ts) = ⊥
AreShorter (s ∷ ss) [] = ⊥
AreShorter (s ∷ ss) (t ∷ ts) = (s ≡ Short → t ≡ Short) × AreShorter ss ts

pub turned_shorter : (starts : List ℕ) (i : ℕ) (us : List Unit) (ss ts : List Shape) → AreTurned starts i us ss ts → AreShorter ss ts
turned_shorter starts i [] [] [] h = tt
turned_shorter starts i [] [] (t ∷ ts) h = absurd h
turned_shorter starts i [] (s ∷ ss) ts h = absurd h
turned_shorter starts i (u ∷ us) [] ts h = absurd h
turned_shorter starts i (u ∷ us) (s ∷ ss) [] h = absurd h
turned_shorter starts i (u ∷ us) (s ∷ ss) (t ∷ ts) h = (λ e. h.0.1 (inl e), turned_shorter starts (i + 1) us ss ts h.1)

pub turned_length : (starts : List ℕ) (i : ℕ) (us : List Unit) (ss ts : List Shape) → AreTurned starts i us ss ts → (length ss ≡ length us) × (length ts ≡ length us)
turned_length starts i [] [] [] h = (refl, refl)
turned_length starts i [] [] (t ∷ ts) h = absurd h
turned_length starts i [] (s ∷ ss) ts h = absurd h
turned_length starts i (u ∷ us) [] ts h = absurd h
turned_length starts i (u ∷ us) (s ∷ ss) [] h = absurd h
turned_length starts i (u ∷ us) (s ∷ ss) (t ∷ ts) h = let e = turned_length starts (i + 1) us ss ts h.1 in (ap suc e.0, ap suc e.1)

long_is_not_short : Long ≡ Short → ⊥
long_is_not_short e = cc

pub same_shape : (P : Type 0) (a b : Shape) → ((a ≡ Short) ↔ P) → ((b ≡ Short) ↔ P) → a ≡ b
same_shape P Long Long h k = refl
same_shape P Long Short h k = absurd (long_is_not_short (h.1 (k.0 refl)))
same_shape P Short Long h k = absurd (long_is_not_short (k.1 (h.0 refl)))
same_shape P Short Short h k = refl

pub one_turn : (starts : List ℕ) (i : ℕ) (us : List Unit) (ss ts rs : List Shape) → AreTurned starts i us ss ts → AreTurned starts i us ss rs → ts ≡ rs
one_turn starts i [] [] [] [] h k = refl
one_turn starts i [] [] [] (r ∷ rs) h k = absurd k
one_turn starts i [] [] (t ∷ ts) rs h k = absurd h
one_turn starts i [] (s ∷ ss) ts rs h k = absurd h
one_turn starts i (u ∷ us) [] ts rs h k = absurd h
one_turn starts i (u ∷ us) (s ∷ ss) [] rs h k = absurd h
one_turn starts i (u ∷ us) (s ∷ ss) (t ∷ ts) [] h k = absurd k
one_turn starts i (u ∷ us) (s ∷ ss) (t ∷ ts) (r ∷ rs) h k =
    ap₂ (λ (x : Shape) (xs : List Shape). x ∷ xs) (same_shape ((s ≡ Short) ⊎ BecomesShort starts (start_of starts i) u us ss) t r h.0 k.0) (one_turn starts (i + 1) us ss ts rs h.1 k.1)

-- a short unit has at most as many words as a long one
short_least : (u : Unit) → spelled_length u Short ≤ spelled_length u Long
short_least (unit.SpGroup true) = omega arith
short_least (unit.SpGroup false) = omega arith
short_least _ = omega arith

pub fewer_words : (u : Unit) (s t : Shape) → (s ≡ Short → t ≡ Short) → spelled_length u t ≤ spelled_length u s
fewer_words u Long Long h = omega arith
fewer_words u Long Short h = short_least u
fewer_words u Short Long h = absurd (long_is_not_short (h refl))
fewer_words u Short Short h = omega arith

pub fewer_longs : (ss ts : List Shape) → AreShorter ss ts → longs ts ≤ longs ss
fewer_longs [] [] h = omega arith
fewer_longs [] (t ∷ ts) h = absurd h
fewer_longs (s ∷ ss) [] h = absurd h
fewer_longs (Long ∷ ss) (Long ∷ ts) h = omega (arith, fewer_longs ss ts h.1)
fewer_longs (Long ∷ ss) (Short ∷ ts) h = omega (arith, fewer_longs ss ts h.1)
fewer_longs (Short ∷ ss) (Long ∷ ts) h = absurd (long_is_not_short (h.0 refl))
fewer_longs (Short ∷ ss) (Short ∷ ts) h = fewer_longs ss ts h.1

-- where as many are long as before, nothing changed
pub same_longs : (ss ts : List Shape) → AreShorter ss ts → (ts ≡ ss) ⊎ (longs ts < longs ss)
same_longs [] [] h = inl refl
same_longs [] (t ∷ ts) h = absurd h
same_longs (s ∷ ss) [] h = absurd h
same_longs (Long ∷ ss) (Long ∷ ts) h = ⊎_elim (λ (e : ts ≡ ss). inl (ap (λ (xs : List Shape). Long ∷ xs) e)) (λ (l : longs ts < longs ss). inr (omega (arith, l))) (same_longs ss ts h.1)
same_longs (Long ∷ ss) (Short ∷ ts) h = inr (omega (arith, fewer_longs ss ts h.1))
same_longs (Short ∷ ss) (Long ∷ ts) h = absurd (long_is_not_short (h.0 refl))
same_longs (Short ∷ ss) (Short ∷ ts) h = ⊎_elim (λ (e : ts ≡ ss). inl (ap (λ (xs : List Shape). Short ∷ xs) e)) (λ (l : longs ts < longs ss). inr l) (same_longs ss ts h.1)

pub long_least : (u : Unit) (s : Shape) → spelled_length u s ≤ spelled_length u Long
long_least u Long = omega arith
long_least u Short = short_least u
