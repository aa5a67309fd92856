-- The rounds come to shapes, and to one list of them.
use Rattle.std.proofs.Common.{◌≡◌, ◌∙◌, ◌⊎◌, ⊎_elim, ℕ, zero, suc, ◌+◌, ◌≤◌, List, [], ◌∷◌, length, refl, sym, ap, subst, arith}
use Rattle.std.specs.List.{AllByRecursion}
use Rattle.unit_code.specs.declared.unit.Unit.{Unit}
use Rattle.unit_code.specs.declared.unit.Shape.{Shape}
use Rattle.unit_code.specs.Proper.{LeadsBelow}
use Rattle.unit_code.specs.Spelling.{AreReadSo, AreShapesFrom, AreShapesOf, starts_of}
use Rattle.harbor_short.specs.Longs.{longs}
use Rattle.harbor_short.specs.Rounds.{AreChosen, AreRounds, IsRound, all_long}
use Rattle.harbor_short.proofs.Shorter.{one_turn, turned_length}
use Rattle.harbor_short.proofs.Kept.{read_kept, shapes_after}

one_round : (us : List Unit) (ss ts rs : List Shape) → IsRound us ss ts → IsRound us ss rs → ts ≡ rs
one_round us ss ts rs h k = one_turn (starts_of us ss) 0 us ss ts rs h k

one_end : (us : List Unit) (n : ℕ) (first a b : List Shape) → AreRounds us n first a → AreRounds us n first b → a ≡ b
one_end us zero first a b h k = sym h ∙ k
one_end us (suc n) first a b h k =
    let P : List Shape → Type 0 = λ x. IsRound us x b in
    one_round us h.0 a b h.2 (subst P (one_end us n first k.0 h.0 k.1 h.1) k.2)

-- after a round that changes nothing, no further one does
stays : (us : List Unit) (n m : ℕ) (first a b : List Shape) → IsRound us a a → AreRounds us n first a → n ≤ m → AreRounds us m first b → b ≡ a
stays us zero zero first a b still h order k = sym k ∙ h
stays us (suc n) zero first a b still h order k = absurd (omega (arith, order))
stays us n (suc m) first a b still h order k =
    let cases : (n ≤ m) ⊎ (n ≡ suc m) = grind arith in
    let P : List Shape → Type 0 = λ x. IsRound us x b in
    ⊎_elim
    (λ (less : n ≤ m). one_round us a b a (subst P (stays us n m first a k.0 still h less k.1) k.2) still)
    (λ (e : n ≡ suc m). let Q : ℕ → Type 0 = λ x. AreRounds us x first a in one_end us (suc m) first b a k (subst Q e h))
    cases

pub one_choice : (us : List Unit) (a b : List Shape) → AreChosen us a → AreChosen us b → a ≡ b
one_choice us a b h k =
    let cases : (h.rounds ≤ k.rounds) ⊎ (k.rounds ≤ h.rounds) = grind arith in
    ⊎_elim
    (λ (less : h.rounds ≤ k.rounds). sym (stays us h.rounds k.rounds (all_long us) a b h.still h.come less k.come))
    (λ (less : k.rounds ≤ h.rounds). stays us k.rounds h.rounds (all_long us) b a k.still k.come less h.come)
    cases

longs_may : (starts : List ℕ) (i : ℕ) (us : List Unit) → AreShapesFrom starts i us (all_long us)
longs_may starts i [] = tt
longs_may starts i (u ∷ us) = (tt, longs_may starts (i + 1) us)

longs_read : (us : List Unit) → AreReadSo us (all_long us)
longs_read [] = tt
longs_read (u ∷ us) = longs_read us

pub all_longs : (us : List Unit) → longs (all_long us) ≡ length us
all_longs [] = refl
all_longs (u ∷ us) = ap suc (all_longs us)

pub all_long-length : (us : List Unit) → length (all_long us) ≡ length us
all_long-length [] = refl
all_long-length (u ∷ us) = ap suc (all_long-length us)

rounds_shapes : (us : List Unit) (n : ℕ) (a : List Shape) → AllByRecursion (LeadsBelow (length us)) us → AreRounds us n (all_long us) a → AreShapesOf us a
rounds_shapes us zero a below h = let P : List Shape → Type 0 = λ x. AreShapesOf us x in subst P h (longs_may (starts_of us (all_long us)) 0 us)
rounds_shapes us (suc n) a below h = shapes_after us h.0 a below h.2 (rounds_shapes us n h.0 below h.1)

rounds_read : (us : List Unit) (n : ℕ) (a : List Shape) → AreRounds us n (all_long us) a → AreReadSo us a
rounds_read us zero a h = let P : List Shape → Type 0 = λ x. AreReadSo us x in subst P h (longs_read us)
rounds_read us (suc n) a h = read_kept (starts_of us h.0) 0 us h.0 a h.2 (rounds_read us n h.0 h.1)

pub rounds_length : (us : List Unit) (n : ℕ) (a : List Shape) → AreRounds us n (all_long us) a → length a ≡ length us
rounds_length us zero a h = ap length (sym h) ∙ all_long-length us
rounds_length us (suc n) a h = (turned_length (starts_of us h.0) 0 us h.0 a h.2).1

pub chosen_shapes : (us : List Unit) (a : List Shape) → AllByRecursion (LeadsBelow (length us)) us → AreChosen us a → AreShapesOf us a
chosen_shapes us a below h = rounds_shapes us h.rounds a below h.come

pub chosen_read : (us : List Unit) (a : List Shape) → AreChosen us a → AreReadSo us a
chosen_read us a h = rounds_read us h.rounds a h.come
