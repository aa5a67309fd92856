-- The rounds come to an end.
use Rattle.std.proofs.Common.{◌≡◌, ◌↔◌, ◌⊎◌, ⊎_elim, inl, inr, ℕ, zero, suc, ◌+◌, ◌<◌, ◌≤◌, Bool, true, false, List, [], ◌∷◌, length, refl, subst, arith}
use Rattle.avr_isa.specs.Operands.{IsBranchOffset}
use Rattle.unit_code.specs.declared.unit.Unit.{Unit}
use Rattle.unit_code.specs.declared.unit.Unit.TheVariants as unit
use Rattle.unit_code.specs.declared.unit.Shape.{Shape}
use Rattle.unit_code.specs.declared.unit.Shape.TheVariants.{Long, Short}
use Rattle.unit_code.specs.Spelled.{offset_to}
use Rattle.unit_code.specs.Spelling.{begins_with_jump, begins_with_single, start_of, starts_of}
use Rattle.harbor_short.specs.Longs.{longs}
use Rattle.harbor_short.specs.Rounds.{AreChosen, AreRounds, AreTurned, BecomesShort, IsRound, all_long}
use Rattle.harbor_short.proofs.Shorter.{same_longs, turned_shorter}
use Rattle.harbor_short.proofs.Kept.{in_reach, reach_in}
use Rattle.harbor_short.proofs.Chosen.{all_longs, rounds_length}

abbrev pub Settled : Type 0 → Type 0
Settled P = P ⊎ (P → ⊥)

is_settled : (a b : Bool) → Settled (a ≡ b)
is_settled true true = inl refl
is_settled true false = inr (λ e. absurd (cc))
is_settled false true = inr (λ e. absurd (cc))
is_settled false false = inl refl

both_settled : (P Q : Type 0) → Settled P → Settled Q → Settled (P × Q)
both_settled P Q h k =
    ⊎_elim (λ (p : P). ⊎_elim (λ (q : Q). inl (p, q)) (λ (n : Q → ⊥). inr (λ z. n z.1)) k) (λ (n : P → ⊥). inr (λ z. n z.0)) h

reach_settled : (at word : ℕ) → Settled (IsBranchOffset (offset_to at word))
reach_settled at word =
    let low : (at ≤ word + 63) ⊎ (word + 63 < at) = grind arith in
    let high : (word ≤ at + 64) ⊎ (at + 64 < word) = grind arith in
    ⊎_elim
    (λ (a : at ≤ word + 63). ⊎_elim
    (λ (b : word ≤ at + 64). inl (reach_in at word a b))
    (λ (b : at + 64 < word). inr (λ z. let r : (at ≤ word + 63) × (word ≤ at + 64) = in_reach at word z in absurd (omega (arith, r.1, b)))) high)
    (λ (a : word + 63 < at). inr (λ z. let r : (at ≤ word + 63) × (word ≤ at + 64) = in_reach at word z in absurd (omega (arith, r.0, a)))) low

becomes_settled : (starts : List ℕ) (at : ℕ) (u : Unit) (us : List Unit) (ss : List Shape) → Settled (BecomesShort starts at u us ss)
becomes_settled starts at (unit.Skip x) us ss =
    both_settled (begins_with_jump us ≡ false) (begins_with_single us ss ≡ true) (is_settled (begins_with_jump us) false) (is_settled (begins_with_single us ss) true)
becomes_settled starts at (unit.Branch set bit u) us ss =
    both_settled (begins_with_jump us ≡ false) (IsBranchOffset (offset_to at (start_of starts u))) (is_settled (begins_with_jump us) false) (reach_settled at (start_of starts u))
becomes_settled starts at _ us ss = inr (λ z. z)

some_shape : (P : Type 0) (s : Shape) → Settled P → (t : Shape) × ((t ≡ Short) ↔ ((s ≡ Short) ⊎ P))
some_shape P Short h = (Short, (λ e. inl refl, λ o. refl))
some_shape P Long h =
    ⊎_elim (λ (p : P). (Short, (λ e. inr p, λ o. refl)))
    (λ (n : P → ⊥). (Long, (λ e. absurd (cc), λ o. ⊎_elim (λ (e : Long ≡ Short). e) (λ (p : P). absurd (n p)) o))) h

some_turn : (starts : List ℕ) (i : ℕ) (us : List Unit) (ss : List Shape) → length ss ≡ length us → (ts : List Shape) × AreTurned starts i us ss ts
some_turn starts i [] [] e = ([], tt)
some_turn starts i [] (s ∷ ss) e = absurd (omega (arith, e))
some_turn starts i (u ∷ us) [] e = absurd (omega (arith, e))
some_turn starts i (u ∷ us) (s ∷ ss) e =
    let first = some_shape (BecomesShort starts (start_of starts i) u us ss) s (becomes_settled starts (start_of starts i) u us ss) in
    let rest = some_turn starts (i + 1) us ss (omega (arith, e)) in
    (first.0 ∷ rest.0, (first.1, rest.1))

some_from : (us : List Unit) (k n : ℕ) (a : List Shape) → longs a ≤ k → n + longs a ≤ length us → AreRounds us n (all_long us) a → (shapes : List Shape) × AreChosen us shapes
some_from us zero n a left few come =
    let next : (ts : List Shape) × IsRound us a ts = some_turn (starts_of us a) 0 us a (rounds_length us n a come) in
    let P : List Shape → Type 0 = λ x. IsRound us a x in
    ⊎_elim
    (λ (e : next.0 ≡ a). (a, record { rounds = n; few = omega (arith, few); come = come; still = subst P e next.1 }))
    (λ (less : longs next.0 < longs a). absurd (omega (arith, less, left)))
    (same_longs a next.0 (turned_shorter (starts_of us a) 0 us a next.0 next.1))
some_from us (suc k) n a left few come =
    let next : (ts : List Shape) × IsRound us a ts = some_turn (starts_of us a) 0 us a (rounds_length us n a come) in
    let P : List Shape → Type 0 = λ x. IsRound us a x in
    ⊎_elim
    (λ (e : next.0 ≡ a). (a, record { rounds = n; few = omega (arith, few); come = come; still = subst P e next.1 }))
    (λ (less : longs next.0 < longs a). some_from us k (suc n) next.0 (omega (arith, less, left)) (omega (arith, less, few)) (a, come, next.1))
    (same_longs a next.0 (turned_shorter (starts_of us a) 0 us a next.0 next.1))

pub some_choice : (us : List Unit) → (shapes : List Shape) × AreChosen us shapes
some_choice us = some_from us (length us) 0 (all_long us) (omega (arith, all_longs us)) (omega (arith, all_longs us)) refl
