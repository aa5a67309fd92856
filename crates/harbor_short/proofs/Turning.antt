-- The loop of a round, by what is left of the units.
use Rattle.std.proofs.Common.{◌≡◌, ◌∙◌, ◌↔◌, ◌⊎◌, ⊎_elim, inl, inr, ℕ, zero, suc, ◌+◌, ◌<◌, ◌≤◌, Bool, true, false, List, [], ◌∷◌, ◌++◌, length, get_or, take, drop, set, refl, sym, ap, subst, arith, append_assoc, ◌-◌}
use Rattle.std.specs.Prelude.{IsTrue}
use Rattle.std.specs.List.{AllByRecursion}
use Rattle.std.proofs.lemmas.List.{append-nil, drop_all, get_or_default, drop-set-lt, length-set, take_all, take_rest, take_more, take_more_set}
use Rattle.unit_code.specs.declared.unit.Unit.{Unit}
use Rattle.unit_code.specs.declared.unit.Shape.{Shape}
use Rattle.unit_code.specs.declared.unit.Shape.TheVariants.{Long, Short}
use Rattle.unit_code.specs.Proper.{LeadsBelow}
use Rattle.unit_code.specs.Spelling.{start_of}
use Rattle.harbor_short.specs.Longs.{longs}
use Rattle.harbor_short.specs.Rounds.{AreTurned, BecomesShort}
use Rattle.harbor_short.proofs.Measured.{here}

-- Shapes before the i-th are those after the round, and those from it on are as they were.
pub record HasTurned (us : List Unit) (starts : List ℕ) (old now : List Shape) (i : ℕ) (changed : Bool) : Type 0 where
  pub shaped : length now ≡ length us
  pub rest : (ts : List Shape) → AreTurned starts i (drop i us) (drop i now) ts → AreTurned starts 0 us old (take i now ++ ts)
  pub fewer : changed ≡ true → longs now < longs old
  pub same : changed ≡ false → now ≡ old

pub turned_first : (us : List Unit) (starts : List ℕ) (old : List Shape) → length old ≡ length us → HasTurned us starts old old 0 false
turned_first us starts old e = record { shaped = e; rest = λ ts h. h; fewer = λ h. absurd (cc); same = λ h. refl }

turned_at : (us : List Unit) (starts : List ℕ) (now ts : List Shape) (u : Unit) (s t : Shape) (i : ℕ) → u ≡ get_or us i u → s ≡ get_or now i s → i < length us → i < length now
    → ((t ≡ Short) ↔ ((s ≡ Short) ⊎ BecomesShort starts (start_of starts i) u (drop (i + 1) us) (drop (i + 1) now)))
    → AreTurned starts (i + 1) (drop (i + 1) us) (drop (i + 1) now) ts → AreTurned starts i (drop i us) (drop i now) (t ∷ ts)
turned_at us starts now ts u s t i at shape h k turn rest =
    let P : List Unit → List Shape → Type 0 = λ xs ys. AreTurned starts i xs ys (t ∷ ts) in
    let Q : List Unit → Type 0 = λ xs. P xs (drop i now) in
    let R : List Shape → Type 0 = λ ys. P (u ∷ drop (i + 1) us) ys in
    subst Q (sym (here us u i at h)) (subst R (sym (here now s i shape k)) (turn, rest))

-- a shape that stays
pub turned_stays : (us : List Unit) (starts : List ℕ) (old now : List Shape) (u : Unit) (s : Shape) (i : ℕ) (changed : Bool) → u ≡ get_or us i u → s ≡ get_or now i s → i < length us
    → (BecomesShort starts (start_of starts i) u (drop (i + 1) us) (drop (i + 1) now) → s ≡ Short) → HasTurned us starts old now i changed → HasTurned us starts old now (i + 1) changed
turned_stays us starts old now u s i changed at shape h stay was = record {
  shaped = was.shaped;
  rest = λ ts k.
      let within : i < length now = omega (arith, h, was.shaped) in
      let P : List Shape → Type 0 = λ l. AreTurned starts 0 us old l in
      subst P (sym (ap (λ (l : List Shape). l ++ ts) (take_more now i s within) ∙ append_assoc (take i now) (get_or now i s ∷ []) ts))
      (was.rest (get_or now i s ∷ ts) (turned_at us starts now ts u s (get_or now i s) i at shape h within
      (λ e. inl (shape ∙ e), λ o. ⊎_elim (λ (e : s ≡ Short). sym shape ∙ e) (λ (b : BecomesShort starts (start_of starts i) u (drop (i + 1) us) (drop (i + 1) now)). sym shape ∙ stay b) o) k));
  fewer = was.fewer;
  same = was.same;
}

longs_set : (ss : List Shape) (i : ℕ) → i < length ss → get_or ss i Long ≡ Long → longs (set ss i Short) < longs ss
longs_set [] i h e = absurd (omega (arith, h))
longs_set (Long ∷ ss) zero h e = omega arith
longs_set (Short ∷ ss) zero h e = absurd (cc)
longs_set (Long ∷ ss) (suc i) h e = omega (arith, longs_set ss i (omega (arith, h)) e)
longs_set (Short ∷ ss) (suc i) h e = longs_set ss i (omega (arith, h)) e

longs_now : (old now : List Shape) (changed : Bool) → (changed ≡ true → longs now < longs old) → (changed ≡ false → now ≡ old) → longs now ≤ longs old
longs_now old now true fewer same = omega (arith, fewer refl)
longs_now old now false fewer same = omega (arith, ap longs (same refl))

-- a shape that becomes short
pub turned_short : (us : List Unit) (starts : List ℕ) (old now : List Shape) (u : Unit) (i : ℕ) (changed : Bool) → u ≡ get_or us i u → get_or now i Long ≡ Long → i < length us
    → BecomesShort starts (start_of starts i) u (drop (i + 1) us) (drop (i + 1) now) → HasTurned us starts old now i changed → HasTurned us starts old (set now i Short) (i + 1) true
turned_short us starts old now u i changed at shape h becomes was =
    let within : i < length now = omega (arith, h, was.shaped) in
    record {
      shaped = length-set now i Short ∙ was.shaped;
      rest = λ ts k.
          let P : List Shape → Type 0 = λ l. AreTurned starts 0 us old l in
          let Q : List Shape → Type 0 = λ l. AreTurned starts (i + 1) (drop (i + 1) us) l ts in
          let kept : AreTurned starts (i + 1) (drop (i + 1) us) (drop (i + 1) now) ts = subst Q (drop-set-lt (i + 1) now i Short (omega arith)) k in
          subst P (sym (ap (λ (l : List Shape). l ++ ts) (take_more_set now i Short within) ∙ append_assoc (take i now) (Short ∷ []) ts))
          (was.rest (Short ∷ ts) (turned_at us starts now ts u Long Short i at (sym shape) h within (λ e. inr becomes, λ o. refl) kept));
      fewer = λ e. omega (arith, longs_set now i within shape, longs_now old now changed was.fewer was.same);
      same = λ e. absurd (cc);
    }

pub turned_all : (us : List Unit) (starts : List ℕ) (old now : List Shape) (i : ℕ) (changed : Bool) → i ≡ length us → HasTurned us starts old now i changed → AreTurned starts 0 us old now
turned_all us starts old now i changed e was =
    let P : List Shape → Type 0 = λ l. AreTurned starts 0 us old l in
    let Q : List Unit → List Shape → Type 0 = λ xs ys. AreTurned starts i xs ys [] in
    let no_units : drop i us ≡ [] = drop_all i us (omega (arith, e)) in
    let no_shapes : drop i now ≡ [] = drop_all i now (omega (arith, e, was.shaped)) in
    let A : List Unit → Type 0 = λ xs. Q xs (drop i now) in
    let B : List Shape → Type 0 = λ ys. Q [] ys in
    subst P (append-nil (take i now) ∙ take_all i now (omega (arith, e, was.shaped)))
    (was.rest [] (subst A (sym no_units) (subst B (sym no_shapes) tt)))

leads_from : (us : List Unit) (count i : ℕ) (d : Unit) → i < length us → AllByRecursion (LeadsBelow count) us → LeadsBelow count (get_or us i d)
leads_from [] count i d h all = absurd (omega (arith, h))
leads_from (u ∷ us) count zero d h all = all.0
leads_from (u ∷ us) count (suc i) d h all = leads_from us count i d (omega (arith, h)) all.1

pub leads_at : (us : List Unit) (count i : ℕ) (d : Unit) → length us ≡ count → i < length us → AllByRecursion (LeadsBelow (length us)) us → LeadsBelow count (get_or us i d)
leads_at us count i d e h all = let P : ℕ → Type 0 = λ n. AllByRecursion (LeadsBelow n) us in leads_from us count i d h (subst P e all)

-- The two steps where the unit and the shape are read with a value for places past the end.
pub stays_at : (us : List Unit) (starts : List ℕ) (old now : List Shape) (d : Unit) (e : Shape) (i : ℕ) (changed : Bool) → i < length us
    → (BecomesShort starts (start_of starts i) (get_or us i d) (drop (i + 1) us) (drop (i + 1) now) → get_or now i e ≡ Short) → HasTurned us starts old now i changed → HasTurned us starts old now (i + 1) changed
stays_at us starts old now d e i changed h stay was =
    let within : i < length now = omega (arith, h, was.shaped) in
    turned_stays us starts old now (get_or us i d) (get_or now i e) i changed (get_or_default us i d (get_or us i d) h) (get_or_default now i e (get_or now i e) within) h stay was

pub short_at : (us : List Unit) (starts : List ℕ) (old now : List Shape) (d : Unit) (e : Shape) (i : ℕ) (changed : Bool) → i < length us → get_or now i e ≡ Long
    → BecomesShort starts (start_of starts i) (get_or us i d) (drop (i + 1) us) (drop (i + 1) now) → HasTurned us starts old now i changed → HasTurned us starts old (set now i Short) (i + 1) true
short_at us starts old now d e i changed h long becomes was =
    let within : i < length now = omega (arith, h, was.shaped) in
    turned_short us starts old now (get_or us i d) i changed (get_or_default us i d (get_or us i d) h) (get_or_default now i Long e within ∙ long) h becomes was

-- What a test says of the units and the shapes that are left.
pub told_of_rest : (r : Bool) (starts : List ℕ) (at i : ℕ) (u : Unit) (us : List Unit) (now : List Shape)
    → (IsTrue r ↔ BecomesShort starts at u (take (length us - (i + 1)) (drop (i + 1) us)) (take (length now - (i + 1)) (drop (i + 1) now)))
    → (r ≡ true → BecomesShort starts at u (drop (i + 1) us) (drop (i + 1) now)) × (BecomesShort starts at u (drop (i + 1) us) (drop (i + 1) now) → r ≡ true)
told_of_rest r starts at i u us now h =
    let P : List Unit → List Shape → Type 0 = λ xs ys. IsTrue r ↔ BecomesShort starts at u xs ys in
    let Q : List Unit → Type 0 = λ xs. P xs (take (length now - (i + 1)) (drop (i + 1) now)) in
    let R : List Shape → Type 0 = λ ys. P (drop (i + 1) us) ys in
    let k : IsTrue r ↔ BecomesShort starts at u (drop (i + 1) us) (drop (i + 1) now) = subst R (take_rest now (i + 1)) (subst Q (take_rest us (i + 1)) h) in
    (k.0, k.1)
