-- Units and places, row by row.
use Rattle.std.specs.Prelude.{◌≡◌, ℕ, zero, suc, ◌+◌, ◌<◌, ◌==◌, ◌&&◌, Bool, true, false, List, [], ◌∷◌, length, slice_index, Option, Some, None}
use Rattle.std.specs.List.{AllByRecursion}
use Rattle.std.proofs.Common.{refl, sym, ◌∙◌, ap, subst, cond, arith}
use Rattle.std.proofs.lemmas.Bool.{eq-eqb, ne_eqb}
use Rattle.unit_code.specs.declared.unit.Unit.{Unit}
use Rattle.unit_code.specs.declared.unit.Unit.TheVariants.{Plain, Load, Branch, Jump, LocalCall}
use Rattle.avr_isa.specs.declared.instruction.Instr.{Instr}
use Rattle.unit_code.specs.Loads.{guarded, is_load, load_where}
use Rattle.avr_asm.specs.Line.{Line, Item}
use Rattle.avr_asm.specs.Rows.{Row, place_after, unit_after, unit_words}
use Rattle.avr_asm.specs.Refusals.{count, has_unit, led, place_in, row_of, some_goal}
use Rattle.avr_asm.specs.Assembly.{aimed, onto_places, onto_units, places_in, units_in}
use Rattle.avr_asm.specs.Encoding.{places_from}
use Rattle.avr_asm.proofs.Placed.{Numbered}

loaded_words : (b : Bool) (i : Instr) → unit_words (load_where b i) ≡ unit_words (Plain i)
loaded_words true i = refl
loaded_words false i = refl

guarded_words : (sealed : Bool) (u : Unit) → unit_words (guarded sealed u) ≡ unit_words u
guarded_words sealed (Plain i) = loaded_words (sealed && is_load i) i
guarded_words sealed (Load i) = loaded_words (sealed && is_load i) i
guarded_words sealed _ = refl

aimed_words : (u : Unit) (o : Option ℕ) → unit_words (aimed u o) ≡ unit_words u
aimed_words (Branch set bit t) None = refl
aimed_words (Branch set bit t) (Some k) = refl
aimed_words (Jump t) None = refl
aimed_words (Jump t) (Some k) = refl
aimed_words (LocalCall t) None = refl
aimed_words (LocalCall t) (Some k) = refl
aimed_words _ None = refl
aimed_words _ (Some k) = refl

pub own_words : (sealed : Bool) (u : Unit) (o : Option ℕ) → unit_words (guarded sealed (aimed u o)) ≡ unit_words u
own_words sealed u o = guarded_words sealed (aimed u o) ∙ aimed_words u o

places_step : (all : List Row) (sealed : Bool) (k place : ℕ) (o : Option Line) (ps : List ℕ) (us : List Unit) → ps ≡ places_from (place_after place o) us → onto_places place o ps ≡ places_from place (onto_units all sealed o us)
places_step all sealed k place None ps us h = h
places_step all sealed k place (Some (Item u goal)) ps us h = ap (λ (z : List ℕ). place ∷ z) (h ∙ ap (λ (n : ℕ). places_from (place + n) us) (sym (own_words sealed u (led all (some_goal goal)))))
places_step all sealed k place (Some _) ps us h = h

-- the first words of the rows' units are their own
pub places_are : (all : List Row) (sealed : Bool) (k place : ℕ) (rs : List Row) → Numbered k place rs → places_in rs ≡ places_from place (units_in all sealed rs)
places_are all sealed k place [] h = refl
places_are all sealed k place (r ∷ rs) h =
    ap (λ (p : ℕ). onto_places p r.says (places_in rs)) h.1
    ∙ places_step all sealed k place r.says (places_in rs) (units_in all sealed rs) (places_are all sealed (unit_after k r.says) (place_after place r.says) rs h.2)

counted_step : (all : List Row) (sealed : Bool) (o : Option Line) (n : ℕ) (us : List Unit) → length us ≡ n → length (onto_units all sealed o us) ≡ unit_after n o
counted_step all sealed None n us h = h
counted_step all sealed (Some (Item u goal)) n us h = ap suc h
counted_step all sealed (Some _) n us h = h

pub counted : (all : List Row) (sealed : Bool) (rs : List Row) → length (units_in all sealed rs) ≡ count rs
counted all sealed [] = refl
counted all sealed (r ∷ rs) = counted_step all sealed r.says (count rs) (units_in all sealed rs) (counted all sealed rs)

-- The row of a unit has its place.
row_skip : (r : Row) (rs : List Row) (k : ℕ) → has_unit r.says ≡ false → row_of (r ∷ rs) k ≡ row_of rs k
row_skip r rs k h = elim (r.unit == k) as (λ b. cond (b && has_unit r.says) (Some r) (row_of rs k) ≡ row_of rs k) [
  | true ↦ ap (λ (z : Bool). cond z (Some r) (row_of rs k)) h
  | false ↦ refl
]

-- the place of the unit with that number, counted from the first of these rows
abbrev pub HasPlace : List Row → ℕ → ℕ → Type 0
HasPlace rs k j = place_in (row_of rs (k + j)) ≡ slice_index (places_in rs) j

place_step : (r : Row) (rs : List Row) (k : ℕ) (o : Option Line) → r.says ≡ o → r.unit ≡ k → ((i : ℕ) → i < length (places_in rs) → HasPlace rs (unit_after k o) i) → (j : ℕ) → j < length (onto_places r.place o (places_in rs)) → place_in (row_of (r ∷ rs) (k + j)) ≡ slice_index (onto_places r.place o (places_in rs)) j
place_step r rs k (Some (Item u goal)) s e ih zero h =
    let unit : has_unit r.says ≡ true = ap has_unit s in
    let here : (r.unit == k + 0) ≡ true = eq-eqb r.unit (k + 0) (e ∙ omega arith) in
    ap place_in (ap (λ (z : Bool). cond (z && has_unit r.says) (Some r) (row_of rs (k + 0))) here ∙ ap (λ (z : Bool). cond z (Some r) (row_of rs (k + 0))) unit)
place_step r rs k (Some (Item u goal)) s e ih (suc j) h =
    let other : (r.unit == k + suc j) ≡ false = ne_eqb r.unit (k + suc j) (λ same. omega (arith, same, e)) in
    let next : suc k + j ≡ k + suc j = omega arith in
    ap place_in (ap (λ (z : Bool). cond (z && has_unit r.says) (Some r) (row_of rs (k + suc j))) other)
    ∙ ap (λ (n : ℕ). place_in (row_of rs n)) (sym next) ∙ ih j (omega (arith, h))
place_step r rs k None s e ih j h = ap place_in (row_skip r rs (k + j) (ap has_unit s)) ∙ ih j h
place_step r rs k (Some _) s e ih j h = ap place_in (row_skip r rs (k + j) (ap has_unit s)) ∙ ih j h

pub place_is : (k place : ℕ) (rs : List Row) → Numbered k place rs → (j : ℕ) → j < length (places_in rs) → HasPlace rs k j
place_is k place [] h j p = absurd (omega (arith, p))
place_is k place (r ∷ rs) h j p = place_step r rs k r.says refl h.0 (place_is (unit_after k r.says) (place_after place r.says) rs h.2) j p

-- no row of a unit lies behind the places
low_test : (B : ℕ) (b : Bool) (r : Row) (o : Option Row) → (b ≡ true → r.place < B) → place_in o < B → place_in (cond b (Some r) o) < B
low_test B true r o h p = h refl
low_test B false r o h p = p

low_step : (B k : ℕ) (r : Row) (rs : List Row) (o : Option Line) → r.says ≡ o → (AllByRecursion (λ p. p < B) (places_in rs) → place_in (row_of rs k) < B) → AllByRecursion (λ p. p < B) (onto_places r.place o (places_in rs)) → place_in (row_of (r ∷ rs) k) < B
low_step B k r rs (Some (Item u goal)) s ih h = low_test B ((r.unit == k) && has_unit r.says) r (row_of rs k) (λ t. h.0) (ih h.1)
low_step B k r rs None s ih h = subst (λ (z : Option Row). place_in z < B) (sym (row_skip r rs k (ap has_unit s))) (ih h)
low_step B k r rs (Some _) s ih h = subst (λ (z : Option Row). place_in z < B) (sym (row_skip r rs k (ap has_unit s))) (ih h)

-- no place of a row lies behind those of the units
pub low_place : (B k : ℕ) (rs : List Row) → 0 < B → AllByRecursion (λ p. p < B) (places_in rs) → place_in (row_of rs k) < B
low_place B k [] pos h = pos
low_place B k (r ∷ rs) pos h = low_step B k r rs r.says refl (low_place B k rs pos) h
