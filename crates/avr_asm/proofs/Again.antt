-- The source of an original image is assembled to that image.
use Rattle.std.specs.Prelude.{◌≡◌, ◌≢◌, ℕ, suc, ◌+◌, ◌-◌, ◌^◌, ◌<◌, ◌≤◌, ◌&&◌, ◌||◌, not, nat_le, nat_lt, Bool, true, false, List, [], ◌∷◌, length, slice_index, sum_by, Option, Some, None, is_none, decimal, ⊤, pos, negsuc}
use Rattle.std.specs.List.{AllByRecursion}
use Rattle.std.proofs.Common.{refl, sym, ◌∙◌, ap, ap₂, subst, cond, arith, inl, inr}
use Rattle.std.proofs.lemmas.Bool.{and_from, cases_lt, ne_eqb, le-ltb, lt-leb, lt-ltb, or_from, cond-true, cond-false}
use Rattle.avr_isa.specs.declared.instruction.Instr.{Instr}
use Rattle.avr_isa.specs.declared.instruction.Instr.TheVariants as instr
use Rattle.avr_isa.specs.Operands.{IsBranchOffset, IsEncodable}
use Rattle.avr_isa.proofs.TableLaws.{decoded_is_encodable}
use Rattle.mote_layout.specs.Memory.{bank_words}
use Rattle.unit_code.specs.declared.unit.Unit.{Unit}
use Rattle.unit_code.specs.declared.unit.Unit.TheVariants as unit
use Rattle.unit_code.specs.Ends.{goes_on}
use Rattle.unit_code.specs.Items.{next_word}
use Rattle.unit_code.specs.Lengths.{instruction_length}
use Rattle.unit_code.specs.Loads.{guarded, is_load, load_where}
use Rattle.unit_code.specs.Proper.{IsGuardedSo, IsOfKind, LeadsBelow, SkipsAreSound, SkipsTo}
use Rattle.unit_code.specs.Spelled.{AreInstructionsOf, BeginWith, Spell, offset_to}
use Rattle.unit_code.proofs.SpelledBack.{small_next}
use Rattle.avr_asm.specs.declared.stage.Stage.{Stage}
use Rattle.avr_asm.specs.Line.{Line, Handler, Provides, Item, Rules}
use Rattle.avr_asm.specs.Rows.{Row, behind, kept, place_after, unit_after, unit_words}
use Rattle.avr_asm.specs.Refusals.{cannot_end, cannot_skip, goal_of, is_far, is_mislabelled, lacks_label, leads_astray, led, first, is_beyond, is_off, place_in, row_of, some_goal, stuck}
use Rattle.avr_asm.specs.Assembly.{aimed}
use Rattle.avr_asm.specs.Encoding.{places_from}
use Rattle.avr_asm.specs.Source.{aim, bare, unit_lines}
use Rattle.avr_asm.proofs.Encoded.{own_words}
use Rattle.avr_asm.proofs.Uniques.{begin_small}
use Rattle.avr_asm.proofs.Sound.{AreAlike, skip_alike}
use Rattle.avr_asm.proofs.Texted.{Gathers, gather_step, some_decimal, goal_decimal, led_decimal, resolved_decimal, row_list}

-- a unit is read again from its own line
loaded_again : (sealed : Bool) (i : Instr) (b : Bool) → (sealed && is_load i) ≡ b → load_where (sealed && is_load i) i ≡ load_where b i
loaded_again sealed i b h = ap (λ (z : Bool). load_where z i) h

to_target : (all : List Row) (sealed : Bool) (u v : Unit) (t : ℕ) → t < 2 ^ 16 → guarded sealed (aimed v (Some t)) ≡ u → guarded sealed (aimed v (led all (some_goal (decimal t)))) ≡ u
to_target all sealed u v t low h = ap (λ (o : Option ℕ). guarded sealed (aimed v o)) (led_decimal all t low) ∙ h

unit_again : (all : List Row) (sealed : Bool) (total : ℕ) (u : Unit) → total ≤ bank_words → IsOfKind u → IsGuardedSo sealed u → LeadsBelow total u → guarded sealed (aimed (bare u) (led all (some_goal (aim u)))) ≡ u
unit_again all sealed total (unit.Plain i) few k g l = loaded_again sealed i false g
unit_again all sealed total (unit.Load i) few k g l = loaded_again sealed i true (and_from sealed (is_load i) g k.1)
unit_again all sealed total (unit.Branch set bit t) few k g l = to_target all sealed (unit.Branch set bit t) (unit.Branch set bit 0) t (omega (arith, l, few)) refl
unit_again all sealed total (unit.Jump t) few k g l = to_target all sealed (unit.Jump t) (unit.Jump 0) t (omega (arith, l, few)) refl
unit_again all sealed total (unit.LocalCall t) few k g l = to_target all sealed (unit.LocalCall t) (unit.LocalCall 0) t (omega (arith, l, few)) refl
unit_again all sealed total u few k g l = refl

pub unit_rules : (sealed : Bool) (total : ℕ) (u : Unit) → total ≤ bank_words → IsOfKind u → IsGuardedSo sealed u → LeadsBelow total u → Rules (Item (bare u) (aim u))
unit_rules sealed total (unit.Plain i) few k g l = (k, refl, refl)
unit_rules sealed total (unit.Load i) few k g l = ((k.0, k.2), refl, refl)
unit_rules sealed total (unit.Branch set bit t) few k g l = (k, tt, (refl, goal_decimal t (omega (arith, l, few))))
unit_rules sealed total (unit.Jump t) few k g l = (k, tt, (refl, goal_decimal t (omega (arith, l, few))))
unit_rules sealed total (unit.LocalCall t) few k g l = (k, tt, (refl, goal_decimal t (omega (arith, l, few))))
unit_rules sealed total u few k g l = (k, tt, refl)

pub units_gather : (all : List Row) (sealed : Bool) (total : ℕ) (us : List Unit) → total ≤ bank_words → AllByRecursion IsOfKind us → AllByRecursion (IsGuardedSo sealed) us → AllByRecursion (LeadsBelow total) us → Gathers all sealed (unit_lines us) false [] [] [] [] us
units_gather all sealed total [] few k g l = record { seals = λ n s a b. refl; provided = λ n s a b. refl; numbers = λ n s a b. refl; subscribed = λ n s a b. refl; pairs_are = λ n s a b. refl; units = λ n s a b. refl }
units_gather all sealed total (u ∷ us) few k g l =
    subst (λ (v : Unit). Gathers all sealed (unit_lines (u ∷ us)) false [] [] [] [] (v ∷ us)) (unit_again all sealed total u few k.0 g.0 l.0)
    (gather_step all sealed (Item (bare u) (aim u)) (unit_lines us) false [] [] [] [] us (units_gather all sealed total us few k.1 g.1 l.1))

pub units_rules : (sealed : Bool) (total : ℕ) (us : List Unit) → total ≤ bank_words → AllByRecursion IsOfKind us → AllByRecursion (IsGuardedSo sealed) us → AllByRecursion (LeadsBelow total) us → AllByRecursion Rules (unit_lines us)
units_rules sealed total [] few k g l = tt
units_rules sealed total (u ∷ us) few k g l = (unit_rules sealed total u few k.0 g.0 l.0, units_rules sealed total us few k.1 g.1 l.1)

-- units behind which the code goes on are not stuck
cannot_not : (u : Unit) (us : List Unit) → SkipsTo u us → cannot_skip u us ≡ false
cannot_not (unit.Skip i) [] h = absurd h
cannot_not (unit.Skip i) (v ∷ []) h = absurd h
cannot_not (unit.Skip i) (v ∷ w ∷ us) h = ap (λ (b : Bool). not (not b)) h
cannot_not (unit.Plain i) us h = refl
cannot_not (unit.Store i) us h = refl
cannot_not (unit.Load i) us h = refl
cannot_not (unit.Push r) us h = refl
cannot_not (unit.Pop d) us h = refl
cannot_not (unit.SpGroup b) us h = refl
cannot_not unit.Reserve us h = refl
cannot_not (unit.Branch set bit t) us h = refl
cannot_not (unit.Jump t) us h = refl
cannot_not (unit.LocalCall t) us h = refl
cannot_not (unit.KernelCall n) us h = refl
cannot_not (unit.SlotCall n) us h = refl
cannot_not unit.SlotIndirect us h = refl
cannot_not unit.Return us h = refl

-- where units reach, by the words that spell them
far_false : (a b : ℕ) → IsBranchOffset (offset_to a b) → is_far a b ≡ false
far_false a b h = elim (cases_lt a b) as (λ z. is_far a b ≡ false) [
  | inl p ↦ (let q : IsBranchOffset (pos (b - a - 1)) = subst IsBranchOffset (cond-true (nat_lt a b) _ _ (lt-ltb a b p)) h in let top : b - a - 1 ≤ 63 = grind arith in
      or_from (nat_lt (b + 64) (a + 1)) _ (le-ltb (b + 64) (a + 1) (omega (arith, p))) (le-ltb (a + 64) b (omega (arith, p, top))))
  | inr p ↦ (let q : IsBranchOffset (negsuc (a - b)) = subst IsBranchOffset (cond-false (nat_lt a b) _ _ (le-ltb a b p)) h in let top : a - b ≤ 63 = grind arith in
      or_from (nat_lt (b + 64) (a + 1)) _ (le-ltb (b + 64) (a + 1) (omega (arith, p, top))) (le-ltb (a + 64) b (omega (arith, p))))
]

-- what a unit's own instructions say of its target
abbrev pub Near : List ℕ → ℕ → Unit → Type 0
Near firsts place (unit.Branch set bit t) = IsBranchOffset (offset_to place (slice_index firsts t))
Near firsts place (unit.LocalCall t) = slice_index firsts t ≢ place + 1
Near firsts place _ = ⊤

abbrev pub AllNear : List ℕ → ℕ → List Unit → Type 0
AllNear firsts place [] = ⊤
AllNear firsts place (u ∷ us) = Near firsts place u × AllNear firsts (place + unit_words u) us

abbrev AreSmall : List ℕ → Type 0
AreSmall ws = AllByRecursion (λ word. word < 2 ^ 16) ws

alone : (i : Instr) (ws rest : List ℕ) → AreSmall ws → BeginWith (i ∷ []) ws rest → IsEncodable i
alone i [] rest p h = absurd h
alone i (w ∷ ws) rest p h = decoded_is_encodable w (next_word ws) i (instruction_length i) (p.0, small_next ws p.1) h.0

near : (firsts : List ℕ) (place : ℕ) (u : Unit) (is : List Instr) (ws rest : List ℕ) → AreSmall ws → AreInstructionsOf firsts place u is → BeginWith is ws rest → Near firsts place u
unfolding IsEncodable
near firsts place (unit.Branch true bit t) is ws rest p a b = (alone (instr.Brbs bit (offset_to place (slice_index firsts t))) ws rest p (subst (λ (z : List Instr). BeginWith z ws rest) a b)).1
near firsts place (unit.Branch false bit t) is ws rest p a b = (alone (instr.Brbc bit (offset_to place (slice_index firsts t))) ws rest p (subst (λ (z : List Instr). BeginWith z ws rest) a b)).1
near firsts place (unit.LocalCall t) is ws rest p a b = a.1
near firsts place (unit.Plain i) is ws rest p a b = tt
near firsts place (unit.Store i) is ws rest p a b = tt
near firsts place (unit.Load i) is ws rest p a b = tt
near firsts place (unit.Skip i) is ws rest p a b = tt
near firsts place (unit.Push r) is ws rest p a b = tt
near firsts place (unit.Pop d) is ws rest p a b = tt
near firsts place (unit.SpGroup s) is ws rest p a b = tt
near firsts place unit.Reserve is ws rest p a b = tt
near firsts place (unit.Jump t) is ws rest p a b = tt
near firsts place (unit.KernelCall n) is ws rest p a b = tt
near firsts place (unit.SlotCall n) is ws rest p a b = tt
near firsts place unit.SlotIndirect is ws rest p a b = tt
near firsts place unit.Return is ws rest p a b = tt

pub record Spelt (firsts : List ℕ) (place : ℕ) (ps : List ℕ) (us : List Unit) : Type 0 where
  pub places : ps ≡ places_from place us
  pub near : AllNear firsts place us

pub spelt : (firsts : List ℕ) (place : ℕ) (ps : List ℕ) (us : List Unit) (ws : List ℕ) → AreSmall ws → Spell firsts place ps us ws → Spelt firsts place ps us
spelt firsts place [] [] ws p h = record { places = refl; near = tt }
spelt firsts place [] (u ∷ us) ws p h = absurd h
spelt firsts place (x ∷ ps) [] ws p h = absurd h
spelt firsts place (x ∷ ps) (u ∷ us) ws p (e, is, rest, own, begin, more) =
    let size : sum_by instruction_length is ≡ unit_words u = own_words firsts place u is own in
    let behind = spelt firsts (place + unit_words u) ps us rest (begin_small is ws rest p begin) (subst (λ (n : ℕ). Spell firsts (place + n) ps us rest) size more) in
    record { places = ap₂ (λ (y : ℕ) (ys : List ℕ). y ∷ ys) e behind.places; near = (near firsts place u is ws rest p own begin, behind.near) }

free_of : (a b : Bool) (k : ℕ) (o : Option ℕ) → a ≡ false → b ≡ false → cond (a || b) (Some k) o ≡ o
free_of a b k o h e = ap₂ (λ (x y : Bool). cond (x || y) (Some k) o) h e

pub not_stuck : (long : Bool) (n : ℕ) (ks us : List Unit) → AreAlike ks us → SkipsAreSound us → goes_on us ≡ false → long ≡ false → stuck long n ks ≡ None
not_stuck long n [] [] h s g l = refl
not_stuck long n [] (v ∷ vs) h s g l = absurd h
not_stuck long n (u ∷ us) [] h s g l = absurd h
not_stuck long n (k ∷ []) (u ∷ []) h s g l = free_of (cannot_skip k []) (cannot_end long k []) n None (h.0.skips [] ∙ cannot_not u [] s.0) (ap₂ (λ (x y : Bool). x || not y) l h.0.ends ∙ g)
not_stuck long n (k ∷ []) (u ∷ v ∷ us) h s g l = absurd h.1
not_stuck long n (k ∷ m ∷ ks) (u ∷ []) h s g l = absurd h.1
not_stuck long n (k ∷ m ∷ ks) (u ∷ v ∷ us) h s g l =
    free_of (cannot_skip k (m ∷ ks)) false n (stuck long (suc n) (m ∷ ks)) (h.0.skips (m ∷ ks) ∙ skip_alike u (m ∷ ks) (v ∷ us) h.1 ∙ cannot_not u (v ∷ us) s.0) refl
    ∙ not_stuck long (suc n) (m ∷ ks) (v ∷ us) h.1 s.1 g l

-- nothing is refused of a line that stands so
pub record Good (all : List Row) (total k place : ℕ) (l : Line) : Type 0 where
  pub named : (n : ℕ) → is_mislabelled all total n k (Some l) ≡ false
  pub led_so : (n : ℕ) (s : Stage) → leads_astray all total (record { line = n; stage = s; unit = k; place = place; says = Some l }) (goal_of (Some l)) ≡ false

abbrev pub AllGood : List Row → ℕ → ℕ → ℕ → List Line → Type 0
AllGood all total k place [] = ⊤
AllGood all total k place (l ∷ ls) = Good all total k place l × AllGood all total (unit_after k (Some l)) (place_after place (Some l)) ls

pub none_named : (all : List Row) (total n : ℕ) (s : Stage) (k place : ℕ) (ls : List Line) → AllGood all total k place ls → first (λ r rs. is_mislabelled all total r.line r.unit r.says) (row_list n s k place ls) ≡ None
none_named all total n s k place [] h = refl
none_named all total n s k place (l ∷ ls) h = cond-false (is_mislabelled all total n k (Some l)) _ _ (h.0.named n) ∙ none_named all total (suc n) (kept s (behind s (Some l))) (unit_after k (Some l)) (place_after place (Some l)) ls h.1

pub none_led : (all : List Row) (total n : ℕ) (s : Stage) (k place : ℕ) (ls : List Line) → AllGood all total k place ls → first (λ r rs. leads_astray all total r (goal_of r.says)) (row_list n s k place ls) ≡ None
none_led all total n s k place [] h = refl
none_led all total n s k place (l ∷ ls) h = cond-false _ _ _ (h.0.led_so n s) ∙ none_led all total (suc n) (kept s (behind s (Some l))) (unit_after k (Some l)) (place_after place (Some l)) ls h.1

-- a goal that is a unit's number
found : (all : List Row) (t : ℕ) → t < 2 ^ 16 → lacks_label all (some_goal (decimal t)) ≡ false
found all t h = ap (lacks_label all) (some_decimal (decimal t) (goal_decimal t h)) ∙ ap is_none (resolved_decimal all t h)

leads : (all : List Row) (total t : ℕ) (r : Row) → t < 2 ^ 16 → t < total → is_beyond all r.unit r.place t r.says ≡ false → leads_astray all total r (some_goal (decimal t)) ≡ false
leads all total t r h low b = ap (leads_astray all total r) (some_decimal (decimal t) (goal_decimal t h)) ∙ ap (is_off all total r) (resolved_decimal all t h) ∙ or_from (nat_le total t) _ (lt-leb total t low) b

aimed_good : (all : List Row) (total k place : ℕ) (u : Unit) (t : ℕ) → t < 2 ^ 16 → t < total → is_beyond all k place t (Some (Item u (decimal t))) ≡ false → Good all total k place (Item u (decimal t))
aimed_good all total k place u t h low b = record { named = λ n. found all t h; led_so = λ n s. leads all total t (record { line = n; stage = s; unit = k; place = place; says = Some (Item u (decimal t)) }) h low b }

pub provided_good : (all : List Row) (total k place func : ℕ) (proto : List ℕ) (t : ℕ) → t < 2 ^ 16 → t < total → Good all total k place (Provides func proto (decimal t))
provided_good all total k place func proto t h low = record { named = λ n. found all t h; led_so = λ n s. leads all total t (record { line = n; stage = s; unit = k; place = place; says = Some (Provides func proto (decimal t)) }) h low refl }

pub handler_good : (all : List Row) (total k place t : ℕ) → t < 2 ^ 16 → t < total → Good all total k place (Handler (decimal t))
handler_good all total k place t h low = record { named = λ n. found all t h; led_so = λ n s. leads all total t (record { line = n; stage = s; unit = k; place = place; says = Some (Handler (decimal t)) }) h low refl }

free_good : (all : List Row) (total k place : ℕ) (u : Unit) → Good all total k place (Item u [])
free_good all total k place u = record { named = λ n. refl; led_so = λ n s. refl }

-- the units' own lines
next_place : (place : ℕ) (us : List Unit) → 0 < length us → slice_index (places_from (place + 1) us) 0 ≡ place + 1
next_place place [] h = absurd (omega (arith, h))
next_place place (u ∷ us) h = refl

pub unit_good : (all : List Row) (firsts : List ℕ) (total k place : ℕ) (u : Unit) (us : List Unit) → total ≤ bank_words → total ≡ k + suc (length us) → LeadsBelow total u → Near firsts place u
    → ((t : ℕ) → t < total → place_in (row_of all t) ≡ slice_index firsts t) → ((j : ℕ) → j < suc (length us) → slice_index (places_from place (u ∷ us)) j ≡ slice_index firsts (k + j)) → Good all total k place (Item (bare u) (aim u))
unit_good all firsts total k place (unit.Branch set bit t) us few size low n at own = aimed_good all total k place (unit.Branch set bit 0) t (omega (arith, low, few)) low (ap (is_far place) (at t low) ∙ far_false place (slice_index firsts t) n)
unit_good all firsts total k place (unit.Jump t) us few size low n at own = aimed_good all total k place (unit.Jump 0) t (omega (arith, low, few)) low refl
unit_good all firsts total k place (unit.LocalCall t) us few size low n at own =
    aimed_good all total k place (unit.LocalCall 0) t (omega (arith, low, few)) low (ne_eqb t (k + 1) (λ e. n (ap (slice_index firsts) e ∙ sym (own 1 (omega (arith, size, low, e))) ∙ next_place place us (omega (arith, size, low, e)))))
unit_good all firsts total k place (unit.Plain i) us few size low n at own = free_good all total k place (unit.Plain i)
unit_good all firsts total k place (unit.Load i) us few size low n at own = free_good all total k place (unit.Plain i)
unit_good all firsts total k place u us few size low n at own = free_good all total k place u
