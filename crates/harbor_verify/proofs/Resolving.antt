-- Templates that lead nowhere astray are those of their units, and those of units lead nowhere astray.
use Rattle.std.proofs.Common.{◌≡◌, ◌∙◌, ℕ, suc, ◌+◌, ◌<◌, ◌≤◌, ◌==◌, cond, not, Bool, true, false, List, [], ◌∷◌, length, map, Option, Some, None, is_some, Result, Ok, Err, ℤ, refl, sym, ap, ap₂, subst, arith}
use Rattle.std.specs.List.{AllByRecursion}
use Rattle.std.proofs.lemmas.Bool.{eqb-true, eq-eqb}
use Rattle.std.proofs.lemmas.Option.{same_Some}
use Rattle.avr_isa.specs.declared.instruction.Instr.{Instr}
use Rattle.unit_code.specs.Ends.{goes_on, leaves}
use Rattle.unit_code.specs.Proper.{CanBeSkipped, IsOfKind, LeadsBelow, SkipsAreSound, SkipsTo, is_group_unit}
use Rattle.unit_code.specs.Spelled.{offset_to}
use Rattle.unit_code.specs.Spelling.{form_of, forms_from, start_of}
use Rattle.unit_code.specs.Targets.{AreFirstWords, number_reached, reached}
use Rattle.unit_code.specs.Templates.{IsForm}
use Rattle.unit_code.specs.declared.form.Form.{Form}
use Rattle.unit_code.specs.declared.form.Form.TheVariants.{Whole, ShortSkip, LongSkip, ShortBranch, LongBranch, Jumping, Calling}
use Rattle.unit_code.specs.declared.unit.Shape.{Shape}
use Rattle.unit_code.specs.declared.unit.Shape.TheVariants.{Long, Short}
use Rattle.unit_code.specs.declared.unit.Unit.{Unit}
use Rattle.unit_code.specs.declared.unit.Unit.TheVariants as unit
use Rattle.unit_code.proofs.Numbers.{number_of-at}
use Rattle.unit_code.proofs.Offsets.{leads_to, reached-offset_to}
use Rattle.harbor_spell.proofs.Starts.{AreForms}
use Rattle.harbor_verify.specs.Resolved.{before_next, can_skip, is_group, joined, landed, led, pointed, resolve, resolve_from}

-- the shape in which the unit of a form is spelled by it
abbrev pub shape_of : Form → Shape
shape_of (ShortSkip i) = Short
shape_of (ShortBranch set bit offset) = Short
shape_of f = Long

abbrev pub shapes_of : List Form → List Shape
shapes_of fs = map shape_of fs

-- What is known of a unit that a form resolves to, before these units.
record IsUnitOf (starts : List ℕ) (n at : ℕ) (f : Form) (behind : List Form) (u : Unit) : Type 0 where
  form : form_of starts n at u (shape_of f) ≡ f
  kind : IsOfKind u
  target : LeadsBelow (length starts) u
  skips : (us : List Unit) → (can_skip behind ≡ true → CanBeSkipped us) → SkipsTo u us
  group : is_group_unit u ≡ is_group f

same_unit : (u v : Unit) → (let r : Result Unit ℕ = Ok u in r ≡ Ok v) → u ≡ v
same_unit u v e = cc

no_unit : {C : Type 0} (at : ℕ) (u : Unit) → (let r : Result Unit ℕ = Err at in r ≡ Ok u) → C
no_unit at u e = cc

-- the number of the start to which a jump leads
pointed_is : (make : ℕ → Unit) (at : ℕ) (o : Option ℕ) (u : Unit) → pointed make at o ≡ Ok u → (n : ℕ) × (o ≡ Some n) × (make n ≡ u)
pointed_is make at None u e = no_unit at u e
pointed_is make at (Some n) u e = (n, refl, same_unit (make n) u e)

-- a jump that leads to a start has the offset to it
pub record Leads (starts : List ℕ) (at : ℕ) (offset : ℤ) (n : ℕ) : Type 0 where
  pub offset_is : offset_to at (start_of starts n) ≡ offset
  pub below : n < length starts

pub leads_so : (starts : List ℕ) (at : ℕ) (offset : ℤ) (n : ℕ) → number_reached starts (reached at offset) ≡ Some n → Leads starts at offset n
leads_so starts at offset n e =
    let h = leads_to starts at offset (reached at offset) refl (ap is_some e) in
    let same : h.number ≡ n = same_Some h.number n (sym h.is ∙ e) in
    record {
      offset_is = ap (λ m. offset_to at (start_of starts m)) (sym same) ∙ h.offset_is;
      below = omega (arith, same, h.below);
    }

module _ (starts : List ℕ) (n at : ℕ) (behind : List Form) where
  led_unit : (f : Form) (make : ℕ → Unit) (from : ℕ) (offset : ℤ) (u : Unit) → led make starts from offset ≡ Ok u
      → ((t : ℕ) → Leads starts from offset t → IsUnitOf starts n at f behind (make t)) → IsUnitOf starts n at f behind u
  led_unit f make from offset u e so =
      let t = pointed_is make from (number_reached starts (reached from offset)) u e in
      let P : Unit → Type 0 = λ v. IsUnitOf starts n at f behind v in
      subst P t.2 (so t.0 (leads_so starts from offset t.0 t.1))

  landed_is : (i : Instr) (over from : ℕ) (o : Option ℕ) (u : Unit) → landed i over from o ≡ Ok u → (o ≡ Some over) × (unit.Skip i ≡ u)
  landed_is i over from None u e = no_unit from u e
  landed_is i over from (Some m) u e =
      elim (m == over) as (λ b. (m == over) ≡ b → cond {A = Result Unit ℕ} b (Ok (unit.Skip i)) (Err from) ≡ Ok u → (Some m ≡ Some over) × (unit.Skip i ≡ u)) [
        | true ↦ λ same e. (ap Some (eqb-true m over same), same_unit (unit.Skip i) u e)
        | false ↦ λ same e. no_unit from u e
      ] refl e

  tested : (b : Bool) (r : Result Unit ℕ) (from : ℕ) (u : Unit) → cond b r (Err from) ≡ Ok u → (b ≡ true) × (r ≡ Ok u)
  tested true r from u e = (refl, e)
  tested false r from u e = no_unit from u e

  behind_next : (fs : List Form) (r : Result Unit ℕ) (from : ℕ) (u : Unit) → before_next from fs r ≡ Ok u → r ≡ Ok u
  behind_next [] r from u e = no_unit from u e
  behind_next (f ∷ fs) r from u e = e

  whole_unit : (u : Unit) → IsForm (Whole u) → IsUnitOf starts n at (Whole u) behind u
  whole_unit (unit.Skip i) h = absurd h.1
  whole_unit (unit.Branch set bit t) h = absurd h.1
  whole_unit (unit.Jump t) h = absurd h.1
  whole_unit (unit.LocalCall t) h = absurd h.1
  whole_unit u h = record { form = refl; kind = h.0; target = tt; skips = λ us can. tt; group = refl }

  unit_of_form : (f : Form) (u : Unit) → IsForm f → resolve starts n at f behind ≡ Ok u → IsUnitOf starts n at f behind u
  unit_of_form (Whole v) u h e = let P : Unit → Type 0 = λ w. IsUnitOf starts n at (Whole v) behind w in subst P (same_unit v u e) (whole_unit v h)
  unit_of_form (ShortSkip i) u h e =
      let can = tested (can_skip behind) (Ok (unit.Skip i)) at u e in
      let P : Unit → Type 0 = λ w. IsUnitOf starts n at (ShortSkip i) behind w in
      subst P (same_unit (unit.Skip i) u can.1) (record { form = refl; kind = h; target = tt; skips = λ us so. so can.0; group = refl })
  unit_of_form (LongSkip i k) u h e =
      let can = tested (can_skip behind) (landed i (n + 2) (at + 2) (number_reached starts (reached (at + 2) k))) at u e in
      let over = landed_is i (n + 2) (at + 2) (number_reached starts (reached (at + 2) k)) u can.1 in
      let there = leads_so starts (at + 2) k (n + 2) over.0 in
      let P : Unit → Type 0 = λ w. IsUnitOf starts n at (LongSkip i k) behind w in
      subst P over.1 (record { form = ap (LongSkip i) there.offset_is; kind = h; target = tt; skips = λ us so. so can.0; group = refl })
  unit_of_form (ShortBranch set bit k) u h e =
      led_unit (ShortBranch set bit k) (λ t. unit.Branch set bit t) at k u e (λ t to. record { form = ap (ShortBranch set bit) to.offset_is; kind = h; target = to.below; skips = λ us so. tt; group = refl })
  unit_of_form (LongBranch set bit k) u h e =
      led_unit (LongBranch set bit k) (λ t. unit.Branch set bit t) (at + 1) k u (behind_next behind (led (λ t. unit.Branch set bit t) starts (at + 1) k) at u e)
      (λ t to. record { form = ap (LongBranch set bit) to.offset_is; kind = h; target = to.below; skips = λ us so. tt; group = refl })
  unit_of_form (Jumping k) u h e =
      led_unit (Jumping k) (λ t. unit.Jump t) at k u e (λ t to. record { form = ap Jumping to.offset_is; kind = tt; target = to.below; skips = λ us so. tt; group = refl })
  unit_of_form (Calling k) u h e =
      led_unit (Calling k) (λ t. unit.LocalCall t) (at + 2) k u e (λ t to. record { form = ap Calling to.offset_is; kind = tt; target = to.below; skips = λ us so. tt; group = refl })

-- The units of forms from the n-th on.
pub record AreUnitsOf (starts : List ℕ) (n : ℕ) (fs : List Form) (us : List Unit) : Type 0 where
  pub forms : forms_from starts n us (shapes_of fs) ≡ fs
  pub count : length us ≡ length fs
  pub kinds : AllByRecursion IsOfKind us
  pub targets : AllByRecursion (LeadsBelow (length starts)) us
  pub skips : SkipsAreSound us
  pub can : can_skip fs ≡ true → CanBeSkipped us

not_true : (b : Bool) → not b ≡ true → b ≡ false
not_true true e = cc
not_true false e = refl

can_be : (f : Form) (fs : List Form) (u : Unit) (us : List Unit) → length us ≡ length fs → is_group_unit u ≡ is_group f → can_skip (f ∷ fs) ≡ true → CanBeSkipped (u ∷ us)
can_be f [] u us count group e = cc
can_be f (g ∷ fs) u [] count group e = absurd (omega (arith, count))
can_be f (g ∷ fs) u (v ∷ us) count group e = group ∙ not_true (is_group f) e

-- What is joined.
pub record IsJoined (first : Result Unit ℕ) (rest : Result (List Unit) ℕ) (us : List Unit) : Type 0 where
  pub u : Unit
  pub more : List Unit
  pub first_is : first ≡ Ok u
  pub rest_is : rest ≡ Ok more
  pub are : u ∷ more ≡ us

pub joined_is : (first : Result Unit ℕ) (rest : Result (List Unit) ℕ) (us : List Unit) → joined first rest ≡ Ok us → IsJoined first rest us
joined_is (Err at) rest us e = cc
joined_is (Ok u) (Err at) us e = cc
joined_is (Ok u) (Ok more) us e = record { u = u; more = more; first_is = refl; rest_is = refl; are = cc }

pub units_of_forms : (starts : List ℕ) (n : ℕ) (fs : List Form) (us : List Unit) → AreForms fs → resolve_from starts n fs ≡ Ok us → AreUnitsOf starts n fs us
units_of_forms starts n [] us h e =
    let P : List Unit → Type 0 = λ l. AreUnitsOf starts n [] l in
    let none : [] ≡ us = cc in
    subst P none (record { forms = refl; count = refl; kinds = tt; targets = tt; skips = tt; can = λ e. cc })
units_of_forms starts n (f ∷ fs) us h e =
    let at = start_of starts n in
    let parts = joined_is (resolve starts n at f fs) (resolve_from starts (n + 1) fs) us e in
    let rest = units_of_forms starts (n + 1) fs parts.more h.1 parts.rest_is in
    let here = unit_of_form starts n at fs f parts.u h.0 parts.first_is in
    let P : List Unit → Type 0 = λ l. AreUnitsOf starts n (f ∷ fs) l in
    subst P parts.are (record {
      forms = ap₂ (λ (g : Form) (l : List Form). g ∷ l) here.form rest.forms;
      count = ap suc rest.count;
      kinds = (here.kind, rest.kinds);
      targets = (here.target, rest.targets);
      skips = (here.skips parts.more rest.can, rest.skips);
      can = can_be f fs parts.u parts.more rest.count here.group;
    })

-- The other way: the forms of units resolve to them.
module _ (starts : List ℕ) (first : AreFirstWords starts) where
  reaches : (at t : ℕ) → t < length starts → number_reached starts (reached at (offset_to at (start_of starts t))) ≡ Some t
  reaches at t below = ap (number_reached starts) (reached-offset_to at (start_of starts t)) ∙ number_of-at starts (start_of starts t) t first below refl

  leads_there : (make : ℕ → Unit) (at t : ℕ) → t < length starts → led make starts at (offset_to at (start_of starts t)) ≡ Ok (make t)
  leads_there make at t below = ap (pointed make at) (reaches at t below)

  group_form : (i at : ℕ) (u : Unit) (s : Shape) → is_group (form_of starts i at u s) ≡ is_group_unit u
  group_form i at (unit.SpGroup b) s = refl
  group_form i at (unit.Skip x) Long = refl
  group_form i at (unit.Skip x) Short = refl
  group_form i at (unit.Branch set bit t) Long = refl
  group_form i at (unit.Branch set bit t) Short = refl
  group_form i at _ s = refl

  can_forms : (n : ℕ) (us : List Unit) (ss : List Shape) → length ss ≡ length us → CanBeSkipped us → can_skip (forms_from starts n us ss) ≡ true
  can_forms n [] ss count can = absurd can
  can_forms n (u ∷ []) ss count can = absurd can
  can_forms n (u ∷ v ∷ us) [] count can = absurd (omega (arith, count))
  can_forms n (u ∷ v ∷ us) (s ∷ []) count can = absurd (omega (arith, count))
  can_forms n (u ∷ v ∷ us) (s ∷ t ∷ ss) count can = ap not (group_form n (start_of starts n) u s ∙ can)

  two_behind : (us : List Unit) → CanBeSkipped us → 2 ≤ length us
  two_behind [] can = absurd can
  two_behind (u ∷ []) can = absurd can
  two_behind (u ∷ v ∷ us) can = omega arith

  not_last : (n : ℕ) (u : Unit) (us : List Unit) (ss : List Shape) (at : ℕ) (r : Result Unit ℕ) → length ss ≡ length us → leaves u ≡ false → goes_on (u ∷ us) ≡ false → before_next at (forms_from starts n us ss) r ≡ r
  not_last n u [] ss at r count stays ends = let t : true ≡ false = ap not (sym stays) ∙ ends in cc
  not_last n u (v ∷ us) [] at r count stays ends = absurd (omega (arith, count))
  not_last n u (v ∷ us) (s ∷ ss) at r count stays ends = refl

  form_resolves : (n : ℕ) (u : Unit) (us : List Unit) (s : Shape) (ss : List Shape) → length ss ≡ length us → n + 1 + length us ≡ length starts → LeadsBelow (length starts) u → SkipsTo u us → goes_on (u ∷ us) ≡ false
      → resolve starts n (start_of starts n) (form_of starts n (start_of starts n) u s) (forms_from starts (n + 1) us ss) ≡ Ok u
  form_resolves n (unit.Skip i) us Short ss count all below can ends = ap (λ b. cond {A = Result Unit ℕ} b (Ok (unit.Skip i)) (Err (start_of starts n))) (can_forms (n + 1) us ss count can)
  form_resolves n (unit.Skip i) us Long ss count all below can ends =
      let at = start_of starts n in
      let there : n + 2 < length starts = omega (arith, all, two_behind us can) in
      let k = offset_to (at + 2) (start_of starts (n + 2)) in
      ap (λ b. cond {A = Result Unit ℕ} b (landed i (n + 2) (at + 2) (number_reached starts (reached (at + 2) k))) (Err at)) (can_forms (n + 1) us ss count can)
      ∙ ap (landed i (n + 2) (at + 2)) (reaches (at + 2) (n + 2) there)
      ∙ ap (λ b. cond {A = Result Unit ℕ} b (Ok (unit.Skip i)) (Err (at + 2))) (eq-eqb (n + 2) (n + 2) refl)
  form_resolves n (unit.Branch set bit t) us Short ss count all below can ends = leads_there (λ m. unit.Branch set bit m) (start_of starts n) t below
  form_resolves n (unit.Branch set bit t) us Long ss count all below can ends =
      let at = start_of starts n in
      not_last (n + 1) (unit.Branch set bit t) us ss at (led (λ m. unit.Branch set bit m) starts (at + 1) (offset_to (at + 1) (start_of starts t))) count refl ends
      ∙ leads_there (λ m. unit.Branch set bit m) (at + 1) t below
  form_resolves n (unit.Jump t) us s ss count all below can ends = leads_there (λ m. unit.Jump m) (start_of starts n) t below
  form_resolves n (unit.LocalCall t) us s ss count all below can ends = leads_there (λ m. unit.LocalCall m) (start_of starts n + 2) t below
  form_resolves n _ us s ss count all below can ends = refl

  goes_on_behind : (u : Unit) (us : List Unit) → goes_on (u ∷ us) ≡ false → goes_on us ≡ false
  goes_on_behind u [] e = refl
  goes_on_behind u (v ∷ us) e = e

  pub forms_resolve : (n : ℕ) (us : List Unit) (ss : List Shape) → length ss ≡ length us → n + length us ≡ length starts → AllByRecursion (LeadsBelow (length starts)) us → SkipsAreSound us → goes_on us ≡ false
      → resolve_from starts n (forms_from starts n us ss) ≡ Ok us
  forms_resolve n [] ss count all below can ends = refl
  forms_resolve n (u ∷ us) [] count all below can ends = absurd (omega (arith, count))
  forms_resolve n (u ∷ us) (s ∷ ss) count all below can ends =
      let shorter : length ss ≡ length us = omega (arith, count) in
      ap₂ joined (form_resolves n u us s ss shorter (omega (arith, all)) below.0 can.0 ends)
      (forms_resolve (n + 1) us ss shorter (omega (arith, all)) below.1 can.1 (goes_on_behind u us ends))
