-- Words that are not refused have proper units.
use Rattle.std.proofs.Common.{◌≡◌, ◌∙◌, ℕ, suc, ◌<◌, ◌≤◌, ◌&&◌, cond, not, ltb, Bool, true, false, List, [], ◌∷◌, length, Option, Some, None, is_some, min, ℤ, sym, refl, ap, subst, arith}
use Rattle.std.specs.Prelude.{⊤, option_map}
use Rattle.std.specs.List.{AllByRecursion, cons_option, filter_map}
use Rattle.std.proofs.Math.ListN.{length-map}
use Rattle.std.proofs.lemmas.Bool.{and_parts, ltb-false}
use Rattle.mote_layout.specs.Memory.{bank_words}
use Rattle.unit_code.specs.declared.error.CodeError.{CodeError}
use Rattle.unit_code.specs.declared.error.CodeError.TheVariants.{Target, FallsOff, Empty, TooLong}
use Rattle.unit_code.specs.declared.unit.Unit.{Unit}
use Rattle.unit_code.specs.declared.unit.Unit.TheVariants.{Plain, Load, SpGroup, Skip}
use Rattle.unit_code.specs.declared.kinds.Standing.{Standing}
use Rattle.unit_code.specs.declared.kinds.Standing.TheVariants.{NoInstruction, Barred, Part}
use Rattle.unit_code.specs.declared.kinds.Piece.TheVariants.{Whole, Aimed}
use Rattle.unit_code.specs.declared.kinds.Aim.{Aim}
use Rattle.unit_code.specs.declared.kinds.Aim.TheVariants.{Branching, Jumping, Calling}
use Rattle.unit_code.specs.declared.items.Item.{Item}
use Rattle.unit_code.specs.declared.refusals.Condition.TheVariants as condition
use Rattle.unit_code.specs.Ends.{goes_on, long_length}
use Rattle.unit_code.specs.Items.{items_of}
use Rattle.unit_code.specs.Kinds.{standing_of, whole}
use Rattle.unit_code.specs.Listing.{Listing}
use Rattle.unit_code.specs.Loads.{guarded, is_load, load_where}
use Rattle.avr_isa.specs.Operands.{IsEncodable}
use Rattle.avr_isa.specs.declared.instruction.Instr.{Instr}
use Rattle.unit_code.specs.Proper.{CanBeSkipped, IsGuardedSo, IsOfKind, IsProper, LeadsBelow, SkipsAreSound, SkipsTo, is_group_unit}
use Rattle.unit_code.specs.Refusals.{first_refused, is_empty, is_group, leads, may_skip, or_else, refused_by, refusal_of_items, refusal_of_units, stray_mark}
use Rattle.unit_code.specs.Sound.{AreSound, IsSound, IsSoundAim}
use Rattle.unit_code.specs.Targets.{number_of, number_reached, reached}
use Rattle.unit_code.specs.Units.{listed, places_of, refusal, to_unit, unit_at, unit_of, units_of}
use Rattle.unit_code.proofs.Numbers.{number_of-some}

-- none of two refusals
pub neither : (a b : Option CodeError) → or_else a b ≡ None → (a ≡ None) × (b ≡ None)
neither (Some e) b h = cc
neither None b h = (refl, h)

pub refused_when : (b : Bool) (e : CodeError) (other : Option CodeError) → cond b (Some e) other ≡ None → (b ≡ false) × (other ≡ None)
refused_when true e other h = cc
refused_when false e other h = (refl, h)

-- An item that is refused by no condition on single words is a unit, and leads to one.
abbrev pub IsClean : List ℕ → ℕ → Standing → List Item → Type 0
IsClean places place NoInstruction behind = ⊥
IsClean places place (Barred kind) behind = ⊥
IsClean places place (Part piece) behind = leads piece place places behind ≡ true

abbrev pub AreClean : List ℕ → List Item → Type 0
AreClean places [] = ⊤
AreClean places (item ∷ behind) = IsClean places item.place item.standing behind × AreClean places behind

leads_there : (b : Bool) (e : CodeError) → cond b None (Some e) ≡ None → b ≡ true
leads_there true e h = refl
leads_there false e h = cc

clean_here : (places : List ℕ) (place : ℕ) (standing : Standing) (behind : List Item) → refused_by condition.NoInstruction places (record { place = place; standing = standing } ∷ behind) ≡ None → refused_by condition.Barred places (record { place = place; standing = standing } ∷ behind) ≡ None → refused_by condition.Misaimed places (record { place = place; standing = standing } ∷ behind) ≡ None → IsClean places place standing behind
clean_here places place NoInstruction behind h1 h2 h3 = cc
clean_here places place (Barred kind) behind h1 h2 h3 = cc
clean_here places place (Part piece) behind h1 h2 h3 = leads_there (leads piece place places behind) (Target place) h3

clean : (places : List ℕ) (items : List Item) → first_refused (refused_by condition.NoInstruction places) items ≡ None → first_refused (refused_by condition.Barred places) items ≡ None → first_refused (refused_by condition.Misaimed places) items ≡ None → AreClean places items
clean places [] h1 h2 h3 = tt
clean places (item ∷ behind) h1 h2 h3 =
    let n1 = neither (refused_by condition.NoInstruction places (item ∷ behind)) (first_refused (refused_by condition.NoInstruction places) behind) h1 in
    let n2 = neither (refused_by condition.Barred places (item ∷ behind)) (first_refused (refused_by condition.Barred places) behind) h2 in
    let n3 = neither (refused_by condition.Misaimed places (item ∷ behind)) (first_refused (refused_by condition.Misaimed places) behind) h3 in
    (clean_here places item.place item.standing behind n1.0 n2.0 n3.0, clean places behind n1.1 n2.1 n3.1)

pub clean_items : (places : List ℕ) (items : List Item) → refusal_of_items places items ≡ None → AreClean places items
unfolding refusal_of_items
clean_items places items h =
    let n1 = neither (first_refused (refused_by condition.NoInstruction places) items) (or_else (first_refused (refused_by condition.Barred places) items) (first_refused (refused_by condition.Misaimed places) items)) h in
    let n2 = neither (first_refused (refused_by condition.Barred places) items) (first_refused (refused_by condition.Misaimed places) items) n1.1 in
    clean places items n1.0 n2.0 n2.1

-- What is known of the unit of an item.
record IsUnitOf (sealed : Bool) (places : List ℕ) (standing : Standing) (us : List Unit) (u : Unit) : Type 0 where
  kind : IsOfKind u
  load : IsGuardedSo sealed u
  target : LeadsBelow (length places) u
  skip : SkipsTo u us
  group : is_group_unit u ≡ is_group standing

same_group : (u : Unit) → is_group_unit u ≡ is_group (Part (Whole u))
same_group (SpGroup with_sreg) = refl
same_group _ = refl

-- What is known of a unit is known of it in an image that is sealed or not.
load_kind : (sealed b : Bool) (i : Instr) → (sealed && is_load i) ≡ b → standing_of i ≡ whole (Plain i) → IsEncodable i → IsOfKind (load_where b i)
load_kind sealed true i is stands range = (stands, (and_parts sealed (is_load i) is).1, range)
load_kind sealed false i is stands range = (stands, range)

guarded_kind : (sealed : Bool) (u : Unit) → IsOfKind u → IsOfKind (guarded sealed u)
guarded_kind sealed (Plain i) kind = load_kind sealed (sealed && is_load i) i refl kind.0 kind.1
guarded_kind sealed (Load i) kind = load_kind sealed (sealed && is_load i) i refl kind.0 kind.2
guarded_kind sealed _ kind = kind

load_guarded : (sealed b : Bool) (i : Instr) → (sealed && is_load i) ≡ b → IsGuardedSo sealed (load_where b i)
load_guarded sealed true i is = (and_parts sealed (is_load i) is).0
load_guarded sealed false i is = is

guarded_so : (sealed : Bool) (u : Unit) → IsGuardedSo sealed (guarded sealed u)
guarded_so sealed (Plain i) = load_guarded sealed (sealed && is_load i) i refl
guarded_so sealed (Load i) = load_guarded sealed (sealed && is_load i) i refl
guarded_so sealed _ = tt

-- a load or another plain instruction has no target, skips nothing and is no group
record IsStill (u : Unit) : Type 0 where
  below : (count : ℕ) → LeadsBelow count u
  skips : (us : List Unit) → SkipsTo u us
  apart : is_group_unit u ≡ false

still : (b : Bool) (i : Instr) → IsStill (load_where b i)
still true i = record { below = λ count. tt; skips = λ us. tt; apart = refl }
still false i = record { below = λ count. tt; skips = λ us. tt; apart = refl }

guarded_below : (sealed : Bool) (u : Unit) (count : ℕ) → LeadsBelow count u → LeadsBelow count (guarded sealed u)
guarded_below sealed (Plain i) count below = (still (sealed && is_load i) i).below count
guarded_below sealed (Load i) count below = (still (sealed && is_load i) i).below count
guarded_below sealed _ count below = below

guarded_skips : (sealed : Bool) (u : Unit) (us : List Unit) → SkipsTo u us → SkipsTo (guarded sealed u) us
guarded_skips sealed (Plain i) us skips = (still (sealed && is_load i) i).skips us
guarded_skips sealed (Load i) us skips = (still (sealed && is_load i) i).skips us
guarded_skips sealed _ us skips = skips

guarded_group : (sealed : Bool) (u : Unit) → is_group_unit (guarded sealed u) ≡ is_group_unit u
guarded_group sealed (Plain i) = (still (sealed && is_load i) i).apart
guarded_group sealed (Load i) = (still (sealed && is_load i) i).apart
guarded_group sealed _ = refl

skips_to : (u : Unit) (place : ℕ) (places : List ℕ) (behind : List Item) (us : List Unit) → leads (Whole u) place places behind ≡ true → (may_skip behind ≡ true → CanBeSkipped us) → SkipsTo u us
skips_to (Skip i) place places behind us h skipped = skipped h
skips_to _ place places behind us h skipped = tt

number_there : (places : List ℕ) (o : Option ℕ) → is_some (number_reached places o) ≡ true → (n : ℕ) × (number_reached places o ≡ Some n) × (n < length places)
number_there places None h = cc
number_there places (Some word) h = elim (number_of places word) as (λ o. is_some o ≡ true → number_of places word ≡ o → (n : ℕ) × (number_of places word ≡ Some n) × (n < length places)) [
  | None ↦ λ some is. cc
  | Some n ↦ λ some is. (n, is, (number_of-some places word n is).0)
] h refl

aimed_unit : (sealed : Bool) (places : List ℕ) (aim : Aim) (offset : ℤ) (us : List Unit) (n : ℕ) → IsSoundAim aim → n < length places → IsUnitOf sealed places (Part (Aimed aim offset)) us (to_unit aim n)
aimed_unit sealed places (Branching set bit) offset us n sound below = record { kind = sound; load = tt; target = below; skip = tt; group = refl }
aimed_unit sealed places Jumping offset us n sound below = record { kind = tt; load = tt; target = below; skip = tt; group = refl }
aimed_unit sealed places Calling offset us n sound below = record { kind = tt; load = tt; target = below; skip = tt; group = refl }

unit_here : (sealed : Bool) (places : List ℕ) (place : ℕ) (standing : Standing) (behind : List Item) (us : List Unit) → IsClean places place standing behind → IsSound standing → (may_skip behind ≡ true → CanBeSkipped us) → (u : Unit) × (unit_at sealed places place standing ≡ Some u) × IsUnitOf sealed places standing us u
unit_here sealed places place NoInstruction behind us h sound skipped = absurd h
unit_here sealed places place (Barred kind) behind us h sound skipped = absurd h
unit_here sealed places place (Part (Whole u)) behind us h sound skipped = (
  guarded sealed u,
  refl,
  record {
    kind = guarded_kind sealed u sound.0;
    load = guarded_so sealed u;
    target = guarded_below sealed u (length places) (sound.1 (length places));
    skip = guarded_skips sealed u us (skips_to u place places behind us h skipped);
    group = guarded_group sealed u ∙ same_group u;
  },
)
unit_here sealed places place (Part (Aimed aim offset)) behind us h sound skipped =
    let there = number_there places (reached place offset) h in
    (to_unit aim there.0, ap (option_map (to_unit aim)) there.1, aimed_unit sealed places aim offset us there.0 sound there.2)

-- What is known of the units of items.
record AreUnitsOf (sealed : Bool) (places : List ℕ) (items : List Item) (us : List Unit) : Type 0 where
  same_length : length us ≡ length items
  kinds : AllByRecursion IsOfKind us
  loads : AllByRecursion (IsGuardedSo sealed) us
  targets : AllByRecursion (LeadsBelow (length places)) us
  skips : SkipsAreSound us
  can_be_skipped : may_skip items ≡ true → CanBeSkipped us

not_true : (b : Bool) → not b ≡ true → b ≡ false
not_true true h = cc
not_true false h = refl

skippable : (item : Item) (behind : List Item) (u : Unit) (us : List Unit) → length us ≡ length behind → is_group_unit u ≡ is_group item.standing → may_skip (item ∷ behind) ≡ true → CanBeSkipped (u ∷ us)
skippable item [] u us same group h = cc
skippable item (other ∷ more) u [] same group h = absurd (omega (arith, same))
skippable item (other ∷ more) u (v ∷ vs) same group h = group ∙ not_true (is_group item.standing) h

units_made : (sealed : Bool) (places : List ℕ) (items : List Item) → AreClean places items → AreSound items → AreUnitsOf sealed places items (filter_map (unit_of sealed places) items)
units_made sealed places [] h sound = record { same_length = refl; kinds = tt; loads = tt; targets = tt; skips = tt; can_be_skipped = λ e. cc }
units_made sealed places (item ∷ behind) h sound =
    let us = filter_map (unit_of sealed places) behind in
    let rest = units_made sealed places behind h.1 sound.1 in
    let here = unit_here sealed places item.place item.standing behind us h.0 sound.0 rest.can_be_skipped in
    let P : List Unit → Type 0 = λ l. AreUnitsOf sealed places (item ∷ behind) l in
    subst P (sym (ap (λ o. cons_option o us) here.1)) (record {
      same_length = ap suc rest.same_length;
      kinds = (here.2.kind, rest.kinds);
      loads = (here.2.load, rest.loads);
      targets = (here.2.target, rest.targets);
      skips = (here.2.skip, rest.skips);
      can_be_skipped = skippable item behind here.0 us rest.same_length here.2.group;
    })

some_item : (words : List ℕ) → is_empty words ≡ false → 0 < length (items_of words)
some_item [] h = cc
some_item (w ∷ ws) h = omega arith

pub sound_units : (words : List ℕ) (us : List Unit) → refusal_of_units words us ≡ None → (goes_on us ≡ false) × (is_empty words ≡ false) × (long_length us ≤ bank_words)
unfolding refusal_of_units
sound_units words us h =
    let first = refused_when (goes_on us) FallsOff (cond (is_empty words) (Some Empty) (cond (ltb bank_words (long_length us)) (Some (TooLong (min (long_length us) 65535))) None)) h in
    let second = refused_when (is_empty words) Empty (cond (ltb bank_words (long_length us)) (Some (TooLong (min (long_length us) 65535))) None) first.1 in
    let third = refused_when (ltb bank_words (long_length us)) (TooLong (min (long_length us) 65535)) None second.1 in
    (first.0, second.0, ltb-false bank_words (long_length us) third.0)

-- what holds where there is no refusal: none of the three parts has one
pub no_refusal : (words marks : List ℕ) (sealed : Bool) → refusal words marks sealed ≡ None → (refusal_of_items (places_of words) (items_of words) ≡ None) × (refusal_of_units words (units_of words sealed) ≡ None) × (stray_mark (places_of words) marks ≡ None)
unfolding refusal
no_refusal words marks sealed h =
    let first = neither (refusal_of_items (places_of words) (items_of words)) (or_else (refusal_of_units words (units_of words sealed)) (stray_mark (places_of words) marks)) h in
    let second = neither (refusal_of_units words (units_of words sealed)) (stray_mark (places_of words) marks) first.1 in
    (first.0, second.0, second.1)

-- there are as many places as units
pub same_count : (words marks : List ℕ) (sealed : Bool) → refusal words marks sealed ≡ None → AreSound (items_of words) → length (places_of words) ≡ length (units_of words sealed)
same_count words marks sealed h sound =
    let items = items_of words in
    let made = units_made sealed (places_of words) items (clean_items (places_of words) items (no_refusal words marks sealed h).0) sound in
    length-map items (λ item. item.place) ∙ sym made.same_length

pub proper_units : (words marks : List ℕ) (sealed : Bool) → refusal words marks sealed ≡ None → AreSound (items_of words) → IsProper (units_of words sealed) sealed
proper_units words marks sealed h sound =
    let parts = no_refusal words marks sealed h in
    let items = items_of words in
    let places = places_of words in
    let us = units_of words sealed in
    let made = units_made sealed places items (clean_items places items parts.0) sound in
    let ends = sound_units words us parts.1 in
    let count : length places ≡ length us = length-map items (λ item. item.place) ∙ sym made.same_length in
    let some : 0 < length items = some_item words ends.1 in
    let same : length us ≡ length items = made.same_length in
    let P : ℕ → Type 0 = λ n. AllByRecursion (LeadsBelow n) us in
    record {
      some = omega (arith, some, same);
      kinds = made.kinds;
      loads = made.loads;
      targets = subst P count made.targets;
      skips = made.skips;
      ends = ends.0;
      fits = ends.2;
    }

-- the same, of a list that tells them
pub proper_listed : (words marks : List ℕ) (sealed : Bool) (l : Listing) → refusal words marks sealed ≡ None → l ≡ listed words marks sealed → AreSound (items_of words) → IsProper l.units sealed
unfolding listed
proper_listed words marks sealed l h is sound =
    let P : Listing → Type 0 = λ x. IsProper x.units sealed in
    subst P (sym is) (proper_units words marks sealed h sound)
