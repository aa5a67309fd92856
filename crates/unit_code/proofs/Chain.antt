-- Each step of the reading, and what it says of the words as a whole.
use Rattle.std.proofs.Common.{◌≡◌, ◌∙◌, ℕ, suc, ◌≤◌, Bool, List, length, Option, Some, None, sym, ap, arith}
use Rattle.std.specs.List.{cons_option, filter_map}
use Rattle.std.specs.Prelude.{[], ◌∷◌}
use Rattle.unit_code.specs.declared.error.CodeError.{CodeError}
use Rattle.unit_code.specs.declared.items.Item.{Item}
use Rattle.unit_code.specs.declared.unit.Unit.{Unit}
use Rattle.unit_code.specs.Items.{items_of}
use Rattle.unit_code.proofs.Places.{few_items}
use Rattle.unit_code.specs.Listing.{Listing}
use Rattle.unit_code.specs.Refusals.{or_else, refusal_of_items, refusal_of_units, stray_mark}
use Rattle.unit_code.specs.Targets.{number_of}
use Rattle.unit_code.specs.Units.{listed, places_of, refusal, unit_of, units_of}

pub units_from : (sealed : Bool) (words places : List ℕ) (items : List Item) (us : List Unit) → items ≡ items_of words → places ≡ places_of words → us ≡ filter_map (unit_of sealed places) items → us ≡ units_of words sealed
units_from sealed words places items us read told made =
    made ∙ ap (λ ps. filter_map (unit_of sealed ps) items) told ∙ ap (λ is. filter_map (unit_of sealed (places_of words)) is) read

pub numbers_from : (words places marks ns : List ℕ) → places ≡ places_of words → ns ≡ filter_map (number_of places) marks → ns ≡ filter_map (number_of (places_of words)) marks
numbers_from words places marks ns told made = made ∙ ap (λ ps. filter_map (number_of ps) marks) told

pub items_refusal : (words places : List ℕ) (items : List Item) → items ≡ items_of words → places ≡ places_of words → refusal_of_items (places_of words) (items_of words) ≡ refusal_of_items places items
items_refusal words places items read told = ap (λ is. refusal_of_items (places_of words) is) (sym read) ∙ ap (λ ps. refusal_of_items ps items) (sym told)

pub units_refusal : (sealed : Bool) (words : List ℕ) (us : List Unit) → us ≡ units_of words sealed → refusal_of_units words (units_of words sealed) ≡ refusal_of_units words us
units_refusal sealed words us made = ap (refusal_of_units words) (sym made)

pub marks_refusal : (words places marks : List ℕ) → places ≡ places_of words → stray_mark (places_of words) marks ≡ stray_mark places marks
marks_refusal words places marks told = ap (λ ps. stray_mark ps marks) (sym told)

-- the refusals in their order
pub by_items : (words marks : List ℕ) (sealed : Bool) (e : CodeError) → refusal_of_items (places_of words) (items_of words) ≡ Some e → refusal words marks sealed ≡ Some e
unfolding refusal
by_items words marks sealed e is = ap (λ o. or_else o (or_else (refusal_of_units words (units_of words sealed)) (stray_mark (places_of words) marks))) is

pub past_items : (words marks : List ℕ) (sealed : Bool) → refusal_of_items (places_of words) (items_of words) ≡ None → refusal words marks sealed ≡ or_else (refusal_of_units words (units_of words sealed)) (stray_mark (places_of words) marks)
unfolding refusal
past_items words marks sealed none = ap (λ o. or_else o (or_else (refusal_of_units words (units_of words sealed)) (stray_mark (places_of words) marks))) none

pub by_units : (words marks : List ℕ) (sealed : Bool) (e : CodeError) → refusal_of_items (places_of words) (items_of words) ≡ None → refusal_of_units words (units_of words sealed) ≡ Some e → refusal words marks sealed ≡ Some e
by_units words marks sealed e none is = past_items words marks sealed none ∙ ap (λ o. or_else o (stray_mark (places_of words) marks)) is

pub by_marks : (words marks : List ℕ) (sealed : Bool) (o : Option CodeError) → refusal_of_items (places_of words) (items_of words) ≡ None → refusal_of_units words (units_of words sealed) ≡ None → stray_mark (places_of words) marks ≡ o → refusal words marks sealed ≡ o
by_marks words marks sealed o none sound is = past_items words marks sealed none ∙ ap (λ x. or_else x (stray_mark (places_of words) marks)) sound ∙ is

pub listed_from : (words marks : List ℕ) (sealed : Bool) (us : List Unit) (places numbers : List ℕ) → us ≡ units_of words sealed → places ≡ places_of words → numbers ≡ filter_map (number_of (places_of words)) marks → ◌≡◌ {A = Listing} (record { units = us; places = places; marks = numbers }) (listed words marks sealed)
unfolding listed
listed_from words marks sealed us places numbers made told counted =
    let f : List Unit → Listing = λ u. record { units = u; places = places; marks = numbers } in
    let g : List ℕ → Listing = λ p. record { units = units_of words sealed; places = p; marks = numbers } in
    let h : List ℕ → Listing = λ n. record { units = units_of words sealed; places = places_of words; marks = n } in
    ap f made ∙ ap g told ∙ ap h counted

more : (o : Option Unit) (us : List Unit) (n : ℕ) → length us ≤ n → length (cons_option o us) ≤ suc n
more None us n h = omega (arith, h)
more (Some u) us n h = omega (arith, h)

-- there are no more units than words
few : (sealed : Bool) (places : List ℕ) (items : List Item) → length (filter_map (unit_of sealed places) items) ≤ length items
few sealed places [] = omega arith
few sealed places (item ∷ items) = more (unit_of sealed places item) (filter_map (unit_of sealed places) items) (length items) (few sealed places items)

pub few_units : (sealed : Bool) (words : List ℕ) → length words ≤ 65535 → length (units_of words sealed) ≤ 65535
few_units sealed words small =
    let less : length (units_of words sealed) ≤ length (items_of words) = few sealed (places_of words) (items_of words) in
    omega (arith, less, few_items words, small)
