use Rattle.std.proofs.Common.{◌≡◌, ◌∙◌, length, Some, None, sym, ap, inr, arith}
use Rattle.unit_code.specs.Items.{items_of}
use Rattle.unit_code.specs.Refusals.{refusal_of_items, refusal_of_units, stray_mark}
use Rattle.unit_code.specs.Units.{places_of, units_of}
use Rattle.unit_code.proofs.Chain.{by_items, by_marks, by_units, few_units, items_refusal, listed_from, marks_refusal, numbers_from, units_from, units_refusal}
use Rattle.unit_code.proofs.Places.{places_in, these_are_first_words}
use Rattle.unit_code.proofs.reading.listing.Goals as goal

pub refusal_of_items-requires : goal.refusal_of_items-requires
refusal_of_items-requires c =
    these_are_first_words c.args.code.now _ c.deref.result.now c.requires (c.deref.ensures.value ∙ c.in_ok-items.ensures.items) (c.deref-3.ensures.value ∙ c.in_ok-places.ensures.places)

pub returns-in-Some-clause-err : goal.returns-in-Some-clause-err
returns-in-Some-clause-err c =
    let words = c.args.code.now in
    let sealed = c.args.sealed in
    let read0 : c.deref-2.result.now ≡ items_of words = c.deref-2.ensures.value ∙ c.in_ok-items.ensures.items in
    let told0 : c.deref-3.result.now ≡ places_of words = c.deref-3.ensures.value ∙ (c.in_ok-places.ensures.places ∙ ap places_in (c.deref.ensures.value ∙ c.in_ok-items.ensures.items)) in
    let is : refusal_of_items (places_of words) (items_of words) ≡ Some c.in-Some.refusal = items_refusal words _ _ read0 told0 ∙ sym c.refusal_of_items.ensures ∙ c.in-Some.is in
    inr (by_items words c.args.marks.now sealed c.in-Some.refusal is)

pub resolved-requires : goal.resolved-requires
resolved-requires c =
    these_are_first_words c.args.code.now _ c.deref.result.now c.requires (c.deref.ensures.value ∙ c.in_ok-items.ensures.items) (c.deref-5.ensures.value ∙ c.in_ok-places.ensures.places)

pub refusal_of_units-requires : goal.refusal_of_units-requires
refusal_of_units-requires c =
    let words = c.args.code.now in
    let sealed = c.args.sealed in
    let read : c.deref-4.result.now ≡ items_of words = c.deref-4.ensures.value ∙ c.in_ok-items.ensures.items in
    let told : c.deref-5.result.now ≡ places_of words = c.deref-5.ensures.value ∙ (c.in_ok-places.ensures.places ∙ ap places_in (c.deref.ensures.value ∙ c.in_ok-items.ensures.items)) in
    let made : c.deref-6.result.now ≡ units_of words sealed = c.deref-6.ensures.value ∙ units_from sealed words _ _ _ read told c.in_ok-units.ensures.units in
    let same : length c.deref-6.result.now ≡ length (units_of words sealed) = ap length made in
    omega (arith, same, few_units sealed words c.requires)

pub returns-in-Some-refusal_of_units-clause-err : goal.returns-in-Some-refusal_of_units-clause-err
returns-in-Some-refusal_of_units-clause-err c =
    let words = c.args.code.now in
    let sealed = c.args.sealed in
    let read0 : c.deref-2.result.now ≡ items_of words = c.deref-2.ensures.value ∙ c.in_ok-items.ensures.items in
    let told0 : c.deref-3.result.now ≡ places_of words = c.deref-3.ensures.value ∙ (c.in_ok-places.ensures.places ∙ ap places_in (c.deref.ensures.value ∙ c.in_ok-items.ensures.items)) in
    let read : c.deref-4.result.now ≡ items_of words = c.deref-4.ensures.value ∙ c.in_ok-items.ensures.items in
    let told : c.deref-5.result.now ≡ places_of words = c.deref-5.ensures.value ∙ (c.in_ok-places.ensures.places ∙ ap places_in (c.deref.ensures.value ∙ c.in_ok-items.ensures.items)) in
    let made : c.deref-6.result.now ≡ units_of words sealed = c.deref-6.ensures.value ∙ units_from sealed words _ _ _ read told c.in_ok-units.ensures.units in
    let none : refusal_of_items (places_of words) (items_of words) ≡ None = items_refusal words _ _ read0 told0 ∙ sym c.refusal_of_items.ensures ∙ c.in_default.is in
    let is : refusal_of_units words (units_of words sealed) ≡ Some c.in-Some-refusal_of_units.refusal = units_refusal sealed words _ made ∙ sym c.refusal_of_units.ensures ∙ c.in-Some-refusal_of_units.is in
    inr (by_units words c.args.marks.now sealed c.in-Some-refusal_of_units.refusal none is)

pub stray_mark-requires : goal.stray_mark-requires
stray_mark-requires c =
    these_are_first_words c.args.code.now _ c.deref.result.now c.requires (c.deref.ensures.value ∙ c.in_ok-items.ensures.items) (c.deref-7.ensures.value ∙ c.in_ok-places.ensures.places)

pub returns-in-Some-stray_mark-clause-err : goal.returns-in-Some-stray_mark-clause-err
returns-in-Some-stray_mark-clause-err c =
    let words = c.args.code.now in
    let sealed = c.args.sealed in
    let read0 : c.deref-2.result.now ≡ items_of words = c.deref-2.ensures.value ∙ c.in_ok-items.ensures.items in
    let told0 : c.deref-3.result.now ≡ places_of words = c.deref-3.ensures.value ∙ (c.in_ok-places.ensures.places ∙ ap places_in (c.deref.ensures.value ∙ c.in_ok-items.ensures.items)) in
    let read : c.deref-4.result.now ≡ items_of words = c.deref-4.ensures.value ∙ c.in_ok-items.ensures.items in
    let told : c.deref-5.result.now ≡ places_of words = c.deref-5.ensures.value ∙ (c.in_ok-places.ensures.places ∙ ap places_in (c.deref.ensures.value ∙ c.in_ok-items.ensures.items)) in
    let made : c.deref-6.result.now ≡ units_of words sealed = c.deref-6.ensures.value ∙ units_from sealed words _ _ _ read told c.in_ok-units.ensures.units in
    let none : refusal_of_items (places_of words) (items_of words) ≡ None = items_refusal words _ _ read0 told0 ∙ sym c.refusal_of_items.ensures ∙ c.in_default.is in
    let sound : refusal_of_units words (units_of words sealed) ≡ None = units_refusal sealed words _ made ∙ sym c.refusal_of_units.ensures ∙ c.in_default-refusal_of_units.is in
    let last : c.deref-7.result.now ≡ places_of words = c.deref-7.ensures.value ∙ (c.in_ok-places.ensures.places ∙ ap places_in (c.deref.ensures.value ∙ c.in_ok-items.ensures.items)) in
    let is : stray_mark (places_of words) c.args.marks.now ≡ Some c.in-Some-stray_mark.refusal = marks_refusal words _ c.args.marks.now last ∙ sym c.stray_mark.ensures ∙ c.in-Some-stray_mark.is in
    inr (by_marks words c.args.marks.now sealed (Some c.in-Some-stray_mark.refusal) none sound is)

pub numbers-requires : goal.numbers-requires
numbers-requires c =
    these_are_first_words c.args.code.now _ c.deref.result.now c.requires (c.deref.ensures.value ∙ c.in_ok-items.ensures.items) (c.deref-8.ensures.value ∙ c.in_ok-places.ensures.places)

pub returns-clause-ok : goal.returns-clause-ok
returns-clause-ok c =
    let words = c.args.code.now in
    let sealed = c.args.sealed in
    let marks = c.args.marks.now in
    let read0 : c.deref-2.result.now ≡ items_of words = c.deref-2.ensures.value ∙ c.in_ok-items.ensures.items in
    let told0 : c.deref-3.result.now ≡ places_of words = c.deref-3.ensures.value ∙ (c.in_ok-places.ensures.places ∙ ap places_in (c.deref.ensures.value ∙ c.in_ok-items.ensures.items)) in
    let read : c.deref-4.result.now ≡ items_of words = c.deref-4.ensures.value ∙ c.in_ok-items.ensures.items in
    let told : c.deref-5.result.now ≡ places_of words = c.deref-5.ensures.value ∙ (c.in_ok-places.ensures.places ∙ ap places_in (c.deref.ensures.value ∙ c.in_ok-items.ensures.items)) in
    let made : c.deref-6.result.now ≡ units_of words sealed = c.deref-6.ensures.value ∙ units_from sealed words _ _ _ read told c.in_ok-units.ensures.units in
    let none : refusal_of_items (places_of words) (items_of words) ≡ None = items_refusal words _ _ read0 told0 ∙ sym c.refusal_of_items.ensures ∙ c.in_default.is in
    let sound : refusal_of_units words (units_of words sealed) ≡ None = units_refusal sealed words _ made ∙ sym c.refusal_of_units.ensures ∙ c.in_default-refusal_of_units.is in
    let last : c.deref-7.result.now ≡ places_of words = c.deref-7.ensures.value ∙ (c.in_ok-places.ensures.places ∙ ap places_in (c.deref.ensures.value ∙ c.in_ok-items.ensures.items)) in
    let is : stray_mark (places_of words) marks ≡ None = marks_refusal words _ marks last ∙ sym c.stray_mark.ensures ∙ c.in_default-stray_mark.is in
    let places : c.in_ok-places.places.items ≡ places_of words = c.in_ok-places.ensures.places ∙ ap places_in (c.deref.ensures.value ∙ c.in_ok-items.ensures.items) in
    let units : c.in_ok-units.units.items ≡ units_of words sealed = units_from sealed words _ _ _ read told c.in_ok-units.ensures.units in
    let first : c.deref-8.result.now ≡ places_of words = c.deref-8.ensures.value ∙ places in
    let numbers = numbers_from words _ marks _ first c.in_ok-marks.ensures.numbers in
    (by_marks words marks sealed None none sound is, listed_from words marks sealed _ _ _ units places numbers)
