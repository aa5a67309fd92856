-- The text of a unit does not depend on the seal.
use Rattle.std.proofs.Common.{◌≡◌, ◌∙◌, ℕ, ◌+◌, ◌&&◌, Bool, true, false, List, [], ◌∷◌, ◌++◌, Option, Some, None, refl, ap}
use Rattle.std.specs.List.{cons_option, filter_map}
use Rattle.std.specs.Prelude.{codes, decimal, option_map}
use Rattle.avr_isa.specs.declared.instruction.Instr.{Instr}
use Rattle.unit_code.specs.declared.unit.Unit.{Unit}
use Rattle.unit_code.specs.declared.unit.Unit.TheVariants.{Plain, Load}
use Rattle.unit_code.specs.declared.items.Item.{Item}
use Rattle.unit_code.specs.declared.kinds.Standing.{Standing}
use Rattle.unit_code.specs.declared.kinds.Standing.TheVariants.{NoInstruction, Barred, Part}
use Rattle.unit_code.specs.declared.kinds.Piece.TheVariants.{Whole, Aimed}
use Rattle.unit_code.specs.Items.{items_of}
use Rattle.unit_code.specs.Loads.{guarded, is_load, load_where}
use Rattle.unit_code.specs.Targets.{number_reached, reached}
use Rattle.unit_code.specs.Units.{places_of, to_unit, unit_at, unit_of, units_of}
use Rattle.mote_base.specs.Digits.{word_digits}
use Rattle.avr_list.specs.Lines.{listing_from, listing_line, unit_text}

load_text : (b c : Bool) (i : Instr) → unit_text (load_where b i) ≡ unit_text (load_where c i)
load_text true true i = refl
load_text true false i = refl
load_text false true i = refl
load_text false false i = refl

same_text : (u : Unit) → unit_text (guarded true u) ≡ unit_text (guarded false u)
same_text (Plain i) = load_text (true && is_load i) (false && is_load i) i
same_text (Load i) = load_text (true && is_load i) (false && is_load i) i
same_text _ = refl

same_line : (number place : ℕ) (u : Unit) → listing_line number place (guarded true u) ≡ listing_line number place (guarded false u)
unfolding listing_line
same_line number place u = ap (λ text. decimal number ++ codes " " ++ word_digits place ++ codes " " ++ text ++ codes "\n") (same_text u)

-- what is behind has the same listing, from any number and at any places
Alike : List Unit → List Unit → Type 0
Alike us vs = (number : ℕ) (places : List ℕ) → listing_from number us places ≡ listing_from number vs places

one_more : (u v : Unit) (us vs : List Unit) → ((number place : ℕ) → listing_line number place u ≡ listing_line number place v) → Alike us vs → Alike (u ∷ us) (v ∷ vs)
unfolding Alike
one_more u v us vs line behind number [] = refl
one_more u v us vs line behind number (place ∷ places) =
    ap (λ l. l ++ listing_from (number + 1) us places) (line number place) ∙ ap (λ l. listing_line number place v ++ l) (behind (number + 1) places)

perhaps : (o : Option Unit) (us vs : List Unit) → Alike us vs → Alike (cons_option o us) (cons_option o vs)
perhaps None us vs behind = behind
perhaps (Some u) us vs behind = one_more u u us vs (λ number place. refl) behind

step : (places : List ℕ) (place : ℕ) (standing : Standing) (us vs : List Unit) → Alike us vs → Alike (cons_option (unit_at true places place standing) us) (cons_option (unit_at false places place standing) vs)
step places place NoInstruction us vs behind = behind
step places place (Barred kind) us vs behind = behind
step places place (Part (Whole u)) us vs behind = one_more (guarded true u) (guarded false u) us vs (λ number at. same_line number at u) behind
step places place (Part (Aimed aim offset)) us vs behind = perhaps (option_map (to_unit aim) (number_reached places (reached place offset))) us vs behind

alike : (places : List ℕ) (items : List Item) → Alike (filter_map (unit_of true places) items) (filter_map (unit_of false places) items)
unfolding Alike
alike places [] = λ number at. refl
alike places (item ∷ items) = step places item.place item.standing (filter_map (unit_of true places) items) (filter_map (unit_of false places) items) (alike places items)

pub seal_is_unseen : (words : List ℕ) → listing_from 0 (units_of words true) (places_of words) ≡ listing_from 0 (units_of words false) (places_of words)
unfolding Alike
seal_is_unseen words = alike (places_of words) (items_of words) 0 (places_of words)
