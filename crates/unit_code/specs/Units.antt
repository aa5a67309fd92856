-- The units of a list of words, or why there are none.
use Rattle.std.specs.Prelude.{ℕ, Bool, List, map, Option, Some, None, option_map}
use Rattle.std.specs.List.{filter_map}
use Rattle.unit_code.specs.declared.error.CodeError.{CodeError}
use Rattle.unit_code.specs.declared.unit.Unit.{Unit}
use Rattle.unit_code.specs.declared.unit.Unit.TheVariants.{Branch, Jump, LocalCall}
use Rattle.unit_code.specs.declared.kinds.Standing.{Standing}
use Rattle.unit_code.specs.declared.kinds.Standing.TheVariants.{Part}
use Rattle.unit_code.specs.declared.kinds.Piece.TheVariants.{Whole, Aimed}
use Rattle.unit_code.specs.declared.kinds.Aim.{Aim}
use Rattle.unit_code.specs.declared.kinds.Aim.TheVariants.{Branching, Jumping, Calling}
use Rattle.unit_code.specs.declared.items.Item.{Item}
use Rattle.unit_code.specs.Items.{items_of}
use Rattle.unit_code.specs.Listing.{Listing}
use Rattle.unit_code.specs.Loads.{guarded}
use Rattle.unit_code.specs.Refusals.{or_else, refusal_of_items, refusal_of_units, stray_mark}
use Rattle.unit_code.specs.Targets.{number_of, number_reached, reached}

-- the first words of the units
abbrev pub places_of : List ℕ → List ℕ
places_of words = map (λ item. item.place) (items_of words)

abbrev pub to_unit : Aim → ℕ → Unit
to_unit (Branching set bit) target = Branch set bit target
to_unit Jumping target = Jump target
to_unit Calling target = LocalCall target

-- The unit of an item in an image that is sealed or not, with a unit number for its target; none where no unit stands
-- there or its target is none.
abbrev pub unit_at : Bool → List ℕ → ℕ → Standing → Option Unit
unit_at sealed places place (Part (Whole u)) = Some (guarded sealed u)
unit_at sealed places place (Part (Aimed aim offset)) = option_map (to_unit aim) (number_reached places (reached place offset))
unit_at sealed places place _ = None

abbrev pub unit_of : Bool → List ℕ → Item → Option Unit
unit_of sealed places item = unit_at sealed places item.place item.standing

-- The units, in order, of an image that is sealed or not.
abbrev pub units_of : List ℕ → Bool → List Unit
units_of words sealed = filter_map (unit_of sealed (places_of words)) (items_of words)

-- Why the words are refused: the first of the seven conditions that holds, at its least word.
unfoldable pub refusal : List ℕ → List ℕ → Bool → Option CodeError
refusal words marks sealed =
    or_else (refusal_of_items (places_of words) (items_of words))
    (or_else (refusal_of_units words (units_of words sealed)) (stray_mark (places_of words) marks))

-- What is told of words that are not refused.
unfoldable pub listed : List ℕ → List ℕ → Bool → Listing
listed words marks sealed = record {
  units = units_of words sealed;
  places = places_of words;
  marks = filter_map (number_of (places_of words)) marks;
}
