-- What holds of listings.
use Rattle.std.specs.Prelude.{◌≡◌, ℕ, ◌^◌, Bool, true, false, List}
use Rattle.unit_code.specs.declared.unit.Unit.{Unit}
use Rattle.unit_code.specs.Proper.{IsGuardedSo, IsOfKind, LeadsBelow}
use Rattle.unit_code.specs.Units.{places_of, units_of}
use Rattle.avr_list.specs.Lines.{listing_from, listing_line}

-- The listing of code is the same whether or not its image is sealed.
abbrev pub SealIsUnseen : Type 0
SealIsUnseen = (words : List ℕ)
    → listing_from 0 (units_of words true) (places_of words) ≡ listing_from 0 (units_of words false) (places_of words)

-- A unit that may stand in the list of an image that is sealed or not, with a target of 16 bits.
pub record MayStand (sealed : Bool) (u : Unit) : Type 0 where
  pub kind : IsOfKind u
  pub load : IsGuardedSo sealed u
  pub target : LeadsBelow (2 ^ 16) u

-- Different units have different lines at one place, so what a listing says can be read back.
abbrev pub LinesTell : Type 0
LinesTell = (sealed : Bool) (number place : ℕ) (u v : Unit) → MayStand sealed u → MayStand sealed v
    → listing_line number place u ≡ listing_line number place v → u ≡ v
