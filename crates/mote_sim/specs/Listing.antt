-- The text of a listing.
use Rattle.std.specs.Prelude.{ℕ, List}
use Rattle.unit_code.specs.declared.unit.Unit.{Unit}
use Rattle.avr_list.specs.Lines.{listing_from}

-- the lines of all units, counted from 0, each with the place of its first word
abbrev pub listing_text : List Unit → List ℕ → List ℕ
listing_text units places = listing_from 0 units places
