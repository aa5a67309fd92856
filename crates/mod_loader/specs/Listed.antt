-- Units of a bank, and the numbers of those at which they are entered.
use Rattle.std.specs.Prelude.{◌≡◌, ℕ, ◌<◌, List, length}
use Rattle.std.specs.List.{AllByRecursion}
use Rattle.unit_code.specs.declared.unit.Unit.{Unit}
use Rattle.unit_code.specs.Listing.{BankListing, Listing}

abbrev pub listing_of : BankListing → List ℕ → Listing
listing_of code marks = record { units = code.units; places = code.starts; marks = marks }

-- There is a number of one of the units for each mark.
pub record AreNumbersOf (numbers : List ℕ) (units : List Unit) (marks : List ℕ) : Type 0 where
  pub marked : length numbers ≡ length marks
  pub entered : AllByRecursion (λ number. number < length units) numbers
