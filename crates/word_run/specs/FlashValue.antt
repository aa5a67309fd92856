-- What a runner of words keeps.
use Rattle.std.specs.Prelude.{◌≡◌, ℕ, ◌+◌, ◌-◌, ◌<◌, ◌≤◌, Bool, List, [], length, slice_index, slice_index_or, slice_set, replicate, Option}
use Rattle.avr_machine.specs.Flash.{Banks, no_banks}
use Rattle.mote_layout.specs.Memory.{bank_start, bank_words, domain_count}
use Rattle.unit_code.specs.Listing.{BankListing}
use Rattle.unit_code.specs.Spelling.{Lays}
use Rattle.unit_code.specs.Targets.{AreFirstWords, number_of}
use Rattle.unit_code.specs.declared.unit.Unit.{Unit}
use Rattle.domain_model.specs.State.{RunnerState}
use Rattle.domain_model.specs.Act.{bank}

-- By domain the units of its module, the words of its bank in flash, and the words of the bank at which the templates
-- of the units start; the number of the unit that runs next; and whether each instruction that runs is told.
pub record FlashValue : Type 0 where
  pub banks : List (List Unit)
  pub flash : Banks
  pub starts : List (List ℕ)
  pub unit : ℕ
  pub tells : Bool

-- What the machine sees of it: neither the words nor where they stand.
abbrev pub part : FlashValue → RunnerState
part v = record { banks = v.banks; unit = v.unit }

-- the words of a domain's bank, and the starts of its templates
abbrev pub words_of : FlashValue → ℕ → List ℕ
words_of v domain = slice_index_or v.flash domain []

abbrev pub starts_of : FlashValue → ℕ → List ℕ
starts_of v domain = slice_index_or v.starts domain []

-- the program address of a place in a domain's bank
abbrev pub address_in : ℕ → ℕ → ℕ
address_in domain place = bank_start domain + place

-- the program address at which the template of a domain's unit starts
abbrev pub entry_point : FlashValue → ℕ → ℕ → ℕ
entry_point v domain unit = address_in domain (slice_index (starts_of v domain) unit)

-- The unit of a domain whose template starts at a program address, if one does.
abbrev pub unit_at : FlashValue → ℕ → ℕ → Option ℕ
unit_at v domain address = number_of (starts_of v domain) (address - bank_start domain)

-- The words of a bank are the templates of its units side by side, each of them starts behind the one before, and the
-- bank has room for them. (A domain without a module has no units, and no words spell them.)
pub record IsSpelledBank (units : List Unit) (words starts : List ℕ) : Type 0 where
  pub sealed : Bool
  pub lays : Lays words sealed units starts
  pub first : AreFirstWords starts
  pub fits : length words ≤ bank_words

-- What holds of each: there is a bank for each domain, and its words spell its units.
pub record HoldsWords (v : FlashValue) : Type 0 where
  pub banks : length v.banks ≡ domain_count
  pub flash : length v.flash ≡ domain_count
  pub starts : length v.starts ≡ domain_count
  pub spelled : (domain : ℕ) → domain < domain_count → IsSpelledBank (bank (part v) domain) (words_of v domain) (starts_of v domain)

-- no code is placed
abbrev pub no_words : Bool → FlashValue
no_words tells =
    record {
      banks = replicate domain_count [];
      flash = no_banks;
      starts = replicate domain_count [];
      unit = 0;
      tells = tells;
    }

-- other code stands in a domain
abbrev pub words_placed : FlashValue → ℕ → BankListing → FlashValue
words_placed v domain code =
    record v {
      banks = slice_set v.banks domain code.units;
      flash = slice_set v.flash domain code.words;
      starts = slice_set v.starts domain code.starts;
    }

-- no code stands there
abbrev pub words_cleared : FlashValue → ℕ → FlashValue
words_cleared v domain = words_placed v domain (record { units = []; words = []; starts = [] })

-- another unit is next
abbrev pub words_entered : FlashValue → ℕ → ℕ → FlashValue
words_entered v domain unit = record v { unit = unit }
