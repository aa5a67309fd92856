-- Modules with the words of their banks.
use Rattle.std.specs.Prelude.{◌≡◌, ℕ, List, [], Bool, true, false, Option, Some, None, Result, Ok, Err, ⊤}
use Rattle.unit_code.specs.Listing.{BankListing}
use Rattle.unit_code.specs.Spelling.{Spells}
use Rattle.harbor_rewrite.specs.Emit.{AreEmitted}
use Rattle.module_image.specs.Contents.{Contents}
use Rattle.domain_model.specs.declared.refusal.Refusal.{Refusal}
use Rattle.domain_model.specs.Prepared.{Module, Prep}

-- A module that may be loaded, the words that stand in its bank, and where each unit's template starts in them.
pub record Banked : Type 0 where
  pub loadable : Module
  pub words : List ℕ
  pub starts : List ℕ

abbrev pub code_of : Banked → BankListing
code_of b = record { units = b.loadable.units; words = b.words; starts = b.starts }

-- The words spell the units of an image that is sealed or not, wherever it is entered.
abbrev pub SpellUnits : BankListing → Bool → Type 0
SpellUnits code sealed = Spells code.words [] sealed code.units code.starts

-- A rewriter's image runs by its own words, and any other by those that the rewriter gives to its units.
pub record AreWordsFor (code : BankListing) (c : Contents) : Type 0 where
  pub own : c.rewritten ≡ true → code.words ≡ c.code
  pub emitted : c.rewritten ≡ false → AreEmitted code.units code.words code.starts

-- What a file comes to, with the words: a module or a refusal.
abbrev pub Readied : Type 0
Readied = Result Banked Refusal

-- and without them
abbrev pub prepared_of : Readied → Prep
prepared_of (Ok b) = Ok b.loadable
prepared_of (Err refusal) = Err refusal

-- the code of the module's bank, if there is a module
abbrev pub bank_of : Readied → Option BankListing
bank_of (Err refusal) = None
bank_of (Ok b) = Some (code_of b)

-- The module of the image, if it holds one, has the words for it.
abbrev pub HasItsWords : Readied → Contents → Type 0
HasItsWords (Err refusal) c = ⊤
HasItsWords (Ok b) c = AreWordsFor (code_of b) c

-- The words of the module, if there is one, spell its units.
abbrev pub AreSpelled : Readied → Type 0
AreSpelled (Err refusal) = ⊤
AreSpelled (Ok b) = SpellUnits (code_of b) b.loadable.sealed
