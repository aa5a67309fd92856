-- What a file is that came to a module or to a refusal, in the words of images and of code.
use Rattle.std.specs.Prelude.{◌≡◌, ◌⊎◌, ℕ, ◌<◌, List, [], ◌∷◌, length, slice_index, true, false, Ok, Err, ⊤}
use Rattle.std.specs.List.{AllByRecursion}
use Rattle.unit_code.specs.declared.unit.Unit.{Unit}
use Rattle.unit_code.specs.declared.error.CodeError.{CodeError}
use Rattle.unit_code.specs.Law.{IsFirst, NoneHolds}
use Rattle.unit_code.specs.Spelling.{Spells}
use Rattle.unit_code.specs.Units.{places_of, units_of}
use Rattle.harbor_verify.specs.declared.error.VerifyError.{VerifyError}
use Rattle.harbor_verify.specs.Law.{IsFirst as IsFirstVerdict}
use Rattle.module_image.specs.Contents.{Contents}
use Rattle.module_image.specs.Spelling.{Image}
use Rattle.domain_model.specs.declared.refusal.Refusal.TheVariants as why
use Rattle.domain_model.specs.Prepared.{Module, Prep, marks_of, prepared}

-- The units with these numbers begin at these words, one for each.
abbrev pub BeginAt : List ℕ → List ℕ → List ℕ → Type 0
BeginAt places [] [] = ⊤
BeginAt places [] (number ∷ numbers) = ⊥
BeginAt places (word ∷ words) [] = ⊥
BeginAt places (word ∷ words) (number ∷ numbers) = (number < length places) × (slice_index places number ≡ word) × BeginAt places words numbers

-- The code of an image that no rewriter made is refused by no condition; these are its units, and the units with these
-- numbers begin at the words of the marks.
pub record AreReadFrom (units : List Unit) (numbers : List ℕ) (c : Contents) : Type 0 where
  pub original : c.rewritten ≡ false
  pub accepted : NoneHolds c.code (marks_of c) c.sealed
  pub are : units ≡ units_of c.code c.sealed
  pub entered : BeginAt (places_of c.code) (marks_of c) numbers

-- The words of a rewriter's image spell these units and no others, and the templates of the units with these numbers
-- start at the marks.
pub record AreSpelledIn (units : List Unit) (numbers : List ℕ) (c : Contents) : Type 0 where
  pub rewritten : c.rewritten ≡ true
  pub starts : List ℕ
  pub spells : Spells c.code (marks_of c) c.sealed units starts
  pub only : (others : List Unit) (places : List ℕ) → Spells c.code (marks_of c) c.sealed others places → (units ≡ others) × (starts ≡ places)
  pub entered : BeginAt starts (marks_of c) numbers

-- The units of an image's code, and the numbers of those at which it is entered.
abbrev pub AreUnitsOf : List Unit → List ℕ → Contents → Type 0
AreUnitsOf units numbers c = AreReadFrom units numbers c ⊎ AreSpelledIn units numbers c

-- The module of an image whose code is not refused: it shows the image's face, asks for its state, has its constants
-- and is sealed where it is; its units are those of the code, its handler begins at the handler word, and each function
-- that it provides at that function's word.
pub record IsModuleOf (m : Module) (c : Contents) : Type 0 where
  pub code : AreUnitsOf m.units (m.handler ∷ m.entries) c
  pub face : m.face ≡ c.face
  pub state_size : m.state_size ≡ c.state_size
  pub constants : m.constants ≡ c.constants
  pub sealed : m.sealed ≡ c.sealed

-- The first condition that refuses the code of an image that no rewriter made.
pub record IsRefusalOf (e : CodeError) (c : Contents) : Type 0 where
  pub original : c.rewritten ≡ false
  pub first : IsFirst c.code (marks_of c) c.sealed e

-- The first condition that stands against the words of a rewriter's image.
pub record IsVerdictOn (e : VerifyError) (c : Contents) : Type 0 where
  pub rewritten : c.rewritten ≡ true
  pub first : IsFirstVerdict c.code (marks_of c) c.sealed e

-- The file is an image, of whose contents this holds.
pub record IsImageWith (P : Contents → Type 0) (file : List ℕ) : Type 0 where
  pub contents : Contents
  pub image : Image file contents
  pub holds : P contents

abbrev pub ComesTo : Prep → List ℕ → Type 0
ComesTo (Ok m) file = IsImageWith (IsModuleOf m) file
ComesTo (Err (why.Image e)) file = (c : Contents) → ¬ Image file c
ComesTo (Err (why.Code e)) file = IsImageWith (IsRefusalOf e) file
ComesTo (Err (why.Verify e)) file = IsImageWith (IsVerdictOn e) file

-- The law of files: each is what `prepared` makes of it.
abbrev pub FilesAreAsPrepared : Type 0
FilesAreAsPrepared = (file : List ℕ) → AllByRecursion (λ b. b < 256) file → ComesTo (prepared file) file
