-- What the file of an image holds.
use Rattle.std.specs.Prelude.{ℕ, List, ◌∷◌, drop, map, slice_index, Bool, true, false, Option, Some, None, unwrap_or, Result, Ok, Err}
use Rattle.std.specs.List.{filter_map}
use Rattle.unit_code.specs.declared.unit.Unit.{Unit}
use Rattle.unit_code.specs.declared.error.CodeError.{CodeError}
use Rattle.unit_code.specs.Errors.{error_number, error_word, error_kind}
use Rattle.unit_code.specs.Listing.{Listing}
use Rattle.unit_code.specs.Targets.{number_of as unit_number}
use Rattle.unit_code.specs.Units.{refusal, listed}
use Rattle.harbor_verify.specs.declared.error.VerifyError.{VerifyError}
use Rattle.harbor_verify.specs.Law.{error_word as verify_word, order}
use Rattle.harbor_verify.specs.Verdict.{refusal as verify_refusal, units_in}
use Rattle.harbor_verify.specs.Walks.{starts_in}
use Rattle.module_image.specs.declared.face.Face.{Face}
use Rattle.module_image.specs.declared.error.ImageError.{ImageError}
use Rattle.module_image.specs.Contents.{Contents}
use Rattle.module_image.specs.Reading.{image_of}
use Rattle.module_image.specs.Refusal.{number_of, value_of}
use Rattle.domain_model.specs.declared.refusal.Refusal.{Refusal}
use Rattle.domain_model.specs.declared.refusal.Refusal.TheVariants.{Image, Code, Verify}

-- A module that may be loaded: what it shows to others, the bytes of state that it asks for, the unit at which a
-- dispatch starts, the units at which the functions that it provides begin, its units, its constants, and whether its
-- loads are checked.
pub record Module : Type 0 where
  pub face : Face
  pub state_size : ℕ
  pub handler : ℕ
  pub entries : List ℕ
  pub units : List Unit
  pub constants : List ℕ
  pub sealed : Bool

-- What the line of a refused load tells of it: the number of the refusal; the number of its kind; its word, byte,
-- version or count; and the kind of a refused instruction, each 0 where there is none.
abbrev pub refusal_number : Refusal → ℕ
refusal_number (Image e) = 1
refusal_number (Code e) = 2
refusal_number (Verify e) = 3

abbrev pub refusal_kind : Refusal → ℕ
refusal_kind (Image e) = number_of e
refusal_kind (Code e) = unwrap_or (error_number e) 0
refusal_kind (Verify e) = order e

abbrev pub refusal_value : Refusal → ℕ
refusal_value (Image e) = value_of e
refusal_value (Code e) = error_word e
refusal_value (Verify e) = verify_word e

abbrev pub refusal_detail : Refusal → ℕ
refusal_detail (Image e) = 0
refusal_detail (Code e) = error_kind e
refusal_detail (Verify e) = 0

-- The file holds a module, or it is refused at each load.
abbrev pub Prep : Type 0
Prep = Result Module Refusal

-- The words at which a module is entered: its handler's, then those of the functions that it provides.
abbrev pub marks_of : Contents → List ℕ
marks_of c = c.handler ∷ map (λ p. p.word) c.face.provided.items

abbrev pub module_of : Contents → Listing → Module
module_of c l =
    record {
      face = c.face;
      state_size = c.state_size;
      handler = slice_index l.marks 0;
      entries = drop 1 l.marks;
      units = l.units;
      constants = c.constants;
      sealed = c.sealed;
    }

abbrev pub prepared_code : Contents → Option CodeError → Prep
prepared_code c (Some e) = Err (Code e)
prepared_code c None = Ok (module_of c (listed c.code (marks_of c) c.sealed))

-- What is told of rewritten words that are not refused: the units that they spell, where each unit's template starts,
-- and the numbers of the units whose templates start at the marks.
unfoldable pub spelled : List ℕ → List ℕ → Listing
spelled words marks = record {
  units = units_in words;
  places = starts_in words;
  marks = filter_map (unit_number (starts_in words)) marks;
}

abbrev pub prepared_words : Contents → Option VerifyError → Prep
prepared_words c (Some e) = Err (Verify e)
prepared_words c None = Ok (module_of c (spelled c.code (marks_of c)))

-- An image, which a rewriter made or none did.
abbrev pub prepared_contents : Bool → Contents → Prep
prepared_contents true c = prepared_words c (verify_refusal c.code (marks_of c) c.sealed)
prepared_contents false c = prepared_code c (refusal c.code (marks_of c) c.sealed)

abbrev pub prepared_image : Result Contents ImageError → Prep
prepared_image (Err e) = Err (Image e)
prepared_image (Ok c) = prepared_contents c.rewritten c

-- What the file comes to: a module, or the first refusal of its fields or of its code.
abbrev pub prepared : List ℕ → Prep
prepared bytes = prepared_image (image_of bytes)
