-- What code has to keep to be encoded, and the words that encode it.
use Rattle.std.specs.Prelude.{◌≡◌, ◌≢◌, ℕ, ◌+◌, ◌<◌, ◌^◌, ◌≤◌, sum_by, true, false, List, [], ◌∷◌, ◌++◌, length, slice_index, Option, Some, None, ⊤}
use Rattle.std.specs.List.{AllByRecursion}
use Rattle.avr_isa.specs.declared.instruction.Instr.{Instr}
use Rattle.avr_isa.specs.Operands.{IsBranchOffset, IsJumpOffset}
use Rattle.unit_code.specs.declared.unit.Unit.{Unit}
use Rattle.unit_code.specs.declared.unit.Unit.TheVariants.{Branch, Jump, LocalCall}
use Rattle.unit_code.specs.Proper.{IsOfKind}
use Rattle.unit_code.specs.Spelled.{AreInstructionsOf, BeginWith, Spell, offset_to}
use Rattle.module_image.specs.declared.face.Provided.{Provided}
use Rattle.avr_asm.specs.Rows.{Row, unit_words}
use Rattle.avr_asm.specs.Refusals.{goal_of, is_sealed, led, place_in, row_of}
use Rattle.module_image.specs.Spelling.{Image}
use Rattle.avr_asm.specs.Assembly.{contents_of, constants_of, word_of, handler_of, id_of, number_of, numbers_of, pairs_of, places_in, provided_of, subscribed_of, units_in, version_of}
use Rattle.avr_asm.specs.Text.{are_pairs}
use Rattle.mote_layout.specs.Memory.{bank_words}
use Rattle.mote_layout.specs.Limits.{provided_limit, subscribed_limit}
use Rattle.module_image.specs.Contents.{AreProvided, IsModuleId, IsSubscribed, IsVersion, constants_limit, first_version}
use Rattle.unit_code.specs.Proper.{IsProper}

-- The target is a unit that the instruction at the place reaches.
abbrev pub Reaches : List ℕ → ℕ → Unit → Type 0
Reaches firsts place (Branch set bit t) = (t < length firsts) × IsBranchOffset (offset_to place (slice_index firsts t))
Reaches firsts place (Jump t) = (t < length firsts) × IsJumpOffset (offset_to place (slice_index firsts t))
Reaches firsts place (LocalCall t) =
    (t < length firsts) × IsJumpOffset (offset_to place (slice_index firsts t)) × (slice_index firsts t ≢ place + 1)
Reaches firsts place _ = ⊤

-- the unit leads to the one with that number
abbrev pub HasTarget : ℕ → Unit → Type 0
HasTarget target (Branch set bit t) = t ≡ target
HasTarget target (Jump t) = t ≡ target
HasTarget target (LocalCall t) = t ≡ target
HasTarget target _ = ⊥

-- the first word of each unit, from a place on
abbrev pub places_from : ℕ → List Unit → List ℕ
places_from place [] = []
places_from place (u ∷ us) = place ∷ places_from (place + unit_words u) us

-- Each unit is of its kind and reaches its target.
abbrev pub AreEncodable : List ℕ → ℕ → List Unit → Type 0
AreEncodable firsts place [] = ⊤
AreEncodable firsts place (u ∷ us) = IsOfKind u × Reaches firsts place u × AreEncodable firsts (place + unit_words u) us

-- The words grew by an instruction.
pub record Grows (i : Instr) (old new : List ℕ) : Type 0 where
  pub added : List ℕ
  pub whole : new ≡ old ++ added
  pub begins : BeginWith (i ∷ []) added []

-- The words grew by a unit's instructions.
pub record GrowsBy (firsts : List ℕ) (place : ℕ) (u : Unit) (old new : List ℕ) : Type 0 where
  pub is : List Instr
  pub added : List ℕ
  pub whole : new ≡ old ++ added
  pub instructions : AreInstructionsOf firsts place u is
  pub begins : BeginWith is added []

abbrev pub IsNear : Option ℕ → Type 0
IsNear None = ⊤
IsNear (Some t) = t < 2 ^ 16

-- the targets of rows are numbers of 16 bits
abbrev pub AreNear : List Row → List Row → Type 0
AreNear all rs = AllByRecursion (λ r. IsNear (led all (goal_of r.says))) rs

-- the words at which provided functions begin are words of 16 bits
abbrev pub AreLow : List Provided → Type 0
AreLow ps = AllByRecursion (λ p. p.word < 2 ^ 16) ps

-- the units of rows, with their targets
abbrev pub own_units : List Row → List Unit
own_units all = units_in all (is_sealed all) all

-- What holds of rows that nothing is refused of.
pub record IsClear (all : List Row) : Type 0 where
  pub near : AreNear all all
  pub few : sum_by unit_words (own_units all) ≤ bank_words
  pub low : AllByRecursion (λ first. first < bank_words) (places_from 0 (own_units all))
  pub encodable : AreEncodable (places_from 0 (own_units all)) 0 (own_units all)
  pub places : places_in all ≡ places_from 0 (own_units all)
  pub proper : IsProper (own_units all) (is_sealed all)
  pub handler : number_of all (handler_of all) < length (own_units all)
  pub provided : AllByRecursion (λ number. number < length (own_units all)) (numbers_of all all)
  pub words : (k : ℕ) → k < length (own_units all) → slice_index (places_in all) k ≡ place_in (row_of all k)
  pub id : IsModuleId (id_of all)
  pub version : IsVersion (version_of all)
  pub plain : version_of all ≡ first_version → (is_sealed all ≡ false) × (pairs_of all ≡ [])
  pub pairs : are_pairs (pairs_of all) ≡ true
  pub constants_few : length (constants_of all) ≤ constants_limit
  pub provided_low : AreLow (provided_of all all)
  pub handler_low : word_of all (handler_of all) < 2 ^ 16
  pub provided_few : length (provided_of all all) ≤ provided_limit
  pub subscribed_few : length (subscribed_of all) ≤ subscribed_limit
  pub provided_rise : AreProvided 0 (provided_of all all)
  pub subscribed_own : AllByRecursion IsSubscribed (subscribed_of all)

-- The bytes are the file of the rows, with the instructions of their units.
pub record IsWritten (all : List Row) (bytes : List ℕ) : Type 0 where
  pub code : List ℕ
  pub spelled : Spell (places_from 0 (own_units all)) 0 (places_from 0 (own_units all)) (own_units all) code
  pub image : Image bytes (contents_of all code)
