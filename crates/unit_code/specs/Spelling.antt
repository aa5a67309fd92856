-- Rewritten code: which words spell which units.
use Rattle.std.specs.Prelude.{◌≡◌, ℕ, ◌+◌, ◌&&◌, Bool, true, false, not, List, [], ◌∷◌, length, slice_index, ⊤, ℤ}
use Rattle.std.specs.List.{AllByRecursion, Contains, flat_map}
use Rattle.avr_isa.specs.Operands.{IsBranchOffset}
use Rattle.avr_isa.specs.declared.instruction.Instr.{Instr}
use Rattle.unit_code.specs.declared.form.Form.{Form}
use Rattle.unit_code.specs.declared.form.Form.TheVariants.{Whole, ShortSkip, LongSkip, ShortBranch, LongBranch, Jumping, Calling}
use Rattle.unit_code.specs.declared.unit.Unit.{Unit}
use Rattle.unit_code.specs.declared.unit.Unit.TheVariants.{Plain, Reserve, Skip, Branch, Jump, LocalCall, KernelCall, SlotCall, SlotIndirect, Return}
use Rattle.unit_code.specs.declared.unit.Shape.{Shape}
use Rattle.unit_code.specs.declared.unit.Shape.TheVariants.{Long, Short}
use Rattle.unit_code.specs.Beside.{AreWordsOf, StandBy}
use Rattle.unit_code.specs.Lengths.{spelled_length}
use Rattle.unit_code.specs.Proper.{IsProper, LeadsBelow, SkipsAreSound}
use Rattle.unit_code.specs.Spelled.{offset_to}
use Rattle.unit_code.specs.Templates.{template}

-- where the templates of units in these shapes start, from a place on
abbrev pub starts_after : ℕ → List Unit → List Shape → List ℕ
starts_after place [] shapes = []
starts_after place (u ∷ us) [] = []
starts_after place (u ∷ us) (s ∷ ss) = place ∷ starts_after (place + spelled_length u s) us ss

abbrev pub starts_of : List Unit → List Shape → List ℕ
starts_of us shapes = starts_after 0 us shapes

abbrev pub start_of : List ℕ → ℕ → ℕ
start_of starts u = slice_index starts u

abbrev pub skip_form : Shape → Instr → ℤ → Form
skip_form Long i over = LongSkip i over
skip_form Short i over = ShortSkip i

abbrev pub branch_form : Shape → Bool → ℕ → ℤ → ℤ → Form
branch_form Long set bit jumped branched = LongBranch set bit jumped
branch_form Short set bit jumped branched = ShortBranch set bit branched

-- The form of the i-th unit, whose template starts at a place, among templates with these starts. The jump of a long
-- skip is the third word of its template and leads over the next unit, that of a long branch is the second word. The
-- jump of a local call stands behind the call of its entry.
abbrev pub form_of : List ℕ → ℕ → ℕ → Unit → Shape → Form
form_of starts i at (Skip x) shape = skip_form shape x (offset_to (at + 2) (start_of starts (i + 2)))
form_of starts i at (Branch set bit u) shape =
    branch_form shape set bit (offset_to (at + 1) (start_of starts u)) (offset_to at (start_of starts u))
form_of starts i at (Jump u) shape = Jumping (offset_to at (start_of starts u))
form_of starts i at (LocalCall u) shape = Calling (offset_to (at + 2) (start_of starts u))
form_of starts i at u shape = Whole u

-- the forms of units from the i-th on, in these shapes
abbrev pub forms_from : List ℕ → ℕ → List Unit → List Shape → List Form
forms_from starts i [] shapes = []
forms_from starts i (u ∷ us) [] = []
forms_from starts i (u ∷ us) (s ∷ ss) = form_of starts i (start_of starts i) u s ∷ forms_from starts (i + 1) us ss

-- The words are the templates of the units, in these shapes, one after the other, and these are their starts. Where
-- a template leads to a unit, there is one.
pub record AreSpelledBy (words : List ℕ) (sealed : Bool) (shapes : List Shape) (units : List Unit) (starts : List ℕ) : Type 0 where
  pub shaped : length shapes ≡ length units
  pub places : starts ≡ starts_of units shapes
  pub instructions : List Instr
  pub spelled : AreWordsOf instructions words
  pub templates : StandBy sealed (forms_from starts 0 units shapes) instructions []
  pub targets : AllByRecursion (LeadsBelow (length units)) units
  pub skips : SkipsAreSound units

-- The words spell the units, whether or not the list is proper: in some shapes they are their templates, side by side.
abbrev pub Lays : List ℕ → Bool → List Unit → List ℕ → Type 0
Lays words sealed units starts = (shapes : List Shape) × AreSpelledBy words sealed shapes units starts

-- The words, entered at the marks, spell the units of an image that is sealed or not, with these starts of templates.
pub record Spells (words marks : List ℕ) (sealed : Bool) (units : List Unit) (starts : List ℕ) : Type 0 where
  pub lays : Lays words sealed units starts
  pub entered : AllByRecursion (λ mark. Contains starts mark) marks
  pub proper : IsProper units sealed

-- The words are the templates of the units in these shapes, one after the other.
pub record AreTemplatesOf (units : List Unit) (shapes : List Shape) (words : List ℕ) : Type 0 where
  pub instructions : List Instr
  pub spelled : AreWordsOf instructions words
  pub templates : instructions ≡ flat_map template (forms_from (starts_of units shapes) 0 units shapes)

-- The unit may have the shape, with these starts: only a skip may be short, and a branch that reaches its target.
abbrev pub MayHave : List ℕ → ℕ → Unit → Shape → Type 0
MayHave starts at u Long = ⊤
MayHave starts at (Skip x) Short = ⊤
MayHave starts at (Branch set bit u) Short = IsBranchOffset (offset_to at (start_of starts u))
MayHave starts at _ Short = ⊥

-- Each unit from the i-th on may have its shape.
abbrev pub AreShapesFrom : List ℕ → ℕ → List Unit → List Shape → Type 0
AreShapesFrom starts i [] [] = ⊤
AreShapesFrom starts i [] (s ∷ ss) = ⊥
AreShapesFrom starts i (u ∷ us) [] = ⊥
AreShapesFrom starts i (u ∷ us) (s ∷ ss) = MayHave starts (start_of starts i) u s × AreShapesFrom starts (i + 1) us ss

-- There is a shape for each unit, and each unit may have its shape with the starts that these shapes give.
abbrev pub AreShapesOf : List Unit → List Shape → Type 0
AreShapesOf us shapes = AreShapesFrom (starts_of us shapes) 0 us shapes

abbrev pub is_short : Shape → Bool
is_short Long = false
is_short Short = true

-- whether the template of a unit in this shape is one instruction
abbrev pub is_single : Unit → Shape → Bool
is_single (Plain i) shape = true
is_single Reserve shape = true
is_single (Jump u) shape = true
is_single (KernelCall n) shape = true
is_single (SlotCall i) shape = true
is_single SlotIndirect shape = true
is_single Return shape = true
is_single (Skip i) shape = is_short shape
is_single (Branch set bit u) shape = is_short shape
is_single _ shape = false

abbrev pub is_jump : Unit → Bool
is_jump (Jump u) = true
is_jump _ = false

-- whether a jump comes first
abbrev pub begins_with_jump : List Unit → Bool
begins_with_jump [] = false
begins_with_jump (u ∷ us) = is_jump u

-- whether the template of the first unit is one instruction
abbrev pub begins_with_single : List Unit → List Shape → Bool
begins_with_single (u ∷ us) (s ∷ ss) = is_single u s
begins_with_single _ _ = false

-- Whether the short template of a unit is read as one before these units: no jump comes first, which would make it the
-- beginning of a long one, and a skip passes over one instruction.
abbrev pub reads_short : Unit → List Unit → List Shape → Bool
reads_short (Skip x) us ss = not (begins_with_jump us) && begins_with_single us ss
reads_short _ us ss = not (begins_with_jump us)

-- Each short template is read as one.
abbrev pub AreReadSo : List Unit → List Shape → Type 0
AreReadSo [] shapes = ⊤
AreReadSo (u ∷ us) [] = ⊤
AreReadSo (u ∷ us) (Long ∷ ss) = AreReadSo us ss
AreReadSo (u ∷ us) (Short ∷ ss) = (reads_short u us ss ≡ true) × AreReadSo us ss
