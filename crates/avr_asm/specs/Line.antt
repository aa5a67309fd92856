-- What a line of a module's text says, and how it is written.
use Rattle.std.specs.Prelude.{◌≡◌, ℕ, ◌*◌, ◌<◌, ◌≤◌, true, false, List, [], ◌++◌, length, codes, decimal, ⊤}
use Rattle.unit_code.specs.declared.unit.Unit.{Unit}
use Rattle.unit_code.specs.declared.unit.Unit.TheVariants.{Branch, Jump, LocalCall}
use Rattle.unit_code.specs.Proper.{IsGuardedSo, IsOfKind}
use Rattle.avr_list.specs.Lines.{unit_text}
use Rattle.avr_list.specs.Operands.{with_operand, with_operands}
use Rattle.mote_base.specs.Words.{IsWord}
use Rattle.module_image.specs.Contents.{IsModuleId, IsVersion, constants_limit}
use Rattle.avr_asm.specs.Text.{are_pairs, is_goal, is_name, is_prototype}

-- A goal is what stands behind the dot of a target, and bytes are pairs of hexadecimal digits. A unit stands with target 0,
-- and with its goal beside it; a unit without a target, with none.
pub data Line : Type 0 where
  Module : (id : ℕ) → Line
  Version : (version : ℕ) → Line
  State : (size : ℕ) → Line
  Handler : (goal : List ℕ) → Line
  Sealed : Line
  Provides : (func : ℕ) → (proto : List ℕ) → (goal : List ℕ) → Line
  Subscribes : (provider : ℕ) → (func : ℕ) → (proto : List ℕ) → Line
  Const : (pairs : List ℕ) → Line
  Code : Line
  Label : (name : List ℕ) → Line
  Item : (unit : Unit) → (goal : List ℕ) → Line

-- the target as it is written
abbrev pub dotted : List ℕ → List ℕ
dotted goal = codes "." ++ goal

-- The text of a unit is the listing's, with the goal behind the dot of a target.
abbrev pub item_text : Unit → List ℕ → List ℕ
item_text (Branch true bit u) goal = with_operands (codes "brbs") (decimal bit) (dotted goal)
item_text (Branch false bit u) goal = with_operands (codes "brbc") (decimal bit) (dotted goal)
item_text (Jump u) goal = with_operand (codes "rjmp") (dotted goal)
item_text (LocalCall u) goal = with_operand (codes "rcall") (dotted goal)
item_text u goal = unit_text u

abbrev pub line_text : Line → List ℕ
line_text (Module id) = codes "module " ++ decimal id
line_text (Version version) = codes "version " ++ decimal version
line_text (State size) = codes "state " ++ decimal size
line_text (Handler goal) = codes "handler ." ++ goal
line_text Sealed = codes "sealed"
line_text (Provides func proto goal) = codes "provides " ++ (decimal func ++ (codes " " ++ (proto ++ (codes " ." ++ goal))))
line_text (Subscribes provider func proto) = codes "subscribes " ++ (decimal provider ++ (codes " " ++ (decimal func ++ (codes " " ++ proto))))
line_text (Const pairs) = codes "const " ++ pairs
line_text Code = codes "code"
line_text (Label name) = name ++ codes ":"
line_text (Item unit goal) = item_text unit goal

-- with its line feed
abbrev pub ended : Line → List ℕ
ended l = line_text l ++ codes "\n"

-- A unit with a target stands with target 0 and has a goal, and the others have none.
abbrev pub HasGoal : Unit → List ℕ → Type 0
HasGoal (Branch set bit u) goal = (u ≡ 0) × (is_goal goal ≡ true)
HasGoal (Jump u) goal = (u ≡ 0) × (is_goal goal ≡ true)
HasGoal (LocalCall u) goal = (u ≡ 0) × (is_goal goal ≡ true)
HasGoal u goal = goal ≡ []

-- The rules of a line by itself. A load of a line is plain: whether it is checked, the whole text says.
abbrev pub Rules : Line → Type 0
Rules (Module id) = IsModuleId id
Rules (Version version) = IsVersion version
Rules (State size) = IsWord size
Rules (Handler goal) = is_goal goal ≡ true
Rules Sealed = ⊤
Rules (Provides func proto goal) = (func < 256) × (is_prototype proto ≡ true) × (is_goal goal ≡ true)
Rules (Subscribes provider func proto) = IsModuleId provider × (func < 256) × (is_prototype proto ≡ true)
Rules (Const pairs) = (are_pairs pairs ≡ true) × (1 ≤ length pairs) × (length pairs ≤ 2 * constants_limit)
Rules Code = ⊤
Rules (Label name) = is_name name ≡ true
Rules (Item unit goal) = IsOfKind unit × IsGuardedSo false unit × HasGoal unit goal

-- The bytes, with their line feed, say that line: they are its text, and it keeps its rules.
pub record Says (text : List ℕ) (l : Line) : Type 0 where
  pub spelled : text ≡ ended l
  pub rules : Rules l
