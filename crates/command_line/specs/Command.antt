-- The command that the words of the command line are, and the files that it takes.
use Rattle.std.specs.Prelude.{ℕ, ◌≡◌, ◌≤◌, ◌↔◌, ◌+◌, ◌&&◌, ◌==◌, nat_lt, nat_le, if◌then◌else◌, Bool, true, false, IsTrue, List, [], ◌∷◌, ◌++◌, length, slice_index, codes, Option, Some, None, unwrap_or}
use Rattle.std.specs.List.{AllByRecursion}
use Rattle.std.specs.Option.{option_map}
use Rattle.std.specs.Str.{bytes_eq}
use Rattle.mote_base.specs.Numbers.{number_in}
use Rattle.mote_layout.specs.Limits.{image_limit, images_limit, script_limit, unit_limit, default_units, handler_limit, default_handler_units}
use Rattle.command_line.specs.declared.command.Kind.{Kind}
use Rattle.command_line.specs.declared.command.Kind.TheVariants as kinds
use Rattle.command_line.specs.declared.command.Tool.{Tool}
use Rattle.command_line.specs.declared.command.Tool.TheVariants.{Listing, Upgrade, Seal, Rewriting, Verdict, Assembly, Source}
use Rattle.command_line.specs.declared.command.Setting.{Setting}
use Rattle.command_line.specs.declared.command.Setting.TheVariants.{Units, Handler}
use Rattle.command_line.specs.declared.command.Place.{Place}
use Rattle.command_line.specs.declared.command.Place.TheVariants.{Options, Value, Operands}

-- What is to be done, and the names of the files that it takes, in their order.
pub record Command : Type 0 where
  pub kind : Kind
  pub files : List (List ℕ)

-- the seeds from which inputs are made: all that have 32 bits
abbrev pub greatest_seed : ℕ
greatest_seed = 4294967295

-- whether it takes so many files: `run` a script and 1 to 64 images, `gen` none, and each other command an image
abbrev pub takes : Kind → ℕ → Bool
takes (kinds.Run units handler words) count = nat_le 2 count && nat_le count (1 + images_limit)
takes (kinds.Tool tool) count = count == 1
takes (kinds.Generation seed) count = count == 0

-- The most bytes of a tool's file: those of an image, and of the text of a module those of a script.
abbrev pub tool_limit : Tool → ℕ
tool_limit Assembly = script_limit
tool_limit _ = image_limit

-- The most bytes of the command's file with that number, counted from 0: 1,048,576 of a script and 65,536
-- of an image. (`gen` has no file.)
abbrev pub limit_of : Kind → ℕ → ℕ
limit_of (kinds.Run units handler words) number = if number == 0 then script_limit else image_limit
limit_of (kinds.Tool tool) number = tool_limit tool
limit_of (kinds.Generation seed) number = 0

-- The limits of a run are in their ranges, and so is a seed.
abbrev pub IsWithinLimits : Kind → Type 0
IsWithinLimits (kinds.Run units handler words) = (1 ≤ units) × (units ≤ unit_limit) × (1 ≤ handler) × (handler ≤ handler_limit)
IsWithinLimits (kinds.Tool tool) = Unit {0}
IsWithinLimits (kinds.Generation seed) = seed ≤ greatest_seed

-- the tool of that name
abbrev pub tool_of : List ℕ → Option Tool
tool_of verb =
    if bytes_eq verb (codes "list")
    then Some Listing
    else (if bytes_eq verb (codes "upgrade") then Some Upgrade
    else (if bytes_eq verb (codes "seal") then Some Seal
    else (if bytes_eq verb (codes "rewrite") then Some Rewriting
    else (if bytes_eq verb (codes "verify") then Some Verdict
    else (if bytes_eq verb (codes "asm") then Some Assembly
    else (if bytes_eq verb (codes "source") then Some Source else None))))))

abbrev pub without_options : Option Tool → Option ℕ → Option ℕ → Bool → Option Kind
without_options (Some tool) None None false = Some (kinds.Tool tool)
without_options _ _ _ _ = None

-- `gen` has one operand, the seed, in decimal without leading zeros, and no options.
abbrev pub generation : Option ℕ → Option ℕ → Bool → List (List ℕ) → Option Kind
generation None None false (seed ∷ []) = option_map (λ n. kinds.Generation n) (number_in 0 greatest_seed seed)
generation _ _ _ _ = None

-- The command of that name with these limits, each where it is given, with the flag or without it, and with these
-- operands. `run` alone takes limits and the flag, and has limits of its own where none is given.
abbrev pub kind_of : List ℕ → Option ℕ → Option ℕ → Bool → List (List ℕ) → Option Kind
kind_of verb units handler words operands =
    if bytes_eq verb (codes "run")
    then Some (kinds.Run (unwrap_or units default_units) (unwrap_or handler default_handler_units) words)
    else (if bytes_eq verb (codes "gen")
    then generation units handler words operands
    else without_options (tool_of verb) units handler words)

-- The operands that name files: all, but of `gen`.
abbrev pub files_of : Kind → List (List ℕ) → List (List ℕ)
files_of (kinds.Run units handler words) operands = operands
files_of (kinds.Tool tool) operands = operands
files_of (kinds.Generation seed) operands = []

-- The words.

-- The word begins with `-` (45) and has more than one character.
abbrev pub is_option : List ℕ → Bool
is_option word = nat_lt 1 (length word) && (slice_index word 0 == 45)

-- the word that ends the options
abbrev pub end_of_options : List ℕ
end_of_options = codes "--"

-- an option, where its value is the next word
abbrev pub name_of : Setting → List ℕ
name_of Units = codes "--units"
name_of Handler = codes "--handler"

-- an option, as its value stands behind it in one word
abbrev pub front_of : Setting → List ℕ
front_of Units = codes "--units="
front_of Handler = codes "--handler="

-- the flag: an option without a value, by which a run tells the words that it runs
abbrev pub flag : List ℕ
flag = codes "--words"

abbrev pub greatest : Setting → ℕ
greatest Units = unit_limit
greatest Handler = handler_limit

-- The value that a text gives: 1 to the greatest, in decimal without leading zeros.
abbrev pub value_of : Setting → List ℕ → Option ℕ
value_of setting text = number_in 1 (greatest setting) text

-- The rules.

-- What a word of a command says, or two of them: it is an operand, the flag, or an option with its value, in one word
-- or in two.
pub data Item : Type 0 where
  Operand : List ℕ → Item
  Flag : Item
  Joined : Setting → List ℕ → ℕ → Item
  Apart : Setting → List ℕ → ℕ → Item

abbrev pub words_of : Item → List (List ℕ)
words_of (Operand word) = word ∷ []
words_of Flag = flag ∷ []
words_of (Joined setting text value) = (front_of setting ++ text) ∷ []
words_of (Apart setting text value) = name_of setting ∷ text ∷ []

-- An operand does not look like an option, and the text of a value gives it.
abbrev pub IsItem : Item → Type 0
IsItem (Operand word) = is_option word ≡ false
IsItem Flag = Unit {0}
IsItem (Joined setting text value) = value_of setting text ≡ Some value
IsItem (Apart setting text value) = value_of setting text ≡ Some value

abbrev pub written : List Item → List (List ℕ)
written [] = []
written (item ∷ items) = words_of item ++ written items

abbrev pub operand_of : Item → List (List ℕ)
operand_of (Operand word) = word ∷ []
operand_of Flag = []
operand_of (Joined setting text value) = []
operand_of (Apart setting text value) = []

abbrev pub operands : List Item → List (List ℕ)
operands [] = []
operands (item ∷ items) = operand_of item ++ operands items

abbrev pub value_for : Setting → Setting → ℕ → List ℕ
value_for Units Units value = value ∷ []
value_for Handler Handler value = value ∷ []
value_for _ _ value = []

abbrev pub value_in : Setting → Item → List ℕ
value_in setting (Operand word) = []
value_in setting Flag = []
value_in setting (Joined other text value) = value_for setting other value
value_in setting (Apart other text value) = value_for setting other value

-- the values that are given to an option, in their order
abbrev pub values : Setting → List Item → List ℕ
values setting [] = []
values setting (item ∷ items) = value_in setting item ++ values setting items

abbrev pub none_or_one : Option ℕ → List ℕ
none_or_one None = []
none_or_one (Some value) = value ∷ []

abbrev pub flag_in : Item → ℕ
flag_in (Operand word) = 0
flag_in Flag = 1
flag_in (Joined setting text value) = 0
flag_in (Apart setting text value) = 0

-- how often the flag stands
abbrev pub flags : List Item → ℕ
flags [] = 0
flags (item ∷ items) = flag_in item + flags items

abbrev pub zero_or_one : Bool → ℕ
zero_or_one false = 0
zero_or_one true = 1

-- the end of the options with the words behind it, where it stands
abbrev pub ended : Option (List (List ℕ)) → List (List ℕ)
ended None = []
ended (Some behind) = end_of_options ∷ behind

-- all operands, those behind the end of the options last
abbrev pub all_operands : List Item → Option (List (List ℕ)) → List (List ℕ)
all_operands items behind = operands items ++ unwrap_or behind []

-- The words are this command. The first names it, and behind it stand operands and options in any order, and then maybe
-- the end of the options, behind which every word is an operand. Each option stands at most once, and so does the flag;
-- its command takes it; and the command takes as many files as its operands name, and `gen` the seed that its operand
-- is.
pub record IsCommand (words : List (List ℕ)) (command : Command) : Type 0 where
  pub verb : List ℕ
  pub items : List Item
  pub behind : Option (List (List ℕ))
  pub words_are : words ≡ verb ∷ (written items ++ ended behind)
  pub each : AllByRecursion IsItem items
  pub units : Option ℕ
  pub units_once : none_or_one units ≡ values Units items
  pub handler : Option ℕ
  pub handler_once : none_or_one handler ≡ values Handler items
  pub flagged : Bool
  pub flagged_once : zero_or_one flagged ≡ flags items
  pub named : kind_of verb units handler flagged (all_operands items behind) ≡ Some command.kind
  pub files_are : command.files ≡ files_of command.kind (all_operands items behind)
  pub number : IsTrue (takes command.kind (length command.files))

-- The words, read from the left.

-- What the words say up to one of them, and where the next one stands.
pub record Given : Type 0 where
  pub place : Place
  pub units : Option ℕ
  pub handler : Option ℕ
  pub words : Bool
  pub operands : List (List ℕ)

abbrev pub nothing_given : Given
nothing_given = record { place = Options; units = None; handler = None; words = false; operands = [] }

abbrev pub units_given : Option ℕ → ℕ → Given → Option Given
units_given None value g = Some (record { place = Options; units = Some value; handler = g.handler; words = g.words; operands = g.operands })
units_given (Some before) value g = None

abbrev pub handler_given : Option ℕ → ℕ → Given → Option Given
handler_given None value g = Some (record { place = Options; units = g.units; handler = Some value; words = g.words; operands = g.operands })
handler_given (Some before) value g = None

-- An option has its value, where it had none.
abbrev pub with_value : Setting → Option ℕ → Given → Option Given
with_value setting None g = None
with_value Units (Some value) g = units_given g.units value g
with_value Handler (Some value) g = handler_given g.handler value g

-- The flag stands, where it didn't yet.
abbrev pub flag_given : Bool → Given → Option Given
flag_given false g = Some (record { place = Options; units = g.units; handler = g.handler; words = true; operands = g.operands })
flag_given true g = None

-- one more operand, where a command may have as many
abbrev pub with_operand : List ℕ → Given → Option Given
with_operand word g =
    if nat_le (length g.operands) images_limit
    then Some (record { place = g.place; units = g.units; handler = g.handler; words = g.words; operands = g.operands ++ word ∷ [] })
    else None

abbrev pub with_place : Place → Given → Given
with_place place g = record { place = place; units = g.units; handler = g.handler; words = g.words; operands = g.operands }

-- what stands behind such a front
abbrev pub behind_front : List ℕ → List ℕ → Option (List ℕ)
behind_front [] word = Some word
behind_front (f ∷ fs) [] = None
behind_front (f ∷ fs) (c ∷ cs) = if f == c then behind_front fs cs else None

abbrev pub with_joined : Option (List ℕ) → Option (List ℕ) → Given → Option Given
with_joined (Some text) other g = with_value Units (value_of Units text) g
with_joined None (Some text) g = with_value Handler (value_of Handler text) g
with_joined None None g = None

abbrev pub with_option : List ℕ → Given → Option Given
with_option word g =
    if bytes_eq word (name_of Units) then Some (with_place (Value Units) g)
    else (if bytes_eq word (name_of Handler) then Some (with_place (Value Handler) g)
    else (if bytes_eq word flag then flag_given g.words g
    else with_joined (behind_front (front_of Units) word) (behind_front (front_of Handler) word) g))

abbrev pub with_any : List ℕ → Given → Option Given
with_any word g =
    if bytes_eq word end_of_options then Some (with_place Operands g)
    else (if is_option word then with_option word g else with_operand word g)

abbrev pub with_word : Place → List ℕ → Given → Option Given
with_word Options word g = with_any word g
with_word (Value setting) word g = with_value setting (value_of setting word) g
with_word Operands word g = with_operand word g

abbrev pub with_next : List ℕ → Option Given → Option Given
with_next word None = None
with_next word (Some g) = with_word g.place word g

abbrev pub given_by : List (List ℕ) → Option Given → Option Given
given_by [] g = g
given_by (word ∷ words) g = given_by words (with_next word g)

abbrev pub with_files : Option Kind → List (List ℕ) → Option Command
with_files None operands = None
with_files (Some kind) operands =
    if takes kind (length (files_of kind operands)) then Some (record { kind = kind; files = files_of kind operands }) else None

-- No option waits for its value where the words end.
abbrev pub command_at : Place → List ℕ → Given → Option Command
command_at Options verb g = with_files (kind_of verb g.units g.handler g.words g.operands) g.operands
command_at (Value setting) verb g = None
command_at Operands verb g = with_files (kind_of verb g.units g.handler g.words g.operands) g.operands

abbrev pub command_with : List ℕ → Option Given → Option Command
command_with verb None = None
command_with verb (Some g) = command_at g.place verb g

abbrev pub command_of : List (List ℕ) → Option Command
command_of [] = None
command_of (verb ∷ words) = command_with verb (given_by words (Some nothing_given))

abbrev pub CommandsAreByRules : Type 0
CommandsAreByRules = (words : List (List ℕ)) (command : Command) → (command_of words ≡ Some command) ↔ IsCommand words command

abbrev pub CommandsAreWithinLimits : Type 0
CommandsAreWithinLimits = (words : List (List ℕ)) (command : Command) → command_of words ≡ Some command → IsWithinLimits command.kind
