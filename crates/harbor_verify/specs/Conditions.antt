-- The conditions under which words spell no units.
use Rattle.std.specs.Prelude.{◌≡◌, ◌≢◌, ◌⊎◌, ℕ, ◌+◌, ◌<◌, min, true, List, [], ◌∷◌, ◌++◌, drop, Option, Some, None, Bool, ⊤, ℤ}
use Rattle.std.specs.List.{Contains}
use Rattle.avr_isa.specs.declared.instruction.Instr.{Instr}
use Rattle.avr_isa.specs.declared.instruction.Instr.TheVariants as instr
use Rattle.mote_layout.specs.Memory.{bank_words}
use Rattle.unit_code.specs.Beside.{AreWordsOf, StandBy, Stands, forms_words, starts_from, words_in}
use Rattle.unit_code.specs.Ends.{goes_on, long_length}
use Rattle.unit_code.specs.Spelled.{BeginWith}
use Rattle.unit_code.specs.Spelling.{Lays, start_of}
use Rattle.unit_code.specs.Targets.{reached}
use Rattle.unit_code.specs.Templates.{template}
use Rattle.unit_code.specs.declared.form.Form.{Form}
use Rattle.unit_code.specs.declared.form.Form.TheVariants.{Whole, ShortSkip, LongSkip}
use Rattle.unit_code.specs.declared.unit.Unit.{Unit}
use Rattle.unit_code.specs.declared.unit.Unit.TheVariants.{SpGroup}
use Rattle.harbor_verify.specs.declared.error.VerifyError.{VerifyError}
use Rattle.harbor_verify.specs.declared.error.VerifyError.TheVariants.{Word, Guard, Target, FallsOff, Empty, TooLong, Entry}
use Rattle.harbor_verify.specs.Walks.{fit_first}

-- the offset of a branch or an RJMP
abbrev pub offset_by : Instr → Option ℤ
offset_by (instr.Rjmp offset) = Some offset
offset_by (instr.Brbs bit offset) = Some offset
offset_by (instr.Brbc bit offset) = Some offset
offset_by i = None

-- A branch or an RJMP with the offset, among instructions that begin at a place, stands at another.
pub record IsJumpAt (is : List Instr) (place at : ℕ) (offset : ℤ) : Type 0 where
  pub front : List Instr
  pub jump : Instr
  pub back : List Instr
  pub split : is ≡ front ++ jump ∷ back
  pub offset_of : offset_by jump ≡ Some offset
  pub there : at ≡ place + words_in front

-- It leads to no template's start.
abbrev pub IsLost : List ℕ → ℕ → ℤ → Type 0
IsLost starts at offset = (word : ℕ) → reached at offset ≡ Some word → ¬ Contains starts word

abbrev pub IsGroup : Form → Type 0
IsGroup (Whole (SpGroup with_sreg)) = ⊤
IsGroup f = ⊥

-- Behind a skip stand two templates, of which the first is no group's.
abbrev pub CanSkip : List Form → Type 0
CanSkip (next ∷ other ∷ behind) = ¬ IsGroup next
CanSkip behind = ⊥

abbrev pub IsSkip : Form → Type 0
IsSkip (ShortSkip i) = ⊤
IsSkip (LongSkip i offset) = ⊤
IsSkip f = ⊥

-- The second jump of a long skip, its third word, leads elsewhere than to the n-th start.
abbrev pub Overshoots : List ℕ → ℕ → ℕ → ℕ → Form → Type 0
Overshoots starts n place at (LongSkip i offset) = (at ≡ place + 2) × (reached at offset ≢ Some (start_of starts n))
Overshoots starts n place at f = ⊥

-- What leads astray in the template of the n-th form, which starts at a place, before others: a branch or an RJMP that
-- leads to no start, a skip that can't skip, a long skip that leads elsewhere than over one template.
abbrev pub LeadsAstray : List ℕ → ℕ → ℕ → Form → List Form → ℕ → Type 0
LeadsAstray starts n place f behind at =
    ((offset : ℤ) × IsJumpAt (template f) place at offset × IsLost starts at offset)
    ⊎ ((IsSkip f × (¬ CanSkip behind) × (at ≡ place)) ⊎ Overshoots starts (n + 2) place at f)

-- The words lay units of which this holds, proper or not.
abbrev pub LaySome : List ℕ → Bool → (List Unit → List ℕ → Type 0) → Type 0
LaySome words sealed P = (units : List Unit) × (starts : List ℕ) × Lays words sealed units starts × P units starts

-- The condition holds of the words and marks of an image that is sealed or not, with the place or count that it names.
abbrev pub Holds : List ℕ → List ℕ → Bool → VerifyError → Type 0
Holds words marks sealed Empty = words ≡ []
Holds words marks sealed FallsOff = LaySome words sealed (λ units starts. goes_on units ≡ true)
Holds words marks sealed (TooLong count) =
    LaySome words sealed (λ units starts. (bank_words < long_length units) × (count ≡ min (long_length units) 65535))
Holds words marks sealed (Entry mark) = LaySome words sealed (λ units starts. Contains marks mark × (¬ Contains starts mark))
Holds words marks sealed (Word at) =
    (is : List Instr) × (rest : List ℕ) × BeginWith is words rest × (rest ≢ []) × (fit_first sealed rest ≡ None) × (at ≡ words_in is)
Holds words marks sealed (Guard at) =
    (is : List Instr) × (fs : List Form) × (rest : List Instr) × AreWordsOf is words × StandBy sealed fs is rest × (rest ≢ [])
    × ((f : Form) (behind : List Instr) → ¬ Stands sealed f rest behind) × (at ≡ forms_words fs)
Holds words marks sealed (Target at) =
    (is : List Instr) × (fs : List Form) × (n : ℕ) × (f : Form) × (behind : List Form) × AreWordsOf is words × StandBy sealed fs is []
    × (drop n fs ≡ f ∷ behind) × LeadsAstray (starts_from 0 fs) n (start_of (starts_from 0 fs) n) f behind at
