-- Templates side by side, read from the left.
use Rattle.std.specs.Prelude.{◌≡◌, ℕ, ◌+◌, ◌≤◌, Bool, List, [], ◌∷◌, ◌++◌, length, ⊤, ℤ, pos}
use Rattle.avr_isa.specs.declared.instruction.Instr.{Instr}
use Rattle.avr_isa.specs.declared.instruction.Instr.TheVariants.{Rjmp}
use Rattle.unit_code.specs.declared.form.Form.{Form}
use Rattle.unit_code.specs.declared.form.Form.TheVariants.{ShortSkip, ShortBranch}
use Rattle.unit_code.specs.Lengths.{instruction_length}
use Rattle.unit_code.specs.Spelled.{BeginWith}
use Rattle.unit_code.specs.Templates.{IsForm, MayStandIn, template}

-- The words are those of the instructions, one after the other.
abbrev pub AreWordsOf : List Instr → List ℕ → Type 0
AreWordsOf is words = BeginWith is words []

-- the number of words of instructions
abbrev pub words_in : List Instr → ℕ
words_in [] = 0
words_in (i ∷ is) = instruction_length i + words_in is

-- An RJMP comes first.
abbrev pub BeginsWithJump : List Instr → Type 0
BeginsWithJump is = (offset : ℤ) × (rest : List Instr) × (is ≡ Rjmp offset ∷ rest)

-- An RJMP over one word comes first.
abbrev pub BeginsWithJumpOver : List Instr → Type 0
BeginsWithJumpOver is = (rest : List Instr) × (is ≡ Rjmp (pos 1) ∷ rest)

-- A template of several instructions comes first.
abbrev pub BeginsWithSeveral : List Instr → Type 0
BeginsWithSeveral is = (f : Form) × (rest : List Instr) × IsForm f × (2 ≤ length (template f)) × (is ≡ template f ++ rest)

-- A short template is read so only where what is behind it does not make it the beginning of a long one. A skip may
-- pass over one instruction alone.
abbrev pub IsReadSo : Form → List Instr → Type 0
IsReadSo (ShortBranch set bit offset) behind = offset ≡ pos 1 → ¬ BeginsWithJump behind
IsReadSo (ShortSkip i) behind = (¬ BeginsWithJumpOver behind) × (¬ BeginsWithSeveral behind)
IsReadSo _ behind = ⊤

-- The instructions of an image that is sealed or not begin with the template of the form, and the rest is behind it.
pub record Stands (sealed : Bool) (f : Form) (is rest : List Instr) : Type 0 where
  pub kind : IsForm f
  pub guarded : MayStandIn sealed f
  pub words : is ≡ template f ++ rest
  pub read : IsReadSo f rest

-- The instructions begin with these templates, side by side, and the rest is behind them.
abbrev pub StandBy : Bool → List Form → List Instr → List Instr → Type 0
StandBy sealed [] is rest = is ≡ rest
StandBy sealed (f ∷ fs) is rest = (behind : List Instr) × Stands sealed f is behind × StandBy sealed fs behind rest

-- the number of words of a template, and of several
abbrev pub form_words : Form → ℕ
form_words f = words_in (template f)

abbrev pub forms_words : List Form → ℕ
forms_words [] = 0
forms_words (f ∷ fs) = form_words f + forms_words fs

-- where the templates start, from a place on
abbrev pub starts_from : ℕ → List Form → List ℕ
starts_from place [] = []
starts_from place (f ∷ fs) = place ∷ starts_from (place + form_words f) fs
