-- Words read from the left, as instructions and as templates.
use Rattle.std.specs.Prelude.{ℕ, zero, suc, ◌==◌, Bool, List, [], ◌∷◌, drop, length, Option, Some, None, if◌then◌else◌}
use Rattle.avr_isa.specs.declared.instruction.Instr.{Instr}
use Rattle.unit_code.specs.Beside.{form_words, forms_words, starts_from, words_in}
use Rattle.unit_code.specs.Lengths.{instruction_length}
use Rattle.unit_code.specs.declared.form.Form.{Form}
use Rattle.harbor_verify.specs.Decoding.{instruction_first, may_appear}
use Rattle.harbor_verify.specs.Reading.{allowed, template_first}

abbrev pub and_behind : {A : Type 0} → Option A → (A → List A) → List A
and_behind None behind = []
and_behind (Some x) behind = x ∷ behind x

-- At most so many pieces of words, from the left: what comes first, and how many words it takes, is given.
unfoldable pub pieces_up_to : {A : Type 0} → (List ℕ → Option A) → (A → ℕ) → ℕ → List ℕ → List A
pieces_up_to first count zero words = []
pieces_up_to first count (suc n) words = and_behind (first words) (λ x. pieces_up_to first count n (drop (count x) words))

-- All pieces of words, up to a place where none comes first.
abbrev pub pieces : {A : Type 0} → (List ℕ → Option A) → (A → ℕ) → List ℕ → List A
pieces first count words = pieces_up_to first count (length words) words

-- the place up to which words were read, where it is not their end
abbrev pub stop_at : ℕ → ℕ → Option ℕ
stop_at place end = if place == end then None else Some place

-- the instructions of words
unfoldable pub instructions : List ℕ → List Instr
instructions words = pieces instruction_first instruction_length words

abbrev pub only_fit : Bool → Option Instr → Option Instr
only_fit sealed None = None
only_fit sealed (Some i) = if may_appear sealed i then Some i else None

abbrev pub fit_first : Bool → List ℕ → Option Instr
fit_first sealed words = only_fit sealed (instruction_first words)

-- the instructions up to one that may not appear
unfoldable pub fit_instructions : Bool → List ℕ → List Instr
fit_instructions sealed words = pieces (fit_first sealed) instruction_length words

-- The first place, instruction by instruction, where none stands that may appear.
unfoldable pub unfit : Bool → List ℕ → Option ℕ
unfit sealed words = stop_at (words_in (fit_instructions sealed words)) (length words)

abbrev pub form_first : List ℕ → Option Form
form_first words = template_first (instructions words)

abbrev pub allowed_first : Bool → List ℕ → Option Form
allowed_first sealed words = allowed sealed (form_first words)

-- the templates of words
unfoldable pub forms_in : List ℕ → List Form
forms_in words = pieces form_first form_words words

-- the templates up to one that may not stand in the image
unfoldable pub allowed_forms : Bool → List ℕ → List Form
allowed_forms sealed words = pieces (allowed_first sealed) form_words words

-- The first place, template by template, where none stands that may.
unfoldable pub gap : Bool → List ℕ → Option ℕ
gap sealed words = stop_at (forms_words (allowed_forms sealed words)) (length words)

-- where the templates start
unfoldable pub starts_in : List ℕ → List ℕ
starts_in words = starts_from 0 (forms_in words)
