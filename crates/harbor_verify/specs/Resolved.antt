-- The units of templates side by side, or the place at which one leads astray.
use Rattle.std.specs.Prelude.{ℕ, ◌+◌, ◌==◌, Bool, true, false, not, List, [], ◌∷◌, Option, Some, None, Result, Ok, Err, ℤ, if◌then◌else◌}
use Rattle.avr_isa.specs.declared.instruction.Instr.{Instr}
use Rattle.unit_code.specs.Spelling.{start_of}
use Rattle.unit_code.specs.Targets.{number_reached, reached}
use Rattle.unit_code.specs.declared.form.Form.{Form}
use Rattle.unit_code.specs.declared.form.Form.TheVariants.{Whole, ShortSkip, LongSkip, ShortBranch, LongBranch, Jumping, Calling}
use Rattle.unit_code.specs.declared.unit.Unit.{Unit}
use Rattle.unit_code.specs.declared.unit.Unit.TheVariants.{SpGroup, Skip, Branch, Jump, LocalCall}
use Rattle.harbor_verify.specs.Walks.{forms_in, starts_in}

abbrev pub pointed : (ℕ → Unit) → ℕ → Option ℕ → Result Unit ℕ
pointed make at None = Err at
pointed make at (Some target) = Ok (make target)

-- The unit with the target to which the branch or jump at a place leads, or the place where it leads to no start.
abbrev pub led : (ℕ → Unit) → List ℕ → ℕ → ℤ → Result Unit ℕ
led make starts at offset = pointed make at (number_reached starts (reached at offset))

abbrev pub is_group : Form → Bool
is_group (Whole (SpGroup with_sreg)) = true
is_group f = false

-- what a skip needs behind it: two templates, of which the first is no group's
abbrev pub can_skip : List Form → Bool
can_skip (next ∷ other ∷ behind) = not (is_group next)
can_skip behind = false

-- the jump of a long skip, at a place, has to lead over one template, to that with this number
abbrev pub landed : Instr → ℕ → ℕ → Option ℕ → Result Unit ℕ
landed i over at None = Err at
landed i over at (Some number) = if number == over then Ok (Skip i) else Err at

abbrev pub no_more : List Form → Bool
no_more [] = true
no_more (next ∷ behind) = false

-- the branch of a long branch, at a place, leads to the next template
abbrev pub before_next : ℕ → List Form → Result Unit ℕ → Result Unit ℕ
before_next at behind unit = if no_more behind then Err at else unit

-- The unit of the n-th form, whose template starts at a place before others, or the first place in it that leads
-- astray.
abbrev pub resolve : List ℕ → ℕ → ℕ → Form → List Form → Result Unit ℕ
resolve starts n at (Whole u) behind = Ok u
resolve starts n at (ShortSkip i) behind = if can_skip behind then Ok (Skip i) else Err at
resolve starts n at (LongSkip i offset) behind =
    if can_skip behind then landed i (n + 2) (at + 2) (number_reached starts (reached (at + 2) offset)) else Err at
resolve starts n at (ShortBranch set bit offset) behind = led (λ target. Branch set bit target) starts at offset
resolve starts n at (LongBranch set bit offset) behind = before_next at behind (led (λ target. Branch set bit target) starts (at + 1) offset)
resolve starts n at (Jumping offset) behind = led (λ target. Jump target) starts at offset
resolve starts n at (Calling offset) behind = led (λ target. LocalCall target) starts (at + 2) offset

abbrev pub joined : Result Unit ℕ → Result (List Unit) ℕ → Result (List Unit) ℕ
joined (Err at) rest = Err at
joined (Ok u) (Err at) = Err at
joined (Ok u) (Ok us) = Ok (u ∷ us)

-- The units of forms from the n-th on, or the first place that leads astray.
abbrev pub resolve_from : List ℕ → ℕ → List Form → Result (List Unit) ℕ
resolve_from starts n [] = Ok []
resolve_from starts n (f ∷ fs) = joined (resolve starts n (start_of starts n) f fs) (resolve_from starts (n + 1) fs)

unfoldable pub resolved : List ℕ → Result (List Unit) ℕ
resolved words = resolve_from (starts_in words) 0 (forms_in words)

abbrev pub astray_at : Result (List Unit) ℕ → Option ℕ
astray_at (Ok us) = None
astray_at (Err at) = Some at

abbrev pub units_or_none : Result (List Unit) ℕ → List Unit
units_or_none (Ok us) = us
units_or_none (Err at) = []
