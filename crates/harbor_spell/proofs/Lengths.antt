-- How long templates are.
use Rattle.std.proofs.Common.{◌≡◌, ℕ, Bool, true, false, not, List, ℤ, pos, refl, ap, subst, arith}
use Rattle.avr_isa.specs.declared.instruction.Instr.{Instr}
use Rattle.avr_isa.specs.Table.{word_count}
use Rattle.unit_code.specs.declared.unit.Shape.TheVariants.{Long, Short}
use Rattle.unit_code.specs.declared.unit.Shape.{Shape}
use Rattle.unit_code.specs.declared.unit.Unit.TheVariants as unit
use Rattle.unit_code.specs.declared.unit.Unit.{Unit}
use Rattle.unit_code.specs.Beside.{form_words}
use Rattle.unit_code.specs.Lengths.{instruction_length, spelled_length}
use Rattle.unit_code.specs.Proper.{IsOfKind}
use Rattle.unit_code.specs.Spelled.{offset_to}
use Rattle.unit_code.specs.Spelling.{form_of, start_of}
use Rattle.unit_code.specs.Templates.{branch}
use Rattle.harbor_spell.proofs.Standings.{IsTold, tells}

pub skip_length : (x : Instr) → IsOfKind (unit.Skip x) → instruction_length x ≡ 1
skip_length x kind = ap word_count (subst (IsTold x) kind.0 (tells x)).1

branch_length : (set : Bool) (bit : ℕ) (far : ℤ) → instruction_length (branch set bit far) ≡ 1
branch_length false bit far = refl
branch_length true bit far = refl

-- a unit's template, in its shape, is as long as the unit's spelling
pub form_length : (starts : List ℕ) (i at : ℕ) (u : Unit) (s : Shape) → IsOfKind u → form_words (form_of starts i at u s) ≡ spelled_length u s
form_length starts i at (unit.Skip x) Short kind = omega (arith, skip_length x kind)
form_length starts i at (unit.Skip x) Long kind = omega (arith, skip_length x kind)
form_length starts i at (unit.Branch set bit t) Short kind = omega (arith, branch_length set bit (offset_to at (start_of starts t)))
form_length starts i at (unit.Branch set bit t) Long kind = omega (arith, branch_length (not set) bit (pos 1))
form_length starts i at (unit.SpGroup true) s kind = refl
form_length starts i at (unit.SpGroup false) s kind = refl
form_length starts i at other s kind = omega arith
