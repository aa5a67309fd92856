-- The instructions of templates that stand in a bank have their operands in range.
use Rattle.std.proofs.Common.{◌≡◌, ℕ, ◌+◌, ◌≤◌, length, get_or, ◌-◌, ◌<◌, cond, ltb, not, Bool, true, false, List, ℤ, pos, negsuc, refl, sym, subst, arith, to_z, of_z, w16}
use Rattle.std.specs.List.{AllByRecursion}
use Rattle.std.proofs.lemmas.Int.{ints, to_z-of_z}
use Rattle.std.proofs.lemmas.Option.{slice_get-get_or}
use Rattle.avr_isa.specs.Operands.{IsBit, IsBranchOffset, IsEncodable, IsJumpOffset}
use Rattle.avr_isa.specs.declared.instruction.Instr.{Instr}
use Rattle.avr_isa.specs.declared.instruction.Instr.TheVariants as instr
use Rattle.unit_code.specs.declared.unit.Unit.{Unit}
use Rattle.unit_code.specs.declared.unit.Unit.TheVariants as unit
use Rattle.unit_code.specs.declared.unit.Shape.{Shape}
use Rattle.unit_code.specs.declared.unit.Shape.TheVariants.{Long, Short}
use Rattle.unit_code.specs.Beside.{form_words}
use Rattle.unit_code.specs.declared.form.Form.{Form}
use Rattle.unit_code.specs.Proper.{IsOfKind, IsProper}
use Rattle.unit_code.specs.Spelled.{offset_to}
use Rattle.unit_code.specs.Spelling.{AreShapesOf, MayHave, form_of, start_of, starts_of}
use Rattle.unit_code.specs.Templates.{IsForm, address_of, branch, guard_of, template}
use Rattle.harbor_spell.specs.Placed.{IsPlaced}
use Rattle.harbor_spell.proofs.Lengths.{form_length}
use Rattle.harbor_spell.proofs.Placed.{all_at, may_have, placed, same_count, spelled-most}

-- within a bank a jump reaches each word from each place
jump_reaches : (place word : ℕ) → place < 2048 → word < 2048 → IsJumpOffset (offset_to place word)
jump_reaches place word h k =
    elim (ltb place word) as (λ t. ltb place word ≡ t → IsJumpOffset (cond t (pos (word - place - 1)) (negsuc (place - word)))) [
      | true ↦ λ e. grind (arith, ints)
      | false ↦ λ e. grind (arith, ints)
    ] refl

branch_in_range : (set : Bool) (bit : ℕ) (offset : ℤ) → IsBit bit → IsBranchOffset offset → IsEncodable (branch set bit offset)
unfolding IsEncodable
branch_in_range true bit offset h k = (h, k)
branch_in_range false bit offset h k = (h, k)

over_one : IsBranchOffset (pos 1)
over_one = grind (arith, ints)

jump_over_one : IsJumpOffset (pos 1)
jump_over_one = grind (arith, ints)

guard_in_range : (i : Instr) → IsEncodable i → IsEncodable (instr.Call (address_of (guard_of i)))
unfolding IsEncodable
guard_in_range (instr.StdY r q) h = let k : q < 64 = h.1 in omega arith
guard_in_range (instr.StdZ r q) h = let k : q < 64 = h.1 in omega arith
guard_in_range (instr.LddY d q) h = let k : q < 64 = h.1 in omega arith
guard_in_range (instr.LddZ d q) h = let k : q < 64 = h.1 in omega arith
guard_in_range _ h = omega arith

pub offset_of_branch : (set : Bool) (bit : ℕ) (offset : ℤ) → IsEncodable (branch set bit offset) → IsBranchOffset offset
unfolding IsEncodable
offset_of_branch true bit offset h = h.1
offset_of_branch false bit offset h = h.1

-- the offset is a number of 16 bits
pub branch_offset_kept : (k : ℤ) → IsBranchOffset k → IsBranchOffset (to_z w16 (of_z w16 k))
branch_offset_kept k h = subst IsBranchOffset (sym (to_z-of_z w16 k (grind (arith, ints)))) h

pub jump_offset_kept : (k : ℤ) → IsEncodable (instr.Rjmp k) → to_z w16 (of_z w16 k) ≡ k
unfolding IsEncodable
jump_offset_kept k h = to_z-of_z w16 k (grind (arith, ints))

-- the form of a unit of its kind
pub form_kind : (starts : List ℕ) (i at : ℕ) (u : Unit) (s : Shape) → IsOfKind u → IsForm (form_of starts i at u s)
form_kind starts i at (unit.Skip x) Long h = h
form_kind starts i at (unit.Skip x) Short h = h
form_kind starts i at (unit.Branch set bit t) Long h = h
form_kind starts i at (unit.Branch set bit t) Short h = h
form_kind starts i at (unit.Jump t) s h = tt
form_kind starts i at (unit.LocalCall t) s h = tt
form_kind starts i at u s h = (h, tt)

pub templates_encode : (starts : List ℕ) (i : ℕ) (u : Unit) (s : Shape) → IsOfKind u → IsPlaced starts i u s → MayHave starts (start_of starts i) u s
    → AllByRecursion IsEncodable (template (form_of starts i (start_of starts i) u s))
unfolding IsEncodable
templates_encode starts i (unit.Plain x) s h at may = (h.1, tt)
templates_encode starts i (unit.Store x) s h at may = (guard_in_range x h.1, (h.1, tt))
templates_encode starts i (unit.Load x) s h at may = (guard_in_range x h.2, (h.2, tt))
templates_encode starts i (unit.Push r) s h at may = (omega arith, (h, tt))
templates_encode starts i (unit.Pop d) s h at may = (omega arith, (h, tt))
templates_encode starts i (unit.SpGroup true) s h at may = (omega arith, ((omega arith, omega arith), ((omega arith, omega arith), ((omega arith, omega arith), tt))))
templates_encode starts i (unit.SpGroup false) s h at may = (omega arith, ((omega arith, omega arith), ((omega arith, omega arith), tt)))
templates_encode starts i (unit.Skip x) Long h at may =
    let fits = at.fits in
    (h.1, (jump_over_one, (jump_reaches (start_of starts i + 2) (start_of starts (i + 2)) (omega (arith, fits)) (at.low (i + 2)), tt)))
templates_encode starts i (unit.Skip x) Short h at may = (h.1, tt)
templates_encode starts i (unit.Branch set bit t) Long h at may =
    let fits = at.fits in
    (branch_in_range (not set) bit (pos 1) h over_one, (jump_reaches (start_of starts i + 1) (start_of starts t) (omega (arith, fits)) (at.low t), tt))
templates_encode starts i (unit.Branch set bit t) Short h at may = (branch_in_range set bit (offset_to (start_of starts i) (start_of starts t)) h may, tt)
templates_encode starts i (unit.Jump t) s h at may =
    let fits = at.fits in (jump_reaches (start_of starts i) (start_of starts t) (omega (arith, fits)) (at.low t), tt)
templates_encode starts i (unit.LocalCall t) s h at may =
    let fits = at.fits in (omega arith, (jump_reaches (start_of starts i + 2) (start_of starts t) (omega (arith, fits)) (at.low t), tt))
templates_encode starts i (unit.KernelCall n) s h at may = (let k : n < 12 = h in omega arith, tt)
templates_encode starts i (unit.SlotCall n) s h at may = (let k : n < 16 = h in omega arith, tt)
templates_encode starts i _ s h at may = (omega arith, tt)

-- The i-th unit's form, in its shape, can be spelled.
abbrev pub IsSpellable : Form → Type 0
IsSpellable f = IsForm f × AllByRecursion IsEncodable (template f) × (form_words f ≤ 5)

abbrev pub unit_in : List Unit → ℕ → Unit
unit_in us i = get_or us i (unit.Plain instr.Nop)

abbrev pub shape_in : List Shape → ℕ → Shape
shape_in ss i = get_or ss i Long

pub spelled_at : (us : List Unit) (ss : List Shape) (starts : List ℕ) (sealed : Bool) (i : ℕ) → IsProper us sealed → AreShapesOf us ss → starts ≡ starts_of us ss → i < length us
    → IsPlaced starts i (unit_in us i) (shape_in ss i) × IsSpellable (form_of starts i (start_of starts i) (unit_in us i) (shape_in ss i))
spelled_at us ss starts sealed i proper shapes are inside =
    let u = unit_in us i in
    let s = shape_in ss i in
    let at = slice_get-get_or us i (unit.Plain instr.Nop) inside in
    let by = slice_get-get_or ss i Long (omega (arith, same_count (starts_of us ss) 0 us ss shapes, inside)) in
    let kind = all_at IsOfKind us i u proper.kinds at in
    let stands = placed us ss starts sealed i u s proper shapes are inside at by in (
      stands,
      (
        form_kind starts i (start_of starts i) u s kind,
        templates_encode starts i u s kind stands (may_have us ss starts i u s shapes are at by),
        omega (arith, form_length starts i (start_of starts i) u s kind, spelled-most u s),
      ),
    )
