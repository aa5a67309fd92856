-- The template that instructions begin with: one of several instructions, or else one of a single instruction.
use Rattle.std.specs.Prelude.{ℕ, ◌+◌, ◌==◌, ◌&&◌, ◌||◌, Bool, true, false, not, is_some, List, [], ◌∷◌, drop, Option, Some, None, option_map, ℤ, pos, negsuc, if◌then◌else◌}
use Rattle.avr_isa.specs.declared.instruction.Instr.{Instr}
use Rattle.avr_isa.specs.declared.instruction.Instr.TheVariants as instr
use Rattle.mote_layout.specs.Memory.{pointer_y, spl_port, sph_port, sreg_port}
use Rattle.mote_layout.specs.declared.page.Entry.{Entry}
use Rattle.mote_layout.specs.declared.page.Entry.TheVariants as entry
use Rattle.unit_code.specs.Kinds.{standing_of}
use Rattle.unit_code.specs.Loads.{is_load}
use Rattle.unit_code.specs.Templates.{address_of, guard_of}
use Rattle.unit_code.specs.declared.form.Form.{Form}
use Rattle.unit_code.specs.declared.form.Form.TheVariants.{Whole, ShortSkip, LongSkip, ShortBranch, LongBranch, Jumping, Calling}
use Rattle.unit_code.specs.declared.kinds.Aim.TheVariants as aim
use Rattle.unit_code.specs.declared.kinds.Piece.TheVariants as piece
use Rattle.unit_code.specs.declared.kinds.Standing.{Standing}
use Rattle.unit_code.specs.declared.kinds.Standing.TheVariants.{Barred, Part}
use Rattle.unit_code.specs.declared.unit.Unit.{Unit}
use Rattle.unit_code.specs.declared.unit.Unit.TheVariants as unit
use Rattle.harbor_verify.specs.Decoding.{entry_called}

-- the offset of the RJMP that comes first
abbrev pub offset_of_jump : Instr → Option ℤ
offset_of_jump (instr.Rjmp offset) = Some offset
offset_of_jump i = None

abbrev pub jump_first : List Instr → Option ℤ
jump_first [] = None
jump_first (i ∷ is) = offset_of_jump i

-- over one word
abbrev pub is_over_one : ℤ → Bool
is_over_one (pos n) = n == 1
is_over_one (negsuc n) = false

abbrev pub jumps_over : Option ℤ → Bool
jumps_over None = false
jumps_over (Some offset) = is_over_one offset

-- behind a skip: an RJMP over one word, and an RJMP
abbrev pub long_skip : Instr → List Instr → Option Form
long_skip i is = if jumps_over (jump_first is) then option_map (λ offset. LongSkip i offset) (jump_first (drop 1 is)) else None

-- behind a branch over one word: an RJMP. It is the inverse of the unit's branch.
abbrev pub long_branch : Bool → ℕ → ℤ → List Instr → Option Form
long_branch set bit offset is =
    if is_over_one offset then option_map (λ over. LongBranch (not set) bit over) (jump_first is) else None

-- The unit that an instruction is behind its guard, and the guard.
abbrev pub checked : Instr → Standing → Option (Unit × Entry)
checked i (Part (piece.Whole (unit.Push r))) = Some (unit.Push r, entry.PushGuard)
checked i (Part (piece.Whole (unit.Pop d))) = Some (unit.Pop d, entry.PopGuard)
checked i (Part (piece.Whole (unit.Store x))) = Some (unit.Store i, guard_of i)
checked i (Part (piece.Whole (unit.Plain x))) = if is_load i then Some (unit.Load i, guard_of i) else None
checked i standing = None

abbrev pub guarded_by : ℕ → Option (Unit × Entry) → Option Form
guarded_by address None = None
guarded_by address (Some (u, e)) = if address == address_of e then Some (Whole u) else None

-- behind the call of an address: an instruction whose guard stands at the address
abbrev pub guarded : ℕ → List Instr → Option Form
guarded address [] = None
guarded address (i ∷ is) = guarded_by address (checked i (standing_of i))

abbrev pub is_out : ℕ → ℕ → Instr → Bool
is_out register port (instr.Out r p) = r == register && p == port
is_out register port i = false

-- an OUT of the register to the port comes first
abbrev pub out_first : ℕ → ℕ → List Instr → Bool
out_first register port [] = false
out_first register port (i ∷ is) = is_out register port i

abbrev pub group_low : Bool → List Instr → Option Form
group_low with_sreg is = if out_first pointer_y spl_port is then Some (Whole (unit.SpGroup with_sreg)) else None

abbrev pub group_behind : List Instr → Option Form
group_behind is = if out_first 0 sreg_port is then group_low true (drop 1 is) else group_low false is

-- behind the call of the guard of groups: SP's high byte is written, then SREG or not, then SP's low byte
abbrev pub group : List Instr → Option Form
group is = if out_first (pointer_y + 1) sph_port is then group_behind (drop 1 is) else None

-- behind the call of an entry
abbrev pub several_entered : ℕ → Option Entry → List Instr → Option Form
several_entered address None is = None
several_entered address (Some entry.LocalCall) is = option_map (λ offset. Calling offset) (jump_first is)
several_entered address (Some entry.SpGuard) is = group is
several_entered address (Some entry.SlotIndirect) is = None
several_entered address (Some entry.Reserve) is = None
several_entered address (Some e) is = guarded address is

abbrev pub several_called : Instr → List Instr → Option Form
several_called (instr.Call address) is = several_entered address (entry_called address) is
several_called i is = None

abbrev pub several_by : Instr → Standing → List Instr → Option Form
several_by i (Part (piece.Whole (unit.Skip x))) is = long_skip i is
several_by i (Part (piece.Aimed (aim.Branching set bit) offset)) is = long_branch set bit offset is
several_by i (Barred kind) is = several_called i is
several_by i standing is = None

-- The template of several instructions that comes first.
abbrev pub several_first : List Instr → Option Form
several_first [] = None
several_first (i ∷ is) = several_by i (standing_of i) is

-- a skip passes over one instruction, which is no jump over one word
abbrev pub short_skip : Instr → List Instr → Option Form
short_skip i is = if jumps_over (jump_first is) || is_some (several_first is) then None else Some (ShortSkip i)

abbrev pub single_entered : Option Entry → Option Form
single_entered (Some entry.SlotIndirect) = Some (Whole unit.SlotIndirect)
single_entered (Some entry.Reserve) = Some (Whole unit.Reserve)
single_entered called = None

-- a return is a jump to its entry
abbrev pub single_called : Instr → Option Form
single_called (instr.Call address) = single_entered (entry_called address)
single_called (instr.Jmp address) = if address == address_of entry.Return then Some (Whole unit.Return) else None
single_called i = None

-- The template of one instruction, before these instructions.
abbrev pub single_by : Instr → Standing → List Instr → Option Form
single_by i (Part (piece.Whole (unit.Plain x))) is = Some (Whole (unit.Plain i))
single_by i (Part (piece.Whole (unit.KernelCall n))) is = Some (Whole (unit.KernelCall n))
single_by i (Part (piece.Whole (unit.SlotCall n))) is = Some (Whole (unit.SlotCall n))
single_by i (Part (piece.Whole (unit.Skip x))) is = short_skip i is
single_by i (Part (piece.Aimed (aim.Branching set bit) offset)) is = Some (ShortBranch set bit offset)
single_by i (Part (piece.Aimed aim.Jumping offset)) is = Some (Jumping offset)
single_by i (Barred kind) is = single_called i
single_by i standing is = None

abbrev pub first_of_two : Option Form → Option Form → Option Form
first_of_two (Some f) other = Some f
first_of_two None other = other

-- The form whose template comes first, in whatever image.
abbrev pub template_first : List Instr → Option Form
template_first [] = None
template_first (i ∷ is) = first_of_two (several_by i (standing_of i) is) (single_by i (standing_of i) is)

-- whether the form may stand in an image that is sealed or not: a load is checked exactly in a sealed one
abbrev pub is_allowed : Bool → Form → Bool
is_allowed sealed (Whole (unit.Plain i)) = not (sealed && is_load i)
is_allowed sealed (Whole (unit.Load i)) = sealed
is_allowed sealed f = true

abbrev pub allowed : Bool → Option Form → Option Form
allowed sealed None = None
allowed sealed (Some f) = if is_allowed sealed f then Some f else None
