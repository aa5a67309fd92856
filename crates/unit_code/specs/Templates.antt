-- Templates: the instructions that spell a unit in rewritten code.
use Rattle.std.specs.Prelude.{ℕ, ◌+◌, ◌<◌, Bool, true, false, not, List, [], ◌∷◌, ⊤, ℤ, pos}
use Rattle.avr_isa.specs.Operands.{IsBit}
use Rattle.avr_isa.specs.declared.instruction.Instr.{Instr}
use Rattle.avr_isa.specs.declared.instruction.Instr.TheVariants as instr
use Rattle.mote_layout.specs.Page.{displacement_count, kernel_call_count, slot_count}
use Rattle.mote_layout.specs.declared.page.Entry.{Entry}
use Rattle.mote_layout.specs.declared.page.Entry.TheVariants as entry
use Rattle.unit_code.specs.declared.form.Form.{Form}
use Rattle.unit_code.specs.declared.form.Form.TheVariants.{Whole, ShortSkip, LongSkip, ShortBranch, LongBranch, Jumping, Calling}
use Rattle.unit_code.specs.declared.unit.Unit.{Unit}
use Rattle.unit_code.specs.declared.unit.Unit.TheVariants.{Plain, Store, Load, Push, Pop, SpGroup, Reserve, Skip, Branch, Jump, LocalCall, KernelCall, SlotCall, SlotIndirect, Return}
use Rattle.unit_code.specs.Proper.{IsGuardedSo, IsOfKind}
use Rattle.unit_code.specs.Spelled.{out_high, out_low, out_status}

-- the address of an entry: the entry page read from the entry's side
abbrev pub address_of : Entry → ℕ
address_of entry.StoreX = 0xF000
address_of entry.StoreXInc = 0xF001
address_of entry.StoreXDec = 0xF002
address_of entry.StoreYInc = 0xF003
address_of entry.StoreYDec = 0xF004
address_of entry.StoreZInc = 0xF005
address_of entry.StoreZDec = 0xF006
address_of (entry.StoreY q) = 0xF010 + q
address_of (entry.StoreZ q) = 0xF050 + q
address_of entry.StoreSts = 0xF090
address_of entry.PushGuard = 0xF091
address_of entry.PopGuard = 0xF092
address_of entry.SpGuard = 0xF093
address_of entry.LocalCall = 0xF094
address_of entry.SlotIndirect = 0xF095
address_of entry.Return = 0xF096
address_of entry.Reserve = 0xF097
address_of (entry.Kernel n) = 0xF100 + n
address_of (entry.Slot i) = 0xF200 + i
address_of (entry.LoadY q) = 0xF300 + q
address_of (entry.LoadZ q) = 0xF340 + q
address_of entry.LoadLds = 0xF380
address_of entry.LoadX = 0xF381
address_of entry.LoadXInc = 0xF382
address_of entry.LoadXDec = 0xF383
address_of entry.LoadYInc = 0xF384
address_of entry.LoadYDec = 0xF385
address_of entry.LoadZInc = 0xF386
address_of entry.LoadZDec = 0xF387

-- a call of an entry
abbrev pub enter : Entry → Instr
enter e = instr.Call (address_of e)

-- the entry that guards a store or a load; only these have one
abbrev pub guard_of : Instr → Entry
guard_of (instr.StX r) = entry.StoreX
guard_of (instr.StXInc r) = entry.StoreXInc
guard_of (instr.StXDec r) = entry.StoreXDec
guard_of (instr.StYInc r) = entry.StoreYInc
guard_of (instr.StYDec r) = entry.StoreYDec
guard_of (instr.StZInc r) = entry.StoreZInc
guard_of (instr.StZDec r) = entry.StoreZDec
guard_of (instr.StdY r q) = entry.StoreY q
guard_of (instr.StdZ r q) = entry.StoreZ q
guard_of (instr.Sts r k) = entry.StoreSts
guard_of (instr.LdX d) = entry.LoadX
guard_of (instr.LdXInc d) = entry.LoadXInc
guard_of (instr.LdXDec d) = entry.LoadXDec
guard_of (instr.LdYInc d) = entry.LoadYInc
guard_of (instr.LdYDec d) = entry.LoadYDec
guard_of (instr.LdZInc d) = entry.LoadZInc
guard_of (instr.LdZDec d) = entry.LoadZDec
guard_of (instr.LddY d q) = entry.LoadY q
guard_of (instr.LddZ d q) = entry.LoadZ q
guard_of (instr.Lds d k) = entry.LoadLds
guard_of _ = entry.SpGuard

-- a branch where a bit of SREG is 1, or where it is 0
abbrev pub branch : Bool → ℕ → ℤ → Instr
branch true bit offset = instr.Brbs bit offset
branch false bit offset = instr.Brbc bit offset

-- the template of a unit that has one shape and no target
abbrev pub template_of_unit : Unit → List Instr
template_of_unit (Plain i) = i ∷ []
template_of_unit (Store i) = enter (guard_of i) ∷ i ∷ []
template_of_unit (Load i) = enter (guard_of i) ∷ i ∷ []
template_of_unit (Push r) = enter entry.PushGuard ∷ instr.Push r ∷ []
template_of_unit (Pop d) = enter entry.PopGuard ∷ instr.Pop d ∷ []
template_of_unit (SpGroup true) = enter entry.SpGuard ∷ out_high ∷ out_status ∷ out_low ∷ []
template_of_unit (SpGroup false) = enter entry.SpGuard ∷ out_high ∷ out_low ∷ []
template_of_unit Reserve = enter entry.Reserve ∷ []
template_of_unit (KernelCall n) = enter (entry.Kernel n) ∷ []
template_of_unit (SlotCall i) = enter (entry.Slot i) ∷ []
template_of_unit SlotIndirect = enter entry.SlotIndirect ∷ []
template_of_unit Return = instr.Jmp (address_of entry.Return) ∷ []
template_of_unit _ = []

-- The template of a form. A jump over one word is RJMP +1.
abbrev pub template : Form → List Instr
template (Whole u) = template_of_unit u
template (ShortSkip i) = i ∷ []
template (LongSkip i offset) = i ∷ instr.Rjmp (pos 1) ∷ instr.Rjmp offset ∷ []
template (ShortBranch set bit offset) = branch set bit offset ∷ []
template (LongBranch set bit offset) = branch (not set) bit (pos 1) ∷ instr.Rjmp offset ∷ []
template (Jumping offset) = instr.Rjmp offset ∷ []
template (Calling offset) = enter entry.LocalCall ∷ instr.Rjmp offset ∷ []

-- The unit has one shape and no target.
abbrev pub HasOneForm : Unit → Type 0
HasOneForm (Skip i) = ⊥
HasOneForm (Branch set bit target) = ⊥
HasOneForm (Jump target) = ⊥
HasOneForm (LocalCall target) = ⊥
HasOneForm _ = ⊤

-- The form spells a unit of its kind.
abbrev pub IsForm : Form → Type 0
IsForm (Whole u) = IsOfKind u × HasOneForm u
IsForm (ShortSkip i) = IsOfKind (Skip i)
IsForm (LongSkip i offset) = IsOfKind (Skip i)
IsForm (ShortBranch set bit offset) = IsBit bit
IsForm (LongBranch set bit offset) = IsBit bit
IsForm (Jumping offset) = ⊤
IsForm (Calling offset) = ⊤

-- The form may stand in an image that is sealed or not: a load has its guard exactly in a sealed one.
abbrev pub MayStandIn : Bool → Form → Type 0
MayStandIn sealed (Whole u) = IsGuardedSo sealed u
MayStandIn sealed _ = ⊤

-- The number of an entry that has one is in its range.
abbrev pub IsEntry : Entry → Type 0
IsEntry (entry.StoreY q) = q < displacement_count
IsEntry (entry.StoreZ q) = q < displacement_count
IsEntry (entry.LoadY q) = q < displacement_count
IsEntry (entry.LoadZ q) = q < displacement_count
IsEntry (entry.Kernel n) = n < kernel_call_count
IsEntry (entry.Slot i) = i < slot_count
IsEntry _ = ⊤
