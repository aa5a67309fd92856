-- What is done at each entry of the page.
use Rattle.std.specs.Prelude.{ℕ, ◌+◌, ◌-◌, nat_lt, nat_le, List, [], Bool, true, false, Option, Some, None}
use Rattle.avr_isa.specs.declared.instruction.Instr.TheVariants.{Ret}
use Rattle.avr_machine.specs.Processor.{Processor as CountingProcessor, lowered, raised}
use Rattle.avr_machine.specs.Effect.{effect}
use Rattle.avr_machine.specs.Flash.{word_at}
use Rattle.avr_machine.specs.Modes.{behind as behind_pointer}
use Rattle.mote_layout.specs.Memory.{floor, ram_start, pointer_x, pointer_y, pointer_z}
use Rattle.mote_layout.specs.declared.page.Entry.{Entry}
use Rattle.mote_layout.specs.declared.page.Entry.TheVariants as entry
use Rattle.domain_model.specs.declared.fault.FaultNote.{FaultNote}
use Rattle.domain_model.specs.declared.fault.Rule.{Rule}
use Rattle.domain_model.specs.declared.fault.Rule.TheVariants as rule
use Rattle.domain_model.specs.declared.fault.Served.{Served}
use Rattle.domain_model.specs.declared.fault.Served.TheVariants as served
use Rattle.domain_model.specs.declared.fault.UnitEnd.{UnitEnd}
use Rattle.domain_model.specs.declared.fault.UnitEnd.TheVariants.{Over, Fault}
use Rattle.domain_model.specs.declared.handler.Running.{Running}
use Rattle.domain_model.specs.declared.line.TraceLine.{TraceLine}
use Rattle.domain_model.specs.State.{Processor, KernelState, at_counter, without_counter, pair, with_processor, with_zeros}
use Rattle.domain_model.specs.Services.{service_of}
use Rattle.domain_model.specs.Calls.{Serving, serve}
use Rattle.domain_model.specs.Frames.{call_fault, has_room, indirect_slot, reserved}
use Rattle.domain_model.specs.Act.{group_sp, may_load, may_store}
use Rattle.kernel_call.specs.declared.calls.Returned.{Returned}
use Rattle.kernel_call.specs.declared.calls.Returned.TheVariants as returned
use Rattle.kernel_call.specs.declared.calls.SlotEnd.{SlotEnd}
use Rattle.kernel_call.specs.declared.calls.SlotEnd.TheVariants as slot_end
use Rattle.kernel_call.specs.Calling.{Returning, SlotCalling, called_slot, called_within, returning}
use Rattle.word_run.specs.FlashValue.{FlashValue, entry_point, unit_at}

-- Where a run of words stands: it goes on at a program address, or the unit is refused or the handler over.
pub data Way : Type 0 where
  Goes : ℕ → Way
  Ends : UnitEnd → Way

-- The kernel there, and the lines that were written on the way.
pub record Reached : Type 0 where
  pub kernel : KernelState
  pub lines : List TraceLine
  pub way : Way

abbrev pub going : KernelState → ℕ → Reached
going k address = record { kernel = k; lines = []; way = Goes address }

abbrev pub ended : KernelState → UnitEnd → Reached
ended k ending = record { kernel = k; lines = []; way = Ends ending }

abbrev pub refused : Rule → ℕ → KernelState → Reached
refused why address k = ended k (Fault (record { rule = why; address = address }))

-- The rows of the entries that are called. Each gets the kernel with SP as it was before the CALL, and the address
-- behind the CALL, to which it returns. What the CALL pushed still stands in the memory.

-- a guard, by whether the need of the instruction behind it is met
abbrev pub guarded : Bool → Rule → ℕ → KernelState → ℕ → Reached
guarded true why address k back = going k back
guarded false why address k back = refused why address k

-- of a store to an address, and of a load from one
abbrev pub store_guarded : ℕ → Running → KernelState → ℕ → Reached
store_guarded address run k back = guarded (may_store k run address) rule.Store address k back

abbrev pub load_guarded : ℕ → Running → KernelState → ℕ → Reached
load_guarded address run k back = guarded (may_load k run address) rule.Load address k back

-- where an instruction behind a guard stores or loads: at q bytes behind a pointer, at a pointer as it stands, or at
-- one that falls first
abbrev pub displaced : Processor → ℕ → ℕ → ℕ
displaced p pointer q = behind_pointer (at_counter p 0) pointer q

abbrev pub fallen : Processor → ℕ → ℕ
fallen p pointer = lowered (pair p pointer)

-- and at the second word of the STS or LDS that stands behind the CALL
abbrev pub word_behind : FlashValue → ℕ → ℕ
word_behind v back = word_at v.flash (raised back)

-- The guard of a group makes the bytes 0 that the group uncovers, those from above the new SP up to the old one.
abbrev pub uncovered : Processor → Processor
uncovered p = record p { memory = with_zeros p.memory (group_sp p + 1 - ram_start) (p.sp - group_sp p) }

abbrev pub group_under : Bool → KernelState → ℕ → Reached
group_under true k back = going (with_processor k (uncovered k.processor)) back
group_under false k back = refused rule.StackUnder (group_sp k.processor) k

abbrev pub group_guarded : Bool → Running → KernelState → ℕ → Reached
group_guarded true run k back = group_under (nat_le (group_sp k.processor) run.base) k back
group_guarded false run k back = refused rule.StackOver (group_sp k.processor) k

-- Two bytes 0 take the place of the pushed address.
abbrev pub room_made : Bool → KernelState → ℕ → Reached
room_made true k back = going (with_processor k (reserved k.processor)) back
room_made false k back = refused rule.StackOver k.processor.sp k

-- A kernel call returns, or is refused.
abbrev pub served_way : Served → ℕ → Way
served_way served.Back back = Goes back
served_way (served.Fault note) back = Ends (Fault note)

abbrev pub call_served : Serving → ℕ → Reached
call_served s back = record { kernel = s.kernel; lines = s.lines; way = served_way s.served back }

-- A local call goes on at the RJMP behind its CALL, unless something stands against it. It will come back to the unit
-- whose template starts behind that RJMP.
abbrev pub local_way : Option FaultNote → ℕ → Way
local_way None back = Goes back
local_way (Some note) back = Ends (Fault note)

abbrev pub local_from : Option ℕ → Running → KernelState → ℕ → Reached
local_from None run k back = ended k Over
local_from (Some unit) run k back =
    record { kernel = called_within k run unit; lines = []; way = local_way (call_fault k) back }

-- A call of a slot goes on at the template of the provider's unit, and will come back to the unit whose template starts
-- behind its CALL; where the slot isn't bound, it returns.
abbrev pub slot_way : SlotEnd → FlashValue → ℕ → Way
slot_way (slot_end.Entered domain unit) v back = Goes (entry_point v domain unit)
slot_way slot_end.Unbound v back = Goes back
slot_way (slot_end.Fault note) v back = Ends (Fault note)

abbrev pub slot_reached : SlotCalling → FlashValue → ℕ → Reached
slot_reached s v back = record { kernel = s.kernel; lines = s.lines; way = slot_way s.ending v back }

abbrev pub slot_from : Option ℕ → ℕ → FlashValue → Running → KernelState → ℕ → Reached
slot_from None slot v run k back = ended k Over
slot_from (Some unit) slot v run k back = slot_reached (called_slot k run slot unit) v back

abbrev pub slot_called : ℕ → FlashValue → Running → KernelState → ℕ → Reached
slot_called slot v run k back = slot_from (unit_at v run.domain back) slot v run k back

-- the slot that Z names, if it names one
abbrev pub indirect_called : Option ℕ → FlashValue → Running → KernelState → ℕ → Reached
indirect_called None v run k back = refused rule.Target (pair k.processor pointer_z) k
indirect_called (Some slot) v run k back = slot_called slot v run k back

abbrev pub called_row : Entry → FlashValue → Running → KernelState → ℕ → Reached
called_row entry.StoreX v run k back = store_guarded (displaced k.processor pointer_x 0) run k back
called_row entry.StoreXInc v run k back = store_guarded (pair k.processor pointer_x) run k back
called_row entry.StoreXDec v run k back = store_guarded (fallen k.processor pointer_x) run k back
called_row entry.StoreYInc v run k back = store_guarded (pair k.processor pointer_y) run k back
called_row entry.StoreYDec v run k back = store_guarded (fallen k.processor pointer_y) run k back
called_row entry.StoreZInc v run k back = store_guarded (pair k.processor pointer_z) run k back
called_row entry.StoreZDec v run k back = store_guarded (fallen k.processor pointer_z) run k back
called_row (entry.StoreY q) v run k back = store_guarded (displaced k.processor pointer_y q) run k back
called_row (entry.StoreZ q) v run k back = store_guarded (displaced k.processor pointer_z q) run k back
called_row entry.StoreSts v run k back = store_guarded (word_behind v back) run k back
called_row entry.LoadX v run k back = load_guarded (displaced k.processor pointer_x 0) run k back
called_row entry.LoadXInc v run k back = load_guarded (pair k.processor pointer_x) run k back
called_row entry.LoadXDec v run k back = load_guarded (fallen k.processor pointer_x) run k back
called_row entry.LoadYInc v run k back = load_guarded (pair k.processor pointer_y) run k back
called_row entry.LoadYDec v run k back = load_guarded (fallen k.processor pointer_y) run k back
called_row entry.LoadZInc v run k back = load_guarded (pair k.processor pointer_z) run k back
called_row entry.LoadZDec v run k back = load_guarded (fallen k.processor pointer_z) run k back
called_row (entry.LoadY q) v run k back = load_guarded (displaced k.processor pointer_y q) run k back
called_row (entry.LoadZ q) v run k back = load_guarded (displaced k.processor pointer_z q) run k back
called_row entry.LoadLds v run k back = load_guarded (word_behind v back) run k back
called_row entry.PushGuard v run k back = guarded (nat_lt floor k.processor.sp) rule.StackOver k.processor.sp k back
called_row entry.PopGuard v run k back = guarded (nat_lt k.processor.sp run.base) rule.StackUnder k.processor.sp k back
called_row entry.SpGuard v run k back = group_guarded (nat_le floor (group_sp k.processor)) run k back
called_row entry.Reserve v run k back = room_made (has_room k.processor) k back
called_row (entry.Kernel n) v run k back = call_served (serve (service_of n) run k) back
called_row entry.LocalCall v run k back = local_from (unit_at v run.domain (raised back)) run k back
called_row (entry.Slot slot) v run k back = slot_called slot v run k back
called_row entry.SlotIndirect v run k back = indirect_called (indirect_slot k.processor) v run k back
called_row entry.Return v run k back = ended k Over

-- A return is jumped to. It leads to the template of the unit to which the frame on top comes back; without a frame the
-- handler is over.
abbrev pub returned_way : Returned → FlashValue → Way
returned_way (returned.To domain unit) v = Goes (entry_point v domain unit)
returned_way returned.Over v = Ends Over
returned_way (returned.Fault note) v = Ends (Fault note)

abbrev pub come_back : Returning → FlashValue → Reached
come_back s v = record { kernel = s.kernel; lines = []; way = returned_way s.answer v }

-- The CALL of an entry is over as by RET: SP rises, and PC is the address that was pushed.
abbrev pub returned_from : CountingProcessor → CountingProcessor
returned_from c = effect Ret 0 c

-- the kernel with the processor that arrived at an entry that is called, and there returned
abbrev pub back_kernel : KernelState → CountingProcessor → KernelState
back_kernel k c = with_processor k (without_counter (returned_from c))

-- The row of an entry, from a processor whose PC has come to it.
abbrev pub entry_row : Entry → FlashValue → Running → KernelState → CountingProcessor → Reached
entry_row entry.Return v run k c = come_back (returning (with_processor k (without_counter c)) run) v
entry_row e v run k c = called_row e v run (back_kernel k c) (returned_from c).pc
