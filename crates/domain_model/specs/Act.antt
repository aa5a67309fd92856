-- What one unit does.
use Rattle.std.specs.Prelude.{ℕ, ◌+◌, ◌-◌, ◌==◌, nat_lt, nat_le, List, [], ◌∷◌, Bool, true, false, not, Option, Some, None, slice_get, slice_index_or, unwrap_or}
use Rattle.avr_alu.specs.Bits.{is_set}
use Rattle.avr_isa.specs.declared.instruction.Instr.{Instr}
use Rattle.avr_isa.specs.declared.instruction.Instr.TheVariants as instr
use Rattle.avr_machine.specs.Effect.{effect}
use Rattle.avr_machine.specs.Modes.{store_address as stored_by_mode, load_address as loaded_by_mode}
use Rattle.mote_base.specs.declared.frame.Frame.{Frame}
use Rattle.mote_layout.specs.Memory.{ram_start, floor, pointer_y, pointer_z}
use Rattle.mote_layout.specs.Store.{may_store as permits_store}
use Rattle.mote_layout.specs.Load.{may_load as permits_load}
use Rattle.unit_code.specs.declared.unit.Unit.{Unit}
use Rattle.unit_code.specs.declared.unit.Unit.TheVariants.{Plain, Store, Load, Push, Pop, SpGroup, Reserve, Skip, Branch, Jump, LocalCall, KernelCall, SlotCall, SlotIndirect, Return}
use Rattle.domain_model.specs.declared.handler.Running.{Running}
use Rattle.domain_model.specs.declared.fault.Rule.{Rule}
use Rattle.domain_model.specs.declared.fault.Rule.TheVariants as rule
use Rattle.domain_model.specs.declared.fault.FaultNote.{FaultNote}
use Rattle.domain_model.specs.declared.fault.Served.{Served}
use Rattle.domain_model.specs.declared.fault.Served.TheVariants as served
use Rattle.domain_model.specs.declared.fault.UnitEnd.{UnitEnd}
use Rattle.domain_model.specs.declared.fault.UnitEnd.TheVariants.{On, Over, Fault}
use Rattle.domain_model.specs.declared.line.TraceLine.{TraceLine}
use Rattle.domain_model.specs.State.{Processor, Message, KernelState, RunnerState, at_counter, without_counter, register, pair, with_processor, with_zeros}
use Rattle.domain_model.specs.Modules.{id_at, constants_at}
use Rattle.domain_model.specs.Services.{service_of}
use Rattle.domain_model.specs.Calls.{Serving, answered, serve}
pub use Rattle.domain_model.specs.Frames.{reserved, has_room}
use Rattle.domain_model.specs.Frames.{call_fault, local_called, slot_called, came_back, indirect_slot, bound_at, entry_unit, call_line, unbound_line, unbound_answer}

-- Kernel and runner after a unit, the lines that it wrote, and how it ended.
pub record Acted : Type 0 where
  pub kernel : KernelState
  pub runner : RunnerState
  pub lines : List TraceLine
  pub ending : UnitEnd

-- another unit is next
abbrev pub goes_to : ℕ → KernelState → RunnerState → List TraceLine → Acted
goes_to unit k r lines = record { kernel = k; runner = record r { unit = unit }; lines = lines; ending = On }

-- the unit behind this one is next
abbrev pub goes_on : KernelState → RunnerState → List TraceLine → Acted
goes_on k r lines = goes_to (r.unit + 1) k r lines

-- the unit is refused, and changes nothing
abbrev pub stopped : FaultNote → KernelState → RunnerState → Acted
stopped note k r = record { kernel = k; runner = r; lines = []; ending = Fault note }

abbrev pub faults : Rule → ℕ → KernelState → RunnerState → Acted
faults why address k r = stopped (record { rule = why; address = address }) k r

-- the handler returns
abbrev pub returns : KernelState → RunnerState → Acted
returns k r = record { kernel = k; runner = r; lines = []; ending = Over }

-- Where the running domain may store: in its own blocks, and on its own part of the stack.
abbrev pub may_store : KernelState → Running → ℕ → Bool
may_store k run address = permits_store k.blocks run.domain k.processor.sp run.bound address

-- The module with an id is the receiver of the message in hand.
abbrev pub receives : Option Message → ℕ → Bool
receives None id = false
receives (Some m) id = m.to == id

-- Where the running domain may load, in a sealed image: below the memory, where it may store, in the block of its
-- module's constants, and in the message frame where its module is the receiver of the message in hand.
abbrev pub may_load : KernelState → Running → ℕ → Bool
may_load k run address =
    permits_load k.blocks run.domain (receives k.hand (id_at k.modules run.domain)) (constants_at k.modules run.domain)
    k.processor.sp run.bound address

-- What the instruction of a unit does to the processor, stores too. It leads to the next instruction, so that neither
-- the program counter nor what stands behind that one matters.
abbrev pub plain_effect : Instr → Processor → Processor
plain_effect i p = without_counter (effect i 0 (at_counter p 0))

-- The address that a store writes, by its mode. Only an instruction that is no store has none.
abbrev pub store_address : Instr → Processor → ℕ
store_address i p = unwrap_or (stored_by_mode i (at_counter p 0)) 0

-- and the address that a load reads
abbrev pub load_address : Instr → Processor → ℕ
load_address i p = unwrap_or (loaded_by_mode i (at_counter p 0)) 0

-- A skip passes over the next instruction: it leads to where that one ends, which is 1 here, and not to where it
-- begins, 0.
abbrev pub passes : Instr → Processor → Bool
passes i p = (effect i 1 (at_counter p 0)).pc == 1

-- A branch is taken where its bit of SREG is as it wants.
abbrev pub taken : Bool → ℕ → Processor → Bool
taken true bit p = is_set p.sreg bit
taken false bit p = not (is_set p.sreg bit)

-- The stack pointer that a group sets: R29:R28.
abbrev pub group_sp : Processor → ℕ
group_sp p = pair p pointer_y

-- The status register after a group: R0 where the group sets it.
abbrev pub group_sreg : Bool → Processor → ℕ
group_sreg true p = register p 0
group_sreg false p = p.sreg

-- A group sets SP. Where SP falls, the bytes that it uncovers, from above the new SP up to the old one, become 0.
abbrev pub group_effect : Bool → Processor → Processor
group_effect with_sreg p =
    record {
      registers = p.registers;
      sreg = group_sreg with_sreg p;
      sp = group_sp p;
      memory = with_zeros p.memory (group_sp p + 1 - ram_start) (p.sp - group_sp p);
    }

-- Each unit with a need, by whether it is met.

-- an instruction: where its need isn't met, the fault has this rule and address
abbrev pub act_effect : Bool → Rule → ℕ → Instr → KernelState → RunnerState → Acted
act_effect true why address i k r = goes_on (with_processor k (plain_effect i k.processor)) r []
act_effect false why address i k r = faults why address k r

-- a group, whose SP has to be at least the floor and then at most the base
abbrev pub act_under : Bool → Bool → KernelState → RunnerState → Acted
act_under true with_sreg k r = goes_on (with_processor k (group_effect with_sreg k.processor)) r []
act_under false with_sreg k r = faults rule.StackUnder (group_sp k.processor) k r

abbrev pub act_group : Bool → Bool → Running → KernelState → RunnerState → Acted
act_group true with_sreg run k r = act_under (nat_le (group_sp k.processor) run.base) with_sreg k r
act_group false with_sreg run k r = faults rule.StackOver (group_sp k.processor) k r

abbrev pub act_reserve : Bool → KernelState → RunnerState → Acted
act_reserve true k r = goes_on (with_processor k (reserved k.processor)) r []
act_reserve false k r = faults rule.StackOver k.processor.sp k r

abbrev pub act_skip : Bool → KernelState → RunnerState → Acted
act_skip true k r = goes_to (r.unit + 2) k r []
act_skip false k r = goes_on k r []

abbrev pub act_branch : Bool → ℕ → KernelState → RunnerState → Acted
act_branch true target k r = goes_to target k r []
act_branch false target k r = goes_on k r []

-- a return: from the call of the frame on top, and from the handler where there is no frame
abbrev pub act_back : List Frame → KernelState → RunnerState → Acted
act_back [] k r = returns k r
act_back (f ∷ below) k r = goes_to f.back (came_back f below k) r []

abbrev pub act_return : Bool → KernelState → RunnerState → Acted
act_return true k r = act_back k.frames k r
act_return false k r = faults rule.Balance k.processor.sp k r

-- a call, by what stands against it
abbrev pub act_called : Option FaultNote → Acted → KernelState → RunnerState → Acted
act_called None entered k r = entered
act_called (Some note) entered k r = stopped note k r

-- a call of a slot, by what the slot is bound to; one that isn't bound answers so and goes on
abbrev pub act_slot : Option (ℕ × ℕ) → ℕ → Running → KernelState → RunnerState → Acted
act_slot None slot run k r = goes_on (answered k unbound_answer) r (unbound_line k run slot ∷ [])
act_slot (Some (domain, place)) slot run k r =
    act_called (call_fault k)
    (goes_to (entry_unit k.modules domain place) (slot_called k run (r.unit + 1) domain) r (call_line k run slot domain place ∷ [])) k r

-- an indirect call, by the slot that it names
abbrev pub act_indirect : Option ℕ → Running → KernelState → RunnerState → Acted
act_indirect None run k r = faults rule.Target (pair k.processor pointer_z) k r
act_indirect (Some slot) run k r = act_slot (bound_at k run slot) slot run k r

-- a kernel call, by how it came back
abbrev pub act_served : Served → Serving → RunnerState → Acted
act_served served.Back s r = goes_on s.kernel r s.lines
act_served (served.Fault note) s r = record { kernel = s.kernel; runner = r; lines = s.lines; ending = Fault note }

abbrev pub act_call : Serving → RunnerState → Acted
act_call s r = act_served s.served s r

-- A unit by its kind.
abbrev pub act_unit : Unit → Running → KernelState → RunnerState → Acted
act_unit (Plain i) run k r = goes_on (with_processor k (plain_effect i k.processor)) r []
act_unit (Store i) run k r =
    act_effect (may_store k run (store_address i k.processor)) rule.Store (store_address i k.processor) i k r
act_unit (Load i) run k r =
    act_effect (may_load k run (load_address i k.processor)) rule.Load (load_address i k.processor) i k r
act_unit (Push s) run k r = act_effect (nat_lt floor k.processor.sp) rule.StackOver k.processor.sp (instr.Push s) k r
act_unit (Pop d) run k r = act_effect (nat_lt k.processor.sp run.base) rule.StackUnder k.processor.sp (instr.Pop d) k r
act_unit (SpGroup with_sreg) run k r = act_group (nat_le floor (group_sp k.processor)) with_sreg run k r
act_unit Reserve run k r = act_reserve (has_room k.processor) k r
act_unit (Skip i) run k r = act_skip (passes i k.processor) k r
act_unit (Branch set bit target) run k r = act_branch (taken set bit k.processor) target k r
act_unit (Jump target) run k r = goes_to target k r []
act_unit (KernelCall n) run k r = act_call (serve (service_of n) run k) r
act_unit (LocalCall target) run k r =
    act_called (call_fault k) (goes_to target (local_called k run (r.unit + 1)) r []) k r
act_unit (SlotCall slot) run k r = act_slot (bound_at k run slot) slot run k r
act_unit SlotIndirect run k r = act_indirect (indirect_slot k.processor) run k r
act_unit Return run k r = act_return (k.processor.sp == run.base) k r

-- the units of a domain's module
abbrev pub bank : RunnerState → ℕ → List Unit
bank r domain = slice_index_or r.banks domain []

-- the unit that runs next
abbrev pub next_unit : RunnerState → Running → Option Unit
next_unit r run = slice_get (bank r run.domain) r.unit

-- In a state that a run reaches, a domain runs and has a next unit. Where not, nothing is left to do.
abbrev pub act_at : Option Unit → Running → KernelState → RunnerState → Acted
act_at None run k r = returns k r
act_at (Some u) run k r = act_unit u run k r

abbrev pub act_running : Option Running → KernelState → RunnerState → Acted
act_running None k r = returns k r
act_running (Some run) k r = act_at (next_unit r run) run k r

-- What the next unit does.
abbrev pub act : KernelState → RunnerState → Acted
act k r = act_running k.running k r
