-- When words can be run: each instruction is one that the processor runs, each entry finds what it needs, and they are
-- few enough.
use Rattle.std.specs.Prelude.{◌≡◌, ℕ, zero, suc, ◌<◌, ◌≤◌, nat_le, length, Bool, true, false, Option, Some, None, ⊤}
use Rattle.avr_machine.specs.Processor.{Processor as CountingProcessor}
use Rattle.avr_machine.specs.Step.{CanStep}
use Rattle.mote_layout.specs.Memory.{domain_count, floor, stack_top}
use Rattle.mote_layout.specs.Page.{page_start, entry_at}
use Rattle.mote_layout.specs.declared.page.Entry.{Entry}
use Rattle.mote_layout.specs.declared.page.Entry.TheVariants as entry
use Rattle.domain_model.specs.declared.handler.Running.{Running}
use Rattle.domain_model.specs.State.{Processor, KernelState, at_counter, without_counter, with_processor}
use Rattle.domain_model.specs.Frames.{indirect_slot}
use Rattle.kernel_call.specs.declared.calls.Returned.{Returned}
use Rattle.kernel_call.specs.declared.calls.Returned.TheVariants.{To}
use Rattle.kernel_call.specs.declared.calls.SlotEnd.{SlotEnd}
use Rattle.kernel_call.specs.declared.calls.SlotEnd.TheVariants.{Entered}
use Rattle.kernel_call.specs.Calling.{called_slot, returning}
use Rattle.word_run.specs.FlashValue.{FlashValue, starts_of, unit_at}
use Rattle.word_run.specs.Entries.{Way, Goes, Ends, back_kernel}
use Rattle.word_run.specs.WordRun.{after_one, one_step}

-- The stack pointer lies between the floor and the base, and the base in the stack.
pub record IsOnStack (run : Running) (p : Processor) : Type 0 where
  pub floor : floor ≤ p.sp
  pub base : p.sp ≤ run.base
  pub top : run.base ≤ stack_top

-- the template of a unit starts in a bank
pub record HasTemplate (v : FlashValue) (domain unit : ℕ) : Type 0 where
  pub domain_below : domain < domain_count
  pub unit_below : unit < length (starts_of v domain)

-- A return leads to a template, if it leads to a unit.
abbrev pub LeadsBack : FlashValue → Returned → Type 0
LeadsBack v (To domain unit) = HasTemplate v domain unit
LeadsBack v _ = ⊤

-- So does a call of a slot, wherever it will come back.
abbrev pub LeadsInto : FlashValue → SlotEnd → Type 0
LeadsInto v (Entered domain unit) = HasTemplate v domain unit
LeadsInto v _ = ⊤

abbrev pub CanCallSlot : ℕ → FlashValue → Running → KernelState → Type 0
CanCallSlot slot v run k = (back : ℕ) → LeadsInto v (called_slot k run slot back).ending

-- what the row of an entry that is called finds besides
abbrev pub CanCall : Entry → FlashValue → Running → KernelState → Type 0
CanCall (entry.Slot slot) v run k = CanCallSlot slot v run k
CanCall entry.SlotIndirect v run k = (slot : ℕ) → indirect_slot k.processor ≡ Some slot → CanCallSlot slot v run k
CanCall _ v run k = ⊤

-- What an entry finds, from a processor whose PC has come to it: SP in the stack, as it was before the CALL, and a
-- template wherever it leads to a unit.
abbrev pub CanEnter : Entry → FlashValue → Running → KernelState → CountingProcessor → Type 0
CanEnter entry.Return v run k c =
    IsOnStack run (without_counter c) × LeadsBack v (returning (with_processor k (without_counter c)) run).answer
CanEnter e v run k c = IsOnStack run (back_kernel k c).processor × CanCall e v run (back_kernel k c)

abbrev pub CanEnterAt : Option Entry → FlashValue → Running → KernelState → CountingProcessor → Type 0
CanEnterAt None v run k c = ⊤
CanEnterAt (Some e) v run k c = CanEnter e v run k c

abbrev pub CanArrive : Bool → FlashValue → Running → KernelState → CountingProcessor → Type 0
CanArrive false v run k c = ⊤
CanArrive true v run k c = CanEnterAt (entry_at c.pc) v run k c

-- where an instruction leads, the entry can be entered
abbrev pub CanBeLed : FlashValue → Running → KernelState → CountingProcessor → Type 0
CanBeLed v run k c = CanArrive (nat_le page_start c.pc) v run k c

-- The instruction at a program address can be run, in the domain that runs.
pub record CanStepAt (v : FlashValue) (run : Running) (k : KernelState) (address : ℕ) : Type 0 where
  pub running : k.running ≡ Some run
  pub domain : run.domain < domain_count
  pub step : CanStep v.flash (at_counter k.processor address)
  pub entry : CanBeLed v run k (after_one v.flash (at_counter k.processor address))

abbrev pub CanGoFrom : Option ℕ → (Running → KernelState → ℕ → Type 0) → Running → KernelState → ℕ → Type 0
CanGoFrom (Some unit) next run k address = ⊤
CanGoFrom None next run k address = next run k address

abbrev pub CanGoIn : Option Running → (Running → KernelState → ℕ → Type 0) → FlashValue → KernelState → ℕ → Type 0
CanGoIn None next v k address = ⊥
CanGoIn (Some run) next v k address = (run.domain < domain_count) × CanGoFrom (unit_at v run.domain address) next run k address

abbrev pub CanGoBy : Way → (Running → KernelState → ℕ → Type 0) → FlashValue → KernelState → Type 0
CanGoBy (Ends ending) next v k = ⊤
CanGoBy (Goes address) next v k = CanGoIn k.running next v k address

-- From a program address on the words can be run to the unit's end, in at most so many instructions.
abbrev pub CanRun : ℕ → FlashValue → Running → KernelState → ℕ → Type 0
CanRun zero v run k address = ⊥
CanRun (suc n) v run k address =
    CanStepAt v run k address × CanGoBy (one_step v run k address).way (CanRun n v) v (one_step v run k address).kernel
