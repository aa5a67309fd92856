-- What becomes of the calls within a domain and of a slot, and of a return.
use Rattle.std.specs.Prelude.{ℕ, ◌==◌, ◌∷◌, [], List, Bool, true, false, Option, Some, None}
use Rattle.mote_base.specs.declared.frame.Frame.{Frame}
use Rattle.domain_model.specs.declared.handler.Running.{Running}
use Rattle.domain_model.specs.declared.fault.Rule.TheVariants as rule
use Rattle.domain_model.specs.declared.fault.FaultNote.{FaultNote}
use Rattle.domain_model.specs.declared.line.TraceLine.{TraceLine}
use Rattle.domain_model.specs.State.{KernelState}
use Rattle.domain_model.specs.Calls.{answered}
use Rattle.domain_model.specs.Frames.{bound_at, call_fault, call_line, came_back, entry_unit, local_called, slot_called, unbound_answer, unbound_line}
use Rattle.kernel_call.specs.declared.calls.SlotEnd.{SlotEnd}
use Rattle.kernel_call.specs.declared.calls.SlotEnd.TheVariants as slot_end
use Rattle.kernel_call.specs.declared.calls.Returned.{Returned}
use Rattle.kernel_call.specs.declared.calls.Returned.TheVariants as returned

-- A call that something stands against changes nothing.
abbrev pub unless : Option FaultNote → KernelState → KernelState → KernelState
unless None called k = called
unless (Some note) called k = k

-- a call within the domain that runs
abbrev pub called_within : KernelState → Running → ℕ → KernelState
called_within k run back = unless (call_fault k) (local_called k run back) k

-- The kernel after a call of a slot, the lines that it wrote, and how it went.
pub record SlotCalling : Type 0 where
  pub kernel : KernelState
  pub lines : List TraceLine
  pub ending : SlotEnd

-- one of a slot that is bound to the function at a place of a domain, by what stands against it
abbrev pub entered_slot : Option FaultNote → ℕ → ℕ → ℕ → ℕ → Running → KernelState → SlotCalling
entered_slot (Some note) slot back domain place run k =
    record { kernel = k; lines = []; ending = slot_end.Fault note }
entered_slot None slot back domain place run k =
    record {
      kernel = slot_called k run back domain;
      lines = call_line k run slot domain place ∷ [];
      ending = slot_end.Entered domain (entry_unit k.modules domain place);
    }

-- one that isn't bound answers so
abbrev pub slot_by : Option (ℕ × ℕ) → ℕ → ℕ → Running → KernelState → SlotCalling
slot_by None slot back run k =
    record { kernel = answered k unbound_answer; lines = unbound_line k run slot ∷ []; ending = slot_end.Unbound }
slot_by (Some (domain, place)) slot back run k = entered_slot (call_fault k) slot back domain place run k

abbrev pub called_slot : KernelState → Running → ℕ → ℕ → SlotCalling
called_slot k run slot back = slot_by (bound_at k run slot) slot back run k

-- The kernel after a return, and where it leads.
pub record Returning : Type 0 where
  pub kernel : KernelState
  pub answer : Returned

-- to the caller of the frame on top; with no frame the handler is over
abbrev pub returned_to : List Frame → KernelState → Returning
returned_to [] k = record { kernel = k; answer = returned.Over }
returned_to (f ∷ below) k = record { kernel = came_back f below k; answer = returned.To f.domain f.back }

-- One with something left on the stack is refused.
abbrev pub returned_by : Bool → KernelState → Returning
returned_by true k = returned_to k.frames k
returned_by false k =
    record { kernel = k; answer = returned.Fault (record { rule = rule.Balance; address = k.processor.sp }) }

abbrev pub returning : KernelState → Running → Returning
returning k run = returned_by (k.processor.sp == run.base) k
