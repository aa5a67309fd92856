-- What a handler's end leaves as it was: the clock, the processor, and no more messages than before, and no more timers that are due.
use Rattle.std.proofs.Common.{◌≡◌, ℕ, ◌≤◌, ◌==◌, not, List, length, refl, arith, Option, Some, None}
use Rattle.std.proofs.lemmas.List.{length-append}
use Rattle.mote_base.specs.Messages.{in_order, names, unnamed}
use Rattle.mote_base.specs.Timers.{without_module}
use Rattle.mote_base.specs.declared.timer.Timer.{Timer}
use Rattle.domain_model.specs.declared.handler.Running.{Running}
use Rattle.domain_model.specs.declared.fault.FaultNote.{FaultNote}
use Rattle.domain_model.specs.declared.fault.UnitEnd.{UnitEnd}
use Rattle.domain_model.specs.declared.fault.UnitEnd.TheVariants.{On, Over, Fault}
use Rattle.domain_model.specs.declared.line.TraceLine.{TraceLine}
use Rattle.domain_model.specs.State.{Loaded, Message, KernelState, RunnerState}
use Rattle.domain_model.specs.Modules.{id_at, module_named}
use Rattle.domain_model.specs.Turn.{purged, handler_ended, close_module, close, settled, faulted}
use Rattle.domain_model.specs.Remaining.{due_count}
use Rattle.domain_model.proofs.Kept.{filter_shorter}
use Rattle.domain_model.proofs.DueLaws.{due_some}

pub record Rests (k n : KernelState) : Type 0 where
  pub clock : n.clock ≡ k.clock
  pub processor : n.processor ≡ k.processor
  pub running : n.running ≡ k.running
  pub frames : n.frames ≡ k.frames
  pub hand : n.hand ≡ k.hand
  pub fewer : length (in_order n.queues) ≤ length (in_order k.queues)
  pub due : (now : ℕ) → due_count now n.timers ≤ due_count now k.timers

-- no more messages where those of an id are out
fewer_named : (id : ℕ) (k : KernelState) → length (in_order (unnamed id k.queues)) ≤ length (in_order k.queues)
fewer_named id k = omega (
  arith,
  length-append (unnamed id k.queues).high (unnamed id k.queues).low,
  length-append k.queues.high k.queues.low,
  filter_shorter (λ (m : Message). not (names id m)) k.queues.high,
  filter_shorter (λ (m : Message). not (names id m)) k.queues.low,
)

-- and no more timers are due where those of a module are out
fewer_due : (id now : ℕ) (k : KernelState) → due_count now (without_module id k.timers) ≤ due_count now k.timers
fewer_due id now k = due_some now (λ (t : Timer). not (t.«module» == id)) k.timers

module_rests : (o : Option Loaded) (k : KernelState) (r : RunnerState) (lines : List TraceLine) → Rests k (close_module o k r lines).kernel
module_rests None k r lines = record { clock = refl; processor = refl; running = refl; frames = refl; hand = refl; fewer = omega arith; due = λ now. omega arith }
module_rests (Some row) k r lines = record { clock = refl; processor = refl; running = refl; frames = refl; hand = refl; fewer = fewer_named row.face.id k; due = λ now. fewer_due row.face.id now k }

pub close_rests : (o : Option ℕ) (k : KernelState) (r : RunnerState) (lines : List TraceLine) → Rests k (close o k r lines).kernel
close_rests None k r lines = record { clock = refl; processor = refl; running = refl; frames = refl; hand = refl; fewer = omega arith; due = λ now. omega arith }
close_rests (Some id) k r lines = module_rests (module_named k.modules id) k r lines

-- the same after a fault
pub faulted_rests : (note : FaultNote) (run : Running) (k : KernelState) (r : RunnerState) (lines : List TraceLine) → Rests (handler_ended k) (faulted note run k r lines).kernel
faulted_rests note run k r lines =
    let rest = close_rests k.ending (purged (handler_ended k) (id_at k.modules run.domain) run.domain) _ _ in
    record {
      clock = rest.clock;
      processor = rest.processor;
      running = rest.running;
      frames = rest.frames;
      hand = rest.hand;
      fewer = omega (arith, rest.fewer, fewer_named (id_at k.modules run.domain) k);
      due = λ now. omega (arith, rest.due now, fewer_due (id_at k.modules run.domain) now k);
    }

-- and after each end of a unit
pub record Settles (k n : KernelState) : Type 0 where
  pub clock : n.clock ≡ k.clock
  pub processor : n.processor ≡ k.processor
  pub fewer : length (in_order n.queues) ≤ length (in_order k.queues)
  pub due : (now : ℕ) → due_count now n.timers ≤ due_count now k.timers

from_ended : (k n : KernelState) → Rests (handler_ended k) n → Settles k n
from_ended k n rest = record { clock = rest.clock; processor = rest.processor; fewer = rest.fewer; due = rest.due }

pub settled_rests : (e : UnitEnd) (run : Running) (k : KernelState) (r : RunnerState) (lines : List TraceLine) → Settles k (settled e run k r lines).kernel
settled_rests On run k r lines = record { clock = refl; processor = refl; fewer = omega arith; due = λ now. omega arith }
settled_rests Over run k r lines = from_ended k (settled Over run k r lines).kernel (close_rests k.ending (handler_ended k) r _)
settled_rests (Fault note) run k r lines = from_ended k (faulted note run k r lines).kernel (faulted_rests note run k r lines)
