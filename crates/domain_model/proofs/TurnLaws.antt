-- Every turn keeps a state good, and from each good state that is live there is a turn.
use Rattle.std.proofs.Common.{Ok, Err, ◌≡◌, inl, inr, ℕ, ◌≤◌, is_some, List, [], ◌∷◌, drop, Bool, true, false, refl, sym, ap, ◌∙◌, subst, arith, Option, Some, None, slice_get}
use Rattle.std.proofs.lemmas.Bool.{or_left}
use Rattle.mote_base.specs.Messages.{Lists, front}
use Rattle.mote_layout.specs.Memory.{stack_top}
use Rattle.domain_model.specs.declared.event.LoaderEvent.{LoaderEvent}
use Rattle.domain_model.specs.declared.event.Turned.TheVariants.{EndIdle, EndBudget}
use Rattle.domain_model.specs.declared.event.LoaderOrder.{LoaderOrder}
use Rattle.domain_model.specs.declared.event.LoaderOrder.TheVariants as what
use Rattle.domain_model.specs.declared.event.Choice.{Choice}
use Rattle.domain_model.specs.declared.event.Choice.TheVariants.{Stays, Hears, Fires, Comes, Dispatches, Jumps, Idles, Budgets, Watches, Acts}
use Rattle.domain_model.specs.declared.event.Packet.{Packet}
use Rattle.domain_model.specs.declared.fault.UnitEnd.{UnitEnd}
use Rattle.domain_model.specs.declared.fault.UnitEnd.TheVariants.{Fault}
use Rattle.domain_model.specs.declared.handler.Running.{Running}
use Rattle.domain_model.specs.declared.line.TraceLine.{TraceLine}
use Rattle.domain_model.specs.Bytes.{AreBytes}
use Rattle.domain_model.specs.Prepared.{Module, Prep}
use Rattle.domain_model.specs.State.{Loaded, Message, KernelState, RunnerState, State}
use Rattle.domain_model.specs.Modules.{is_loaded, free_domain, module_named}
use Rattle.domain_model.specs.Given.{Given, with_given}
use Rattle.domain_model.specs.Act.{Acted, act}
use Rattle.domain_model.specs.Free.{SameBut, SameKernel, SameState, UnitStep, with_memory, ends_handler, is_kernel_byte, unit_free}
use Rattle.domain_model.specs.Turn.{state_block, came, hear, unload_module, deliver, dispatch, watchdog, load_image, load_prepared, load_new, load_in, load_given, load_beside, constants_block, settled, choice, made, May, Leaves, Turn}
use Rattle.domain_model.specs.Events.{timer_times, is_due}
use Rattle.domain_model.specs.Good.{GoodMachine, ArePackets, is_ahead, latest, Good}
use Rattle.domain_model.specs.Facts.{IsFiring, IsDue, IsWaiting, IsLater, IsStruck, Facts}
use Rattle.domain_model.proofs.TimeLaws.{events_drop, packets_drop, first_moment, next_below, none_before}
use Rattle.domain_model.proofs.ClockLaws.{latest_least, latest_behind, latest_ahead, latest_more, latest_unit, waits_on, waits_more, ahead_same, ahead_begun, ahead_started, ahead_due, behind_outside, behind_inside, first_within}
use Rattle.domain_model.proofs.ChoiceLaws.{choice_facts}
use Rattle.domain_model.proofs.ActLaws.{with_parts, act_changes_alone, end_changes_nothing}
use Rattle.domain_model.proofs.ByteLists.{bytes_kept}
use Rattle.domain_model.proofs.CloseLaws.{settled_rests}
use Rattle.domain_model.proofs.UnitsKept.{act_good, step_good}
use Rattle.domain_model.proofs.HearLaws.{first_hears, heard_good}
use Rattle.domain_model.proofs.FiringLaws.{timer_reminds, fired_good}
use Rattle.domain_model.proofs.MachineLaws.{receiver_loaded, clock_good, memory_good, faulted_good, came_good, dispatch_good, settled_good}

-- What an event for the loader leaves as it was: the clock, what waits, and the timers.
pub record IsApartFrom (k n : KernelState) : Type 0 where
  pub clock : n.clock ≡ k.clock
  pub queues : n.queues ≡ k.queues
  pub timers : n.timers ≡ k.timers

constants_apart : (o : Option Given) (state : ℕ) (m : Module) (domain image : ℕ) (k : KernelState) (r : RunnerState) → IsApartFrom k (load_beside o state m domain image k r).kernel
constants_apart None state m domain image k r = record { clock = refl; queues = refl; timers = refl }
constants_apart (Some c) state m domain image k r = record { clock = refl; queues = refl; timers = refl }

given_apart : (o : Option Given) (m : Module) (domain image : ℕ) (k : KernelState) (r : RunnerState) → IsApartFrom k (load_given o m domain image k r).kernel
given_apart None m domain image k r = record { clock = refl; queues = refl; timers = refl }
given_apart (Some g) m domain image k r = constants_apart (constants_block (with_given k g) m.constants) g.address m domain image k r

in_apart : (o : Option ℕ) (m : Module) (image : ℕ) (k : KernelState) (r : RunnerState) → IsApartFrom k (load_in o m image k r).kernel
in_apart None m image k r = record { clock = refl; queues = refl; timers = refl }
in_apart (Some domain) m image k r = given_apart (state_block k domain m.state_size) m domain image k r

new_apart : (b : Bool) (m : Module) (image : ℕ) (k : KernelState) (r : RunnerState) → IsApartFrom k (load_new b m image k r).kernel
new_apart true m image k r = record { clock = refl; queues = refl; timers = refl }
new_apart false m image k r = in_apart (free_domain k.modules) m image k r

prepared_apart : (prep : Prep) (image : ℕ) (k : KernelState) (r : RunnerState) → IsApartFrom k (load_prepared prep image k r).kernel
prepared_apart (Err refusal) image k r = record { clock = refl; queues = refl; timers = refl }
prepared_apart (Ok m) image k r = new_apart (is_loaded k.modules m.face.id) m image k r

image_apart : (o : Option Prep) (image : ℕ) (k : KernelState) (r : RunnerState) → IsApartFrom k (load_image o image k r).kernel
image_apart None image k r = record { clock = refl; queues = refl; timers = refl }
image_apart (Some prep) image k r = prepared_apart prep image k r

unload_apart : (o : Option Loaded) (id : ℕ) (k : KernelState) (r : RunnerState) → IsApartFrom k (unload_module o id k r).kernel
unload_apart None id k r = record { clock = refl; queues = refl; timers = refl }
unload_apart (Some row) id k r = record { clock = refl; queues = refl; timers = refl }

pub came_apart : (images : List Prep) (w : LoaderOrder) (k : KernelState) (r : RunnerState) → IsApartFrom k (came images w k r).kernel
came_apart images (what.Load n) k r = image_apart (slice_get images n) n k r
came_apart images (what.Unload id) k r = unload_apart (module_named k.modules id) id k r
came_apart images what.Dump k r = record { clock = refl; queues = refl; timers = refl }

-- The clock.

deliver_clock : (o : Option Loaded) (m : Message) (k : KernelState) (r : RunnerState) → (deliver o m k r).kernel.clock ≡ k.clock
deliver_clock None m k r = refl
deliver_clock (Some row) m k r = refl

pub dispatch_clock : (o : Option Message) (k : KernelState) (r : RunnerState) → (dispatch o k r).kernel.clock ≡ k.clock
dispatch_clock None k r = refl
dispatch_clock (Some m) k r = deliver_clock (module_named k.modules m.to) m k r

pub settled_clock : (e : UnitEnd) (run : Running) (k : KernelState) (r : RunnerState) (lines : List TraceLine) → (settled e run k r lines).kernel.clock ≡ k.clock
settled_clock e run k r lines = (settled_rests e run k r lines).clock

deliver_timers : (o : Option Loaded) (m : Message) (k : KernelState) (r : RunnerState) → (deliver o m k r).kernel.timers ≡ k.timers
deliver_timers None m k r = refl
deliver_timers (Some row) m k r = refl

pub dispatch_timers : (o : Option Message) (k : KernelState) (r : RunnerState) → (dispatch o k r).kernel.timers ≡ k.timers
dispatch_timers None k r = refl
dispatch_timers (Some m) k r = deliver_timers (module_named k.modules m.to) m k r

-- The receiver of the first message runs.
pub dispatch_runs : (k : KernelState) (r : RunnerState) (m : Message) → GoodMachine k r → front k.queues ≡ Some m → (run : Running) × ((dispatch (front k.queues) k r).kernel.running ≡ Some run)
dispatch_runs k r m h e =
    let to = receiver_loaded k r m h e in (
      record { domain = to.row.domain; base = stack_top; bound = stack_top },
      ap (λ (o : Option Message). (dispatch o k r).kernel.running) e ∙ ap (λ (o : Option Loaded). (deliver o m k r).kernel.running) to.found,
    )

-- a unit's step changes the processor, the queues, the timers, the blocks, the message in hand and what runs above which frames alone
pub step_changes_alone : (k : KernelState) (r : RunnerState) (got : Acted) → UnitStep k r got → got.kernel ≡ with_parts k got.kernel.processor got.kernel.queues got.kernel.timers got.kernel.blocks got.kernel.hand got.kernel.running got.kernel.frames
step_changes_alone k r got step =
    let e : with_memory (act k r).kernel got.kernel.processor.memory ≡ with_parts k (with_memory (act k r).kernel got.kernel.processor.memory).processor (act k r).kernel.queues (act k r).kernel.timers (act k r).kernel.blocks (act k r).kernel.hand (act k r).kernel.running (act k r).kernel.frames
    = ap (λ (n : KernelState). with_memory n got.kernel.processor.memory) (act_changes_alone k r) in
    subst (λ (n : KernelState). n ≡ with_parts k n.processor n.queues n.timers n.blocks n.hand n.running n.frames) (sym step.kernel.rest) e

-- one that ends the handler changes bytes alone
pub step_ends : (k : KernelState) (r : RunnerState) (got : Acted) → UnitStep k r got → ends_handler got.ending ≡ true → got.kernel ≡ with_memory k got.kernel.processor.memory
step_ends k r got step e =
    step.kernel.rest ∙ ap (λ (n : KernelState). with_memory n got.kernel.processor.memory) (end_changes_nothing k r (sym (ap ends_handler step.ending) ∙ e))

-- and these as the unit itself does
pub step_queues : (k : KernelState) (r : RunnerState) (got : Acted) → UnitStep k r got → got.kernel.queues ≡ (act k r).kernel.queues
step_queues k r got step = ap (λ (n : KernelState). n.queues) step.kernel.rest

pub step_blocks : (k : KernelState) (r : RunnerState) (got : Acted) → UnitStep k r got → got.kernel.blocks ≡ (act k r).kernel.blocks
step_blocks k r got step = ap (λ (n : KernelState). n.blocks) step.kernel.rest

pub step_timers : (k : KernelState) (r : RunnerState) (got : Acted) → UnitStep k r got → got.kernel.timers ≡ (act k r).kernel.timers
step_timers k r got step = ap (λ (n : KernelState). n.timers) step.kernel.rest

pub step_hand : (k : KernelState) (r : RunnerState) (got : Acted) → UnitStep k r got → got.kernel.hand ≡ (act k r).kernel.hand
step_hand k r got step = ap (λ (n : KernelState). n.hand) step.kernel.rest

pub step_running : (k : KernelState) (r : RunnerState) (got : Acted) → UnitStep k r got → got.kernel.running ≡ (act k r).kernel.running
step_running k r got step = ap (λ (n : KernelState). n.running) step.kernel.rest

pub step_frames : (k : KernelState) (r : RunnerState) (got : Acted) → UnitStep k r got → got.kernel.frames ≡ (act k r).kernel.frames
step_frames k r got step = ap (λ (n : KernelState). n.frames) step.kernel.rest

-- the first packet comes to a good machine
first_packet : (packets : List Packet) (k : KernelState) (r : RunnerState) → GoodMachine k r → ArePackets packets → GoodMachine (hear (slice_get packets 0) k r).kernel (hear (slice_get packets 0) k r).runner
first_packet [] k r h are = h
first_packet (p ∷ ps) k r h are = heard_good k r p h are.0

packets_left : (packets : List Packet) → ArePackets packets → ArePackets (drop 1 packets)
packets_left [] are = tt
packets_left (p ∷ ps) are = are.1

-- The clock is no later than it can be.

-- where neither the clock nor what runs changes, and as much waits or is due
still_clock : (s t : State) → Good s → t.kernel.clock ≡ s.kernel.clock → t.total ≡ s.total → t.kernel.running ≡ s.kernel.running → t.spent ≡ s.spent → (waits_on s ≡ true → waits_on t ≡ true) → t.kernel.clock ≤ latest t.total (is_ahead t)
still_clock s t g clock total running spent waits =
    let more = latest_more s.total (is_ahead s) (is_ahead t) (ahead_same s t running spent waits) in
    subst (λ (n : ℕ). t.kernel.clock ≤ latest n (is_ahead t)) (sym total) (omega (arith, clock, g.clock, more))

-- where a packet comes
heard_clock : (s : State) → Good s → (made Hears s (act s.kernel s.runner)).state.kernel.clock ≤ latest s.total (is_ahead (made Hears s (act s.kernel s.runner)).state)
heard_clock s g =
    let t : State = (made Hears s (act s.kernel s.runner)).state in
    let hears = first_hears (slice_get s.packets 0) s.kernel s.runner in
    let clock : t.kernel.clock ≡ s.kernel.clock = ap (λ (k : KernelState). k.clock) hears.alone in
    still_clock s t g clock refl (ap (λ (k : KernelState). k.running) hears.alone) refl
    (waits_more s t hears.waits (ap (λ (k : KernelState). k.timers) hears.alone) clock)

-- where a timer fires, its message or another waits
fired_clock : (s : State) → Good s → IsFiring s → (made Fires s (act s.kernel s.runner)).state.kernel.clock ≤ latest s.total (is_ahead (made Fires s (act s.kernel s.runner)).state)
fired_clock s g facts =
    let t : State = (made Fires s (act s.kernel s.runner)).state in
    let reminds = timer_reminds s.kernel facts.timer facts.first facts.due in
    still_clock s t g (ap (λ (k : KernelState). k.clock) reminds.alone) refl (ap (λ (k : KernelState). k.running) reminds.alone) refl
    (λ waits. or_left (is_some (front t.kernel.queues)) (is_due (timer_times t.kernel.timers) t.kernel.clock) reminds.waits)

-- where an event comes, no unit has run since
event_clock : (e : LoaderEvent) (s : State) → Good s → IsDue e s → (made (Comes e) s (act s.kernel s.runner)).state.kernel.clock ≤ latest s.total (is_ahead (made (Comes e) s (act s.kernel s.runner)).state)
event_clock e s g facts =
    let t : State = (made (Comes e) s (act s.kernel s.runner)).state in
    let apart = came_apart s.images e.what s.kernel s.runner in
    let waits : waits_on s ≡ true → waits_on t ≡ true
    = waits_more s t (λ some. ap (λ (q : Lists Message). is_some (front q)) apart.queues ∙ some) apart.timers apart.clock in
    let more = latest_more s.total (is_ahead s) (is_ahead t) (ahead_begun s t facts.outside refl waits) in
    omega (arith, apart.clock, g.clock, more)

message_clock : (s : State) → Good s → IsWaiting s → (made Dispatches s (act s.kernel s.runner)).state.kernel.clock ≤ latest s.total (is_ahead (made Dispatches s (act s.kernel s.runner)).state)
message_clock s g facts =
    let t : State = (made Dispatches s (act s.kernel s.runner)).state in
    let runs = dispatch_runs s.kernel s.runner facts.message g.machine facts.first in
    let more = latest_more s.total (is_ahead s) (is_ahead t) (λ ahead. ahead_started t runs.0 runs.1 refl) in
    let clock : t.kernel.clock ≡ s.kernel.clock = dispatch_clock (front s.kernel.queues) s.kernel s.runner in
    omega (arith, clock, g.clock, more)

-- A jump is to a time that a script can name, or it is no longer than a timer waits; and a timer is due then.
jump_clock : (now : ℕ) (s : State) → Good s → IsLater now s → now ≤ latest s.total (is_ahead (made (Jumps now) s (act s.kernel s.runner)).state)
jump_clock now s g facts =
    let t : State = (made (Jumps now) s (act s.kernel s.runner)).state in
    let none = none_before s.packets s.events s.kernel.timers s.kernel.clock now facts.next facts.later in
    let before = latest_behind s.total (is_ahead s) (behind_outside s facts.outside facts.none_waits none.timers) in
    elim (next_below s.packets s.events s.kernel.timers now g.packet_times g.times facts.next) [
      | inl named ↦ omega (arith, named, latest_least s.total (is_ahead t))
      | inr timer ↦
          let within = first_within s.kernel.modules s.kernel.clock now s.kernel.timers g.machine.timers timer in
          let after = latest_ahead s.total (is_ahead t) (ahead_due t facts.outside (first_moment (timer_times s.kernel.timers) now timer)) in
          omega (arith, g.clock, before, within, after)
    ]

-- Where the watchdog strikes, a unit has run.
struck_clock : (run : Running) (s : State) → Good s → IsStruck run s → (made (Watches run) s (act s.kernel s.runner)).state.kernel.clock ≤ latest s.total (is_ahead (made (Watches run) s (act s.kernel s.runner)).state)
struck_clock run s g facts =
    let t : State = (made (Watches run) s (act s.kernel s.runner)).state in
    let before = latest_behind s.total (is_ahead s) (behind_inside s run facts.running (λ none. omega (arith, facts.spent, none, g.handler.0))) in
    let clock : t.kernel.clock ≡ s.kernel.clock = settled_clock (Fault (watchdog s)) run s.kernel s.runner [] in
    omega (arith, clock, g.clock, before, latest_least s.total (is_ahead t))

-- What a turn makes of a good state, but for the free bytes.

pub made_good : (c : Choice) (s : State) (got : Acted) → Good s → Facts c s → May c s got → Good (made c s got).state
made_good Stays s got g facts may = g
made_good Hears s got g facts may = record {
  machine = first_packet s.packets s.kernel s.runner g.machine g.packets;
  images = g.images;
  packets = packets_left s.packets g.packets;
  packet_times = packets_drop s.packets g.packet_times;
  times = g.times;
  clock = heard_clock s g;
  total = g.total;
  units = g.units;
  spent = g.spent;
  handler = g.handler;
}
made_good Fires s got g facts may = record {
  machine = fired_good s.kernel s.runner facts.timer g.machine facts.first facts.due;
  images = g.images;
  packets = g.packets;
  packet_times = g.packet_times;
  times = g.times;
  clock = fired_clock s g facts;
  total = g.total;
  units = g.units;
  spent = g.spent;
  handler = g.handler;
}
made_good (Comes e) s got g facts may = record {
  machine = came_good s.images e.what s.kernel s.runner g.machine facts.outside g.images;
  images = g.images;
  packets = g.packets;
  packet_times = g.packet_times;
  times = events_drop s.events g.times;
  clock = event_clock e s g facts;
  total = g.total;
  units = g.units;
  spent = omega arith;
  handler = g.handler;
}
made_good Dispatches s got g facts may = record {
  machine = dispatch_good s.kernel s.runner g.machine facts.outside;
  images = g.images;
  packets = g.packets;
  packet_times = g.packet_times;
  times = g.times;
  clock = message_clock s g facts;
  total = g.total;
  units = g.units;
  spent = omega arith;
  handler = g.handler;
}
made_good (Jumps now) s got g facts may = record {
  machine = clock_good s.kernel s.runner now (omega (arith, facts.later)) g.machine;
  images = g.images;
  packets = g.packets;
  packet_times = g.packet_times;
  times = g.times;
  clock = jump_clock now s g facts;
  total = g.total;
  units = g.units;
  spent = g.spent;
  handler = g.handler;
}
made_good Idles s got g facts may = record {
  machine = g.machine;
  images = g.images;
  packets = g.packets;
  packet_times = g.packet_times;
  times = g.times;
  clock = still_clock s (record s { ended = EndIdle }) g refl refl refl refl (λ waits. waits);
  total = g.total;
  units = g.units;
  spent = g.spent;
  handler = g.handler;
}
made_good Budgets s got g facts may = record {
  machine = g.machine;
  images = g.images;
  packets = g.packets;
  packet_times = g.packet_times;
  times = g.times;
  clock = still_clock s (record s { ended = EndBudget }) g refl refl refl refl (λ waits. waits);
  total = g.total;
  units = g.units;
  spent = g.spent;
  handler = g.handler;
}
made_good (Watches run) s got g facts may = record {
  machine = faulted_good (watchdog s) run s.kernel s.runner [] g.machine facts.running;
  images = g.images;
  packets = g.packets;
  packet_times = g.packet_times;
  times = g.times;
  clock = struck_clock run s g facts;
  total = g.total;
  units = g.units;
  spent = g.spent;
  handler = g.handler;
}
made_good (Acts run) s got g facts may =
    let alone = step_changes_alone s.kernel s.runner got may in
    let clock : (settled got.ending run got.kernel got.runner got.lines).kernel.clock ≡ s.kernel.clock
    = settled_clock got.ending run got.kernel got.runner got.lines ∙ ap (λ (k : KernelState). k.clock) alone in
    record {
      machine =
          clock_good (settled got.ending run got.kernel got.runner got.lines).kernel (settled got.ending run got.kernel got.runner got.lines).runner _ (omega arith)
          (settled_good got.ending run got.kernel got.runner got.lines (step_good s.kernel s.runner got may g.machine)
          (λ over. ap (λ (k : KernelState). k.running) (step_ends s.kernel s.runner got may over) ∙ facts.running));
      images = g.images;
      packets = g.packets;
      packet_times = g.packet_times;
      times = g.times;
      clock = omega (arith, clock, g.clock, latest_unit s.total (is_ahead s) (is_ahead (made (Acts run) s got).state));
      total = omega (arith, facts.total, g.total);
      units = g.units;
      spent = omega (arith, facts.spent, g.spent);
      handler = g.handler;
    }

-- A state with other free bytes.

-- the state with another memory
abbrev pub with_bytes : State → List ℕ → State
with_bytes s memory = record s { kernel = with_memory s.kernel memory }

pub same_state : (free : ℕ → Bool) (want t : State) → SameState free want t → t ≡ with_bytes want t.kernel.processor.memory
same_state free want t same = same.rest ∙ ap (λ (k : KernelState). record want { kernel = k }) same.kernel.rest

pub bytes_good : (free : ℕ → Bool) (s : State) (memory : List ℕ) → SameBut free s.kernel.processor.memory memory → Good s → Good (with_bytes s memory)
bytes_good free s memory same g = record {
  machine =
      memory_good s.kernel s.runner memory same.same_length
      (bytes_kept free s.kernel.processor.memory memory same g.machine.processor.memory_bytes) g.machine;
  images = g.images;
  packets = g.packets;
  packet_times = g.packet_times;
  times = g.times;
  clock = still_clock s (with_bytes s memory) g refl refl refl refl (λ waits. waits);
  total = g.total;
  units = g.units;
  spent = g.spent;
  handler = g.handler;
}

pub same_state_good : (free : ℕ → Bool) (want t : State) → SameState free want t → Good want → Good t
same_state_good free want t same g =
    subst Good (sym (same_state free want t same)) (bytes_good free want t.kernel.processor.memory same.kernel.memory g)

-- What holds of a state and of each that differs in its bytes holds after each turn.
pub leaves : (P : State → Type 0) → ((free : ℕ → Bool) (s : State) (memory : List ℕ) → SameBut free s.kernel.processor.memory memory → P s → P (with_bytes s memory)) → (c : Choice) (want t : State) → Leaves c want t → P want → P t
leaves P f Stays want t to p = subst P (sym to) p
leaves P f Hears want t to p = subst P (sym (same_state is_kernel_byte want t to)) (f is_kernel_byte want t.kernel.processor.memory to.kernel.memory p)
leaves P f Fires want t to p = subst P (sym (same_state is_kernel_byte want t to)) (f is_kernel_byte want t.kernel.processor.memory to.kernel.memory p)
leaves P f (Comes e) want t to p = subst P (sym (same_state is_kernel_byte want t to)) (f is_kernel_byte want t.kernel.processor.memory to.kernel.memory p)
leaves P f Dispatches want t to p = subst P (sym (same_state is_kernel_byte want t to)) (f is_kernel_byte want t.kernel.processor.memory to.kernel.memory p)
leaves P f (Jumps now) want t to p = subst P (sym (same_state is_kernel_byte want t to)) (f is_kernel_byte want t.kernel.processor.memory to.kernel.memory p)
leaves P f Idles want t to p = subst P (sym (same_state is_kernel_byte want t to)) (f is_kernel_byte want t.kernel.processor.memory to.kernel.memory p)
leaves P f Budgets want t to p = subst P (sym (same_state is_kernel_byte want t to)) (f is_kernel_byte want t.kernel.processor.memory to.kernel.memory p)
leaves P f (Watches run) want t to p = subst P (sym (same_state is_kernel_byte want t to)) (f is_kernel_byte want t.kernel.processor.memory to.kernel.memory p)
leaves P f (Acts run) want t to p = subst P (sym to) p

pub turn_good : (s t : State) (lines : List TraceLine) → Good s → Turn s t lines → Good t
turn_good s t lines g turn =
    leaves Good bytes_good (choice s) (made (choice s) s turn.got).state t turn.to (made_good (choice s) s turn.got g (choice_facts s) turn.may)

-- The turn that leaves no free byte changed.

same_bytes : (free : ℕ → Bool) (memory : List ℕ) → AreBytes memory → SameBut free memory memory
same_bytes free memory bytes = record { same_length = refl; same = λ i h. refl; bytes = λ i h. bytes i }

same_kernel : (free : ℕ → Bool) (k : KernelState) → AreBytes k.processor.memory → SameKernel free k k
same_kernel free k bytes = record { rest = refl; memory = same_bytes free k.processor.memory bytes }

pub step_itself : (k : KernelState) (r : RunnerState) → GoodMachine k r → UnitStep k r (act k r)
step_itself k r h = record {
  kernel = same_kernel (unit_free k r) (act k r).kernel (act_good k r h).processor.memory_bytes;
  runner = refl;
  lines = refl;
  ending = refl;
}

-- each choice may have that unit, and leaves what is made of the state
pub may_itself : (c : Choice) (s : State) → Good s → May c s (act s.kernel s.runner)
may_itself Stays s g = tt
may_itself Hears s g = tt
may_itself Fires s g = tt
may_itself (Comes e) s g = tt
may_itself Dispatches s g = tt
may_itself (Jumps now) s g = tt
may_itself Idles s g = tt
may_itself Budgets s g = tt
may_itself (Watches run) s g = tt
may_itself (Acts run) s g = step_itself s.kernel s.runner g.machine

same_state_itself : (s : State) → Good s → SameState is_kernel_byte s s
same_state_itself s g = record { kernel = same_kernel is_kernel_byte s.kernel g.machine.processor.memory_bytes; rest = refl }

pub leaves_itself : (c : Choice) (s : State) → Good s → Leaves c s s
leaves_itself Stays s g = refl
leaves_itself Hears s g = same_state_itself s g
leaves_itself Fires s g = same_state_itself s g
leaves_itself (Comes e) s g = same_state_itself s g
leaves_itself Dispatches s g = same_state_itself s g
leaves_itself (Jumps now) s g = same_state_itself s g
leaves_itself Idles s g = same_state_itself s g
leaves_itself Budgets s g = same_state_itself s g
leaves_itself (Watches run) s g = same_state_itself s g
leaves_itself (Acts run) s g = refl

-- what is made of a good state, with the unit as it is defined, is good
pub good_made : (c : Choice) (s : State) → Good s → Facts c s → Good (made c s (act s.kernel s.runner)).state
good_made c s g facts = made_good c s (act s.kernel s.runner) g facts (may_itself c s g)

-- and a turn
pub turn_made : (s : State) → Good s → Turn s (made (choice s) s (act s.kernel s.runner)).state (made (choice s) s (act s.kernel s.runner)).lines
turn_made s g = record {
  got = act s.kernel s.runner;
  may = may_itself (choice s) s g;
  to = leaves_itself (choice s) (made (choice s) s (act s.kernel s.runner)).state (good_made (choice s) s g (choice_facts s));
  tells = refl;
}

-- the same by a choice that is known to be the next, for a unit of any runner and a state that may follow
pub turn_by : (c : Choice) (s t : State) (got : Acted) (lines : List TraceLine) → choice s ≡ c → May c s got → Leaves c (made c s got).state t → lines ≡ (made c s got).lines → Turn s t lines
turn_by c s t got lines e may to tells = record {
  got = got;
  may = subst (λ (x : Choice). May x s got) (sym e) may;
  to = subst (λ (x : Choice). Leaves x (made x s got).state t) (sym e) to;
  tells = subst (λ (x : Choice). lines ≡ (made x s got).lines) (sym e) tells;
}
