-- What one unit does: it ends the handler and changes nothing, or it moves the processor alone, or the kernel serves it, or it calls or comes
-- back from a call; and it leaves a next unit.
use Rattle.std.proofs.Common.{◌≡◌, ℕ, ◌+◌, ◌<◌, ◌≤◌, inl, inr, ◌==◌, ◌&&◌, nat_lt, nat_le, List, [], ◌∷◌, ◌++◌, length, Bool, true, false, refl, sym, ap, ◌∙◌, subst, arith, Option, Some, None}
use Rattle.std.specs.List.{Contains, list_any}
use Rattle.std.specs.Option.{option_map_or}
use Rattle.std.proofs.lemmas.Bool.{cond_both, or_cases, and_parts, ltb-true, leb-true, true≢false}
use Rattle.std.proofs.lemmas.List.{length-append}
use Rattle.avr_isa.specs.declared.instruction.Instr.{Instr}
use Rattle.avr_isa.specs.declared.instruction.Instr.TheVariants as instr
use Rattle.mote_base.specs.declared.frame.Frame.{Frame}
use Rattle.mote_base.specs.declared.timer.Timer.{Timer}
use Rattle.mote_base.specs.Messages.{Lists, list_of, in_order, appended, queue_limit}
use Rattle.mote_layout.specs.Memory.{ram_start, ram_end, bank_words, floor}
use Rattle.mote_layout.specs.Limits.{payload_limit}
use Rattle.mote_layout.specs.Blocks.{block_of, owns}
use Rattle.mote_layout.specs.Parcels.{Payload}
use Rattle.mote_layout.specs.Requests.{holds}
use Rattle.mote_layout.specs.declared.segment.Segment.{Segment}
use Rattle.unit_code.specs.Ends.{leaves}
use Rattle.unit_code.specs.Proper.{IsOfKind, IsProper, LeadsBelow}
use Rattle.unit_code.specs.declared.unit.Unit.{Unit}
use Rattle.unit_code.specs.declared.unit.Unit.TheVariants.{Plain, Store, Load, Push, Pop, SpGroup, Reserve, Skip, Branch, Jump, LocalCall, KernelCall, SlotCall, SlotIndirect, Return}
use Rattle.domain_model.specs.declared.handler.Running.{Running}
use Rattle.domain_model.specs.declared.fault.Rule.{Rule}
use Rattle.domain_model.specs.declared.fault.Rule.TheVariants as rule
use Rattle.domain_model.specs.declared.fault.FaultNote.{FaultNote}
use Rattle.domain_model.specs.declared.fault.UnitEnd.{UnitEnd}
use Rattle.domain_model.specs.declared.fault.UnitEnd.TheVariants.{Over}
use Rattle.domain_model.specs.declared.line.TraceLine.{TraceLine}
use Rattle.domain_model.specs.declared.line.TraceLine.TheVariants as line
use Rattle.domain_model.specs.State.{Processor, Message, Loaded, KernelState, RunnerState, register, pair, with_processor}
use Rattle.domain_model.specs.Services.{Service, Malloc, Free, ChangeOwn, PostShort, PostLong, Take, TimerStart, TimerStop, Say, Clock, Send, MyId, service_of}
use Rattle.domain_model.specs.Modules.{id_at, is_loaded, module_at, module_named}
use Rattle.domain_model.specs.Payloads.{holds_bytes}
use Rattle.domain_model.specs.Given.{Given, given}
use Rattle.domain_model.specs.Calls.{answered, malloc_given, free_held, change_held, changed_to, message_of, post_where, post_to, long_message_of, carrying, long_where, long_to, long_held, payload_taken, take_by, take_hand, send_within, send_held, serve}
use Rattle.domain_model.specs.Frames.{call_fault, local_called, slot_called, came_back, indirect_slot, bound_at, entry_unit, call_line}
use Rattle.domain_model.specs.Act.{Acted, goes_to, goes_on, act, act_running, act_at, act_effect, act_under, act_group, act_reserve, act_skip, act_branch, act_back, act_return, act_called, act_slot, act_indirect, act_call, passes, taken, group_sp, has_room, store_address, load_address, may_store, may_load, bank, next_unit}
use Rattle.domain_model.specs.Free.{calls_kernel, ends_handler}
use Rattle.domain_model.specs.Good.{GoodMachine, GoodModule, GoodHandler, GoodRunning, GoodHand}
use Rattle.domain_model.specs.Laws.{LastUnitsChangeNothing, slot_of}
use Rattle.domain_model.proofs.UnitLaws.{proper_fits, not_last, kind_at, target_at, skip_at}
use Rattle.domain_model.proofs.Kept.{each_contained, any_nowhere}
use Rattle.domain_model.proofs.ModuleLaws.{found}
use Rattle.domain_model.proofs.BlockLaws.{owned_in_heap}

-- The kernel with another processor, other queues, other timers, other blocks, another message in hand, and something else that runs above other frames.
abbrev pub with_parts : KernelState → Processor → Lists Message → List Timer → List Segment → Option Message → Option Running → List Frame → KernelState
with_parts k p queues timers blocks hand running frames =
    record k { processor = p; queues = queues; timers = timers; blocks = blocks; hand = hand; running = running; frames = frames }

abbrev pub is_unload : TraceLine → Bool
is_unload (line.Unload t i) = true
is_unload _ = false

-- The kernel serves a call: it changes these alone but for what runs, posts one message at most, and writes one line at most, which unloads
-- nothing.
pub record Serves (k n : KernelState) (lines : List TraceLine) : Type 0 where
  pub alone : n ≡ with_parts k n.processor n.queues n.timers n.blocks n.hand k.running k.frames
  pub more : length (in_order n.queues) ≤ length (in_order k.queues) + 1
  pub few : length lines ≤ 1
  pub quiet : list_any is_unload lines ≡ false

-- The ways of a unit: the one that is next, where one is, by what runs.
pub data Outcome (o : Option Unit) (running : Option Running) (k : KernelState) (r : RunnerState) : Acted → Type 0 where
  ends : (ending : UnitEnd) → ends_handler ending ≡ true → Outcome o running k r (record { kernel = k; runner = r; lines = []; ending = ending })
  moves : (p : Processor) (unit : ℕ) → Outcome o running k r (goes_to unit (with_processor k p) r [])
  serves : (n : KernelState) (lines : List TraceLine) → calls_kernel o ≡ true → Serves k n lines → Outcome o running k r (goes_on n r lines)
  calls_within : (run : Running) (target : ℕ) → running ≡ Some run → Outcome o running k r (goes_to target (local_called k run (r.unit + 1)) r [])
  enters : (run : Running) (slot provider place : ℕ) → running ≡ Some run → slot_of o k.processor ≡ Some slot → bound_at k run slot ≡ Some (provider, place) → Outcome o running k r (goes_to (entry_unit k.modules provider place) (slot_called k run (r.unit + 1) provider) r (call_line k run slot provider place ∷ []))
  comes_back : (f : Frame) (below : List Frame) → o ≡ Some Return → k.frames ≡ f ∷ below → Outcome o running k r (goes_to f.back (came_back f below k) r [])

-- Each unit goes one of these ways.

module _ (o : Option Unit) (running : Option Running) (k : KernelState) (r : RunnerState) where
  effect_outcome : (b : Bool) (why : Rule) (address : ℕ) (i : Instr) → Outcome o running k r (act_effect b why address i k r)
  effect_outcome true why address i = moves _ (r.unit + 1)
  effect_outcome false why address i = ends _ refl

  under_outcome : (b with_sreg : Bool) → Outcome o running k r (act_under b with_sreg k r)
  under_outcome true with_sreg = moves _ (r.unit + 1)
  under_outcome false with_sreg = ends _ refl

  group_outcome : (b with_sreg : Bool) (run : Running) → Outcome o running k r (act_group b with_sreg run k r)
  group_outcome true with_sreg run = under_outcome (nat_le (group_sp k.processor) run.base) with_sreg
  group_outcome false with_sreg run = ends _ refl

  reserve_outcome : (b : Bool) → Outcome o running k r (act_reserve b k r)
  reserve_outcome true = moves _ (r.unit + 1)
  reserve_outcome false = ends _ refl

  skip_outcome : (b : Bool) → Outcome o running k r (act_skip b k r)
  skip_outcome true = moves k.processor (r.unit + 2)
  skip_outcome false = moves k.processor (r.unit + 1)

  branch_outcome : (b : Bool) (target : ℕ) → Outcome o running k r (act_branch b target k r)
  branch_outcome true target = moves k.processor target
  branch_outcome false target = moves k.processor (r.unit + 1)

  back_outcome : (frames : List Frame) → o ≡ Some Return → k.frames ≡ frames → Outcome o running k r (act_back frames k r)
  back_outcome [] is waits = ends Over refl
  back_outcome (f ∷ below) is waits = comes_back f below is waits

  return_outcome : (b : Bool) → o ≡ Some Return → Outcome o running k r (act_return b k r)
  return_outcome true is = back_outcome k.frames is refl
  return_outcome false is = ends _ refl

  -- a call is refused, or goes its way
  called_outcome : (fault : Option FaultNote) (entered : Acted) → Outcome o running k r entered → Outcome o running k r (act_called fault entered k r)
  called_outcome None entered goes = goes
  called_outcome (Some note) entered goes = ends _ refl

  slot_outcome : (bound : Option (ℕ × ℕ)) (slot : ℕ) (run : Running) → running ≡ Some run → calls_kernel o ≡ true → slot_of o k.processor ≡ Some slot → bound_at k run slot ≡ bound → Outcome o running k r (act_slot bound slot run k r)
  slot_outcome None slot run runs calls is to =
      serves _ _ calls (record { alone = refl; more = omega arith; few = omega arith; quiet = refl })
  slot_outcome (Some (provider, place)) slot run runs calls is to =
      called_outcome (call_fault k) (goes_to (entry_unit k.modules provider place) (slot_called k run (r.unit + 1) provider) r (call_line k run slot provider place ∷ []))
      (enters run slot provider place runs is to)

  indirect_outcome : (slot : Option ℕ) (run : Running) → running ≡ Some run → calls_kernel o ≡ true → slot_of o k.processor ≡ slot → Outcome o running k r (act_indirect slot run k r)
  indirect_outcome None run runs calls is = ends _ refl
  indirect_outcome (Some slot) run runs calls is = slot_outcome (bound_at k run slot) slot run runs calls is refl

-- a call that answers with other blocks, and with the same queues
same_queues : (k : KernelState) (p : Processor) (blocks : List Segment) (lines : List TraceLine) → length lines ≤ 1 → list_any is_unload lines ≡ false → Serves k (with_parts k p k.queues k.timers blocks k.hand k.running k.frames) lines
same_queues k p blocks lines few quiet = record { alone = refl; more = omega arith; few = few; quiet = quiet }

pub one_more : (high : Bool) (m : Message) (k : KernelState) → length (in_order (appended high m k.queues)) ≤ length (in_order k.queues) + 1
one_more high m k =
    cond_both high (record { high = k.queues.high ++ m ∷ []; low = k.queues.low }) (record { high = k.queues.high; low = k.queues.low ++ m ∷ [] })
    (λ (q : Lists Message). length (in_order q) ≤ length (in_order k.queues) + 1)
    (λ first. omega (arith, length-append (k.queues.high ++ m ∷ []) k.queues.low, length-append k.queues.high (m ∷ []), length-append k.queues.high k.queues.low))
    (λ second. omega (arith, length-append k.queues.high (k.queues.low ++ m ∷ []), length-append k.queues.low (m ∷ []), length-append k.queues.high k.queues.low))

where_serves : (b : Bool) (m : Message) (k : KernelState) → Serves k (post_where b m k) []
where_serves true m k = record { alone = refl; more = one_more m.high m k; few = omega arith; quiet = refl }
where_serves false m k = same_queues k _ k.blocks [] (omega arith) refl

to_serves : (b : Bool) (m : Message) (k : KernelState) → Serves k (post_to b m k) []
to_serves true m k = where_serves (nat_lt (length (list_of m.high k.queues)) queue_limit) m k
to_serves false m k = same_queues k _ k.blocks [] (omega arith) refl

given_serves : (o : Option Given) (k : KernelState) → Serves k (malloc_given o k) []
given_serves None k = same_queues k _ k.blocks [] (omega arith) refl
given_serves (Some g) k = same_queues k _ g.blocks [] (omega arith) refl

changed_serves : (o : Option Loaded) (address : ℕ) (k : KernelState) → Serves k (changed_to o address k) []
changed_serves None address k = same_queues k _ k.blocks [] (omega arith) refl
changed_serves (Some owner) address k = same_queues k _ _ [] (omega arith) refl

long_serves : (b : Bool) (m : Message) (address : ℕ) (k : KernelState) → Serves k (long_where b m address k) []
long_serves true m address k = record { alone = refl; more = one_more m.high (carrying m (block_of address)) k; few = omega arith; quiet = refl }
long_serves false m address k = same_queues k _ k.blocks [] (omega arith) refl

long_to_serves : (b : Bool) (m : Message) (address : ℕ) (k : KernelState) → Serves k (long_to b m address k) []
long_to_serves true m address k = long_serves (nat_lt (length (list_of m.high k.queues)) queue_limit) m address k
long_to_serves false m address k = same_queues k _ k.blocks [] (omega arith) refl

taken_serves : (o : Option Payload) (m : Message) (run : Running) (k : KernelState) → Serves k (payload_taken o m run k) []
taken_serves None m run k = same_queues k _ k.blocks [] (omega arith) refl
taken_serves (Some p) m run k = record { alone = refl; more = omega arith; few = omega arith; quiet = refl }

take_by_serves : (b : Bool) (m : Message) (run : Running) (k : KernelState) → Serves k (take_by b m run k) []
take_by_serves true m run k = taken_serves m.load m run k
take_by_serves false m run k = same_queues k _ k.blocks [] (omega arith) refl

take_serves : (o : Option Message) (run : Running) (k : KernelState) → Serves k (take_hand o run k) []
take_serves None run k = same_queues k _ k.blocks [] (omega arith) refl
take_serves (Some m) run k = take_by_serves (m.to == id_at k.modules run.domain) m run k

-- a call that answers with other timers
timers_serve : (k : KernelState) (timers : List Timer) (answer : ℕ) → Serves k (answered (record k { timers = timers }) answer) []
timers_serve k timers answer = record { alone = refl; more = omega arith; few = omega arith; quiet = refl }

module _ (o : Option Unit) (running : Option Running) (run : Running) (k : KernelState) (r : RunnerState) (calls : calls_kernel o ≡ true) where
  long_outcome : (b : Bool) (m : Message) (address : ℕ) → Outcome o running k r (act_call (long_held b m address k) r)
  long_outcome false m address = ends _ refl
  long_outcome true m address = serves _ [] calls (long_to_serves (is_loaded k.modules m.to) m address k)

  within_outcome : (b : Bool) → Outcome o running k r (act_call (send_within b k run) r)
  within_outcome true = serves _ _ calls (same_queues k _ k.blocks _ (omega arith) refl)
  within_outcome false = serves _ [] calls (same_queues k _ k.blocks [] (omega arith) refl)

  send_outcome : (b : Bool) → Outcome o running k r (act_call (send_held b k run) r)
  send_outcome false = ends _ refl
  send_outcome true = within_outcome (nat_le (pair k.processor 20) payload_limit)

  free_outcome : (b : Bool) (address : ℕ) → Outcome o running k r (act_call (free_held b address k) r)
  free_outcome false address = ends _ refl
  free_outcome true address = serves _ [] calls (same_queues k _ _ [] (omega arith) refl)

  change_outcome : (b : Bool) (address : ℕ) → Outcome o running k r (act_call (change_held b address k) r)
  change_outcome false address = ends _ refl
  change_outcome true address = serves _ [] calls (changed_serves (module_named k.modules (register k.processor 22)) address k)

  call_outcome : (service : Option Service) → Outcome o running k r (act_call (serve service run k) r)
  call_outcome (Some Malloc) = serves _ [] calls (given_serves (given k run.domain (pair k.processor 24)) k)
  call_outcome (Some Free) = free_outcome (holds k.blocks run.domain (pair k.processor 24)) (pair k.processor 24)
  call_outcome (Some ChangeOwn) = change_outcome (holds k.blocks run.domain (pair k.processor 24)) (pair k.processor 24)
  call_outcome (Some PostShort) = serves _ [] calls (to_serves (is_loaded k.modules (message_of k run).to) (message_of k run) k)
  call_outcome (Some PostLong) =
      long_outcome (holds_bytes k.blocks run.domain (pair k.processor 18) (pair k.processor 20)) (long_message_of k run) (pair k.processor 18)
  call_outcome (Some Take) = serves _ [] calls (take_serves k.hand run k)
  call_outcome (Some TimerStart) = serves _ [] calls (timers_serve k _ _)
  call_outcome (Some TimerStop) = serves _ [] calls (timers_serve k _ _)
  call_outcome (Some Say) = serves _ _ calls (same_queues k _ k.blocks _ (omega arith) refl)
  call_outcome (Some Clock) = serves _ [] calls (same_queues k _ k.blocks [] (omega arith) refl)
  call_outcome (Some Send) = send_outcome (holds_bytes k.blocks run.domain (pair k.processor 18) (pair k.processor 20))
  call_outcome (Some MyId) = serves _ [] calls (same_queues k _ k.blocks [] (omega arith) refl)
  call_outcome None = serves k [] calls (same_queues k k.processor k.blocks [] (omega arith) refl)

at_outcome : (o : Option Unit) (run : Running) (k : KernelState) (r : RunnerState) → Outcome o (Some run) k r (act_at o run k r)
at_outcome None run k r = ends Over refl
at_outcome (Some (Plain i)) run k r = moves _ (r.unit + 1)
at_outcome (Some (Store i)) run k r =
    effect_outcome (Some (Store i)) (Some run) k r (may_store k run (store_address i k.processor)) rule.Store (store_address i k.processor) i
at_outcome (Some (Load i)) run k r =
    effect_outcome (Some (Load i)) (Some run) k r (may_load k run (load_address i k.processor)) rule.Load (load_address i k.processor) i
at_outcome (Some (Push s)) run k r = effect_outcome (Some (Push s)) (Some run) k r (nat_lt floor k.processor.sp) rule.StackOver k.processor.sp (instr.Push s)
at_outcome (Some (Pop d)) run k r = effect_outcome (Some (Pop d)) (Some run) k r (nat_lt k.processor.sp run.base) rule.StackUnder k.processor.sp (instr.Pop d)
at_outcome (Some (SpGroup with_sreg)) run k r =
    group_outcome (Some (SpGroup with_sreg)) (Some run) k r (nat_le floor (group_sp k.processor)) with_sreg run
at_outcome (Some Reserve) run k r = reserve_outcome (Some Reserve) (Some run) k r (has_room k.processor)
at_outcome (Some (Skip i)) run k r = skip_outcome (Some (Skip i)) (Some run) k r (passes i k.processor)
at_outcome (Some (Branch set bit target)) run k r = branch_outcome (Some (Branch set bit target)) (Some run) k r (taken set bit k.processor) target
at_outcome (Some (Jump target)) run k r = moves k.processor target
at_outcome (Some (KernelCall n)) run k r = call_outcome (Some (KernelCall n)) (Some run) run k r refl (service_of n)
at_outcome (Some (LocalCall target)) run k r =
    called_outcome (Some (LocalCall target)) (Some run) k r (call_fault k) (goes_to target (local_called k run (r.unit + 1)) r []) (calls_within run target refl)
at_outcome (Some (SlotCall slot)) run k r = slot_outcome (Some (SlotCall slot)) (Some run) k r (bound_at k run slot) slot run refl refl refl refl
at_outcome (Some SlotIndirect) run k r = indirect_outcome (Some SlotIndirect) (Some run) k r (indirect_slot k.processor) run refl refl refl
at_outcome (Some Return) run k r = return_outcome (Some Return) (Some run) k r (k.processor.sp == run.base) refl

-- the unit that is next, where something runs
abbrev pub next_of : Option Running → RunnerState → Option Unit
next_of None r = None
next_of (Some run) r = next_unit r run

running_outcome : (running : Option Running) (k : KernelState) (r : RunnerState) → Outcome (next_of running r) running k r (act_running running k r)
running_outcome None k r = ends Over refl
running_outcome (Some run) k r = at_outcome (next_unit r run) run k r

pub act_outcome : (k : KernelState) (r : RunnerState) → Outcome (next_of k.running r) k.running k r (act k r)
act_outcome k r = running_outcome k.running k r

-- What holds of all of them.

alone_by : (o : Option Unit) (k : KernelState) (r : RunnerState) (got : Acted) → Outcome o k.running k r got → got.kernel ≡ with_parts k got.kernel.processor got.kernel.queues got.kernel.timers got.kernel.blocks got.kernel.hand got.kernel.running got.kernel.frames
alone_by o k r _ (ends ending over) = refl
alone_by o k r _ (moves p unit) = refl
alone_by o k r _ (serves n lines call s) =
    s.alone
    ∙ ap (λ (x : Option Running). with_parts k n.processor n.queues n.timers n.blocks n.hand x k.frames) (sym (ap (λ (x : KernelState). x.running) s.alone))
    ∙ ap (λ (x : List Frame). with_parts k n.processor n.queues n.timers n.blocks n.hand n.running x) (sym (ap (λ (x : KernelState). x.frames) s.alone))
alone_by o k r _ (calls_within run target runs) = refl
alone_by o k r _ (enters run slot provider place runs is to) = refl
alone_by o k r _ (comes_back f below is waits) = refl

pub act_changes_alone : (k : KernelState) (r : RunnerState) → (act k r).kernel ≡ with_parts k (act k r).kernel.processor (act k r).kernel.queues (act k r).kernel.timers (act k r).kernel.blocks (act k r).kernel.hand (act k r).kernel.running (act k r).kernel.frames
act_changes_alone k r = alone_by (next_of k.running r) k r (act k r) (act_outcome k r)

-- no bank changes
banks_by : (o : Option Unit) (k : KernelState) (r : RunnerState) (got : Acted) → Outcome o k.running k r got → got.runner.banks ≡ r.banks
banks_by o k r _ (ends ending over) = refl
banks_by o k r _ (moves p unit) = refl
banks_by o k r _ (serves n lines call s) = refl
banks_by o k r _ (calls_within run target runs) = refl
banks_by o k r _ (enters run slot provider place runs is to) = refl
banks_by o k r _ (comes_back f below is waits) = refl

pub act_keeps_banks : (k : KernelState) (r : RunnerState) → (act k r).runner.banks ≡ r.banks
act_keeps_banks k r = banks_by (next_of k.running r) k r (act k r) (act_outcome k r)

-- one message is posted at most
more_by : (o : Option Unit) (k : KernelState) (r : RunnerState) (got : Acted) → Outcome o k.running k r got → length (in_order got.kernel.queues) ≤ length (in_order k.queues) + 1
more_by o k r _ (ends ending over) = omega arith
more_by o k r _ (moves p unit) = omega arith
more_by o k r _ (serves n lines call s) = s.more
more_by o k r _ (calls_within run target runs) = omega arith
more_by o k r _ (enters run slot provider place runs is to) = omega arith
more_by o k r _ (comes_back f below is waits) = omega arith

pub act_posts_one : (k : KernelState) (r : RunnerState) → length (in_order (act k r).kernel.queues) ≤ length (in_order k.queues) + 1
act_posts_one k r = more_by (next_of k.running r) k r (act k r) (act_outcome k r)

-- one line is written at most
few_by : (o : Option Unit) (k : KernelState) (r : RunnerState) (got : Acted) → Outcome o k.running k r got → length got.lines ≤ 1
few_by o k r _ (ends ending over) = omega arith
few_by o k r _ (moves p unit) = omega arith
few_by o k r _ (serves n lines call s) = s.few
few_by o k r _ (calls_within run target runs) = omega arith
few_by o k r _ (enters run slot provider place runs is to) = omega arith
few_by o k r _ (comes_back f below is waits) = omega arith

pub act_lines : (k : KernelState) (r : RunnerState) → length (act k r).lines ≤ 1
act_lines k r = few_by (next_of k.running r) k r (act k r) (act_outcome k r)

-- and it unloads nothing
quiet_by : (o : Option Unit) (k : KernelState) (r : RunnerState) (got : Acted) → Outcome o k.running k r got → list_any is_unload got.lines ≡ false
quiet_by o k r _ (ends ending over) = refl
quiet_by o k r _ (moves p unit) = refl
quiet_by o k r _ (serves n lines call s) = s.quiet
quiet_by o k r _ (calls_within run target runs) = refl
quiet_by o k r _ (enters run slot provider place runs is to) = refl
quiet_by o k r _ (comes_back f below is waits) = refl

pub act_unloads_nothing : (k : KernelState) (r : RunnerState) (time id : ℕ) → Contains (act k r).lines (line.Unload time id) → ⊥
act_unloads_nothing k r time id c =
    let quiet = quiet_by (next_of k.running r) k r (act k r) (act_outcome k r) in
    true≢false (each_contained (λ x. is_unload x ≡ false) (act k r).lines (line.Unload time id) (any_nowhere is_unload (act k r).lines quiet) c)

-- what ends the handler changes nothing and writes nothing
end_by : (o : Option Unit) (k : KernelState) (r : RunnerState) (got : Acted) → Outcome o k.running k r got → ends_handler got.ending ≡ true → (got.kernel ≡ k) × (got.runner ≡ r) × (got.lines ≡ [])
end_by o k r _ (ends ending over) e = (refl, refl, refl)
end_by o k r _ (moves p unit) e = absurd (cc)
end_by o k r _ (serves n lines call s) e = absurd (cc)
end_by o k r _ (calls_within run target runs) e = absurd (cc)
end_by o k r _ (enters run slot provider place runs is to) e = absurd (cc)
end_by o k r _ (comes_back f below is waits) e = absurd (cc)

pub last_units_change_nothing : LastUnitsChangeNothing
last_units_change_nothing k r e = end_by (next_of k.running r) k r (act k r) (act_outcome k r) e

pub end_changes_nothing : (k : KernelState) (r : RunnerState) → ends_handler (act k r).ending ≡ true → (act k r).kernel ≡ k
end_changes_nothing k r e = (last_units_change_nothing k r e).0

-- The unit that runs.

-- what is known of the running domain
pub running_good : (k : KernelState) (r : RunnerState) (run : Running) → GoodMachine k r → k.running ≡ Some run → GoodRunning k r run × GoodHand k.modules k.hand
running_good k r run h i = subst (GoodHandler k r) i h.handler

-- whether the module of the running domain is sealed
abbrev is_sealed : KernelState → Running → Bool
is_sealed k run = option_map_or (λ (m : Loaded). m.sealed) (module_at k.modules run.domain) false

-- the units of a loaded domain are proper
pub bank_proper : (k : KernelState) (r : RunnerState) (run : Running) → GoodMachine k r → k.running ≡ Some run → IsProper (bank r run.domain) (is_sealed k run)
bank_proper k r run h i =
    let f = found k.modules run.domain (running_good k r run h i).0.loaded in
    let same : is_sealed k run ≡ f.row.sealed = ap (λ (o : Option Loaded). option_map_or (λ (m : Loaded). m.sealed) o false) f.at in
    subst (IsProper (bank r run.domain)) (sym same)
    (subst (λ (d : ℕ). IsProper (bank r d) f.row.sealed) f.domain_of (each_contained (GoodModule r) k.modules f.row h.modules f.contained).units)

-- the next unit is of its kind
pub unit_of_kind : (k : KernelState) (r : RunnerState) (run : Running) (u : Unit) → GoodMachine k r → k.running ≡ Some run → next_unit r run ≡ Some u → IsOfKind u
unit_of_kind k r run u h i e = kind_at (bank r run.domain) r.unit u (bank_proper k r run h i) e

-- its number is that of a word of a bank
pub unit_in_bank : (k : KernelState) (r : RunnerState) (run : Running) → GoodMachine k r → k.running ≡ Some run → r.unit < bank_words
unit_in_bank k r run h i = omega (arith, (running_good k r run h i).0.unit, proper_fits (bank r run.domain) (bank_proper k r run h i))

-- behind a unit that control goes on from stands another
pub unit_behind : (k : KernelState) (r : RunnerState) (run : Running) (u : Unit) → GoodMachine k r → k.running ≡ Some run → next_unit r run ≡ Some u → leaves u ≡ false → r.unit + 1 < length (bank r run.domain)
unit_behind k r run u h i e on = not_last (bank r run.domain) r.unit u (bank_proper k r run h i).ends e on

-- where it leads is one
pub unit_aimed : (k : KernelState) (r : RunnerState) (run : Running) (u : Unit) → GoodMachine k r → k.running ≡ Some run → next_unit r run ≡ Some u → LeadsBelow (length (bank r run.domain)) u
unit_aimed k r run u h i e = target_at (bank r run.domain) r.unit u (bank_proper k r run h i) e

-- and so is what stands behind the unit that a skip passes over
pub unit_skipped : (k : KernelState) (r : RunnerState) (run : Running) (j : Instr) → GoodMachine k r → k.running ≡ Some run → next_unit r run ≡ Some (Skip j) → r.unit + 2 < length (bank r run.domain)
unit_skipped k r run j h i e = skip_at (bank r run.domain) r.unit j (bank_proper k r run h i).skips e

-- A permitted store lies in the memory.

pub store_in_memory : (k : KernelState) (r : RunnerState) (run : Running) (address : ℕ) → GoodMachine k r → k.running ≡ Some run → may_store k run address ≡ true → (ram_start ≤ address) × (address ≤ ram_end)
store_in_memory k r run address h i e =
    let good = (running_good k r run h i).0 in
    elim (or_cases (owns k.blocks run.domain address) (nat_lt k.processor.sp address && nat_le address run.bound) e) [
      | inl owned ↦ let heap = owned_in_heap k.blocks run.domain address h.blocks owned in omega (arith, heap)
      | inr stack ↦
          let both = and_parts (nat_lt k.processor.sp address) (nat_le address run.bound) stack in
          let above = ltb-true k.processor.sp address both.0 in
          let below = leb-true address run.bound both.1 in
          omega (arith, above, below, good.floor, good.top)
    ]
