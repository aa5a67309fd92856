-- The machine itself writes no line of an instruction that a runner runs, and nothing but lines hangs on such lines.
use Rattle.std.proofs.Common.{Ok, Err, ◌≡◌, ℕ, ◌==◌, nat_lt, nat_le, List, [], ◌∷◌, ◌++◌, length, Bool, true, false, not, refl, ap, subst, ◌∙◌, Option, Some, None, slice_get}
use Rattle.std.proofs.lemmas.List.Elements.{filter-append}
use Rattle.mote_base.specs.declared.frame.Frame.{Frame}
use Rattle.mote_base.specs.Messages.{front, queue_limit}
use Rattle.avr_isa.specs.declared.instruction.Instr.{Instr}
use Rattle.avr_isa.specs.declared.instruction.Instr.TheVariants as instr
use Rattle.mote_layout.specs.Memory.{floor, kernel}
use Rattle.mote_layout.specs.Limits.{payload_limit}
use Rattle.mote_layout.specs.Requests.{holds}
use Rattle.unit_code.specs.declared.unit.Unit.{Unit}
use Rattle.unit_code.specs.declared.unit.Unit.TheVariants.{Plain, Store, Load, Push, Pop, SpGroup, Reserve, Skip, Branch, Jump, LocalCall, KernelCall, SlotCall, SlotIndirect, Return}
use Rattle.domain_model.specs.declared.event.LoaderOrder.{LoaderOrder}
use Rattle.domain_model.specs.declared.event.LoaderOrder.TheVariants as what
use Rattle.domain_model.specs.declared.event.Choice.{Choice}
use Rattle.domain_model.specs.declared.event.Choice.TheVariants.{Stays, Hears, Fires, Comes, Dispatches, Jumps, Idles, Budgets, Watches, Acts}
use Rattle.domain_model.specs.declared.fault.FaultNote.{FaultNote}
use Rattle.domain_model.specs.declared.fault.Rule.{Rule}
use Rattle.domain_model.specs.declared.fault.Rule.TheVariants as rule
use Rattle.domain_model.specs.declared.fault.Served.{Served}
use Rattle.domain_model.specs.declared.fault.Served.TheVariants as served
use Rattle.domain_model.specs.declared.fault.UnitEnd.{UnitEnd}
use Rattle.domain_model.specs.declared.fault.UnitEnd.TheVariants.{On, Over, Fault}
use Rattle.domain_model.specs.declared.handler.Running.{Running}
use Rattle.domain_model.specs.declared.line.TraceLine.{TraceLine}
use Rattle.domain_model.specs.declared.line.TraceLine.TheVariants as line
use Rattle.domain_model.specs.Prepared.{Module, Prep}
use Rattle.domain_model.specs.State.{Message, Loaded, KernelState, RunnerState, State, pair}
use Rattle.domain_model.specs.Services.{Service, Malloc, Free, ChangeOwn, PostShort, PostLong, Take, TimerStart, TimerStop, Say, Clock, Send, MyId, service_of}
use Rattle.domain_model.specs.Modules.{free_domain, is_loaded, module_named}
use Rattle.domain_model.specs.Given.{Given, given, with_given}
use Rattle.domain_model.specs.Payloads.{holds_bytes}
use Rattle.domain_model.specs.Dump.{dumped}
use Rattle.mote_base.specs.Timers.{firing}
use Rattle.mote_base.specs.declared.timer.Timer.{Timer}
use Rattle.domain_model.specs.Firing.{fired_where, fired_by}
use Rattle.domain_model.specs.Radio.{heard_given, heard_bytes, heard_where, heard_by}
use Rattle.domain_model.specs.declared.event.Packet.{Packet}
use Rattle.domain_model.specs.Calls.{Serving, change_held, free_held, long_message_of, long_held, send_within, send_held, serve}
use Rattle.domain_model.specs.Frames.{call_fault, indirect_slot, bound_at}
use Rattle.domain_model.specs.Act.{Acted, act, act_running, act_at, act_effect, act_under, act_group, act_reserve, act_skip, act_branch, act_back, act_return, act_called, act_slot, act_indirect, act_served, act_call, passes, taken, group_sp, has_room, may_store, may_load, store_address, load_address, next_unit}
use Rattle.domain_model.specs.Turn.{Moved, came, load_image, load_prepared, load_new, load_in, load_given, load_beside, constants_block, unload_module, deliver, dispatch, hear, close, close_module, faulted, settled, made, state_block, watchdog}
use Rattle.domain_model.specs.Runners.{is_ran, without_ran, without_ran_lines}
use Rattle.domain_model.proofs.DumpLaws.{each_dumped, filter_all}

abbrev IsQuiet : List TraceLine → Type 0
IsQuiet lines = without_ran lines ≡ lines

-- A unit.

quiet_effect : (b : Bool) (why : Rule) (address : ℕ) (i : Instr) (k : KernelState) (r : RunnerState) → IsQuiet (act_effect b why address i k r).lines
quiet_effect true why address i k r = refl
quiet_effect false why address i k r = refl

quiet_under : (b with_sreg : Bool) (k : KernelState) (r : RunnerState) → IsQuiet (act_under b with_sreg k r).lines
quiet_under true with_sreg k r = refl
quiet_under false with_sreg k r = refl

quiet_group : (b with_sreg : Bool) (run : Running) (k : KernelState) (r : RunnerState) → IsQuiet (act_group b with_sreg run k r).lines
quiet_group true with_sreg run k r = quiet_under (nat_le (group_sp k.processor) run.base) with_sreg k r
quiet_group false with_sreg run k r = refl

quiet_reserve : (b : Bool) (k : KernelState) (r : RunnerState) → IsQuiet (act_reserve b k r).lines
quiet_reserve true k r = refl
quiet_reserve false k r = refl

quiet_skip : (b : Bool) (k : KernelState) (r : RunnerState) → IsQuiet (act_skip b k r).lines
quiet_skip true k r = refl
quiet_skip false k r = refl

quiet_branch : (b : Bool) (target : ℕ) (k : KernelState) (r : RunnerState) → IsQuiet (act_branch b target k r).lines
quiet_branch true target k r = refl
quiet_branch false target k r = refl

quiet_back : (frames : List Frame) (k : KernelState) (r : RunnerState) → IsQuiet (act_back frames k r).lines
quiet_back [] k r = refl
quiet_back (f ∷ below) k r = refl

quiet_return : (b : Bool) (k : KernelState) (r : RunnerState) → IsQuiet (act_return b k r).lines
quiet_return true k r = quiet_back k.frames k r
quiet_return false k r = refl

quiet_called : (fault : Option FaultNote) (entered : Acted) (k : KernelState) (r : RunnerState) → IsQuiet entered.lines → IsQuiet (act_called fault entered k r).lines
quiet_called None entered k r quiet = quiet
quiet_called (Some note) entered k r quiet = refl

quiet_slot : (bound : Option (ℕ × ℕ)) (slot : ℕ) (run : Running) (k : KernelState) (r : RunnerState) → IsQuiet (act_slot bound slot run k r).lines
quiet_slot None slot run k r = refl
quiet_slot (Some (domain, place)) slot run k r = quiet_called (call_fault k) _ k r refl

quiet_indirect : (slot : Option ℕ) (run : Running) (k : KernelState) (r : RunnerState) → IsQuiet (act_indirect slot run k r).lines
quiet_indirect None run k r = refl
quiet_indirect (Some slot) run k r = quiet_slot (bound_at k run slot) slot run k r

quiet_free : (b : Bool) (address : ℕ) (k : KernelState) → IsQuiet (free_held b address k).lines
quiet_free true address k = refl
quiet_free false address k = refl

quiet_change : (b : Bool) (address : ℕ) (k : KernelState) → IsQuiet (change_held b address k).lines
quiet_change true address k = refl
quiet_change false address k = refl

quiet_long : (b : Bool) (m : Message) (address : ℕ) (k : KernelState) → IsQuiet (long_held b m address k).lines
quiet_long true m address k = refl
quiet_long false m address k = refl

quiet_within : (b : Bool) (run : Running) (k : KernelState) → IsQuiet (send_within b k run).lines
quiet_within true run k = refl
quiet_within false run k = refl

quiet_send : (b : Bool) (run : Running) (k : KernelState) → IsQuiet (send_held b k run).lines
quiet_send true run k = quiet_within (nat_le (pair k.processor 20) payload_limit) run k
quiet_send false run k = refl

quiet_serve : (o : Option Service) (run : Running) (k : KernelState) → IsQuiet (serve o run k).lines
quiet_serve (Some Malloc) run k = refl
quiet_serve (Some Free) run k = quiet_free (holds k.blocks run.domain (pair k.processor 24)) (pair k.processor 24) k
quiet_serve (Some ChangeOwn) run k = quiet_change (holds k.blocks run.domain (pair k.processor 24)) (pair k.processor 24) k
quiet_serve (Some PostShort) run k = refl
quiet_serve (Some PostLong) run k =
    quiet_long (holds_bytes k.blocks run.domain (pair k.processor 18) (pair k.processor 20)) (long_message_of k run) (pair k.processor 18) k
quiet_serve (Some Take) run k = refl
quiet_serve (Some TimerStart) run k = refl
quiet_serve (Some TimerStop) run k = refl
quiet_serve (Some Say) run k = refl
quiet_serve (Some Clock) run k = refl
quiet_serve (Some Send) run k = quiet_send (holds_bytes k.blocks run.domain (pair k.processor 18) (pair k.processor 20)) run k
quiet_serve (Some MyId) run k = refl
quiet_serve None run k = refl

served_lines : (o : Served) (s : Serving) (r : RunnerState) → (act_served o s r).lines ≡ s.lines
served_lines served.Back s r = refl
served_lines (served.Fault note) s r = refl

quiet_call : (s : Serving) (r : RunnerState) → IsQuiet s.lines → IsQuiet (act_call s r).lines
quiet_call s r quiet = rw (served_lines s.served s r) quiet

quiet_at : (o : Option Unit) (run : Running) (k : KernelState) (r : RunnerState) → IsQuiet (act_at o run k r).lines
quiet_at None run k r = refl
quiet_at (Some (Plain i)) run k r = refl
quiet_at (Some (Store i)) run k r = quiet_effect (may_store k run (store_address i k.processor)) rule.Store (store_address i k.processor) i k r
quiet_at (Some (Load i)) run k r = quiet_effect (may_load k run (load_address i k.processor)) rule.Load (load_address i k.processor) i k r
quiet_at (Some (Push s)) run k r = quiet_effect (nat_lt floor k.processor.sp) rule.StackOver k.processor.sp (instr.Push s) k r
quiet_at (Some (Pop d)) run k r = quiet_effect (nat_lt k.processor.sp run.base) rule.StackUnder k.processor.sp (instr.Pop d) k r
quiet_at (Some (SpGroup with_sreg)) run k r = quiet_group (nat_le floor (group_sp k.processor)) with_sreg run k r
quiet_at (Some Reserve) run k r = quiet_reserve (has_room k.processor) k r
quiet_at (Some (Skip i)) run k r = quiet_skip (passes i k.processor) k r
quiet_at (Some (Branch set bit target)) run k r = quiet_branch (taken set bit k.processor) target k r
quiet_at (Some (Jump target)) run k r = refl
quiet_at (Some (KernelCall n)) run k r = quiet_call (serve (service_of n) run k) r (quiet_serve (service_of n) run k)
quiet_at (Some (LocalCall target)) run k r = quiet_called (call_fault k) _ k r refl
quiet_at (Some (SlotCall slot)) run k r = quiet_slot (bound_at k run slot) slot run k r
quiet_at (Some SlotIndirect) run k r = quiet_indirect (indirect_slot k.processor) run k r
quiet_at (Some Return) run k r = quiet_return (k.processor.sp == run.base) k r

quiet_running : (o : Option Running) (k : KernelState) (r : RunnerState) → IsQuiet (act_running o k r).lines
quiet_running None k r = refl
quiet_running (Some run) k r = quiet_at (next_unit r run) run k r

pub serve_without_ran : (o : Option Service) (run : Running) (k : KernelState) → without_ran (serve o run k).lines ≡ (serve o run k).lines
serve_without_ran o run k = quiet_serve o run k

pub act_without_ran : (k : KernelState) (r : RunnerState) → without_ran (act k r).lines ≡ (act k r).lines
act_without_ran k r = quiet_running k.running k r

-- A turn that isn't a unit.

quiet_constants : (o : Option Given) (state : ℕ) (m : Module) (domain image : ℕ) (k : KernelState) (r : RunnerState) → IsQuiet (load_beside o state m domain image k r).lines
quiet_constants None state m domain image k r = refl
quiet_constants (Some c) state m domain image k r = refl

quiet_given : (o : Option Given) (m : Module) (domain image : ℕ) (k : KernelState) (r : RunnerState) → IsQuiet (load_given o m domain image k r).lines
quiet_given None m domain image k r = refl
quiet_given (Some g) m domain image k r = quiet_constants (constants_block (with_given k g) m.constants) g.address m domain image k r

quiet_in : (o : Option ℕ) (m : Module) (image : ℕ) (k : KernelState) (r : RunnerState) → IsQuiet (load_in o m image k r).lines
quiet_in None m image k r = refl
quiet_in (Some domain) m image k r = quiet_given (state_block k domain m.state_size) m domain image k r

quiet_new : (b : Bool) (m : Module) (image : ℕ) (k : KernelState) (r : RunnerState) → IsQuiet (load_new b m image k r).lines
quiet_new true m image k r = refl
quiet_new false m image k r = quiet_in (free_domain k.modules) m image k r

quiet_prepared : (prep : Prep) (image : ℕ) (k : KernelState) (r : RunnerState) → IsQuiet (load_prepared prep image k r).lines
quiet_prepared (Err refusal) image k r = refl
quiet_prepared (Ok m) image k r = quiet_new (is_loaded k.modules m.face.id) m image k r

quiet_image : (o : Option Prep) (image : ℕ) (k : KernelState) (r : RunnerState) → IsQuiet (load_image o image k r).lines
quiet_image None image k r = refl
quiet_image (Some prep) image k r = quiet_prepared prep image k r

quiet_unload : (o : Option Loaded) (id : ℕ) (k : KernelState) (r : RunnerState) → IsQuiet (unload_module o id k r).lines
quiet_unload None id k r = refl
quiet_unload (Some m) id k r = refl

quiet_dump : (k : KernelState) → IsQuiet (dumped k)
quiet_dump k =
    filter_all (λ l. not (is_ran l)) (dumped k)
    (each_dumped (λ l. not (is_ran l) ≡ true)
    (record {
      first = λ time. refl;
      modules = λ id domain state. refl;
      blocks = λ address bytes owner. refl;
      messages = λ high from to sort address. refl;
      timers = λ «module» id due. refl;
      last = refl;
    }) k)

quiet_came : (images : List Prep) (w : LoaderOrder) (k : KernelState) (r : RunnerState) → IsQuiet (came images w k r).lines
quiet_came images (what.Load n) k r = quiet_image (slice_get images n) n k r
quiet_came images (what.Unload id) k r = quiet_unload (module_named k.modules id) id k r
quiet_came images what.Dump k r = quiet_dump k

-- a packet
quiet_heard_given : (o : Option Given) (p : Packet) (k : KernelState) → IsQuiet (heard_given o p k).lines
quiet_heard_given None p k = refl
quiet_heard_given (Some g) p k = refl

quiet_bytes : (b : Bool) (p : Packet) (k : KernelState) → IsQuiet (heard_bytes b p k).lines
quiet_bytes true p k = refl
quiet_bytes false p k = quiet_heard_given (given k kernel (length p.bytes)) p k

quiet_where : (b : Bool) (p : Packet) (k : KernelState) → IsQuiet (heard_where b p k).lines
quiet_where true p k = quiet_bytes (length p.bytes == 0) p k
quiet_where false p k = refl

quiet_by : (b : Bool) (p : Packet) (k : KernelState) → IsQuiet (heard_by b p k).lines
quiet_by true p k = quiet_where (nat_lt (length k.queues.low) queue_limit) p k
quiet_by false p k = refl

quiet_hear : (o : Option Packet) (k : KernelState) (r : RunnerState) → IsQuiet (hear o k r).lines
quiet_hear None k r = refl
quiet_hear (Some p) k r = quiet_by (is_loaded k.modules p.to) p k

-- a timer
quiet_fired_where : (b : Bool) (t : Timer) (k : KernelState) → IsQuiet (fired_where b t k).lines
quiet_fired_where true t k = refl
quiet_fired_where false t k = refl

quiet_fired : (o : Option Timer) (k : KernelState) → IsQuiet (fired_by o k).lines
quiet_fired None k = refl
quiet_fired (Some t) k = quiet_fired_where (nat_lt (length k.queues.high) queue_limit) t k

quiet_deliver : (o : Option Loaded) (m : Message) (k : KernelState) (r : RunnerState) → IsQuiet (deliver o m k r).lines
quiet_deliver None m k r = refl
quiet_deliver (Some row) m k r = refl

quiet_dispatch : (o : Option Message) (k : KernelState) (r : RunnerState) → IsQuiet (dispatch o k r).lines
quiet_dispatch None k r = refl
quiet_dispatch (Some m) k r = quiet_deliver (module_named k.modules m.to) m k r

-- The end of a handler, behind lines of which some may be of instructions: kernel and runner are the same without these,
-- and the lines are those without them.

record IsAlike (all rest : Moved) : Type 0 where
  kernel : all.kernel ≡ rest.kernel
  runner : all.runner ≡ rest.runner
  lines : without_ran all.lines ≡ rest.lines

alike_close_module : (o : Option Loaded) (k : KernelState) (r : RunnerState) (all : List TraceLine) → IsAlike (close_module o k r all) (close_module o k r (without_ran all))
alike_close_module None k r all = record { kernel = refl; runner = refl; lines = refl }
alike_close_module (Some m) k r all = record {
  kernel = refl;
  runner = refl;
  lines = filter-append (λ l. not (is_ran l)) all (line.Unload k.clock m.face.id ∷ []);
}

alike_close : (o : Option ℕ) (k : KernelState) (r : RunnerState) (all : List TraceLine) → IsAlike (close o k r all) (close o k r (without_ran all))
alike_close None k r all = record { kernel = refl; runner = refl; lines = refl }
alike_close (Some id) k r all = alike_close_module (module_named k.modules id) k r all

-- behind further lines, of which none is of an instruction
alike_behind : (o : Option ℕ) (k : KernelState) (r : RunnerState) (all more : List TraceLine) → IsQuiet more → IsAlike (close o k r (all ++ more)) (close o k r (without_ran all ++ more))
alike_behind o k r all more quiet =
    let same : without_ran (all ++ more) ≡ without_ran all ++ more =
    filter-append (λ l. not (is_ran l)) all more ∙ ap (λ ls. without_ran all ++ ls) quiet in
    subst (λ ls. IsAlike (close o k r (all ++ more)) (close o k r ls)) same (alike_close o k r (all ++ more))

alike_faulted : (note : FaultNote) (run : Running) (k : KernelState) (r : RunnerState) (all : List TraceLine) → IsAlike (faulted note run k r all) (faulted note run k r (without_ran all))
alike_faulted note run k r all = alike_behind k.ending _ _ all _ refl

alike_settled : (e : UnitEnd) (run : Running) (k : KernelState) (r : RunnerState) (all : List TraceLine) → IsAlike (settled e run k r all) (settled e run k r (without_ran all))
alike_settled On run k r all = record { kernel = refl; runner = refl; lines = refl }
alike_settled Over run k r all = alike_behind k.ending _ _ all _ refl
alike_settled (Fault note) run k r all = alike_faulted note run k r all

-- A turn of any runner leads to the same state without the lines of instructions,
pub state_without_ran : (c : Choice) (s : State) (got : Acted) → (made c s got).state ≡ (made c s (without_ran_lines got)).state
state_without_ran Stays s got = refl
state_without_ran Hears s got = refl
state_without_ran Fires s got = refl
state_without_ran (Comes e) s got = refl
state_without_ran Dispatches s got = refl
state_without_ran (Jumps now) s got = refl
state_without_ran Idles s got = refl
state_without_ran Budgets s got = refl
state_without_ran (Watches run) s got = refl
state_without_ran (Acts run) s got =
    let same = alike_settled got.ending run got.kernel got.runner got.lines in
    cc

-- and writes the same but for them.
pub lines_without_ran : (c : Choice) (s : State) (got : Acted) → without_ran (made c s got).lines ≡ (made c s (without_ran_lines got)).lines
lines_without_ran Stays s got = refl
lines_without_ran Hears s got = quiet_hear (slice_get s.packets 0) s.kernel s.runner
lines_without_ran Fires s got = quiet_fired (firing s.kernel.clock s.kernel.timers) s.kernel
lines_without_ran (Comes e) s got = quiet_came s.images e.what s.kernel s.runner
lines_without_ran Dispatches s got = quiet_dispatch (front s.kernel.queues) s.kernel s.runner
lines_without_ran (Jumps now) s got = refl
lines_without_ran Idles s got = refl
lines_without_ran Budgets s got = refl
lines_without_ran (Watches run) s got = (alike_faulted (watchdog s) run s.kernel s.runner []).lines
lines_without_ran (Acts run) s got = (alike_settled got.ending run got.kernel got.runner got.lines).lines

-- So a turn with the unit as it is defined writes none of them.
pub made_without_ran : (c : Choice) (s : State) → without_ran (made c s (act s.kernel s.runner)).lines ≡ (made c s (act s.kernel s.runner)).lines
made_without_ran c s =
    let quiet : without_ran_lines (act s.kernel s.runner) ≡ act s.kernel s.runner =
    ap (λ (lines : List TraceLine). record (act s.kernel s.runner) { lines = lines }) (act_without_ran s.kernel s.runner) in
    lines_without_ran c s (act s.kernel s.runner) ∙ ap (λ (got : Acted). (made c s got).lines) quiet
