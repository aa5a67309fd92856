-- A unit keeps kernel and runner good: it ends the handler, moves the processor within the domain's own, is served by the kernel, calls, or
-- comes back from a call.
use Rattle.std.specs.Prelude.{slice_set}
use Rattle.std.proofs.lemmas.List.{length-set}
use Rattle.avr_isa.specs.declared.instruction.Instr.{Instr}
use Rattle.mote_base.specs.Frames.{frame_limit}
use Rattle.mote_base.specs.declared.frame.Frame.{Frame}
use Rattle.mote_base.specs.Messages.{Lists, queue_limit, list_of, appended}
use Rattle.mote_base.specs.Timers.{timer_limit, is_of, started, without as without_timer}
use Rattle.mote_base.specs.declared.timer.Timer.{Timer}
use Rattle.std.specs.List.{list_any}
use Rattle.unit_code.specs.Proper.{IsOfKind}
use Rattle.unit_code.specs.declared.unit.Unit.{Unit}
use Rattle.domain_model.specs.declared.handler.Running.{Running}
use Rattle.domain_model.specs.declared.fault.FaultNote.{FaultNote}
use Rattle.domain_model.specs.declared.fault.UnitEnd.{UnitEnd}
use Rattle.domain_model.specs.declared.fault.UnitEnd.TheVariants.{Over}
use Rattle.domain_model.specs.declared.line.TraceLine.{TraceLine}
use Rattle.avr_machine.specs.Processor.{low, high}
use Rattle.domain_model.specs.Modules.{id_at, in_use, is_loaded, module_named}
use Rattle.domain_model.specs.Turn.{entered}
use Rattle.domain_model.specs.Good.{GoodProcessor, GoodModule, GoodMachine, GoodHand, GoodHandler, IsBelow, AreFrames, GoodRunning, GoodQueues, GoodTimer, GoodTimers, AreOwned, IsFramed, IsKnown}
use Rattle.domain_model.proofs.Kept.{each_contained}
use Rattle.domain_model.proofs.CallLaws.{bound_enters}
use Rattle.domain_model.proofs.ModuleLaws.{found, contained_in_use, id_at_loaded}
use Rattle.domain_model.proofs.TimerLaws.{timers_started, timers_stopped}
use Rattle.domain_model.proofs.BlockLaws.{given_good, holds_none, holds_bytes-true, freed_stays, changed_stays, lifted_gains, settled_loses, owned_fewer, owned_handed}
use Rattle.domain_model.proofs.PayloadLaws.{payloads_stay, payloads_posted, payloads_gained, payloads_taken}
use Rattle.std.proofs.lemmas.Bool.{or_cases, and_parts, cond_both, cond-false, eqb-true, ltb-true, leb-true, true≢false}
use Rattle.std.proofs.lemmas.Option.{none-some}
use Rattle.std.proofs.Common.{◌≡◌, ◌≢◌, if◌then◌else◌, inl, inr, ℕ, ◌+◌, ◌%◌, ◌^◌, ◌<◌, ◌≤◌, ◌==◌, ◌&&◌, ◌-◌, nat_lt, nat_le, List, [], ◌∷◌, length, Bool, true, false, refl, sym, ap, ◌∙◌, subst, arith, Option, Some, None}
use Rattle.mote_layout.specs.Memory.{ram_end, red_zone_start, floor, stack_top, domain_count, kernel}
use Rattle.mote_layout.specs.Limits.{payload_limit}
use Rattle.mote_layout.specs.Parcels.{Payload, IsParcelOf}
use Rattle.mote_layout.proofs.BlockLists.{AreBlocks-without, AreBlocks-handed_over}
use Rattle.unit_code.specs.declared.unit.Unit.TheVariants.{Plain, Store, Load, Push, Pop, SpGroup, Reserve, Skip, Branch, Jump, LocalCall, KernelCall, SlotCall, SlotIndirect, Return}
use Rattle.domain_model.specs.Services.{Service, Malloc, Free, ChangeOwn, PostShort, PostLong, Take, TimerStart, TimerStop, Say, Clock, Send, MyId, service_of}
use Rattle.domain_model.specs.State.{Loaded, Processor, Message, KernelState, RunnerState, payload_address, with_processor, register, pair, with_pair}
use Rattle.domain_model.specs.Payloads.{holds_bytes, load_of, constants_kept, IsHeld, HoldsPayloads}
use Rattle.domain_model.specs.Frames.{depth_fault, room_fault, call_fault, kept_frame, called, local_called, slot_called, resumed, indirect_slot, bound_at, entry_unit, call_line}
use Rattle.domain_model.specs.Act.{Acted, goes_to, goes_on, act, act_running, act_at, act_effect, act_under, act_group, act_reserve, act_skip, act_branch, act_back, act_return, act_called, act_slot, act_indirect, act_call, passes, taken, group_sp, group_effect, reserved, has_room, plain_effect, store_address, load_address, may_store, may_load, bank, next_unit}
use Rattle.domain_model.specs.Calls.{answered, malloc_given, free_held, changed_to, change_held, message_of, post_where, post_to, long_message_of, carrying, long_where, long_to, long_held, payload_taken, take_by, take_hand, send_within, send_held, timer_of, start_answer, timer_start, stop_answer, timer_stop, serve}
use Rattle.domain_model.specs.Given.{Given, given}
use Rattle.domain_model.specs.Free.{unit_free, calls_kernel, is_crossed, crosses_back, ends_handler, UnitStep}
use Rattle.mote_layout.specs.Blocks.{AreBlocks, block_address, block_of, without, handed_over, owns}
use Rattle.mote_layout.specs.Requests.{holds, HoldsBytes}
use Rattle.mote_layout.specs.declared.segment.Segment.{Segment}
use Rattle.avr_isa.specs.declared.instruction.Instr.TheVariants as instr
use Rattle.domain_model.specs.declared.fault.Rule.{Rule}
use Rattle.domain_model.specs.declared.fault.Rule.TheVariants as rule
use Rattle.domain_model.specs.Laws.{MayChange, crossings, StaysWithin}
use Rattle.domain_model.proofs.ByteLists.{HasBytes, good_bytes, pair_bytes, pair_word, id_byte}
use Rattle.domain_model.proofs.WriteLaws.{AtAddress, keeps_itself, keeps_fewer, plain_keeps, store_keeps}
use Rattle.domain_model.proofs.StackLaws.{Moves, moves_by, push_moves, pop_moves, group_moves, reserve_moves}
use Rattle.domain_model.proofs.ActLaws.{with_parts, running_good, unit_behind, unit_of_kind, unit_aimed, unit_skipped, store_in_memory}
use Rattle.domain_model.proofs.MachineLaws.{modules_kept, running_kept, running_moved, same_kernel_good, queues_posted, named_good}

-- It moves the processor, and leads to one of the module's units.
pub record IsMoved (k : KernelState) (r : RunnerState) (run : Running) (p : Processor) (unit : ℕ) : Type 0 where
  pub moves : Moves (MayChange k run) run.base k.processor p
  pub within : unit < length (bank r run.domain)

-- Or the kernel serves it: the stack pointer stays, and queues, timers, blocks and the message in hand stay good.
pub record IsServed (k n : KernelState) : Type 0 where
  pub alone : n ≡ with_parts k n.processor n.queues n.timers n.blocks n.hand k.running k.frames
  pub sp : n.processor.sp ≡ k.processor.sp
  pub processor : GoodProcessor n.processor
  pub queues : GoodQueues k.modules n.queues
  pub timers : GoodTimers k.modules k.clock n.timers
  pub blocks : AreBlocks n.blocks
  pub owners : AreOwned k.modules n.blocks
  pub hand : GoodHand k.modules n.hand
  pub payloads : HoldsPayloads n.blocks n.queues n.hand (constants_kept k.modules)

-- Or something else runs, above other frames. Where no kernel is entered it is the same domain, up to the same bound.
abbrev pub with_running : KernelState → Processor → Running → List Frame → KernelState
with_running k p run frames = record k { processor = p; running = Some run; frames = frames }

pub record IsChanged (o : Option Unit) (k : KernelState) (r : RunnerState) (run : Running) (p : Processor) (new : Running) (frames : List Frame) (unit : ℕ) : Type 0 where
  pub moves : Moves (MayChange k run) new.base k.processor p
  pub running : GoodRunning (with_running k p new frames) (entered r unit) new
  pub within : calls_kernel o ≡ false → crosses_back o k.frames ≡ false → StaysWithin k run (with_running k p new frames) new

-- The ways of a unit from a good state.
pub data GoodOutcome (o : Option Unit) (k : KernelState) (r : RunnerState) (run : Running) : Acted → Type 0 where
  good_ends : (ending : UnitEnd) → ends_handler ending ≡ true → GoodOutcome o k r run (record { kernel = k; runner = r; lines = []; ending = ending })
  good_moves : (p : Processor) (unit : ℕ) → IsMoved k r run p unit → GoodOutcome o k r run (goes_to unit (with_processor k p) r [])
  good_serves : (n : KernelState) (lines : List TraceLine) → calls_kernel o ≡ true → IsServed k n → r.unit + 1 < length (bank r run.domain) → GoodOutcome o k r run (goes_on n r lines)
  good_runs : (p : Processor) (new : Running) (frames : List Frame) (unit : ℕ) (lines : List TraceLine) → IsChanged o k r run p new frames unit → GoodOutcome o k r run (goes_to unit (with_running k p new frames) r lines)

-- the answers of a call for a timer
start_small : (t : Timer) (timers : List Timer) → start_answer t timers < 2 ^ 16
start_small t timers =
    cond_both (t.ticks == 0) 2 (if nat_lt (length (without_timer t.«module» t.id timers)) timer_limit then 0 else 1) (λ (n : ℕ). n < 2 ^ 16) (λ zero. omega arith)
    (λ some. cond_both (nat_lt (length (without_timer t.«module» t.id timers)) timer_limit) 0 1 (λ (n : ℕ). n < 2 ^ 16) (λ room. omega arith) (λ full. omega arith))

stop_small : (b : Bool) → stop_answer b < 2 ^ 16
stop_small true = omega arith
stop_small false = omega arith

module _ (k : KernelState) (r : RunnerState) (run : Running) (h : GoodMachine k r) (e : k.running ≡ Some run) where
  good_run : GoodRunning k r run
  good_run = (running_good k r run h e).0

  now_bytes : HasBytes k.processor
  now_bytes = good_bytes k.processor h.processor

  low_top : run.base ≤ ram_end
  low_top = let good = good_run in omega (arith, good.bound, good.top)

  -- the stack up to the base is the domain's
  stack_own : (a : ℕ) → red_zone_start ≤ a → a ≤ run.base → MayChange k run a
  stack_own a above below = let good = good_run in inr (above, omega (arith, below, good.bound))

  -- nothing moves
  stays : (unit : ℕ) → unit < length (bank r run.domain) → IsMoved k r run k.processor unit
  stays unit within = record {
    moves = moves_by (MayChange k run) run.base k.processor k.processor good_run.floor good_run.base (keeps_itself (MayChange k run) k.processor now_bytes);
    within = within;
  }

  -- a permitted address is the domain's
  permitted : (address : ℕ) → may_store k run address ≡ true → MayChange k run address
  permitted address may =
      elim (or_cases (owns k.blocks run.domain address) (nat_lt k.processor.sp address && nat_le address run.bound) may) [
        | inl owned ↦ inl owned
        | inr stack ↦
            let good = good_run in
            let both = and_parts (nat_lt k.processor.sp address) (nat_le address run.bound) stack in
            let above = ltb-true k.processor.sp address both.0 in
            inr (omega (arith, above, good.floor), leb-true address run.bound both.1)
      ]

  sp_small : k.processor.sp < 2 ^ 16
  sp_small = let good = good_run in omega (arith, good.base, good.bound, good.top)

  kind_moves : (i : Instr) → IsOfKind (Plain i) → Moves (MayChange k run) run.base k.processor (plain_effect i k.processor)
  kind_moves i kind =
      moves_by (MayChange k run) run.base k.processor (plain_effect i k.processor) good_run.floor good_run.base
      (keeps_fewer (λ a. ⊥) (MayChange k run) k.processor (plain_effect i k.processor) (λ a none. absurd none) (plain_keeps i k.processor kind now_bytes sp_small))

  plain_moves : (i : Instr) → IsOfKind (Plain i) → Moves (MayChange k run) run.base k.processor (plain_effect i k.processor)
  plain_moves i kind = kind_moves i kind

  -- a checked load does what its instruction does as a plain unit
  load_moves : (i : Instr) → IsOfKind (Load i) → Moves (MayChange k run) run.base k.processor (plain_effect i k.processor)
  load_moves i kind = kind_moves i (kind.0, kind.2)

  store_moves : (i : Instr) → IsOfKind (Store i) → may_store k run (store_address i k.processor) ≡ true → Moves (MayChange k run) run.base k.processor (plain_effect i k.processor)
  store_moves i kind may =
      let inside = store_in_memory k r run (store_address i k.processor) h e may in
      moves_by (MayChange k run) run.base k.processor (plain_effect i k.processor) good_run.floor good_run.base
      (keeps_fewer (AtAddress i k.processor) (MayChange k run) k.processor (plain_effect i k.processor)
      (λ a at. subst (MayChange k run) (sym at) (permitted (store_address i k.processor) may))
      (store_keeps i k.processor kind now_bytes inside.0))

  -- where the need is met
  effect_goes : (o : Option Unit) (b : Bool) (why : Rule) (address : ℕ) (i : Instr) → r.unit + 1 < length (bank r run.domain) → (b ≡ true → Moves (MayChange k run) run.base k.processor (plain_effect i k.processor)) → GoodOutcome o k r run (act_effect b why address i k r)
  effect_goes o true why address i behind moves = good_moves (plain_effect i k.processor) (r.unit + 1) (record { moves = moves refl; within = behind })
  effect_goes o false why address i behind moves = good_ends _ refl

  under_goes : (o : Option Unit) (b with_sreg : Bool) → r.unit + 1 < length (bank r run.domain) → nat_le floor (group_sp k.processor) ≡ true → nat_le (group_sp k.processor) run.base ≡ b → GoodOutcome o k r run (act_under b with_sreg k r)
  under_goes o true with_sreg behind least most =
      good_moves (group_effect with_sreg k.processor) (r.unit + 1) (record {
        moves = group_moves (MayChange k run) run.base low_top stack_own k.processor now_bytes with_sreg h.processor.memory good_run.base
            (leb-true floor (group_sp k.processor) least) (leb-true (group_sp k.processor) run.base most);
        within = behind;
      })
  under_goes o false with_sreg behind least most = good_ends _ refl

  group_goes : (o : Option Unit) (b with_sreg : Bool) → r.unit + 1 < length (bank r run.domain) → nat_le floor (group_sp k.processor) ≡ b → GoodOutcome o k r run (act_group b with_sreg run k r)
  group_goes o true with_sreg behind least = under_goes o (nat_le (group_sp k.processor) run.base) with_sreg behind least refl
  group_goes o false with_sreg behind least = good_ends _ refl

  -- two bytes are pushed
  pushed_two : floor + 2 ≤ k.processor.sp → Moves (MayChange k run) run.base k.processor (reserved k.processor)
  pushed_two room = reserve_moves (MayChange k run) run.base low_top stack_own k.processor now_bytes room good_run.base

  reserve_goes : (o : Option Unit) (b : Bool) → r.unit + 1 < length (bank r run.domain) → has_room k.processor ≡ b → GoodOutcome o k r run (act_reserve b k r)
  reserve_goes o true behind room =
      good_moves (reserved k.processor) (r.unit + 1) (record { moves = pushed_two (leb-true (floor + 2) k.processor.sp room); within = behind })
  reserve_goes o false behind room = good_ends _ refl

  skip_goes : (o : Option Unit) (b : Bool) → r.unit + 2 < length (bank r run.domain) → GoodOutcome o k r run (act_skip b k r)
  skip_goes o true behind = good_moves k.processor (r.unit + 2) (stays (r.unit + 2) behind)
  skip_goes o false behind = good_moves k.processor (r.unit + 1) (stays (r.unit + 1) (omega (arith, behind)))

  branch_goes : (o : Option Unit) (b : Bool) (target : ℕ) → target < length (bank r run.domain) → r.unit + 1 < length (bank r run.domain) → GoodOutcome o k r run (act_branch b target k r)
  branch_goes o true target there behind = good_moves k.processor target (stays target there)
  branch_goes o false target there behind = good_moves k.processor (r.unit + 1) (stays (r.unit + 1) behind)

  -- A kernel call: the answer is in a pair of registers.
  answered_good : (p : Processor) (answer : ℕ) → answer < 2 ^ 16 → GoodProcessor p → GoodProcessor (with_pair p 24 answer)
  answered_good p answer small good =
      let bytes = pair_bytes p 24 answer small (good_bytes p good) in
      record {
        registers = length-set (slice_set p.registers 24 (low answer)) 25 (high answer) ∙ length-set p.registers 24 (low answer) ∙ good.registers;
        memory = good.memory;
        register_bytes = bytes.registers;
        memory_bytes = bytes.memory;
        sreg_byte = bytes.sreg;
      }

  answer_served : (queues : Lists Message) (blocks : List Segment) (answer : ℕ) → answer < 2 ^ 16 → GoodQueues k.modules queues → AreBlocks blocks → AreOwned k.modules blocks → HoldsPayloads blocks queues k.hand (constants_kept k.modules) → IsServed k (answered (record k { queues = queues; blocks = blocks }) answer)
  answer_served queues blocks answer small waiting are owned held = record {
    alone = refl;
    sp = refl;
    processor = answered_good k.processor answer small h.processor;
    queues = waiting;
    timers = h.timers;
    blocks = are;
    owners = owned;
    hand = (running_good k r run h e).1;
    payloads = held;
  }

  just_answered : (answer : ℕ) → answer < 2 ^ 16 → IsServed k (answered k answer)
  just_answered answer small = answer_served k.queues k.blocks answer small h.queues h.blocks h.owners h.payloads

  -- A call has room on the stack and for its frame.
  depth_by : (b : Bool) → nat_lt (length k.frames) frame_limit ≡ b → depth_fault b k ≡ None → length k.frames < frame_limit
  depth_by true few e = ltb-true (length k.frames) frame_limit few
  depth_by false few e = absurd (none-some _ (sym e))

  room_by : (b : Bool) → has_room k.processor ≡ b → room_fault b k ≡ None → (floor + 2 ≤ k.processor.sp) × (length k.frames < frame_limit)
  room_by true room e = (leb-true (floor + 2) k.processor.sp room, depth_by (nat_lt (length k.frames) frame_limit) refl e)
  room_by false room e = absurd (none-some _ (sym e))

  -- What runs once it called, in a domain and up to a bound, from one of the domain's units.
  called_runs : (cross : Bool) (domain bound unit : ℕ) → call_fault k ≡ None → r.unit + 1 < length (bank r run.domain) → in_use k.modules domain ≡ true → unit < length (bank r domain) → k.processor.sp - 2 ≤ bound → bound ≤ stack_top → (cross ≡ false → (run.domain ≡ domain) × (run.bound ≡ bound)) → GoodRunning (called (kept_frame run (r.unit + 1) cross) (record { domain = domain; base = k.processor.sp - 2; bound = bound }) k) (entered r unit) (record { domain = domain; base = k.processor.sp - 2; bound = bound })
  called_runs cross domain bound unit fine behind used there above top own =
      let good = good_run in
      let room = room_by (has_room k.processor) refl fine in
      record {
        loaded = used;
        unit = there;
        floor = omega (arith, room.0);
        base = omega arith;
        bound = above;
        top = top;
        depth = omega (arith, room.1);
        frames = (
          record {
            loaded = good.loaded;
            back = behind;
            base = omega (arith, room.0, good.base);
            bound = good.bound;
            top = good.top;
            own = own;
          },
          good.frames,
        );
      }

  called_moves : call_fault k ≡ None → Moves (MayChange k run) (k.processor.sp - 2) k.processor (reserved k.processor)
  called_moves fine =
      let two = pushed_two (room_by (has_room k.processor) refl fine).0 in
      record { registers = two.registers; memory = two.memory; bytes = two.bytes; own = two.own; above = two.above; below = omega arith }

  called_goes : (o : Option Unit) (fault : Option FaultNote) (entered : Acted) → call_fault k ≡ fault → (call_fault k ≡ None → GoodOutcome o k r run entered) → GoodOutcome o k r run (act_called fault entered k r)
  called_goes o None entered fine goes = goes fine
  called_goes o (Some note) entered fine goes = good_ends _ refl

  -- within the domain
  local_goes : (o : Option Unit) (target : ℕ) → target < length (bank r run.domain) → r.unit + 1 < length (bank r run.domain) → call_fault k ≡ None → GoodOutcome o k r run (goes_to target (local_called k run (r.unit + 1)) r [])
  local_goes o target there behind fine =
      let good = good_run in
      good_runs (reserved k.processor) (record run { base = k.processor.sp - 2 }) (kept_frame run (r.unit + 1) false ∷ k.frames) target [] (record {
        moves = called_moves fine;
        running = called_runs false run.domain run.bound target fine behind good.loaded there (omega (arith, good.base, good.bound)) good.top (λ e. (refl, refl));
        within = λ calls crosses. record { domain = refl; bound = refl; calls = refl };
      })

  -- of a slot
  slot_goes : (o : Option Unit) (bound : Option (ℕ × ℕ)) (slot : ℕ) → calls_kernel o ≡ true → r.unit + 1 < length (bank r run.domain) → bound_at k run slot ≡ bound → GoodOutcome o k r run (act_slot bound slot run k r)
  slot_goes o None slot calls behind to = good_serves _ _ calls (just_answered 65535 (omega arith)) behind
  slot_goes o (Some (provider, place)) slot calls behind to =
      let good = good_run in
      let there = bound_enters k r run.domain slot provider place h to in
      called_goes o (call_fault k) (goes_to (entry_unit k.modules provider place) (slot_called k run (r.unit + 1) provider) r (call_line k run slot provider place ∷ [])) refl (λ fine.
      good_runs (reserved k.processor) (record { domain = provider; base = k.processor.sp - 2; bound = k.processor.sp - 2 }) (kept_frame run (r.unit + 1) true ∷ k.frames) (entry_unit k.modules provider place) _ (record {
        moves = called_moves fine;
        running = called_runs true provider (k.processor.sp - 2) (entry_unit k.modules provider place) fine behind there.used there.unit (omega arith) (omega (arith, good.base, good.bound, good.top)) (λ e. absurd (true≢false e));
        within = λ none crosses. absurd (true≢false (sym calls ∙ none));
      }))

  indirect_goes : (o : Option Unit) (slot : Option ℕ) → calls_kernel o ≡ true → r.unit + 1 < length (bank r run.domain) → GoodOutcome o k r run (act_indirect slot run k r)
  indirect_goes o None calls behind = good_ends _ refl
  indirect_goes o (Some slot) calls behind = slot_goes o (bound_at k run slot) slot calls behind refl

  -- A return takes the frame on top, or ends the handler.
  back_goes : (frames : List Frame) → k.frames ≡ frames → k.processor.sp ≡ run.base → GoodOutcome (Some Return) k r run (act_back frames k r)
  back_goes [] waits at = good_ends Over refl
  back_goes (f ∷ below) waits at =
      let good = good_run in
      let frames : IsBelow k.modules r.banks run f × AreFrames k.modules r.banks (resumed f) below = subst (AreFrames k.modules r.banks run) waits good.frames in
      let depth : length (f ∷ below) ≤ frame_limit = subst (λ (fs : List Frame). length fs ≤ frame_limit) waits good.depth in
      good_runs (record k.processor { sp = k.processor.sp + 2 }) (resumed f) below f.back [] (record {
        moves = record {
          registers = refl;
          memory = refl;
          bytes = record { registers = now_bytes.registers; memory = now_bytes.memory; sreg = now_bytes.sreg };
          own = λ i differs. absurd (differs refl);
          above = omega (arith, good.floor);
          below = omega (arith, at, frames.0.base);
        };
        running = record {
          loaded = frames.0.loaded;
          unit = frames.0.back;
          floor = omega (arith, good.floor);
          base = omega (arith, at, frames.0.base);
          bound = frames.0.bound;
          top = frames.0.top;
          depth = omega (arith, depth);
          frames = frames.1;
        };
        within = λ calls crosses.
            let within : f.cross ≡ false = ap is_crossed (sym waits) ∙ crosses in
            let own = frames.0.own within in
            record {
              domain = own.0;
              bound = own.1;
              calls = sym (ap crossings waits ∙ cond-false f.cross (f ∷ crossings below) (crossings below) within);
            };
      })

  return_goes : (b : Bool) → (k.processor.sp == run.base) ≡ b → GoodOutcome (Some Return) k r run (act_return b k r)
  return_goes true at = back_goes k.frames refl (eqb-true k.processor.sp run.base at)
  return_goes false at = good_ends _ refl

  -- Kernel calls.

  -- the running domain is one
  own_domain : run.domain < domain_count
  own_domain =
      let f = found k.modules run.domain good_run.loaded in
      omega (arith, (each_contained (GoodModule r) k.modules f.row h.modules f.contained).domain, f.domain_of)

  malloc_served : (o : Option Given) → given k run.domain (pair k.processor 24) ≡ o → IsServed k (malloc_given o k)
  malloc_served None is = just_answered 0 (omega arith)
  malloc_served (Some g) is =
      let domain = own_domain in
      let block = given_good k run.domain (pair k.processor 24) g h.blocks h.processor.memory (omega (arith, domain)) is in
      record {
        alone = refl;
        sp = refl;
        processor = answered_good (record k.processor { memory = g.memory }) g.address block.address (record {
          registers = h.processor.registers;
          memory = block.memory ∙ h.processor.memory;
          register_bytes = h.processor.register_bytes;
          memory_bytes = block.bytes h.processor.memory_bytes;
          sreg_byte = h.processor.sreg_byte;
        });
        queues = h.queues;
        timers = h.timers;
        blocks = block.blocks;
        owners = block.owners k.modules h.owners (inr good_run.loaded);
        hand = (running_good k r run h e).1;
        payloads = payloads_stay k.blocks g.blocks k.queues k.hand (constants_kept k.modules) (block.stays domain) h.payloads;
      }

  free_goes : (o : Option Unit) → calls_kernel o ≡ true → (b : Bool) (address : ℕ) → holds k.blocks run.domain address ≡ b → r.unit + 1 < length (bank r run.domain) → GoodOutcome o k r run (act_call (free_held b address k) r)
  free_goes o calls false address is behind = good_ends _ refl
  free_goes o calls true address is behind =
      good_serves _ [] calls
      (answer_served k.queues (without (block_of address) k.blocks) 0 (omega arith) h.queues (AreBlocks-without (block_of address) k.blocks h.blocks)
      (owned_fewer k.modules (block_of address) k.blocks h.owners)
      (payloads_stay k.blocks (without (block_of address) k.blocks) k.queues k.hand (constants_kept k.modules)
      (freed_stays k.blocks run.domain address 0 h.blocks own_domain ((holds_none k.blocks run.domain address).0 is)) h.payloads)) behind

  changed_served : (o : Option Loaded) (address : ℕ) → holds k.blocks run.domain address ≡ true → module_named k.modules (register k.processor 22) ≡ o → IsServed k (changed_to o address k)
  changed_served None address own is = just_answered 1 (omega arith)
  changed_served (Some owner) address own is =
      let to = named_good k r (register k.processor 22) owner h is in
      answer_served k.queues (handed_over (block_of address) owner.domain k.blocks) 0 (omega arith) h.queues
      (AreBlocks-handed_over (block_of address) owner.domain k.blocks (omega (arith, to.below)) h.blocks)
      (owned_handed k.modules (block_of address) owner.domain k.blocks (inr (contained_in_use k.modules owner to.contained)) h.owners)
      (payloads_stay k.blocks (handed_over (block_of address) owner.domain k.blocks) k.queues k.hand (constants_kept k.modules)
      (changed_stays k.blocks run.domain address 0 owner.domain h.blocks own_domain to.below ((holds_none k.blocks run.domain address).0 own)) h.payloads)

  change_goes : (o : Option Unit) → calls_kernel o ≡ true → (b : Bool) (address : ℕ) → holds k.blocks run.domain address ≡ b → r.unit + 1 < length (bank r run.domain) → GoodOutcome o k r run (act_call (change_held b address k) r)
  change_goes o calls false address is behind = good_ends _ refl
  change_goes o calls true address is behind = good_serves _ [] calls (changed_served (module_named k.modules (register k.processor 22)) address is refl) behind

  where_served : (b : Bool) (m : Message) → m.load ≡ None → IsKnown k.modules m → nat_lt (length (list_of m.high k.queues)) queue_limit ≡ b → IsServed k (post_where b m k)
  where_served true m none known room =
      answer_served (appended m.high m k.queues) k.blocks 0 (omega arith) (queues_posted k.modules m.high m k.queues known room h.queues) h.blocks h.owners
      (payloads_posted k.blocks k.queues k.hand (constants_kept k.modules) m none h.payloads)
  where_served false m none known room = just_answered 1 (omega arith)

  -- a post's message takes its numbers from the registers
  post_framed : IsFramed (message_of k run)
  post_framed = record {
    to = h.processor.register_bytes 24;
    from = id_byte r k.modules run.domain h.modules;
    sort = h.processor.register_bytes 22;
    byte = h.processor.register_bytes 20;
    word = pair_word k.processor 18 h.processor.register_bytes;
    len = omega arith;
    address = omega arith;
  }

  -- and it is known: its receiver is loaded, and so is its sender, which runs
  to_served : (b : Bool) → is_loaded k.modules (message_of k run).to ≡ b → IsServed k (post_to b (message_of k run) k)
  to_served true there =
      where_served (nat_lt (length (list_of (message_of k run).high k.queues)) queue_limit) (message_of k run) refl
      (record { receiver = there; sender = inr (id_at_loaded k.modules run.domain good_run.loaded); framed = post_framed; load = tt }) refl
  to_served false there = just_answered 2 (omega arith)

  -- a long post's message, with its payload
  long_known : (address : ℕ) → address < 2 ^ 16 → is_loaded k.modules (long_message_of k run).to ≡ true → IsKnown k.modules (carrying (long_message_of k run) (block_of address))
  long_known address small there = record {
    receiver = there;
    sender = inr (id_at_loaded k.modules run.domain good_run.loaded);
    framed = record {
      to = h.processor.register_bytes 24;
      from = id_byte r k.modules run.domain h.modules;
      sort = h.processor.register_bytes 22;
      byte = omega arith;
      word = omega arith;
      len = pair_word k.processor 20 h.processor.register_bytes;
      address = omega (arith, small);
    };
    load = refl;
  }

  long_served : (b : Bool) (address : ℕ) → address < 2 ^ 16 → HoldsBytes k.blocks run.domain address (long_message_of k run).len → is_loaded k.modules (long_message_of k run).to ≡ true → nat_lt (length (list_of (long_message_of k run).high k.queues)) queue_limit ≡ b → IsServed k (long_where b (long_message_of k run) address k)
  long_served true address small own there room =
      let m = carrying (long_message_of k run) (block_of address) in
      let now = handed_over (block_of address) kernel k.blocks in
      answer_served (appended m.high m k.queues) now 0 (omega arith) (queues_posted k.modules m.high m k.queues (long_known address small there) room h.queues)
      (AreBlocks-handed_over (block_of address) kernel k.blocks (omega arith) h.blocks) (owned_handed k.modules (block_of address) kernel k.blocks (inl refl) h.owners)
      (payloads_gained k.blocks now k.queues k.hand (constants_kept k.modules) m (record { block = block_of address; len = m.len }) refl
      (lifted_gains k.blocks run.domain address m.len h.blocks own_domain own) h.payloads)
  long_served false address small own there room = just_answered 1 (omega arith)

  long_to_served : (b : Bool) (address : ℕ) → address < 2 ^ 16 → HoldsBytes k.blocks run.domain address (long_message_of k run).len → is_loaded k.modules (long_message_of k run).to ≡ b → IsServed k (long_to b (long_message_of k run) address k)
  long_to_served true address small own there =
      long_served (nat_lt (length (list_of (long_message_of k run).high k.queues)) queue_limit) address small own there refl
  long_to_served false address small own there = just_answered 2 (omega arith)

  long_goes : (o : Option Unit) → calls_kernel o ≡ true → (b : Bool) → holds_bytes k.blocks run.domain (pair k.processor 18) (pair k.processor 20) ≡ b → r.unit + 1 < length (bank r run.domain) → GoodOutcome o k r run (act_call (long_held b (long_message_of k run) (pair k.processor 18) k) r)
  long_goes o calls false is behind = good_ends _ refl
  long_goes o calls true is behind =
      good_serves _ [] calls
      (long_to_served (is_loaded k.modules (long_message_of k run).to) (pair k.processor 18) (pair_word k.processor 18 h.processor.register_bytes)
      ((holds_bytes-true k.blocks run.domain (pair k.processor 18) (pair k.processor 20)).0 is) refl) behind

  -- the message in hand, once its payload was taken
  taken_served : (o : Option Payload) (m : Message) → k.hand ≡ Some m → m.load ≡ o → IsServed k (payload_taken o m run k)
  taken_served None m hand load = just_answered 0 (omega arith)
  taken_served (Some p) m hand load =
      let known : IsKnown k.modules m = subst (GoodHand k.modules) hand (running_good k r run h e).1 in
      let in_hand : load_of k.hand ≡ Some p = ap load_of hand ∙ load in
      let parcel : IsParcelOf k.blocks p = subst (λ (o : Option Payload). IsHeld k.blocks o) in_hand h.payloads.in_hand in
      let domain = own_domain in
      let now = handed_over p.block run.domain k.blocks in
      let are = AreBlocks-handed_over p.block run.domain k.blocks (omega (arith, domain)) h.blocks in
      let small : block_address p.block < 2 ^ 16 = subst (λ (o : Option Payload). payload_address o < 2 ^ 16) load known.framed.address in
      record {
        alone = refl;
        sp = refl;
        processor = answered_good k.processor (block_address p.block) small h.processor;
        queues = h.queues;
        timers = h.timers;
        blocks = are;
        owners = owned_handed k.modules p.block run.domain k.blocks (inr good_run.loaded) h.owners;
        hand = record {
          receiver = known.receiver;
          sender = known.sender;
          framed = record {
            to = known.framed.to;
            from = known.framed.from;
            sort = known.framed.sort;
            byte = known.framed.byte;
            word = known.framed.word;
            len = known.framed.len;
            address = omega arith;
          };
          load = tt;
        };
        payloads =
            payloads_taken k.blocks now k.queues k.hand (Some (record m { load = None })) (constants_kept k.modules) p in_hand refl are (settled_loses k.blocks p run.domain h.blocks parcel domain)
            h.payloads;
      }

  take_by_served : (b : Bool) (m : Message) → k.hand ≡ Some m → IsServed k (take_by b m run k)
  take_by_served true m hand = taken_served m.load m hand refl
  take_by_served false m hand = just_answered 0 (omega arith)

  take_served : (o : Option Message) → k.hand ≡ o → IsServed k (take_hand o run k)
  take_served None hand = just_answered 0 (omega arith)
  take_served (Some m) hand = take_by_served (m.to == id_at k.modules run.domain) m hand

  -- a timer that a call asks for is due after its ticks
  asked_good : (timer_of k run).ticks ≢ 0 → GoodTimer k.modules k.clock (timer_of k run)
  asked_good some =
      let small : pair k.processor 22 < 2 ^ 16 = pair_word k.processor 22 h.processor.register_bytes in
      record {
        owner = id_at_loaded k.modules run.domain good_run.loaded;
        id = h.processor.register_bytes 24;
        ticks = (omega (arith, some), omega (arith, small));
        due = omega (arith, small);
      }

  -- a call that changes the timers
  timers_served : (timers : List Timer) (answer : ℕ) → answer < 2 ^ 16 → GoodTimers k.modules k.clock timers → IsServed k (answered (record k { timers = timers }) answer)
  timers_served timers answer small good = record {
    alone = refl;
    sp = refl;
    processor = answered_good k.processor answer small h.processor;
    queues = h.queues;
    timers = good;
    blocks = h.blocks;
    owners = h.owners;
    hand = (running_good k r run h e).1;
    payloads = h.payloads;
  }

  start_served : IsServed k (timer_start k run)
  start_served =
      timers_served (started (timer_of k run) k.timers) (start_answer (timer_of k run) k.timers) (start_small (timer_of k run) k.timers)
      (timers_started k.modules k.clock (timer_of k run) k.timers asked_good h.timers)

  stop_served : IsServed k (timer_stop k run)
  stop_served =
      timers_served (without_timer (id_at k.modules run.domain) (register k.processor 24) k.timers)
      (stop_answer (list_any (is_of (id_at k.modules run.domain) (register k.processor 24)) k.timers))
      (stop_small (list_any (is_of (id_at k.modules run.domain) (register k.processor 24)) k.timers))
      (timers_stopped k.modules k.clock (id_at k.modules run.domain) (register k.processor 24) k.timers h.timers)

  within_goes : (o : Option Unit) → calls_kernel o ≡ true → (b : Bool) → r.unit + 1 < length (bank r run.domain) → GoodOutcome o k r run (act_call (send_within b k run) r)
  within_goes o calls true behind = good_serves _ _ calls (just_answered 0 (omega arith)) behind
  within_goes o calls false behind = good_serves _ [] calls (just_answered 1 (omega arith)) behind

  send_goes : (o : Option Unit) → calls_kernel o ≡ true → (b : Bool) → r.unit + 1 < length (bank r run.domain) → GoodOutcome o k r run (act_call (send_held b k run) r)
  send_goes o calls false behind = good_ends _ refl
  send_goes o calls true behind = within_goes o calls (nat_le (pair k.processor 20) payload_limit) behind

  call_goes : (o : Option Unit) → calls_kernel o ≡ true → (service : Option Service) → r.unit + 1 < length (bank r run.domain) → GoodOutcome o k r run (act_call (serve service run k) r)
  call_goes o calls (Some Malloc) behind = good_serves _ [] calls (malloc_served (given k run.domain (pair k.processor 24)) refl) behind
  call_goes o calls (Some Free) behind = free_goes o calls (holds k.blocks run.domain (pair k.processor 24)) (pair k.processor 24) refl behind
  call_goes o calls (Some ChangeOwn) behind = change_goes o calls (holds k.blocks run.domain (pair k.processor 24)) (pair k.processor 24) refl behind
  call_goes o calls (Some PostShort) behind = good_serves _ [] calls (to_served (is_loaded k.modules (message_of k run).to) refl) behind
  call_goes o calls (Some PostLong) behind = long_goes o calls (holds_bytes k.blocks run.domain (pair k.processor 18) (pair k.processor 20)) refl behind
  call_goes o calls (Some Take) behind = good_serves _ [] calls (take_served k.hand refl) behind
  call_goes o calls (Some TimerStart) behind = good_serves _ [] calls start_served behind
  call_goes o calls (Some TimerStop) behind = good_serves _ [] calls stop_served behind
  call_goes o calls (Some Say) behind = good_serves _ _ calls (just_answered 0 (omega arith)) behind
  call_goes o calls (Some Clock) behind = good_serves _ [] calls (just_answered (k.clock % 65536) (omega arith)) behind
  call_goes o calls (Some Send) behind = send_goes o calls (holds_bytes k.blocks run.domain (pair k.processor 18) (pair k.processor 20)) behind
  call_goes o calls (Some MyId) behind =
      good_serves _ [] calls (just_answered (id_at k.modules run.domain) (omega (arith, id_byte r k.modules run.domain h.modules))) behind
  call_goes o calls None behind =
      good_serves k [] calls (record { alone = refl; sp = refl; processor = h.processor; queues = h.queues; timers = h.timers; blocks = h.blocks; owners = h.owners; hand = (running_good k r run h e).1; payloads = h.payloads }) behind

  at_goes : (o : Option Unit) → next_unit r run ≡ o → GoodOutcome o k r run (act_at o run k r)
  at_goes None next = good_ends Over refl
  at_goes (Some (Plain i)) next =
      good_moves (plain_effect i k.processor) (r.unit + 1)
      (record { moves = plain_moves i (unit_of_kind k r run (Plain i) h e next); within = unit_behind k r run (Plain i) h e next refl })
  at_goes (Some (Store i)) next =
      effect_goes (Some (Store i)) (may_store k run (store_address i k.processor)) rule.Store (store_address i k.processor) i (unit_behind k r run (Store i) h e next refl)
      (store_moves i (unit_of_kind k r run (Store i) h e next))
  at_goes (Some (Load i)) next =
      effect_goes (Some (Load i)) (may_load k run (load_address i k.processor)) rule.Load (load_address i k.processor) i (unit_behind k r run (Load i) h e next refl)
      (λ may. load_moves i (unit_of_kind k r run (Load i) h e next))
  at_goes (Some (Push s)) next =
      effect_goes (Some (Push s)) (nat_lt floor k.processor.sp) rule.StackOver k.processor.sp (instr.Push s) (unit_behind k r run (Push s) h e next refl)
      (λ above. push_moves (MayChange k run) run.base low_top stack_own k.processor now_bytes s (ltb-true floor k.processor.sp above) good_run.base)
  at_goes (Some (Pop d)) next =
      effect_goes (Some (Pop d)) (nat_lt k.processor.sp run.base) rule.StackUnder k.processor.sp (instr.Pop d) (unit_behind k r run (Pop d) h e next refl)
      (λ below. pop_moves (MayChange k run) run.base low_top stack_own k.processor now_bytes d good_run.floor (ltb-true k.processor.sp run.base below))
  at_goes (Some (SpGroup with_sreg)) next =
      group_goes (Some (SpGroup with_sreg)) (nat_le floor (group_sp k.processor)) with_sreg (unit_behind k r run (SpGroup with_sreg) h e next refl) refl
  at_goes (Some Reserve) next = reserve_goes (Some Reserve) (has_room k.processor) (unit_behind k r run Reserve h e next refl) refl
  at_goes (Some (Skip i)) next = skip_goes (Some (Skip i)) (passes i k.processor) (unit_skipped k r run i h e next)
  at_goes (Some (Branch set bit target)) next =
      branch_goes (Some (Branch set bit target)) (taken set bit k.processor) target (unit_aimed k r run (Branch set bit target) h e next)
      (unit_behind k r run (Branch set bit target) h e next refl)
  at_goes (Some (Jump target)) next = good_moves k.processor target (stays target (unit_aimed k r run (Jump target) h e next))
  at_goes (Some (KernelCall n)) next = call_goes (Some (KernelCall n)) refl (service_of n) (unit_behind k r run (KernelCall n) h e next refl)
  at_goes (Some (LocalCall target)) next =
      called_goes (Some (LocalCall target)) (call_fault k) (goes_to target (local_called k run (r.unit + 1)) r []) refl
      (local_goes (Some (LocalCall target)) target (unit_aimed k r run (LocalCall target) h e next) (unit_behind k r run (LocalCall target) h e next refl))
  at_goes (Some (SlotCall slot)) next = slot_goes (Some (SlotCall slot)) (bound_at k run slot) slot refl (unit_behind k r run (SlotCall slot) h e next refl) refl
  at_goes (Some SlotIndirect) next = indirect_goes (Some SlotIndirect) (indirect_slot k.processor) refl (unit_behind k r run SlotIndirect h e next refl)
  at_goes (Some Return) next = return_goes (k.processor.sp == run.base) refl

  -- What is left is good.

  moved_good : (p : Processor) (unit : ℕ) → IsMoved k r run p unit → GoodMachine (with_processor k p) (entered r unit)
  moved_good p unit m = record {
    processor = record {
      registers = m.moves.registers ∙ h.processor.registers;
      memory = m.moves.memory ∙ h.processor.memory;
      register_bytes = m.moves.bytes.registers;
      memory_bytes = m.moves.bytes.memory;
      sreg_byte = m.moves.bytes.sreg;
    };
    banks = h.banks;
    modules = modules_kept r (entered r unit) refl k.modules h.modules;
    distinct = h.distinct;
    blocks = h.blocks;
    owners = h.owners;
    queues = h.queues;
    timers = h.timers;
    payloads = h.payloads;
    handler =
        let good = running_good k r run h e in
        subst (GoodHandler (with_processor k p) (entered r unit)) (sym e) (
          running_moved k (with_processor k p) r (entered r unit) run m.moves.above m.moves.below refl refl refl m.within good.0,
          good.1,
        );
  }

  served_good : (n : KernelState) → IsServed k n → r.unit + 1 < length (bank r run.domain) → GoodMachine n (entered r (r.unit + 1))
  served_good n s behind =
      let good = running_good k r run h e in
      let now = with_parts k n.processor n.queues n.timers n.blocks n.hand k.running k.frames in
      subst (λ (x : KernelState). GoodMachine x (entered r (r.unit + 1))) (sym s.alone) (record {
        processor = s.processor;
        banks = h.banks;
        modules = modules_kept r (entered r (r.unit + 1)) refl k.modules h.modules;
        distinct = h.distinct;
        blocks = s.blocks;
        owners = s.owners;
        queues = s.queues;
        timers = s.timers;
        payloads = s.payloads;
        handler =
            subst (GoodHandler now (entered r (r.unit + 1))) (sym e) (
              running_kept k now r (entered r (r.unit + 1)) run s.sp refl refl refl behind good.0,
              s.hand,
            );
      })

  runs_good : (o : Option Unit) (p : Processor) (new : Running) (frames : List Frame) (unit : ℕ) → IsChanged o k r run p new frames unit → GoodMachine (with_running k p new frames) (entered r unit)
  runs_good o p new frames unit m = record {
    processor = record {
      registers = m.moves.registers ∙ h.processor.registers;
      memory = m.moves.memory ∙ h.processor.memory;
      register_bytes = m.moves.bytes.registers;
      memory_bytes = m.moves.bytes.memory;
      sreg_byte = m.moves.bytes.sreg;
    };
    banks = h.banks;
    modules = modules_kept r (entered r unit) refl k.modules h.modules;
    distinct = h.distinct;
    blocks = h.blocks;
    owners = h.owners;
    queues = h.queues;
    timers = h.timers;
    payloads = h.payloads;
    handler = (m.running, (running_good k r run h e).1);
  }

  good_by : (o : Option Unit) (got : Acted) → GoodOutcome o k r run got → GoodMachine got.kernel got.runner
  good_by o _ (good_ends ending over) = h
  good_by o _ (good_moves p unit m) = moved_good p unit m
  good_by o _ (good_serves n lines call s behind) = served_good n s behind
  good_by o _ (good_runs p new frames unit lines m) = runs_good o p new frames unit m

-- the unit that is next
pub good_outcome : (k : KernelState) (r : RunnerState) (run : Running) → GoodMachine k r → k.running ≡ Some run → GoodOutcome (next_unit r run) k r run (act k r)
good_outcome k r run h e =
    subst (λ (o : Option Running). GoodOutcome (next_unit r run) k r run (act_running o k r)) (sym e) (at_goes k r run h e (next_unit r run) refl)

running_acted : (o : Option Running) (k : KernelState) (r : RunnerState) → GoodMachine k r → k.running ≡ o → GoodMachine (act_running o k r).kernel (act_running o k r).runner
running_acted None k r h e = h
running_acted (Some run) k r h e = good_by k r run h e (next_unit r run) (act_at (next_unit r run) run k r) (at_goes k r run h e (next_unit r run) refl)

pub act_good : (k : KernelState) (r : RunnerState) → GoodMachine k r → GoodMachine (act k r).kernel (act k r).runner
act_good k r h = running_acted k.running k r h refl

pub step_good : (k : KernelState) (r : RunnerState) (got : Acted) → UnitStep k r got → GoodMachine k r → GoodMachine got.kernel got.runner
step_good k r got step h =
    subst (λ (s : RunnerState). GoodMachine got.kernel s) (sym step.runner)
    (same_kernel_good (unit_free k r) (act k r).kernel got.kernel (act k r).runner step.kernel (act_good k r h))
