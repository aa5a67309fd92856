-- Room on the stack, calls within the domain and of slots, and returns.
use Rattle.std.proofs.Common.{◌≡◌, ◌≢◌, ◌∙◌, ℕ, ◌+◌, ◌-◌, ◌<◌, ◌≤◌, ◌==◌, Bool, true, false, List, [], ◌∷◌, length, Option, None, Some, refl, ap, subst, arith}
use Rattle.std.specs.Prelude.{nat_lt, slice_index, slice_set}
use Rattle.std.proofs.lemmas.List.{set-set, set_comm}
use Rattle.avr_isa.specs.declared.instruction.Instr.TheVariants as instr
use Rattle.avr_machine.specs.Conditions.{IsRunnable, IsSkip, StoresInside}
use Rattle.avr_machine.specs.Effect.{effect, writes}
use Rattle.avr_machine.specs.Flash.{Banks}
use Rattle.avr_machine.specs.Processor.{Processor as CountingProcessor, high, low, lowered, raised}
use Rattle.avr_machine.specs.Step.{CanRun as CanRunOne}
use Rattle.mote_base.specs.Frames.{frame_limit}
use Rattle.mote_base.specs.declared.frame.Frame.{Frame}
use Rattle.mote_layout.specs.Memory.{pointer_z, ram_start, red_zone_start}
use Rattle.mote_layout.specs.declared.page.Entry.TheVariants as entry
use Rattle.unit_code.specs.Spelled.{offset_to}
use Rattle.unit_code.specs.Templates.{address_of}
use Rattle.unit_code.specs.declared.unit.Unit.{Unit}
use Rattle.unit_code.specs.declared.unit.Unit.TheVariants.{LocalCall, Reserve, Return, SlotCall, SlotIndirect}
use Rattle.domain_model.specs.declared.fault.FaultNote.{FaultNote}
use Rattle.domain_model.specs.declared.fault.Rule.TheVariants as rule
use Rattle.domain_model.specs.declared.fault.UnitEnd.TheVariants.{Fault, Over}
use Rattle.domain_model.specs.declared.handler.Running.{Running}
use Rattle.domain_model.specs.Bytes.{AreBytes}
use Rattle.domain_model.specs.State.{KernelState, Processor, at_counter, pair, with_processor}
use Rattle.domain_model.specs.Calls.{answered}
use Rattle.domain_model.specs.Frames.{bound_at, call_fault, call_line, came_back, depth_fault, entry_unit, has_room, indirect_slot, local_called, reserved, resumed, room_fault, slot_called, unbound_answer, unbound_line}
use Rattle.domain_model.specs.Act.{act_back, act_called, act_reserve, act_return, act_slot, act_indirect, act_unit, bank, goes_on, goes_to, stopped}
use Rattle.domain_model.specs.Good.{AreFrames, GoodMachine, IsBelow}
use Rattle.domain_model.proofs.ActLaws.{running_good}
use Rattle.domain_model.proofs.CallLaws.{bound_enters}
use Rattle.kernel_call.specs.Calling.{called_slot, entered_slot, returned_by, returned_to, returning, slot_by, unless}
use Rattle.word_run.specs.FlashValue.{FlashValue, HoldsWords, part, words_of, starts_of, address_in, entry_point, unit_at}
use Rattle.word_run.specs.Entries.{Goes, come_back, ended, going, indirect_called, local_from, local_way, room_made, slot_called as slot_row, slot_from, slot_reached}
use Rattle.word_run.specs.CanRun.{CanCallSlot, HasTemplate, LeadsBack, LeadsInto}
use Rattle.word_run.specs.Writing.{Names}
use Rattle.word_run.proofs.Fetched.{Stand, stand_behind, stand_within}
use Rattle.word_run.proofs.Guarded.{back_in, back_processor, behind_call, call_but, called_entry, in_stack, on_stack, refused_unit}
use Rattle.word_run.proofs.Jumps.{jump_step, reaches}
use Rattle.word_run.proofs.Laid.{starts_counted}
use Rattle.word_run.proofs.Moves.{OnStack, Row, call_step, pushed_by}
use Rattle.word_run.proofs.Same.{Meets, all_met, dead_free, free_of, like_met, same_but, still_met}
use Rattle.word_run.proofs.Setting.{Setting, laid, lands, lands_inside, lands_next, start, start_below, used_below}
use Rattle.word_run.proofs.Steps.{Leads, Steps, continues, ends, enters, halts, turned}

-- Two bytes 0 stand in place of the pushed address.
zeros_again : (m : List ℕ) (j i lo hi : ℕ) → i ≢ j → slice_set (slice_set (slice_set (slice_set m j lo) i hi) j 0) i 0 ≡ slice_set (slice_set m j 0) i 0
zeros_again m j i lo hi apart =
    ap (λ xs. slice_set xs i 0) (set_comm (slice_set m j lo) i j hi 0 apart ∙ ap (λ xs. slice_set xs i hi) (set-set m j lo 0))
    ∙ set-set (slice_set m j 0) i hi 0

pub reserved_again : (p : Processor) (back : ℕ) → OnStack p → reserved (pushed_by p back) ≡ reserved p
reserved_again p back h =
    let low_enough = h.floor in
    let high_enough = h.top in
    let j = p.sp - ram_start in
    let i = p.sp - 1 - ram_start in
    let down : lowered p.sp - ram_start ≡ i = omega (arith, low_enough, high_enough) in
    let e = zeros_again p.memory j i (low back) (high back) (omega (arith, low_enough)) in
    ap (λ m. record { registers = p.registers; sreg = p.sreg; sp = p.sp - 2; memory = m })
    (ap (λ x. slice_set (slice_set (slice_set (slice_set p.memory j (low back)) x (high back)) j 0) i 0) down ∙ e)

-- What stands against a call is the same.
depth_alike : (b : Bool) (k : KernelState) (p : Processor) → p.sp ≡ k.processor.sp → depth_fault b (with_processor k p) ≡ depth_fault b k
depth_alike true k p e = refl
depth_alike false k p e = ap (λ sp. Some (record { rule = rule.Depth; address = sp })) e

room_alike : (b : Bool) (k : KernelState) (p : Processor) → p.sp ≡ k.processor.sp → room_fault b (with_processor k p) ≡ room_fault b k
room_alike true k p e = depth_alike (nat_lt (length k.frames) frame_limit) k p e
room_alike false k p e = ap (λ sp. Some (record { rule = rule.StackOver; address = sp })) e

fault_alike : (v : FlashValue) (run : Running) (k : KernelState) → call_fault (back_in v run k) ≡ call_fault k
fault_alike v run k = room_alike (has_room k.processor) k (back_processor v run k) refl

module _ (may : ℕ → Type 0) (v : FlashValue) (run : Running) (k : KernelState) (dead : (a : ℕ) → red_zone_start ≤ a → a ≤ k.processor.sp → may a) where
  -- Reserve.
  reserve_row : (s : Setting v run k Reserve) → Row may entry.Reserve v run k (behind_call v run) (room_made (has_room k.processor) (back_in v run k) (behind_call v run))
  reserve_row s = called_entry may entry.Reserve v run k (behind_call v run) _ (λ c. refl) (λ c st can. (st, can)) refl (in_stack v run k Reserve s) tt (λ a c ret w. absurd w)

  reserve_by : (b : Bool) (s : Setting v run k Reserve) → v.unit + 1 < length (starts_of v run.domain) → AreBytes (act_reserve b k (part v)).kernel.processor.memory
      → Steps may v run k (entry_point v run.domain v.unit) (room_made b (back_in v run k) (behind_call v run)) → Meets may (act_reserve b k (part v)) v run k
  reserve_by true s more bytes step =
      all_met may (act_reserve true k (part v)) v run k bytes
      (ends may 3 v run k (entry_point v run.domain v.unit) run (with_processor k (reserved k.processor)) (behind_call v run) []
      (turned step _ (ap (λ p. going (with_processor k p) (behind_call v run)) (reserved_again k.processor (behind_call v run) (on_stack v run k Reserve s))))
      s.in_bank.running s.in_bank.below (v.unit + 1) (lands_next v run k Reserve s more))
  reserve_by false s more bytes step = refused_unit v run k Reserve s may rule.StackOver k.processor.sp step

  pub reserve_unit : (s : Setting v run k Reserve) → v.unit + 1 < length (starts_of v run.domain) → AreBytes (act_unit Reserve run k (part v)).kernel.processor.memory → Meets may (act_unit Reserve run k (part v)) v run k
  reserve_unit s more bytes =
      let l = laid v run k Reserve s in
      reserve_by (has_room k.processor) s more bytes
      (call_step may v run k (start v run) entry.Reserve l.behind _ s.in_bank l.stand tt (on_stack v run k Reserve s) dead (reserve_row s))

  -- A call is refused: nothing has changed but dead bytes.
  stopped_unit : (x : Unit) (s : Setting v run k x) (note : FaultNote) → Steps may v run k (entry_point v run.domain v.unit) (ended (back_in v run k) (Fault note)) → Meets may (stopped note k (part v)) v run k
  stopped_unit x s note step =
      still_met may (stopped note k (part v)) v run k (back_processor v run k).memory refl refl refl
      (halts may 3 v run k (entry_point v run.domain v.unit) (back_in v run k) [] (Fault note) step)
      (λ enters. call_but v run k x s (free_of k (stopped note k (part v)) enters) (λ y above below. dead_free k (stopped note k (part v)) enters y above below))

  -- Calls within the domain.
  module _ (target : ℕ) (s : Setting v run k (LocalCall target)) (there : target < length (starts_of v run.domain)) (more : v.unit + 1 < length (starts_of v run.domain)) where
    from_next : unit_at v run.domain (raised (behind_call v run)) ≡ Some (v.unit + 1)
    from_next =
        let low = start_below v run k (LocalCall target) s v.unit s.here in
        let below = s.in_bank.below in
        let next : raised (behind_call v run) ≡ address_in run.domain (start v run + 3) = omega (arith, low, below) in
        ap (unit_at v run.domain) next ∙ lands_next v run k (LocalCall target) s more

    local_row : Row may entry.LocalCall v run k (behind_call v run) (local_from (Some (v.unit + 1)) run (back_in v run k) (behind_call v run))
    local_row =
        called_entry may entry.LocalCall v run k (behind_call v run) _ (λ c. refl) (λ c st can. (st, can))
        (ap (λ o. local_from o run (back_in v run k) (behind_call v run)) from_next) (in_stack v run k (LocalCall target) s) tt (λ a c ret w. absurd w)

    local_step : Steps may v run k (entry_point v run.domain v.unit) (local_from (Some (v.unit + 1)) run (back_in v run k) (behind_call v run))
    local_step =
        let l = laid v run k (LocalCall target) s in
        call_step may v run k (start v run) entry.LocalCall (instr.Rjmp (offset_to (start v run + 2) (slice_index (starts_of v run.domain) target)) ∷ l.behind) _ s.in_bank l.stand tt (on_stack v run k (LocalCall target) s) dead local_row

    local_reached : (o : Option FaultNote) → call_fault k ≡ o
        → local_from (Some (v.unit + 1)) run (back_in v run k) (behind_call v run) ≡ record { kernel = unless o (local_called (back_in v run k) run (v.unit + 1)) (back_in v run k); lines = []; way = local_way o (behind_call v run) }
    local_reached o e =
        ap (λ f. record { kernel = unless f (local_called (back_in v run k) run (v.unit + 1)) (back_in v run k); lines = []; way = local_way f (behind_call v run) }) (fault_alike v run k ∙ e)

    local_by : (o : Option FaultNote) → call_fault k ≡ o → AreBytes (act_called o (goes_to target (local_called k run (v.unit + 1)) (part v) []) k (part v)).kernel.processor.memory
        → Meets may (act_called o (goes_to target (local_called k run (v.unit + 1)) (part v) []) k (part v)) v run k
    local_by None e bytes =
        let l = laid v run k (LocalCall target) s in
        let k2 = local_called k run (v.unit + 1) in
        let run2 : Running = record run { base = k.processor.sp - 2 } in
        let to = slice_index (starts_of v run.domain) target in
        let low = start_below v run k (LocalCall target) s target there in
        let next_low = start_below v run k (LocalCall target) s v.unit s.here in
        let fits = s.in_bank.fits in
        let jump = stand_behind (words_of v run.domain) (start v run) _ (instr.Rjmp (offset_to (start v run + 2) to) ∷ l.behind) l.stand in
        let within = stand_in jump in
        let same : local_called (back_in v run k) run (v.unit + 1) ≡ k2
        = ap (λ p. record k2 { processor = p }) (reserved_again k.processor (behind_call v run) (on_stack v run k (LocalCall target) s)) in
        all_met may (goes_to target k2 (part v) []) v run k bytes
        (continues may 3 v run k (entry_point v run.domain v.unit) run2 k2 (behind_call v run) []
        (turned local_step _ (local_reached None e ∙ ap (λ x. going x (behind_call v run)) same)) refl s.in_bank.below (goes_to target k2 (part v) [])
        (lands_inside v run k (LocalCall target) s (start v run + 2) (omega arith) (omega arith))
        (ends may 2 v run2 k2 (behind_call v run) run2 k2 (address_in run.domain to) []
        (jump_step may v run2 k2 (start v run + 2) to (offset_to (start v run + 2) to) l.behind (record { running = refl; below = s.in_bank.below; fits = s.in_bank.fits }) jump
        (reaches run (start v run + 2) to s.in_bank.below (omega (arith, within, fits)) low) (omega (arith, low)))
        refl s.in_bank.below target (lands v run.domain target s.first there)) refl)
      where
        stand_in : Stand (words_of v run.domain) (start v run + 2) (instr.Rjmp (offset_to (start v run + 2) (slice_index (starts_of v run.domain) target)) ∷ (laid v run k (LocalCall target) s).behind) → start v run + 2 < length (words_of v run.domain)
        stand_in st = stand_within (words_of v run.domain) (start v run + 2) _ _ st
    local_by (Some note) e bytes = stopped_unit (LocalCall target) s note (turned local_step _ (local_reached (Some note) e))

    pub local_unit : AreBytes (act_unit (LocalCall target) run k (part v)).kernel.processor.memory → Meets may (act_unit (LocalCall target) run k (part v)) v run k
    local_unit bytes = local_by (call_fault k) refl bytes

  -- Calls of slots.
  module _ (x : Unit) (s : Setting v run k x) (held : HoldsWords v) (good : GoodMachine k (part v)) (slot : ℕ) (lands_behind : unit_at v run.domain (behind_call v run) ≡ Some (v.unit + 1)) where
    -- the provider's unit has a template
    provided : (domain place : ℕ) → bound_at k run slot ≡ Some (domain, place) → HasTemplate v domain (entry_unit k.modules domain place)
    provided domain place bound =
        let to = bound_enters k (part v) run.domain slot domain place good bound in
        let below = used_below k (part v) domain good to.used in
        let words = held.spelled domain below in
        let counted = starts_counted (words_of v domain) (starts_of v domain) words.sealed (bank (part v) domain) words.lays in
        let unit = to.unit in
        record { domain_below = below; unit_below = omega (arith, counted, unit) }

    entered_leads : (fault : Option FaultNote) (back domain place : ℕ) → bound_at k run slot ≡ Some (domain, place) → LeadsInto v (entered_slot fault slot back domain place run (back_in v run k)).ending
    entered_leads None back domain place bound = provided domain place bound
    entered_leads (Some note) back domain place bound = tt

    bound_leads : (o : Option (ℕ × ℕ)) (back : ℕ) → bound_at k run slot ≡ o → LeadsInto v (slot_by o slot back run (back_in v run k)).ending
    bound_leads None back bound = tt
    bound_leads (Some (domain, place)) back bound = entered_leads (call_fault (back_in v run k)) back domain place bound

    pub can_call : CanCallSlot slot v run (back_in v run k)
    can_call back = bound_leads (bound_at k run slot) back refl

    entered_by : (o : Option FaultNote) (domain place : ℕ) → call_fault k ≡ o → bound_at k run slot ≡ Some (domain, place)
        → AreBytes (act_called o (goes_to (entry_unit k.modules domain place) (slot_called k run (v.unit + 1) domain) (part v) (call_line k run slot domain place ∷ [])) k (part v)).kernel.processor.memory
        → Steps may v run k (entry_point v run.domain v.unit) (slot_reached (entered_slot o slot (v.unit + 1) domain place run (back_in v run k)) v (behind_call v run))
        → Meets may (act_called o (goes_to (entry_unit k.modules domain place) (slot_called k run (v.unit + 1) domain) (part v) (call_line k run slot domain place ∷ [])) k (part v)) v run k
    entered_by None domain place e bound bytes step =
        let to = provided domain place bound in
        let words = held.spelled domain to.domain_below in
        let unit = entry_unit k.modules domain place in
        let k2 = slot_called k run (v.unit + 1) domain in
        let run2 : Running = record { domain = domain; base = k.processor.sp - 2; bound = k.processor.sp - 2 } in
        let more = call_line k run slot domain place ∷ [] in
        let same : slot_called (back_in v run k) run (v.unit + 1) domain ≡ k2
        = ap (λ p. record k2 { processor = p }) (reserved_again k.processor (behind_call v run) (on_stack v run k x s)) in
        all_met may (goes_to unit k2 (part v) more) v run k bytes
        (ends may 3 v run k (entry_point v run.domain v.unit) run2 k2 (entry_point v domain unit) more
        (turned step _ (ap (λ y. record { kernel = y; lines = more; way = Goes (entry_point v domain unit) }) same))
        refl to.domain_below unit (lands v domain unit words.first to.unit_below))
    entered_by (Some note) domain place e bound bytes step = stopped_unit x s note step

    bound_by : (o : Option (ℕ × ℕ)) → bound_at k run slot ≡ o → v.unit + 1 < length (starts_of v run.domain) → AreBytes (act_slot o slot run k (part v)).kernel.processor.memory
        → Steps may v run k (entry_point v run.domain v.unit) (slot_reached (slot_by o slot (v.unit + 1) run (back_in v run k)) v (behind_call v run)) → Meets may (act_slot o slot run k (part v)) v run k
    bound_by None bound more bytes step =
        let want = goes_on (answered k unbound_answer) (part v) (unbound_line k run slot ∷ []) in
        like_met may want v run k (goes_to (v.unit + 1) (answered (back_in v run k) unbound_answer) (part v) (unbound_line k run slot ∷ []))
        (ends may 3 v run k (entry_point v run.domain v.unit) run (answered (back_in v run k) unbound_answer) (behind_call v run) (unbound_line k run slot ∷ []) step
        s.in_bank.running s.in_bank.below (v.unit + 1) lands_behind)
        (λ enters. record {
          kernel = record { rest = refl; memory = same_but _ _ _ (call_but v run k x s (free_of k want enters) (λ y above below. dead_free k want enters y above below)) };
          runner = refl;
          lines = refl;
          ending = refl;
        })
    bound_by (Some (domain, place)) bound more bytes step =
        entered_by (call_fault k) domain place refl bound bytes
        (turned step _ (ap (λ f. slot_reached (entered_slot f slot (v.unit + 1) domain place run (back_in v run k)) v (behind_call v run)) (fault_alike v run k)))

    pub slot_by_row : v.unit + 1 < length (starts_of v run.domain) → AreBytes (act_slot (bound_at k run slot) slot run k (part v)).kernel.processor.memory
        → Steps may v run k (entry_point v run.domain v.unit) (slot_row slot v run (back_in v run k) (behind_call v run)) → Meets may (act_slot (bound_at k run slot) slot run k (part v)) v run k
    slot_by_row more bytes step =
        bound_by (bound_at k run slot) refl more bytes
        (turned step (slot_reached (called_slot (back_in v run k) run slot (v.unit + 1)) v (behind_call v run)) (ap (λ o. slot_from o slot v run (back_in v run k) (behind_call v run)) lands_behind))

  pub slot_unit : (slot : ℕ) (s : Setting v run k (SlotCall slot)) → HoldsWords v → GoodMachine k (part v) → v.unit + 1 < length (starts_of v run.domain) → AreBytes (act_unit (SlotCall slot) run k (part v)).kernel.processor.memory
      → Meets may (act_unit (SlotCall slot) run k (part v)) v run k
  slot_unit slot s held good more bytes =
      let l = laid v run k (SlotCall slot) s in
      let lands_behind = lands_next v run k (SlotCall slot) s more in
      slot_by_row (SlotCall slot) s held good slot lands_behind more bytes
      (call_step may v run k (start v run) (entry.Slot slot) l.behind (slot_row slot v run (back_in v run k) (behind_call v run)) s.in_bank l.stand s.kind (on_stack v run k (SlotCall slot) s) dead
      (called_entry may (entry.Slot slot) v run k (behind_call v run) _ (λ c. refl) (λ c st can. (st, can)) refl (in_stack v run k (SlotCall slot) s)
      (can_call (SlotCall slot) s held good slot lands_behind) (λ a c ret w. absurd w)))

  indirect_by : (o : Option ℕ) (s : Setting v run k SlotIndirect) → HoldsWords v → GoodMachine k (part v) → v.unit + 1 < length (starts_of v run.domain) → AreBytes (act_indirect o run k (part v)).kernel.processor.memory
      → Steps may v run k (entry_point v run.domain v.unit) (indirect_called o v run (back_in v run k) (behind_call v run)) → Meets may (act_indirect o run k (part v)) v run k
  indirect_by None s held good more bytes step = refused_unit v run k SlotIndirect s may rule.Target (pair k.processor pointer_z) step
  indirect_by (Some slot) s held good more bytes step = slot_by_row SlotIndirect s held good slot (lands_next v run k SlotIndirect s more) more bytes step

  pub indirect_unit : (s : Setting v run k SlotIndirect) → HoldsWords v → GoodMachine k (part v) → v.unit + 1 < length (starts_of v run.domain) → AreBytes (act_unit SlotIndirect run k (part v)).kernel.processor.memory
      → Meets may (act_unit SlotIndirect run k (part v)) v run k
  indirect_unit s held good more bytes =
      let l = laid v run k SlotIndirect s in
      indirect_by (indirect_slot k.processor) s held good more bytes
      (call_step may v run k (start v run) entry.SlotIndirect l.behind (indirect_called (indirect_slot k.processor) v run (back_in v run k) (behind_call v run)) s.in_bank l.stand tt (on_stack v run k SlotIndirect s) dead
      (called_entry may entry.SlotIndirect v run k (behind_call v run) _ (λ c. refl) (λ c st can. (st, can)) refl (in_stack v run k SlotIndirect s)
      (λ slot named. can_call SlotIndirect s held good slot (lands_next v run k SlotIndirect s more)) (λ a c ret w. absurd w)))

-- Returns.

return_can : (banks : Banks) (target : ℕ) (c : CountingProcessor) → CanRunOne banks c (instr.Jmp target)
unfolding IsRunnable IsSkip StoresInside writes
return_can banks target c = record { runnable = tt; inside = tt; next = λ skip. absurd skip }

return_names : (may : ℕ → Type 0) (target a over : ℕ) (c : CountingProcessor) → Names a (writes (instr.Jmp target) over c) → may a
unfolding writes
return_names may target a over c w = absurd w

return_moves : (over b : ℕ) (p : Processor) → effect (instr.Jmp (address_of entry.Return)) over (at_counter p b) ≡ at_counter p (address_of entry.Return)
unfolding writes
return_moves over b p = refl

module _ (may : ℕ → Type 0) (v : FlashValue) (run : Running) (k : KernelState) (s : Setting v run k Return) (held : HoldsWords v) (good : GoodMachine k (part v)) where
  caller : (f : Frame) (below : List Frame) → k.frames ≡ f ∷ below → HasTemplate v f.domain f.back
  caller f below waits =
      let runs = (running_good k (part v) run good s.in_bank.running).0 in
      let frames : IsBelow k.modules v.banks run f × AreFrames k.modules v.banks (resumed f) below = subst (AreFrames k.modules v.banks run) waits runs.frames in
      let domain = used_below k (part v) f.domain good frames.0.loaded in
      let words = held.spelled f.domain domain in
      let counted = starts_counted (words_of v f.domain) (starts_of v f.domain) words.sealed (bank (part v) f.domain) words.lays in
      let back = frames.0.back in
      record { domain_below = domain; unit_below = omega (arith, counted, back) }

  leads_to : (frames : List Frame) → k.frames ≡ frames → LeadsBack v (returned_to frames k).answer
  leads_to [] waits = tt
  leads_to (f ∷ below) waits = caller f below waits

  leads_by : (b : Bool) → LeadsBack v (returned_by b k).answer
  leads_by true = leads_to k.frames refl
  leads_by false = tt

  return_step : Steps may v run k (entry_point v run.domain v.unit) (come_back (returning k run) v)
  return_step =
      let l = laid v run k Return s in
      let p = k.processor in
      let i = instr.Jmp (address_of entry.Return) in
      let n = at_counter p (address_of entry.Return) in
      let lead : Leads may v run k (start v run) i l.behind n = record {
        stand = l.stand;
        leads = return_moves _ _ p;
        can = return_can v.flash (address_of entry.Return) _;
        wrote = λ a w. return_names may (address_of entry.Return) a _ _ w;
      } in
      enters may v run k s.in_bank (start v run) i l.behind n lead entry.Return (omega arith) refl
      (in_stack v run k Return s, leads_by (k.processor.sp == run.base)) (λ a w. absurd w)

  back_by : (frames : List Frame) → k.frames ≡ frames → AreBytes (act_back frames k (part v)).kernel.processor.memory → Steps may v run k (entry_point v run.domain v.unit) (come_back (returned_to frames k) v)
      → Meets may (act_back frames k (part v)) v run k
  back_by [] waits bytes step = all_met may (act_back [] k (part v)) v run k bytes (halts may 3 v run k (entry_point v run.domain v.unit) k [] Over step)
  back_by (f ∷ below) waits bytes step =
      let to = caller f below waits in
      let words = held.spelled f.domain to.domain_below in
      all_met may (act_back (f ∷ below) k (part v)) v run k bytes
      (ends may 3 v run k (entry_point v run.domain v.unit) (resumed f) (came_back f below k) (entry_point v f.domain f.back) [] step refl to.domain_below f.back
      (lands v f.domain f.back words.first to.unit_below))

  return_by : (b : Bool) → AreBytes (act_return b k (part v)).kernel.processor.memory → Steps may v run k (entry_point v run.domain v.unit) (come_back (returned_by b k) v) → Meets may (act_return b k (part v)) v run k
  return_by true bytes step = back_by k.frames refl bytes step
  return_by false bytes step =
      all_met may (act_return false k (part v)) v run k bytes
      (halts may 3 v run k (entry_point v run.domain v.unit) k [] (Fault (record { rule = rule.Balance; address = k.processor.sp })) step)

  pub return_unit : AreBytes (act_unit Return run k (part v)).kernel.processor.memory → Meets may (act_unit Return run k (part v)) v run k
  return_unit bytes = return_by (k.processor.sp == run.base) bytes return_step
