-- Where modules are unloaded, the other modules are as they were, with their messages, their blocks and the bytes
-- in them.
use Rattle.std.proofs.Common.{◌≡◌, ◌≢◌, ◌↔◌, ℕ, ◌+◌, ◌<◌, ◌≤◌, ◌==◌, ◌||◌, not, filter, inl, inr, nat_le, List, [], ◌∷◌, Bool, true, false, refl, sym, ap, ◌∙◌, subst, arith, Some, slice_get, slice_index}
use Rattle.std.specs.List.{Contains}
use Rattle.std.proofs.lemmas.Bool.{and_right, lt-leb, cases_Bool, cases_eq}
use Rattle.std.proofs.lemmas.List.Folds.{list_any-append}
use Rattle.mote_base.specs.Messages.{in_order, front}
use Rattle.mote_layout.specs.Memory.{ram_start, kernel, kernel_bytes_start, kernel_bytes_end, heap_start, red_zone_start}
use Rattle.mote_layout.specs.Blocks.{starting_at, owns}
use Rattle.mote_layout.specs.Parcels.{Payload}
use Rattle.mote_layout.specs.declared.segment.Segment.{Segment}
use Rattle.domain_model.specs.declared.event.Choice.{Choice}
use Rattle.domain_model.specs.declared.event.Choice.TheVariants.{Stays, Hears, Fires, Comes, Dispatches, Jumps, Idles, Budgets, Watches, Acts}
use Rattle.domain_model.specs.declared.handler.Running.{Running}
use Rattle.domain_model.specs.declared.line.TraceLine.{TraceLine}
use Rattle.domain_model.specs.declared.line.TraceLine.TheVariants as line
use Rattle.domain_model.specs.State.{Loaded, Message, KernelState, RunnerState, State}
use Rattle.mote_base.specs.declared.timer.Timer.{Timer}
use Rattle.domain_model.specs.Firing.{fired}
use Rattle.domain_model.specs.Modules.{in_use}
use Rattle.domain_model.specs.Payloads.{load_of, kept_at, HasHeld}
use Rattle.domain_model.specs.Act.{Acted, act, bank}
use Rattle.domain_model.specs.Free.{UnitStep, with_memory, ends_handler, is_kernel_byte}
use Rattle.domain_model.specs.Turn.{Moved, faulted, settled, watchdog, at_clock, choice, made, May, Leaves, Turn}
use Rattle.domain_model.specs.Good.{GoodMachine, IsOwned, Good}
use Rattle.domain_model.specs.Laws.{MayChangeAtFault, tells_unload, is_gone, without_gone, KeepsTheRest, KeepsOtherUnits, UnloadsAlone}
use Rattle.domain_model.specs.Facts.{Facts}
use Rattle.domain_model.proofs.ActLaws.{act_keeps_banks}
use Rattle.domain_model.proofs.ChoiceLaws.{choice_facts}
use Rattle.domain_model.proofs.Kept.{each_contained, each_either, contained_first, contained_later}
use Rattle.domain_model.proofs.SegmentLaws.{unloaded_old, unloaded_kept}
use Rattle.domain_model.proofs.BlockLaws.{owned_in_heap}
use Rattle.domain_model.proofs.ConstantsLaws.{constants_held}
use Rattle.domain_model.proofs.CloseLaws.{settled_rests}
use Rattle.domain_model.proofs.UnitsKept.{step_good}
use Rattle.domain_model.proofs.MachineLaws.{ended_good, same_banks}
use Rattle.domain_model.proofs.PurgeLaws.{purge_rows, empty_rows, named_by, without_rows, rows_alone, rows_good, rows_old, rows_kept, rows_banks, rows_gone, rows_modules, rows_high, rows_low, rows_timers, same_segment}
use Rattle.domain_model.proofs.FiringLaws.{timer_reminds}
use Rattle.domain_model.proofs.TurnLaws.{step_ends}
use Rattle.domain_model.proofs.ConfinedLaws.{end_bytes}
use Rattle.domain_model.proofs.UnloadLaws.{IsQuiet, quiet_by, came_quiet, hear_quiet, dispatch_quiet, step_quiet, ends_where, unloads, once_over, Purges, faulted_purges, settled_purges, is_purged}

-- a byte of a block is no byte of the kernel's, and no fault changes it
heap_byte : (address : ℕ) → (heap_start ≤ address) × (address < red_zone_start) → is_kernel_byte address ≡ false
heap_byte address heap = and_right (nat_le kernel_bytes_start address) (nat_le address kernel_bytes_end) (lt-leb address kernel_bytes_end (omega (arith, heap.0)))

no_fault_byte : (k : KernelState) (address : ℕ) → (heap_start ≤ address) × (address < red_zone_start) → MayChangeAtFault k address → ⊥
no_fault_byte k address heap (inl stack) = omega (arith, heap.1, stack.0)
no_fault_byte k address heap (inr byte) = omega (arith, heap.0, byte.1)

-- Which ids the lines unload: those of the modules that were purged.

not_told : (x : TraceLine) (id : ℕ) → ((time other : ℕ) → x ≡ line.Unload time other → ⊥) → tells_unload id x ≡ false
not_told (line.Unload time other) id quiet = absurd (quiet time other refl)
not_told _ id quiet = refl

none_told : (lines : List TraceLine) (id : ℕ) → IsQuiet lines → is_gone lines id ≡ false
none_told [] id quiet = refl
none_told (x ∷ xs) id quiet =
    let first = not_told x id (λ time other e. quiet time other (subst (Contains (x ∷ xs)) e (contained_first xs x))) in
    let rest = none_told xs id (λ time other c. quiet time other (contained_later x xs (line.Unload time other) c)) in
    rw (first, rest) refl

all_told : (time : ℕ) (rows : List Loaded) (id : ℕ) → is_gone (unloads time rows) id ≡ named_by rows id
all_told time [] id = refl
all_told time (row ∷ rows) id = ap (λ b. (row.face.id == id) || b) (all_told time rows id)

filter_alike : {X : Type 0} (f g : X → Bool) (xs : List X) → ((x : X) → f x ≡ g x) → filter f xs ≡ filter g xs
filter_alike f g [] same = refl
filter_alike f g (x ∷ xs) same =
    let rest = filter_alike f g xs same in
    elim (cases_Bool (g x)) [
      | inl kept ↦ let also : f x ≡ true = same x ∙ kept in rw (kept, also) (ap (λ ys. x ∷ ys) rest)
      | inr lost ↦ let also : f x ≡ false = same x ∙ lost in rw (lost, also) rest
    ]

-- All but the bytes.
record KeepsLists (k : KernelState) (lines : List TraceLine) (new : KernelState) : Type 0 where
  modules : new.modules ≡ filter (λ (m : Loaded). not (is_gone lines m.face.id)) k.modules
  high : new.queues.high ≡ without_gone lines k.queues.high
  low : new.queues.low ≡ without_gone lines k.queues.low
  timers : new.timers ≡ filter (λ (t : Timer). not (is_gone lines t.«module»)) k.timers
  blocks : (b : Segment) → b.owner ≢ kernel → Contains new.blocks b ↔ (Contains k.blocks b × (in_use new.modules b.owner ≡ true))
  payloads : (m : Message) (p : Payload) → Contains (in_order new.queues) m → m.load ≡ Some p → starting_at new.blocks p.block ≡ starting_at k.blocks p.block
  constants : (m : Loaded) (p : Payload) → Contains new.modules m → kept_at m.constants ≡ Some p → starting_at new.blocks p.block ≡ starting_at k.blocks p.block

module _ (k : KernelState) (r : RunnerState) (h : GoodMachine k r) (moved : Moved) (p : Purges k r moved) where
  abbrev final : KernelState
  final = purge_rows p.rows (once_over k)

  first_good : GoodMachine (once_over k) r
  first_good = ended_good k r h

  last_good : GoodMachine final (empty_rows p.rows r)
  last_good = rows_good p.rows (once_over k) r first_good refl p.purged

  gone_as : (id : ℕ) → is_gone moved.lines id ≡ named_by p.rows id
  gone_as id =
      ap (λ (xs : List TraceLine). is_gone xs id) p.lines ∙ list_any-append (tells_unload id) p.told (unloads k.clock p.rows)
      ∙ ap (λ b. b || is_gone (unloads k.clock p.rows) id) (none_told p.told id p.quiet) ∙ all_told k.clock p.rows id

  messages_as : (messages : List Message) → without_rows p.rows messages ≡ without_gone moved.lines messages
  messages_as messages =
      filter_alike (λ (m : Message). not (named_by p.rows m.from || named_by p.rows m.to)) (λ (m : Message). not (is_gone moved.lines m.from || is_gone moved.lines m.to)) messages
      (λ m. ap (λ b. not (b || named_by p.rows m.to)) (sym (gone_as m.from)) ∙ ap (λ b. not (is_gone moved.lines m.from || b)) (sym (gone_as m.to)))

  was_there : (b : Segment) → Contains final.blocks b → Contains k.blocks b
  was_there b c = unloaded_old (load_of k.hand) k.blocks b (rows_old p.rows (once_over k) r b first_good refl p.purged c)

  -- a block of a domain has a module that is in
  domain_used : (b : Segment) → IsOwned final.modules b → b.owner ≢ kernel → in_use final.modules b.owner ≡ true
  domain_used b (inl kernels) other = absurd (other kernels)
  domain_used b (inr used) other = used

  final_keeps : KeepsLists k moved.lines final
  final_keeps = record {
    modules =
        rows_modules p.rows (once_over k) r first_good refl p.purged
        ∙ filter_alike (λ (m : Loaded). not (named_by p.rows m.face.id)) (λ (m : Loaded). not (is_gone moved.lines m.face.id)) k.modules (λ m. ap not (sym (gone_as m.face.id)));
    high = rows_high p.rows (once_over k) ∙ messages_as k.queues.high;
    low = rows_low p.rows (once_over k) ∙ messages_as k.queues.low;
    timers = rows_timers p.rows (once_over k)
        ∙ filter_alike (λ (t : Timer). not (named_by p.rows t.«module»)) (λ (t : Timer). not (is_gone moved.lines t.«module»)) k.timers (λ t. ap not (sym (gone_as t.«module»)));
    blocks = λ b domain. (
      λ there. (was_there b there, domain_used b (each_contained (IsOwned final.modules) final.blocks b last_good.owners there) domain),
      λ there.
          rows_kept p.rows (once_over k) r b first_good refl p.purged
          (unloaded_kept (load_of k.hand) k.blocks k.blocks b h.blocks there.0 domain h.payloads.in_hand there.0) domain there.1,
    );
    payloads = λ m q cm load.
        let all = each_either (HasHeld final.blocks) final.queues.high final.queues.low last_good.payloads.high last_good.payloads.low in
        same_segment k final r r m.load q h was_there (each_contained (HasHeld final.blocks) (in_order final.queues) m all cm) load;
    constants = λ m q cm kept.
        same_segment k final r r (kept_at m.constants) q h was_there (constants_held final.blocks final.modules m last_good.payloads.beside cm) kept;
  }

  purges_keep : KeepsLists k moved.lines moved.kernel
  purges_keep = subst (KeepsLists k moved.lines) (sym p.kernel) final_keeps

  purges_keep_units : (time : ℕ) (m : Loaded) → Contains moved.lines (line.Unload time m.face.id) → Contains k.modules m → KeepsOtherUnits moved.kernel.modules r m.domain moved.runner
  purges_keep_units time m c cm =
      subst (λ (n : KernelState). KeepsOtherUnits n.modules r m.domain moved.runner) (sym p.kernel)
      (subst (KeepsOtherUnits final.modules r m.domain) (sym p.runner) (record {
        others = λ other used. rows_banks p.rows (once_over k) r other used;
        gone = each_contained (λ (row : Loaded). bank (empty_rows p.rows r) row.domain ≡ []) p.rows m (rows_gone p.rows (once_over k) r first_good refl p.purged) (is_purged k r h moved p time m c cm);
      }))

-- The same for another kernel with the same lists.
keeps_alike : (k : KernelState) (lines : List TraceLine) (new other : KernelState) → other.modules ≡ new.modules → other.queues ≡ new.queues → other.timers ≡ new.timers → other.blocks ≡ new.blocks → ((owner i : ℕ) → owns k.blocks owner (i + ram_start) ≡ true → slice_index other.processor.memory i ≡ slice_index k.processor.memory i) → KeepsLists k lines new → KeepsTheRest k lines other
keeps_alike k lines new other modules queues timers blocks bytes h = record {
  modules = modules ∙ h.modules;
  high = ap (λ q. q.high) queues ∙ h.high;
  low = ap (λ q. q.low) queues ∙ h.low;
  timers = timers ∙ h.timers;
  blocks = λ b domain.
      subst (λ (bs : List Segment). Contains bs b ↔ (Contains k.blocks b × (in_use other.modules b.owner ≡ true))) (sym blocks)
      (subst (λ (ms : List Loaded). Contains new.blocks b ↔ (Contains k.blocks b × (in_use ms b.owner ≡ true))) (sym modules) (h.blocks b domain));
  payloads = λ m p c load. ap (λ (bs : List Segment). starting_at bs p.block) blocks ∙ h.payloads m p (subst (λ q. Contains (in_order q) m) queues c) load;
  constants = λ m p c kept.
      ap (λ (bs : List Segment). starting_at bs p.block) blocks ∙ h.constants m p (subst (λ (ms : List Loaded). Contains ms m) modules c) kept;
  bytes = bytes;
}

-- a unit that ends the handler
settled_keep : (k : KernelState) (r : RunnerState) (got : Acted) (run : Running) (now : ℕ) → GoodMachine k r → k.running ≡ Some run → UnitStep k r got → (time : ℕ) (m : Loaded) → Contains (settled got.ending run got.kernel got.runner got.lines).lines (line.Unload time m.face.id) → Contains k.modules m → KeepsTheRest k (settled got.ending run got.kernel got.runner got.lines).lines (at_clock (settled got.ending run got.kernel got.runner got.lines).kernel now) × KeepsOtherUnits (at_clock (settled got.ending run got.kernel got.runner got.lines).kernel now).modules r m.domain (settled got.ending run got.kernel got.runner got.lines).runner
settled_keep k r got run now h i step time m c cm =
    let quiet = step_quiet k r got step in
    let ends = ends_where got.ending run got.kernel got.runner got.lines quiet time m.face.id c in
    let over : ends_handler (act k r).ending ≡ true = sym (ap ends_handler step.ending) ∙ ends in
    let same = step_ends k r got step ends in
    let good = step_good k r got step h in
    let moved = settled got.ending run got.kernel got.runner got.lines in
    let there : Contains got.kernel.modules m = subst (λ (n : KernelState). Contains n.modules m) (sym same) cm in
    let purges = settled_purges got.ending run got.kernel got.runner got.lines good (λ o. ap (λ (n : KernelState). n.running) same ∙ i) quiet ends in
    let lists : KeepsLists (with_memory k got.kernel.processor.memory) moved.lines moved.kernel = subst (λ (n : KernelState). KeepsLists n moved.lines moved.kernel) same (purges_keep got.kernel got.runner good moved purges) in
    let banks : (domain : ℕ) → bank got.runner domain ≡ bank r domain = same_banks r got.runner (ap (λ (x : RunnerState). x.banks) step.runner ∙ act_keeps_banks k r) in
    let units = purges_keep_units got.kernel got.runner good moved purges time m c there in
    let rests = settled_rests got.ending run got.kernel got.runner got.lines in (
      keeps_alike k moved.lines moved.kernel (at_clock moved.kernel now) refl refl refl refl
          (λ owner n owned.
          elim (cases_eq (slice_index got.kernel.processor.memory n) (slice_index k.processor.memory n)) [
            | inl alike ↦ ap (λ p. slice_index p.memory n) rests.processor ∙ alike
            | inr differs ↦
                absurd (no_fault_byte k (n + ram_start) (owned_in_heap k.blocks owner (n + ram_start) h.blocks owned) (end_bytes k r got step over n differs))
          ])
          (record {
            modules = lists.modules;
            high = lists.high;
            low = lists.low;
            timers = lists.timers;
            blocks = lists.blocks;
            payloads = lists.payloads;
            constants = lists.constants;
          }),
      record { others = λ other used. units.others other used ∙ banks other; gone = units.gone },
    )

turn_keeps : (c : Choice) (s t : State) (got : Acted) → Good s → Facts c s → May c s got → Leaves c (made c s got).state t → (time : ℕ) (m : Loaded) → Contains (made c s got).lines (line.Unload time m.face.id) → Contains s.kernel.modules m → KeepsTheRest s.kernel (made c s got).lines t.kernel × KeepsOtherUnits t.kernel.modules s.runner m.domain t.runner
turn_keeps Stays s t got g facts may to time m c cm = absurd (quiet_by [] refl time m.face.id c)
turn_keeps Hears s t got g facts may to time m c cm = absurd (hear_quiet (slice_get s.packets 0) s.kernel s.runner time m.face.id c)
turn_keeps Fires s t got g facts may to time m c cm =
    absurd (quiet_by (fired s.kernel).lines (timer_reminds s.kernel facts.timer facts.first facts.due).quiet time m.face.id c)
turn_keeps (Comes e) s t got g facts may to time m c cm = absurd (came_quiet s.images e.what s.kernel s.runner time m.face.id c)
turn_keeps Dispatches s t got g facts may to time m c cm = absurd (dispatch_quiet (front s.kernel.queues) s.kernel s.runner time m.face.id c)
turn_keeps (Jumps now) s t got g facts may to time m c cm = absurd (quiet_by [] refl time m.face.id c)
turn_keeps Idles s t got g facts may to time m c cm = absurd (quiet_by (line.EndIdle s.kernel.clock ∷ []) refl time m.face.id c)
turn_keeps Budgets s t got g facts may to time m c cm = absurd (quiet_by (line.EndBudget s.kernel.clock ∷ []) refl time m.face.id c)
turn_keeps (Watches run) s t got g facts may to time m c cm =
    let moved = faulted (watchdog s) run s.kernel s.runner [] in
    let purges = faulted_purges (watchdog s) run s.kernel s.runner [] g.machine facts.running (quiet_by [] refl) in
    let same : t.kernel ≡ with_memory moved.kernel t.kernel.processor.memory = to.kernel.rest in
    let memory : moved.kernel.processor.memory ≡ s.kernel.processor.memory
    = ap (λ (n : KernelState). n.processor.memory) (purges.kernel ∙ rows_alone purges.rows (once_over s.kernel)) in
    let units = purges_keep_units s.kernel s.runner g.machine moved purges time m c cm in
    let runner : t.runner ≡ moved.runner = ap (λ (x : State). x.runner) to.rest in (
      keeps_alike s.kernel moved.lines moved.kernel t.kernel (ap (λ (n : KernelState). n.modules) same) (ap (λ (n : KernelState). n.queues) same) (ap (λ (n : KernelState). n.timers) same) (ap (λ (n : KernelState). n.blocks) same)
          (λ owner i owned.
          to.kernel.memory.same i (heap_byte (i + ram_start) (owned_in_heap s.kernel.blocks owner (i + ram_start) g.machine.blocks owned))
          ∙ ap (λ (bytes : List ℕ). slice_index bytes i) memory)
          (purges_keep s.kernel s.runner g.machine moved purges),
      subst (λ (n : KernelState). KeepsOtherUnits n.modules s.runner m.domain t.runner) (sym same)
          (subst (KeepsOtherUnits moved.kernel.modules s.runner m.domain) (sym runner) units),
    )
turn_keeps (Acts run) s t got g facts may to time m c cm =
    subst (λ (x : State). KeepsTheRest s.kernel (made (Acts run) s got).lines x.kernel × KeepsOtherUnits x.kernel.modules s.runner m.domain x.runner) (sym to)
    (settled_keep s.kernel s.runner got run _ g.machine facts.running may time m c cm)

pub turn_unloads_alone : (s t : State) (lines : List TraceLine) → Good s → Turn s t lines → UnloadsAlone s t lines
turn_unloads_alone s t lines g turn time m c cm =
    subst (λ (xs : List TraceLine). KeepsTheRest s.kernel xs t.kernel × KeepsOtherUnits t.kernel.modules s.runner m.domain t.runner) (sym turn.tells)
    (turn_keeps (choice s) s t turn.got g (choice_facts s) turn.may turn.to time m
    (subst (λ (xs : List TraceLine). Contains xs (line.Unload time m.face.id)) turn.tells c) cm)
