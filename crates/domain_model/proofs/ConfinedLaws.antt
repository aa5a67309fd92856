-- Confinement: what a unit changes is the running domain's, and a fault changes no domain's bytes.
use Rattle.std.proofs.Common.{◌≡◌, ◌≢◌, ℕ, ◌+◌, ◌≤◌, inl, inr, ◌&&◌, ◌||◌, IsSomeAnd, nat_le, List, true, false, refl, sym, ap, ◌∙◌, subst, arith, Option, Some, None, slice_index}
use Rattle.std.proofs.lemmas.Option.{none-some, same_Some}
use Rattle.std.proofs.lemmas.Bool.{cases_Bool, or_cases, or_parts, and_parts, leb-true, true≢false}
use Rattle.mote_layout.specs.Memory.{ram_start, red_zone_start, kernel_bytes_start, kernel_bytes_end}
use Rattle.unit_code.specs.declared.unit.Unit.{Unit}
use Rattle.domain_model.specs.declared.event.Choice.TheVariants.{Acts}
use Rattle.domain_model.specs.declared.fault.UnitEnd.{UnitEnd}
use Rattle.domain_model.specs.declared.fault.UnitEnd.TheVariants.{On, Over, Fault}
use Rattle.domain_model.specs.declared.handler.Running.{Running}
use Rattle.domain_model.specs.declared.line.TraceLine.{TraceLine}
use Rattle.domain_model.specs.State.{Processor, KernelState, RunnerState, State, with_processor}
use Rattle.domain_model.specs.Act.{Acted, act, next_unit}
use Rattle.domain_model.specs.Free.{UnitStep, unit_free, is_dead, is_kernel_byte, calls_kernel, crosses_back, ends_handler, enters_from, enters_kernel, dead_top}
use Rattle.domain_model.specs.Turn.{settled, at_clock, made, Turn}
use Rattle.domain_model.specs.Good.{GoodRunning, GoodMachine, Good}
use Rattle.domain_model.specs.Laws.{MayChange, crossings, StaysWithin, KeepsOthers, MayChangeAtFault, Confined}
use Rattle.domain_model.specs.Facts.{IsActing}
use Rattle.domain_model.proofs.ChoiceLaws.{choice_facts}
use Rattle.domain_model.proofs.ActLaws.{running_good, act_keeps_banks, end_changes_nothing}
use Rattle.domain_model.proofs.UnitsKept.{GoodOutcome, good_ends, good_moves, good_serves, good_runs, good_outcome}
use Rattle.domain_model.proofs.CloseLaws.{settled_rests}
use Rattle.domain_model.proofs.TurnLaws.{step_changes_alone, step_running, step_frames, step_queues, step_blocks, step_timers, step_hand}

-- The machine's own unit, where it enters no kernel: it goes on within the domain, and moves the processor and the calls within it alone.
record OwnUnit (k : KernelState) (run : Running) (got : Acted) : Type 0 where
  on : got.ending ≡ On
  alone : got.kernel ≡ record k { processor = got.kernel.processor; running = got.kernel.running; frames = got.kernel.frames }
  running : IsSomeAnd got.kernel.running (λ after. StaysWithin k run got.kernel after)
  own : (i : ℕ) → slice_index got.kernel.processor.memory i ≢ slice_index k.processor.memory i → MayChange k run (i + ram_start)
  below : got.kernel.processor.sp ≤ run.bound

-- what runs, runs on
runs_on : (k n : KernelState) (run : Running) (o : Option Running) → o ≡ Some run → n.frames ≡ k.frames → IsSomeAnd o (λ after. StaysWithin k run n after)
runs_on k n run None i frames = absurd (none-some run i)
runs_on k n run (Some after) i frames =
    let same = same_Some after run i in
    record { domain = ap (λ (x : Running). x.domain) same; bound = ap (λ (x : Running). x.bound) same; calls = ap crossings frames }

own_by : (o : Option Unit) (k : KernelState) (r : RunnerState) (run : Running) (got : Acted) → GoodRunning k r run → k.running ≡ Some run → GoodOutcome o k r run got → calls_kernel o ≡ false → crosses_back o k.frames ≡ false → ends_handler got.ending ≡ false → OwnUnit k run got
own_by o k r run _ good i (good_ends ending over) no_call no_return goes_on = absurd (true≢false (sym over ∙ goes_on))
own_by o k r run _ good i (good_moves p unit m) no_call no_return goes_on = record {
  on = refl;
  alone = refl;
  running = runs_on k (with_processor k p) run k.running i refl;
  own = m.moves.own;
  below = omega (arith, m.moves.below, good.bound);
}
own_by o k r run _ good i (good_serves n lines call s behind) no_call no_return goes_on = absurd (true≢false (sym call ∙ no_call))
own_by o k r run _ good i (good_runs p new frames unit lines m) no_call no_return goes_on =
    let within = m.within no_call no_return in
    record {
      on = refl;
      alone = refl;
      running = within;
      own = m.moves.own;
      below = omega (arith, m.moves.below, m.running.bound, within.bound);
    }

own_unit : (k : KernelState) (r : RunnerState) (run : Running) → GoodMachine k r → k.running ≡ Some run → enters_kernel k r ≡ false → OwnUnit k run (act k r)
own_unit k r run h i out =
    let there : enters_from (Some run) k.frames r (act k r).ending ≡ false = ap (λ (o : Option Running). enters_from o k.frames r (act k r).ending) (sym i) ∙ out in
    let parts = or_parts (calls_kernel (next_unit r run)) (crosses_back (next_unit r run) k.frames || ends_handler (act k r).ending) there in
    let rest = or_parts (crosses_back (next_unit r run) k.frames) (ends_handler (act k r).ending) parts.1 in
    own_by (next_unit r run) k r run (act k r) (running_good k r run h i).0 i (good_outcome k r run h i) parts.0 rest.0 rest.1

-- What a runner may make of the free bytes.

-- below the stack pointer
dead_at : (sp address : ℕ) → is_dead sp address ≡ true → (red_zone_start ≤ address) × (address ≤ sp)
dead_at sp address e =
    let both = and_parts (nat_le red_zone_start address) (nat_le address sp) e in
    (leb-true red_zone_start address both.0, leb-true address sp both.1)

pub kernel_byte_at : (address : ℕ) → is_kernel_byte address ≡ true → (kernel_bytes_start ≤ address) × (address ≤ kernel_bytes_end)
kernel_byte_at address e =
    let both = and_parts (nat_le kernel_bytes_start address) (nat_le address kernel_bytes_end) e in
    (leb-true kernel_bytes_start address both.0, leb-true address kernel_bytes_end both.1)

dead_on : (e : UnitEnd) (old new : KernelState) → e ≡ On → dead_top e old new ≡ new.processor.sp
dead_on On old new h = refl
dead_on Over old new h = absurd (cc)
dead_on (Fault note) old new h = absurd (cc)

dead_at_end : (e : UnitEnd) (old new : KernelState) → ends_handler e ≡ true → dead_top e old new ≡ old.processor.sp
dead_at_end On old new h = absurd (cc)
dead_at_end Over old new h = refl
dead_at_end (Fault other) old new h = refl

-- where no kernel is entered a free byte is a dead one
free_between : (k : KernelState) (r : RunnerState) (address : ℕ) → enters_kernel k r ≡ false → unit_free k r address ≡ true → is_dead (dead_top (act k r).ending k (act k r).kernel) address ≡ true
free_between k r address out e =
    elim (or_cases (is_dead (dead_top (act k r).ending k (act k r).kernel) address) (enters_kernel k r && is_kernel_byte address) e) [
      | inl dead ↦ dead
      | inr byte ↦ absurd (true≢false (sym (and_parts (enters_kernel k r) (is_kernel_byte address) byte).0 ∙ out))
    ]

-- what runs within a domain by one kernel does by another with the same frames
within_alike : (k : KernelState) (run : Running) (n m : KernelState) (after : Running) → m.frames ≡ n.frames → StaysWithin k run n after → StaysWithin k run m after
within_alike k run n m after frames h = record { domain = h.domain; bound = h.bound; calls = ap crossings frames ∙ h.calls }

goes_within : (k : KernelState) (run : Running) (n m : KernelState) (o p : Option Running) → p ≡ o → m.frames ≡ n.frames → IsSomeAnd o (λ after. StaysWithin k run n after) → IsSomeAnd p (λ after. StaysWithin k run m after)
goes_within k run n m None None same frames h = h
goes_within k run n m None (Some b) same frames h = absurd h
goes_within k run n m (Some a) None same frames h = absurd (none-some a same)
goes_within k run n m (Some a) (Some b) same frames h =
    subst (λ (x : Running). StaysWithin k run m x) (sym (same_Some b a same)) (within_alike k run n m a frames h)

-- a step that enters no kernel keeps what is others'
step_keeps : (k : KernelState) (r : RunnerState) (got : Acted) (run : Running) → GoodMachine k r → k.running ≡ Some run → UnitStep k r got → enters_kernel k r ≡ false → KeepsOthers k run got.kernel
step_keeps k r got run h i step out =
    let own = own_unit k r run h i out in
    let rest = step_changes_alone k r got step in
    let top : dead_top (act k r).ending k (act k r).kernel ≡ (act k r).kernel.processor.sp = dead_on (act k r).ending k (act k r).kernel own.on in
    record {
      blocks = step_blocks k r got step ∙ ap (λ (n : KernelState). n.blocks) own.alone;
      modules = ap (λ (n : KernelState). n.modules) rest;
      queues = step_queues k r got step ∙ ap (λ (n : KernelState). n.queues) own.alone;
      timers = step_timers k r got step ∙ ap (λ (n : KernelState). n.timers) own.alone;
      hand = step_hand k r got step ∙ ap (λ (n : KernelState). n.hand) own.alone;
      ending = ap (λ (n : KernelState). n.ending) rest;
      running = goes_within k run (act k r).kernel got.kernel (act k r).kernel.running got.kernel.running (step_running k r got step) (step_frames k r got step) own.running;
      memory = λ n differs.
          elim (cases_Bool (unit_free k r (n + ram_start))) [
            | inl free ↦
                let dead = dead_at (dead_top (act k r).ending k (act k r).kernel) (n + ram_start) (free_between k r (n + ram_start) out free) in
                inr (dead.0, omega (arith, dead.1, top, own.below))
            | inr kept ↦ own.own n (λ e. differs (step.kernel.memory.same n kept ∙ e))
          ];
    }

-- A handler's end, by its return or by a fault, changes nothing.

-- so its bytes are free ones
pub end_bytes : (k : KernelState) (r : RunnerState) (got : Acted) → UnitStep k r got → ends_handler (act k r).ending ≡ true → (i : ℕ) → slice_index got.kernel.processor.memory i ≢ slice_index k.processor.memory i → MayChangeAtFault k (i + ram_start)
end_bytes k r got step e i differs =
    let top = dead_at_end (act k r).ending k (act k r).kernel e in
    let old = ap (λ (n : KernelState). slice_index n.processor.memory i) (end_changes_nothing k r e) in
    elim (cases_Bool (unit_free k r (i + ram_start))) [
      | inl free ↦
          elim (or_cases (is_dead (dead_top (act k r).ending k (act k r).kernel) (i + ram_start)) (enters_kernel k r && is_kernel_byte (i + ram_start)) free) [
            | inl dead ↦
                let at = dead_at (dead_top (act k r).ending k (act k r).kernel) (i + ram_start) dead in
                inl (at.0, omega (arith, at.1, top))
            | inr byte ↦ inr (kernel_byte_at (i + ram_start) (and_parts (enters_kernel k r) (is_kernel_byte (i + ram_start)) byte).1)
          ]
      | inr kept ↦ absurd (differs (step.kernel.memory.same i kept ∙ old))
    ]

-- The turn of a unit.

settled_keeps : (e : UnitEnd) (k : KernelState) (run : Running) (new : KernelState) (r : RunnerState) (lines : List TraceLine) (now : ℕ) → e ≡ On → KeepsOthers k run new → KeepsOthers k run (at_clock (settled e run new r lines).kernel now)
settled_keeps On k run new r lines now h own = record {
  blocks = own.blocks;
  modules = own.modules;
  queues = own.queues;
  timers = own.timers;
  hand = own.hand;
  ending = own.ending;
  running = goes_within k run new (at_clock new now) new.running new.running refl refl own.running;
  memory = own.memory;
}
settled_keeps Over k run new r lines now h own = absurd (cc)
settled_keeps (Fault note) k run new r lines now h own = absurd (cc)

settled_memory : (e : UnitEnd) (run : Running) (k : KernelState) (r : RunnerState) (lines : List TraceLine) → (settled e run k r lines).kernel.processor.memory ≡ k.processor.memory
settled_memory e run k r lines = ap (λ (p : Processor). p.memory) (settled_rests e run k r lines).processor

settled_runner : (e : UnitEnd) (run : Running) (k : KernelState) (r : RunnerState) (lines : List TraceLine) → e ≡ On → (settled e run k r lines).runner ≡ r
settled_runner On run k r lines h = refl
settled_runner Over run k r lines h = absurd (cc)
settled_runner (Fault note) run k r lines h = absurd (cc)

pub turn_confined : (s t : State) (lines : List TraceLine) → Good s → Turn s t lines → Confined s t
turn_confined s t lines g turn = record {
  between = λ run e out.
      let facts : IsActing run s = rw e at (choice_facts s) in
      let step : UnitStep s.kernel s.runner turn.got = rw e at turn.may in
      let to : t ≡ (made (Acts run) s turn.got).state = rw e at turn.to in
      let own = own_unit s.kernel s.runner run g.machine facts.running out in
      subst (λ (x : State). KeepsOthers s.kernel run x.kernel) (sym to)
      (settled_keeps turn.got.ending s.kernel run turn.got.kernel turn.got.runner turn.got.lines (_) (step.ending ∙ own.on)
      (step_keeps s.kernel s.runner turn.got run g.machine facts.running step out));
  units = λ run e out.
      let facts : IsActing run s = rw e at (choice_facts s) in
      let step : UnitStep s.kernel s.runner turn.got = rw e at turn.may in
      let to : t ≡ (made (Acts run) s turn.got).state = rw e at turn.to in
      let own = own_unit s.kernel s.runner run g.machine facts.running out in
      ap (λ (x : State). x.runner.banks) to
      ∙ ap (λ (r : RunnerState). r.banks) (settled_runner turn.got.ending run turn.got.kernel turn.got.runner turn.got.lines (step.ending ∙ own.on))
      ∙ ap (λ (r : RunnerState). r.banks) step.runner ∙ act_keeps_banks s.kernel s.runner;
  at_fault = λ run note e fault i differs.
      let step : UnitStep s.kernel s.runner turn.got = rw e at turn.may in
      let to : t ≡ (made (Acts run) s turn.got).state = rw e at turn.to in
      let same : t.kernel.processor.memory ≡ turn.got.kernel.processor.memory
      = ap (λ (x : State). x.kernel.processor.memory) to ∙ settled_memory turn.got.ending run turn.got.kernel turn.got.runner turn.got.lines in
      end_bytes s.kernel s.runner turn.got step (ap ends_handler fault) i (λ e. differs (ap (λ (bytes : List ℕ). slice_index bytes i) same ∙ e));
}
