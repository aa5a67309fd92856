-- Clean unload: where a turn unloads a module, nothing names it or its domain any more.
use Rattle.std.proofs.Common.{◌≡◌, ℕ, ◌+◌, ◌<◌, inl, inr, List, [], ◌∷◌, ◌++◌, Bool, true, false, refl, sym, ap, ◌∙◌, subst, arith, append_assoc, Option, Some, None, Ok, Err, slice_get}
use Rattle.std.specs.List.{Contains, list_any}
use Rattle.std.proofs.lemmas.Bool.{true≢false}
use Rattle.std.proofs.lemmas.List.{append-nil}
use Rattle.std.proofs.lemmas.List.Elements.{Contains-append_cases}
use Rattle.mote_base.specs.Messages.{Lists, in_order, front}
use Rattle.mote_base.specs.declared.frame.Frame.{Frame}
use Rattle.module_image.specs.Links.{bound_slot}
use Rattle.mote_layout.specs.Memory.{kernel}
use Rattle.mote_layout.specs.declared.segment.Segment.{Segment}
use Rattle.domain_model.specs.declared.event.LoaderOrder.{LoaderOrder}
use Rattle.domain_model.specs.declared.event.LoaderOrder.TheVariants as what
use Rattle.domain_model.specs.declared.event.Choice.{Choice}
use Rattle.domain_model.specs.declared.event.Choice.TheVariants.{Stays, Hears, Fires, Comes, Dispatches, Jumps, Idles, Budgets, Watches, Acts}
use Rattle.domain_model.specs.declared.fault.FaultNote.{FaultNote}
use Rattle.domain_model.specs.declared.fault.UnitEnd.{UnitEnd}
use Rattle.domain_model.specs.declared.fault.UnitEnd.TheVariants.{On, Over, Fault}
use Rattle.domain_model.specs.declared.handler.Running.{Running}
use Rattle.domain_model.specs.declared.line.TraceLine.{TraceLine}
use Rattle.domain_model.specs.declared.line.TraceLine.TheVariants as line
use Rattle.domain_model.specs.Prepared.{Module, Prep}
use Rattle.domain_model.specs.State.{Loaded, Message, KernelState, RunnerState, State, seats}
use Rattle.domain_model.specs.Modules.{id_at, is_loaded, in_use, module_named, without_domain, free_domain}
use Rattle.domain_model.specs.Given.{Given, with_given}
use Rattle.domain_model.specs.Payloads.{namings, constants_kept, naming_kept}
use Rattle.domain_model.specs.Dump.{dumped}
use Rattle.domain_model.specs.declared.event.Packet.{Packet}
use Rattle.domain_model.specs.Act.{Acted}
use Rattle.domain_model.specs.Free.{UnitStep, with_memory, ends_handler}
use Rattle.mote_base.specs.declared.timer.Timer.{Timer}
use Rattle.domain_model.specs.Firing.{fired}
use Rattle.domain_model.specs.Turn.{state_block, Moved, unload_module, deliver, dispatch, emptied, purged, handler_ended, with_none_ending, close, close_module, at_clock, came, hear, load_image, load_prepared, refused_file, load_new, load_in, load_given, load_beside, constants_block, settled, faulted, watchdog, choice, made, May, Turn}
use Rattle.domain_model.specs.Good.{GoodMachine, GoodModule, Good}
use Rattle.domain_model.specs.Laws.{Names, a_module, a_slot, a_message, a_timer, the_message, a_block, a_lost_block, a_frame, the_running, UnloadsCleanly}
use Rattle.domain_model.specs.Facts.{Facts}
use Rattle.domain_model.proofs.Kept.{each_contained, any_nowhere, contained_nowhere, contained_first, contained_later, contained_cases}
use Rattle.domain_model.proofs.ChoiceLaws.{choice_facts}
use Rattle.domain_model.proofs.ModuleLaws.{found, found_id, named, same_module}
use Rattle.domain_model.proofs.ActLaws.{is_unload, running_good, act_unloads_nothing}
use Rattle.domain_model.proofs.UnitsKept.{step_good}
use Rattle.domain_model.proofs.MachineLaws.{ended_good}
use Rattle.domain_model.proofs.PurgeLaws.{purge_rows, empty_rows, ArePurged, rows_contained, rows_names}
use Rattle.domain_model.proofs.DumpLaws.{each_dumped}
use Rattle.domain_model.proofs.HearLaws.{first_hears}
use Rattle.domain_model.proofs.FiringLaws.{timer_reminds}
use Rattle.domain_model.proofs.TurnLaws.{leaves, step_ends}

-- a loaded domain is no kernel
pub used_below : (k : KernelState) (r : RunnerState) (domain : ℕ) → GoodMachine k r → in_use k.modules domain ≡ true → domain < kernel
used_below k r domain h used =
    let f = found k.modules domain used in
    let g = each_contained (GoodModule r) k.modules f.row h.modules f.contained in
    omega (arith, g.domain, f.domain_of)

-- what names something names it also in a kernel with the same lists
names_alike : (k n : KernelState) (id domain : ℕ) → n.modules ≡ k.modules → n.queues ≡ k.queues → n.timers ≡ k.timers → n.hand ≡ k.hand → n.blocks ≡ k.blocks → n.running ≡ k.running → n.frames ≡ k.frames → Names n id domain → Names k id domain
names_alike k n id domain modules queues timers hand blocks running frames (a_module m c e) = a_module m (subst (λ (ms : List Loaded). Contains ms m) modules c) e
names_alike k n id domain modules queues timers hand blocks running frames (a_slot d i p place bound e) =
    a_slot d i p place (subst (λ (ms : List Loaded). bound_slot (seats ms) d i ≡ Some (p, place)) modules bound) e
names_alike k n id domain modules queues timers hand blocks running frames (a_message m c e) = a_message m (subst (λ (q : Lists Message). Contains (in_order q) m) queues c) e
names_alike k n id domain modules queues timers hand blocks running frames (a_timer t c e) = a_timer t (subst (λ (ts : List Timer). Contains ts t) timers c) e
names_alike k n id domain modules queues timers hand blocks running frames (the_message m e same) = the_message m (sym hand ∙ e) same
names_alike k n id domain modules queues timers hand blocks running frames (a_block b c e) = a_block b (subst (λ (bs : List Segment). Contains bs b) blocks c) e
names_alike k n id domain modules queues timers hand blocks running frames (a_lost_block b c e none alone) =
    a_lost_block b (subst (λ (bs : List Segment). Contains bs b) blocks c) e
    (ap (λ (q : Lists Message). namings b.first q k.hand) (sym queues) ∙ ap (λ (m : Option Message). namings b.first n.queues m) (sym hand) ∙ none)
    (ap (λ (ms : List Loaded). naming_kept b.first (constants_kept ms)) (sym modules) ∙ alone)
names_alike k n id domain modules queues timers hand blocks running frames (a_frame f c e) = a_frame f (subst (λ (fs : List Frame). Contains fs f) frames c) e
names_alike k n id domain modules queues timers hand blocks running frames (the_running run e same) = the_running run (sym running ∙ e) same

-- Lines that unload no module.
abbrev pub IsQuiet : List TraceLine → Type 0
IsQuiet lines = (time id : ℕ) → Contains lines (line.Unload time id) → ⊥

pub quiet_by : (lines : List TraceLine) → list_any is_unload lines ≡ false → IsQuiet lines
quiet_by lines h time id c =
    true≢false (each_contained (λ x. is_unload x ≡ false) lines (line.Unload time id) (any_nowhere is_unload lines h) c)

constants_quiet : (o : Option Given) (state : ℕ) (m : Module) (domain image : ℕ) (k : KernelState) (r : RunnerState) → IsQuiet (load_beside o state m domain image k r).lines
constants_quiet None state m domain image k r = quiet_by (load_beside None state m domain image k r).lines refl
constants_quiet (Some c) state m domain image k r = quiet_by (load_beside (Some c) state m domain image k r).lines refl

given_quiet : (o : Option Given) (m : Module) (domain image : ℕ) (k : KernelState) (r : RunnerState) → IsQuiet (load_given o m domain image k r).lines
given_quiet None m domain image k r = quiet_by (load_given None m domain image k r).lines refl
given_quiet (Some g) m domain image k r = constants_quiet (constants_block (with_given k g) m.constants) g.address m domain image k r

in_quiet : (o : Option ℕ) (m : Module) (image : ℕ) (k : KernelState) (r : RunnerState) → IsQuiet (load_in o m image k r).lines
in_quiet None m image k r = quiet_by (load_in None m image k r).lines refl
in_quiet (Some domain) m image k r = given_quiet (state_block k domain m.state_size) m domain image k r

new_quiet : (b : Bool) (m : Module) (image : ℕ) (k : KernelState) (r : RunnerState) → IsQuiet (load_new b m image k r).lines
new_quiet true m image k r = quiet_by (load_new true m image k r).lines refl
new_quiet false m image k r = in_quiet (free_domain k.modules) m image k r

prepared_quiet : (prep : Prep) (image : ℕ) (k : KernelState) (r : RunnerState) → IsQuiet (load_prepared prep image k r).lines
prepared_quiet (Err refusal) image k r = quiet_by (refused_file refusal image k r).lines refl
prepared_quiet (Ok m) image k r = new_quiet (is_loaded k.modules m.face.id) m image k r

image_quiet : (o : Option Prep) (image : ℕ) (k : KernelState) (r : RunnerState) → IsQuiet (load_image o image k r).lines
image_quiet None image k r = quiet_by [] refl
image_quiet (Some prep) image k r = prepared_quiet prep image k r

unload_quiet : (o : Option Loaded) (id : ℕ) (k : KernelState) (r : RunnerState) → IsQuiet (unload_module o id k r).lines
unload_quiet None id k r = quiet_by (line.Absent k.clock id ∷ []) refl
unload_quiet (Some row) id k r = quiet_by (line.Run k.clock id 1 0 ∷ []) refl

pub came_quiet : (images : List Prep) (w : LoaderOrder) (k : KernelState) (r : RunnerState) → IsQuiet (came images w k r).lines
came_quiet images (what.Load n) k r = image_quiet (slice_get images n) n k r
came_quiet images (what.Unload id) k r = unload_quiet (module_named k.modules id) id k r
came_quiet images what.Dump k r = λ time id c.
    true≢false (each_contained (λ x. is_unload x ≡ false) (dumped k) (line.Unload time id)
    (each_dumped (λ x. is_unload x ≡ false)
    (record {
      first = λ time. refl;
      modules = λ id domain state. refl;
      blocks = λ address bytes owner. refl;
      messages = λ high from to sort address. refl;
      timers = λ «module» id due. refl;
      last = refl;
    }) k) c)

pub hear_quiet : (o : Option Packet) (k : KernelState) (r : RunnerState) → IsQuiet (hear o k r).lines
hear_quiet o k r = quiet_by (hear o k r).lines (first_hears o k r).quiet

deliver_quiet : (o : Option Loaded) (m : Message) (k : KernelState) (r : RunnerState) → IsQuiet (deliver o m k r).lines
deliver_quiet None m k r = quiet_by [] refl
deliver_quiet (Some row) m k r = quiet_by (line.Run k.clock row.face.id m.sort m.from ∷ []) refl

pub dispatch_quiet : (o : Option Message) (k : KernelState) (r : RunnerState) → IsQuiet (dispatch o k r).lines
dispatch_quiet None k r = quiet_by [] refl
dispatch_quiet (Some m) k r = deliver_quiet (module_named k.modules m.to) m k r

-- a unit's step unloads nothing, nor does a handler's end
pub step_quiet : (k : KernelState) (r : RunnerState) (got : Acted) → UnitStep k r got → IsQuiet got.lines
step_quiet k r got step time id h =
    act_unloads_nothing k r time id (subst (λ (xs : List TraceLine). Contains xs (line.Unload time id)) step.lines h)

-- lines and one more that unloads nothing
more_quiet : (lines : List TraceLine) (x : TraceLine) → is_unload x ≡ false → IsQuiet lines → IsQuiet (lines ++ x ∷ [])
more_quiet lines x not_it quiet time id c =
    elim (Contains-append_cases lines (x ∷ []) (line.Unload time id) c) [
      | inl before ↦ quiet time id before
      | inr last ↦
          elim (contained_cases x [] (line.Unload time id) last) [
            | inl e ↦ true≢false (ap is_unload (sym e) ∙ not_it)
            | inr none ↦ contained_nowhere (line.Unload time id) none
          ]
    ]

-- A handler's end purges some modules, one after the other, and its last lines say so of each.

abbrev pub unloads : ℕ → List Loaded → List TraceLine
unloads time [] = []
unloads time (row ∷ rows) = line.Unload time row.face.id ∷ unloads time rows

-- the kernel once the handler is over, before any purge
abbrev pub once_over : KernelState → KernelState
once_over k = with_none_ending (handler_ended k)

pub record Purges (k : KernelState) (r : RunnerState) (moved : Moved) : Type 0 where
  pub rows : List Loaded
  pub told : List TraceLine
  pub purged : ArePurged (once_over k) rows
  pub kernel : moved.kernel ≡ purge_rows rows (once_over k)
  pub runner : moved.runner ≡ empty_rows rows r
  pub lines : moved.lines ≡ told ++ unloads k.clock rows
  pub quiet : IsQuiet told

module _ (k : KernelState) (r : RunnerState) (lines : List TraceLine) (x : TraceLine) (not_it : is_unload x ≡ false) (quiet : IsQuiet lines) where
  -- A return purges the module that ends, where one does and is still in.
  over_module : (o : Option Loaded) (id : ℕ) → module_named k.modules id ≡ o → Purges k r (close_module o (handler_ended k) r (lines ++ x ∷ []))
  over_module None id at = record {
    rows = [];
    told = lines ++ x ∷ [];
    purged = tt;
    kernel = refl;
    runner = refl;
    lines = sym (append-nil (lines ++ x ∷ []));
    quiet = more_quiet lines x not_it quiet;
  }
  over_module (Some row) id at = record {
    rows = row ∷ [];
    told = lines ++ x ∷ [];
    purged = ((named k.modules id row at).contained, tt);
    kernel = refl;
    runner = refl;
    lines = refl;
    quiet = more_quiet lines x not_it quiet;
  }

  over_purges : (o : Option ℕ) → k.ending ≡ o → Purges k r (close o (handler_ended k) r (lines ++ x ∷ []))
  over_purges None e = record {
    rows = [];
    told = lines ++ x ∷ [];
    purged = tt;
    kernel = ap (λ (o : Option ℕ). record (handler_ended k) { ending = o }) e;
    runner = refl;
    lines = sym (append-nil (lines ++ x ∷ []));
    quiet = more_quiet lines x not_it quiet;
  }
  over_purges (Some id) e = over_module (module_named k.modules id) id refl

  -- A fault purges the module that ran, and then the one that ends, where it is another.
  fault_module : (row : Loaded) (o : Option Loaded) (id : ℕ) → Contains k.modules row → module_named (without_domain row.domain k.modules) id ≡ o → Purges k r (close_module o (purged (handler_ended k) row.face.id row.domain) (emptied r row.domain) (lines ++ x ∷ line.Unload k.clock row.face.id ∷ []))
  fault_module row None id c at = record {
    rows = row ∷ [];
    told = lines ++ x ∷ [];
    purged = (c, tt);
    kernel = refl;
    runner = refl;
    lines = sym (append_assoc lines (x ∷ []) (line.Unload k.clock row.face.id ∷ []));
    quiet = more_quiet lines x not_it quiet;
  }
  fault_module row (Some other) id c at = record {
    rows = row ∷ other ∷ [];
    told = lines ++ x ∷ [];
    purged = (c, ((named (without_domain row.domain k.modules) id other at).contained, tt));
    kernel = refl;
    runner = refl;
    lines = append_assoc lines (x ∷ line.Unload k.clock row.face.id ∷ []) (line.Unload k.clock other.face.id ∷ [])
        ∙ sym (append_assoc lines (x ∷ []) (line.Unload k.clock row.face.id ∷ line.Unload k.clock other.face.id ∷ []));
    quiet = more_quiet lines x not_it quiet;
  }

  fault_purges : (row : Loaded) (o : Option ℕ) → Contains k.modules row → k.ending ≡ o → Purges k r (close o (purged (handler_ended k) row.face.id row.domain) (emptied r row.domain) (lines ++ x ∷ line.Unload k.clock row.face.id ∷ []))
  fault_purges row None c e = record {
    rows = row ∷ [];
    told = lines ++ x ∷ [];
    purged = (c, tt);
    kernel = ap (λ (o : Option ℕ). record (purged (handler_ended k) row.face.id row.domain) { ending = o }) e;
    runner = refl;
    lines = sym (append_assoc lines (x ∷ []) (line.Unload k.clock row.face.id ∷ []));
    quiet = more_quiet lines x not_it quiet;
  }
  fault_purges row (Some id) c e = fault_module row (module_named (without_domain row.domain k.modules) id) id c refl

pub faulted_purges : (note : FaultNote) (run : Running) (k : KernelState) (r : RunnerState) (lines : List TraceLine) → GoodMachine k r → k.running ≡ Some run → IsQuiet lines → Purges k r (faulted note run k r lines)
faulted_purges note run k r lines h i quiet =
    let f = found k.modules run.domain (running_good k r run h i).0.loaded in
    let id : f.row.face.id ≡ id_at k.modules run.domain = sym (found_id k.modules run.domain f) in
    let x = line.Fault k.clock note.rule (id_at k.modules run.domain) r.unit note.address in
    subst (λ (d : ℕ). Purges k r (close k.ending (purged (handler_ended k) (id_at k.modules run.domain) d) (emptied r d) (lines ++ x ∷ line.Unload k.clock (id_at k.modules run.domain) ∷ []))) f.domain_of
    (subst (λ (n : ℕ). Purges k r (close k.ending (purged (handler_ended k) n f.row.domain) (emptied r f.row.domain) (lines ++ x ∷ line.Unload k.clock n ∷ []))) id
    (fault_purges k r lines x refl quiet f.row k.ending f.contained refl))

-- each end of a unit does
pub settled_purges : (e : UnitEnd) (run : Running) (k : KernelState) (r : RunnerState) (lines : List TraceLine) → GoodMachine k r → (ends_handler e ≡ true → k.running ≡ Some run) → IsQuiet lines → ends_handler e ≡ true → Purges k r (settled e run k r lines)
settled_purges On run k r lines h i quiet ends = absurd (true≢false (sym ends))
settled_purges Over run k r lines h i quiet ends = over_purges k r lines (line.Done k.clock (id_at k.modules run.domain)) refl quiet k.ending refl
settled_purges (Fault note) run k r lines h i quiet ends = faulted_purges note run k r lines h (i refl) quiet

-- What is said of a purge.
module _ (k : KernelState) (r : RunnerState) (h : GoodMachine k r) (moved : Moved) (p : Purges k r moved) where
  over_good : GoodMachine (once_over k) r
  over_good = ended_good k r h

  -- a module whose id the lines unload is one of those that were purged
  unloaded_by : (rows : List Loaded) (at time : ℕ) (m : Loaded) → ((row : Loaded) → Contains rows row → Contains k.modules row) → Contains (unloads at rows) (line.Unload time m.face.id) → Contains k.modules m → Contains rows m
  unloaded_by [] at time m there c cm = absurd (contained_nowhere (line.Unload time m.face.id) c)
  unloaded_by (row ∷ rows) at time m there c cm =
      elim (contained_cases (line.Unload at row.face.id) (unloads at rows) (line.Unload time m.face.id) c) [
        | inl e ↦
            let id : row.face.id ≡ m.face.id = cc in
            subst (Contains (row ∷ rows)) (same_module k.modules row m h.distinct (there row (contained_first rows row)) cm (inl id)) (contained_first rows row)
        | inr later ↦ contained_later row rows m (unloaded_by rows at time m (λ n cn. there n (contained_later row rows n cn)) later cm)
      ]

  pub is_purged : (time : ℕ) (m : Loaded) → Contains moved.lines (line.Unload time m.face.id) → Contains k.modules m → Contains p.rows m
  is_purged time m c cm =
      elim (Contains-append_cases p.told (unloads k.clock p.rows) (line.Unload time m.face.id) (subst (λ (xs : List TraceLine). Contains xs (line.Unload time m.face.id)) p.lines c)) [
        | inl before ↦ absurd (p.quiet time m.face.id before)
        | inr last ↦ unloaded_by p.rows k.clock time m (λ row cr. rows_contained p.rows (once_over k) row p.purged cr) last cm
      ]

  -- so nothing names it
  pub purges_clean : (time : ℕ) (m : Loaded) → Contains moved.lines (line.Unload time m.face.id) → Contains k.modules m → ¬ Names moved.kernel m.face.id m.domain
  purges_clean time m c cm =
      subst (λ (n : KernelState). ¬ Names n m.face.id m.domain) (sym p.kernel)
      (each_contained (λ (row : Loaded). ¬ Names (purge_rows p.rows (once_over k)) row.face.id row.domain) p.rows m (rows_names p.rows (once_over k) r over_good refl p.purged) (is_purged time m c cm))

-- a unit that goes on unloads nothing
pub ends_where : (e : UnitEnd) (run : Running) (k : KernelState) (r : RunnerState) (lines : List TraceLine) → IsQuiet lines → (time id : ℕ) → Contains (settled e run k r lines).lines (line.Unload time id) → ends_handler e ≡ true
ends_where On run k r lines quiet time id c = absurd (quiet time id c)
ends_where Over run k r lines quiet time id c = refl
ends_where (Fault note) run k r lines quiet time id c = refl

made_clean : (c : Choice) (s : State) (got : Acted) → Good s → Facts c s → May c s got → UnloadsCleanly s (made c s got).state (made c s got).lines
made_clean Stays s got g facts may time m c cm = absurd (quiet_by [] refl time m.face.id c)
made_clean Hears s got g facts may time m c cm = absurd (hear_quiet (slice_get s.packets 0) s.kernel s.runner time m.face.id c)
made_clean Fires s got g facts may time m c cm =
    absurd (quiet_by (fired s.kernel).lines (timer_reminds s.kernel facts.timer facts.first facts.due).quiet time m.face.id c)
made_clean (Comes e) s got g facts may time m c cm = absurd (came_quiet s.images e.what s.kernel s.runner time m.face.id c)
made_clean Dispatches s got g facts may time m c cm = absurd (dispatch_quiet (front s.kernel.queues) s.kernel s.runner time m.face.id c)
made_clean (Jumps now) s got g facts may time m c cm = absurd (quiet_by [] refl time m.face.id c)
made_clean Idles s got g facts may time m c cm = absurd (quiet_by (line.EndIdle s.kernel.clock ∷ []) refl time m.face.id c)
made_clean Budgets s got g facts may time m c cm = absurd (quiet_by (line.EndBudget s.kernel.clock ∷ []) refl time m.face.id c)
made_clean (Watches run) s got g facts may time m c cm =
    purges_clean s.kernel s.runner g.machine (faulted (watchdog s) run s.kernel s.runner [])
    (faulted_purges (watchdog s) run s.kernel s.runner [] g.machine facts.running (quiet_by [] refl)) time m c cm
made_clean (Acts run) s got g facts may time m c cm =
    let quiet = step_quiet s.kernel s.runner got may in
    let ends = ends_where got.ending run got.kernel got.runner got.lines quiet time m.face.id c in
    let same = step_ends s.kernel s.runner got may ends in
    let moved = settled got.ending run got.kernel got.runner got.lines in
    let clean = purges_clean got.kernel got.runner (step_good s.kernel s.runner got may g.machine) moved
    (settled_purges got.ending run got.kernel got.runner got.lines (step_good s.kernel s.runner got may g.machine) (λ over. ap (λ (n : KernelState). n.running) same ∙ facts.running) quiet ends)
    time m c (subst (λ (n : KernelState). Contains n.modules m) (sym same) cm) in
    λ names. clean (names_alike moved.kernel (at_clock moved.kernel (moved.kernel.clock + 1)) m.face.id m.domain refl refl refl refl refl refl refl names)

pub turn_unloads : (s t : State) (lines : List TraceLine) → Good s → Turn s t lines → UnloadsCleanly s t lines
turn_unloads s t lines g turn time m c cm =
    leaves (λ (x : State). ¬ Names x.kernel m.face.id m.domain)
    (λ free x memory same clean names. clean (names_alike x.kernel (with_memory x.kernel memory) m.face.id m.domain refl refl refl refl refl refl refl names))
    (choice s) (made (choice s) s turn.got).state t turn.to
    (made_clean (choice s) s turn.got g (choice_facts s) turn.may time m (subst (λ (xs : List TraceLine). Contains xs (line.Unload time m.face.id)) turn.tells c) cm)
