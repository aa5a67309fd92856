-- The runner's own value behind a turn, seen by the machine, is the machine's runner behind its turn.
use Rattle.std.proofs.Common.{◌≡◌, ◌∙◌, ℕ, List, [], ◌∷◌, ◌++◌, Result, Ok, Err, Option, None, Some, map, refl, sym, ap, slice_get}
use Rattle.std.proofs.lemmas.Option.{same_Some, slice_get-map}
use Rattle.std.specs.Option.{option_map}
use Rattle.std.specs.Result.{result_ok}
use Rattle.mote_base.specs.Messages.{front}
use Rattle.domain_model.specs.declared.event.Choice.{Choice}
use Rattle.domain_model.specs.declared.event.Choice.TheVariants.{Stays, Hears, Fires, Comes, Dispatches, Jumps, Idles, Budgets, Watches, Acts}
use Rattle.domain_model.specs.declared.event.LoaderOrder.{LoaderOrder}
use Rattle.domain_model.specs.declared.event.LoaderOrder.TheVariants as what
use Rattle.domain_model.specs.declared.event.Packet.{Packet}
use Rattle.domain_model.specs.declared.fault.FaultNote.{FaultNote}
use Rattle.domain_model.specs.declared.fault.UnitEnd.{UnitEnd}
use Rattle.domain_model.specs.declared.fault.UnitEnd.TheVariants.{On, Over, Fault}
use Rattle.domain_model.specs.declared.handler.Running.{Running}
use Rattle.domain_model.specs.declared.line.TraceLine.{TraceLine}
use Rattle.domain_model.specs.declared.line.TraceLine.TheVariants as line
use Rattle.domain_model.specs.Act.{Acted}
use Rattle.domain_model.specs.Modules.{id_at, module_named}
use Rattle.domain_model.specs.Prepared.{Prep}
use Rattle.domain_model.specs.Runners.{without_ran_lines}
use Rattle.domain_model.specs.State.{KernelState, Loaded, Message, RunnerState, State}
use Rattle.domain_model.specs.Turn.{Made, Moved, came, choice, close, close_module, deliver, dispatch, entered, faulted, handler_ended, hear, load_image, load_prepared, made, placed, purged, settled, unload_module, watchdog}
use Rattle.domain_model.proofs.RanLaws.{state_without_ran, lines_without_ran}
use Rattle.mod_loader.specs.declared.refusal.LoadRefusal.{LoadRefusal}
use Rattle.mod_loader.specs.Banks.{Banked, Readied, code_of, prepared_of}
use Rattle.mod_loader.specs.Loads.{loading}
use Rattle.mote_core.specs.Exact.{Workings, came_by, closed_by, dispatched_by, faulted_by, handler_entered, loaded_by, loaded_into, module_cleared, moved_to, runner_after, settled_by, turned}
use Rattle.mote_core.specs.Seen.{AreLawful, seen}
use Rattle.mote_core.specs.Value.{MoteValue, acted, made_by, state_of}
use Rattle.mote_core.proofs.Loading.{LoadsAs, loading_loads}

-- a module that was held
same_banked : (p : Readied) (b x : Banked) → p ≡ Ok b → p ≡ Ok x → x ≡ b
same_banked p b x e h = sym (same_Some b x (sym (ap (λ (r : Readied). result_ok r) e) ∙ ap (λ (r : Readied). result_ok r) h))

-- images and limits stay
rest_stays : (c : Choice) (s : State) (got : Acted) → record s { kernel = (made c s got).state.kernel; runner = (made c s got).state.runner; packets = (made c s got).state.packets; events = (made c s got).state.events; total = (made c s got).state.total; spent = (made c s got).state.spent; ended = (made c s got).state.ended } ≡ (made c s got).state
rest_stays Stays s got = refl
rest_stays Hears s got = refl
rest_stays Fires s got = refl
rest_stays (Comes e) s got = refl
rest_stays Dispatches s got = refl
rest_stays (Jumps now) s got = refl
rest_stays Idles s got = refl
rest_stays Budgets s got = refl
rest_stays (Watches run) s got = refl
rest_stays (Acts run) s got = refl

-- what is made is its state and its lines
made_is : (m : Made) (s : State) (lines : List TraceLine) → s ≡ m.state → lines ≡ m.lines → record { state = s; lines = lines } ≡ m
made_is m s lines is tells =
    ap (λ (x : State). record { state = x; lines = lines }) is ∙ ap (λ (ls : List TraceLine). record { state = m.state; lines = ls }) tells

module _ {R : Type 0} (w : Workings R) (lawful : AreLawful w) where
  -- a handler is entered
  unload_seen : (o : Option Loaded) (id : ℕ) (k : KernelState) (r : R) → w.part (handler_entered w.entered_by o r) ≡ (unload_module o id k (w.part r)).runner
  unload_seen None id k r = refl
  unload_seen (Some m) id k r = lawful.entered_law r m.domain m.handler

  deliver_seen : (o : Option Loaded) (m : Message) (k : KernelState) (r : R) → w.part (handler_entered w.entered_by o r) ≡ (deliver o m k (w.part r)).runner
  deliver_seen None m k r = refl
  deliver_seen (Some to) m k r = lawful.entered_law r to.domain to.handler

  dispatch_seen : (o : Option Message) (k : KernelState) (r : R) → w.part (dispatched_by w.entered_by o k r) ≡ (dispatch o k (w.part r)).runner
  dispatch_seen None k r = refl
  dispatch_seen (Some m) k r = deliver_seen (module_named k.modules m.to) m k r

  -- a load
  answer_seen : (a : Result ℕ LoadRefusal) (b : Banked) (image : ℕ) (k new : KernelState) (r : R) (end : Moved) → LoadsAs a (Ok b) image k (w.part r) new end → w.part (loaded_into w.placed_by w.entered_by a b r) ≡ end.runner
  answer_seen (Ok domain) b image k new r end i =
      let same : i.banked ≡ b = same_banked (Ok b) b i.banked refl i.held in
      lawful.entered_law (w.placed_by r domain (code_of b)) domain b.loadable.handler
      ∙ ap (λ (x : RunnerState). entered x b.loadable.handler) (lawful.placed_law r domain (code_of b))
      ∙ ap (λ (x : Banked). entered (placed (w.part r) domain x.loadable.units) x.loadable.handler) (sym same)
      ∙ sym (ap (λ (e : Moved). e.runner) i.is)
  answer_seen (Err e) b image k new r end i = sym (ap (λ (x : Moved). x.runner) i.is)

  prepared_seen : (p : Readied) (image : ℕ) (k : KernelState) (r : R) → w.part (loaded_by w.placed_by w.entered_by (Some p) k r) ≡ (load_prepared (prepared_of p) image k (w.part r)).runner
  prepared_seen (Err refusal) image k r = refl
  prepared_seen (Ok b) image k r =
      answer_seen (loading (Ok b) k).answer b image k (loading (Ok b) k).kernel r (load_prepared (prepared_of (Ok b)) image k (w.part r)) (loading_loads image k (w.part r) (Ok b))

  load_seen : (o : Option Readied) (image : ℕ) (k : KernelState) (r : R) → w.part (loaded_by w.placed_by w.entered_by o k r) ≡ (load_image (option_map prepared_of o) image k (w.part r)).runner
  load_seen None image k r = refl
  load_seen (Some p) image k r = prepared_seen p image k r

  came_seen : (images : List Readied) (e : LoaderOrder) (k : KernelState) (r : R) → w.part (came_by w.placed_by w.entered_by images e k r) ≡ (came (map prepared_of images) e k (w.part r)).runner
  came_seen images (what.Load n) k r =
      load_seen (slice_get images n) n k r
      ∙ ap (λ (o : Option Prep). (load_image o n k (w.part r)).runner) (sym (slice_get-map prepared_of images n))
  came_seen images (what.Unload id) k r = unload_seen (module_named k.modules id) id k r
  came_seen images what.Dump k r = refl

  -- a handler is over
  cleared_seen : (o : Option Loaded) (k : KernelState) (r : R) (lines : List TraceLine) → w.part (module_cleared w.cleared_by o r) ≡ (close_module o k (w.part r) lines).runner
  cleared_seen None k r lines = refl
  cleared_seen (Some m) k r lines = lawful.cleared_law r m.domain

  closed_seen : (e : Option ℕ) (k : KernelState) (r : R) (lines : List TraceLine) → w.part (closed_by w.cleared_by e k.modules r) ≡ (close e k (w.part r) lines).runner
  closed_seen None k r lines = refl
  closed_seen (Some id) k r lines = cleared_seen (module_named k.modules id) k r lines

  fault_seen : (note : FaultNote) (run : Running) (k : KernelState) (r : R) (lines : List TraceLine) → w.part (faulted_by w.cleared_by run k r) ≡ (faulted note run k (w.part r) lines).runner
  fault_seen note run k r lines =
      let id : ℕ = id_at k.modules run.domain in
      let without : KernelState = purged (handler_ended k) id run.domain in
      let told : List TraceLine = lines ++ line.Fault k.clock note.rule id (w.part r).unit note.address ∷ line.Unload k.clock id ∷ [] in
      closed_seen k.ending without (w.cleared_by r run.domain) told
      ∙ ap (λ (x : RunnerState). (close k.ending without x told).runner) (lawful.cleared_law r run.domain)

  settled_seen : (end : UnitEnd) (run : Running) (k : KernelState) (r : R) (lines : List TraceLine) → w.part (settled_by w.cleared_by end run k r) ≡ (settled end run k (w.part r) lines).runner
  settled_seen On run k r lines = refl
  settled_seen Over run k r lines = closed_seen k.ending (handler_ended k) r _
  settled_seen (Fault note) run k r lines = fault_seen note run k r lines

  hear_stays : (o : Option Packet) (k : KernelState) (r : RunnerState) → r ≡ (hear o k r).runner
  hear_stays None k r = refl
  hear_stays (Some p) k r = refl

  -- The runner behind a turn,
  runner_seen : (c : Choice) (m : MoteValue R) → w.part (runner_after w c m) ≡ (made_by w.part w.acts c m).state.runner
  runner_seen Stays m = refl
  runner_seen Hears m = hear_stays (slice_get m.packets 0) m.kernel (w.part m.runner)
  runner_seen Fires m = refl
  runner_seen (Comes e) m = came_seen m.images e.what m.kernel m.runner
  runner_seen Dispatches m = dispatch_seen (front m.kernel.queues) m.kernel m.runner
  runner_seen (Jumps now) m = refl
  runner_seen Idles m = refl
  runner_seen Budgets m = refl
  runner_seen (Watches run) m = fault_seen (watchdog (state_of w.part m)) run m.kernel m.runner []
  runner_seen (Acts run) m =
      let got = w.acts m.kernel m.runner in
      settled_seen got.ending run got.kernel got.runner got.lines

  -- the state,
  state_seen : (c : Choice) (m : MoteValue R) → state_of w.part (moved_to (made_by w.part w.acts c m).state (runner_after w c m) m) ≡ (made_by w.part w.acts c m).state
  state_seen c m =
      let s : State = (made_by w.part w.acts c m).state in
      ap (λ (r : RunnerState). record (state_of w.part m) { kernel = s.kernel; runner = r; packets = s.packets; events = s.events; total = s.total; spent = s.spent; ended = s.ended }) (runner_seen c m)
      ∙ rest_stays c (state_of w.part m) (acted w.part w.acts m)

  -- and the turn.
  pub turn_is_seen : (m : MoteValue R) → seen w.part (turned w m) ≡ made (choice (state_of w.part m)) (state_of w.part m) (without_ran_lines (acted w.part w.acts m))
  turn_is_seen m =
      let s : State = state_of w.part m in
      let c : Choice = choice s in
      made_is (made c s (without_ran_lines (acted w.part w.acts m))) (seen w.part (turned w m)).state (seen w.part (turned w m)).lines (state_seen c m ∙ state_without_ran c s (acted w.part w.acts m)) (lines_without_ran c s (acted w.part w.acts m))
