-- Crossing: the running domain changes only by a call of a slot that is bound, a return, a dispatch while none runs, and the handler's end.
use Rattle.std.proofs.Common.{◌≡◌, ℕ, ◌+◌, List, [], ◌∷◌, Bool, true, false, refl, sym, ap, ◌∙◌, subst, Option, Some, None, Ok, Err, slice_get}
use Rattle.std.proofs.lemmas.Bool.{true≢false}
use Rattle.std.proofs.lemmas.Option.{same_Some}
use Rattle.std.proofs.lemmas.List.Elements.{Contains-push}
use Rattle.mote_base.specs.Messages.{front}
use Rattle.domain_model.specs.declared.event.LoaderOrder.{LoaderOrder}
use Rattle.domain_model.specs.declared.event.LoaderOrder.TheVariants as what
use Rattle.domain_model.specs.declared.event.Choice.{Choice}
use Rattle.domain_model.specs.declared.event.Choice.TheVariants.{Stays, Hears, Fires, Comes, Dispatches, Jumps, Idles, Budgets, Watches, Acts}
use Rattle.domain_model.specs.declared.fault.UnitEnd.{UnitEnd}
use Rattle.domain_model.specs.declared.fault.UnitEnd.TheVariants.{On, Over, Fault}
use Rattle.domain_model.specs.declared.handler.Running.{Running}
use Rattle.domain_model.specs.declared.line.TraceLine.{TraceLine}
use Rattle.domain_model.specs.Prepared.{Module, Prep}
use Rattle.domain_model.specs.State.{Loaded, Message, KernelState, RunnerState, State}
use Rattle.domain_model.specs.Modules.{is_loaded, free_domain, module_named}
use Rattle.domain_model.specs.Given.{Given, with_given}
use Rattle.domain_model.specs.Act.{Acted, act, next_unit}
use Rattle.domain_model.specs.Turn.{state_block, handler_ended, unload_module, deliver, dispatch, faulted, watchdog, seated, refused_file, init_to, final_to, Moved, refused, came, load_image, load_prepared, load_new, load_in, load_given, load_beside, constants_block, made_of, settled, counted, choice, made, May, Turn}
use Rattle.domain_model.specs.Laws.{crossings, CrossesWithin, stays, enters as into_bound, comes_back as back_to, CrossesBy, Crosses}
use Rattle.domain_model.specs.Frames.{kept_frame, bound_at}
use Rattle.domain_model.specs.Free.{UnitStep, ends_handler}
use Rattle.domain_model.proofs.ActLaws.{Outcome, ends, moves, serves, calls_within, enters, comes_back, next_of, act_outcome}
use Rattle.domain_model.specs.Facts.{Facts}
use Rattle.domain_model.proofs.ChoiceLaws.{choice_facts}
use Rattle.domain_model.proofs.ModuleLaws.{named}
use Rattle.domain_model.proofs.CloseLaws.{Rests, close_rests, faulted_rests}
use Rattle.domain_model.proofs.HearLaws.{first_hears}
use Rattle.domain_model.proofs.FiringLaws.{timer_reminds}
use Rattle.domain_model.proofs.TurnLaws.{with_bytes, leaves, step_running, step_frames}

-- the same domain runs on, or none
runs_on : (s t : State) (o : Option Running) → t.kernel.frames ≡ s.kernel.frames → CrossesBy s t o o
runs_on s t None frames = tt
runs_on s t (Some run) frames = stays (record { domain = refl; bound = refl; calls = ap crossings frames })

-- no domain runs any more
none_runs : (s t : State) (o : Option Running) → t.kernel.hand ≡ None → t.kernel.frames ≡ [] → CrossesBy s t o None
none_runs s t None hand frames = tt
none_runs s t (Some run) hand frames = (hand, frames)

-- What a load makes of kernel and runner, from a state on, starts a handler or none.
abbrev Starts : State → State → Moved → Type 0
Starts from s m = CrossesBy from (made_of s m).state None m.kernel.running

not_started : (from s : State) (m : Moved) → m.kernel.running ≡ None → Starts from s m
not_started from s m out = subst (λ (o : Option Running). CrossesBy from (made_of s m).state None o) (sym out) tt

constants_starts : (o : Option Given) (from s : State) (state : ℕ) (m : Module) (domain image : ℕ) (k : KernelState) (r : RunnerState) → k.running ≡ None → Starts from s (load_beside o state m domain image k r)
constants_starts None from s state m domain image k r out = not_started from s (refused 6 image k r) out
constants_starts (Some c) from s state m domain image k r out = record {
  receiver = seated m domain state c;
  message = init_to m.face.id;
  is_loaded = Contains-push k.modules (seated m domain state c);
  domain = refl;
  unit = refl;
  in_hand = refl;
  to = refl;
}

given_starts : (o : Option Given) (from s : State) (m : Module) (domain image : ℕ) (k : KernelState) (r : RunnerState) → k.running ≡ None → Starts from s (load_given o m domain image k r)
given_starts None from s m domain image k r out = not_started from s (refused 6 image k r) out
given_starts (Some g) from s m domain image k r out = constants_starts (constants_block (with_given k g) m.constants) from s g.address m domain image k r out

in_starts : (o : Option ℕ) (from s : State) (m : Module) (image : ℕ) (k : KernelState) (r : RunnerState) → k.running ≡ None → Starts from s (load_in o m image k r)
in_starts None from s m image k r out = not_started from s (refused 5 image k r) out
in_starts (Some domain) from s m image k r out = given_starts (state_block k domain m.state_size) from s m domain image k r out

new_starts : (b : Bool) (from s : State) (m : Module) (image : ℕ) (k : KernelState) (r : RunnerState) → k.running ≡ None → Starts from s (load_new b m image k r)
new_starts true from s m image k r out = not_started from s (refused 4 image k r) out
new_starts false from s m image k r out = in_starts (free_domain k.modules) from s m image k r out

prepared_starts : (prep : Prep) (from s : State) (image : ℕ) (k : KernelState) (r : RunnerState) → k.running ≡ None → Starts from s (load_prepared prep image k r)
prepared_starts (Err refusal) from s image k r out = not_started from s (refused_file refusal image k r) out
prepared_starts (Ok m) from s image k r out = new_starts (is_loaded k.modules m.face.id) from s m image k r out

image_starts : (o : Option Prep) (from s : State) (image : ℕ) (k : KernelState) (r : RunnerState) → k.running ≡ None → Starts from s (load_image o image k r)
image_starts None from s image k r out = not_started from s (load_image None image k r) out
image_starts (Some prep) from s image k r out = prepared_starts prep from s image k r out

unload_starts : (o : Option Loaded) (from s : State) (id : ℕ) (k : KernelState) (r : RunnerState) → k.running ≡ None → module_named k.modules id ≡ o → Starts from s (unload_module o id k r)
unload_starts None from s id k r out e = not_started from s (unload_module None id k r) out
unload_starts (Some row) from s id k r out e =
    let n = named k.modules id row e in
    record {
      receiver = row;
      message = final_to id;
      is_loaded = n.contained;
      domain = refl;
      unit = refl;
      in_hand = refl;
      to = sym n.id_of;
    }

came_starts : (from s : State) (images : List Prep) (w : LoaderOrder) (k : KernelState) (r : RunnerState) → k.running ≡ None → Starts from s (came images w k r)
came_starts from s images (what.Load n) k r out = image_starts (slice_get images n) from s n k r out
came_starts from s images (what.Unload id) k r out = unload_starts (module_named k.modules id) from s id k r out refl
came_starts from s images what.Dump k r out = not_started from s (came images what.Dump k r) out

deliver_starts : (o : Option Loaded) (from s : State) (m : Message) (k : KernelState) (r : RunnerState) → k.running ≡ None → module_named k.modules m.to ≡ o → Starts from s (deliver o m k r)
deliver_starts None from s m k r out e = not_started from s (deliver None m k r) out
deliver_starts (Some row) from s m k r out e =
    let n = named k.modules m.to row e in
    record {
      receiver = row;
      message = m;
      is_loaded = n.contained;
      domain = refl;
      unit = refl;
      in_hand = refl;
      to = sym n.id_of;
    }

dispatch_starts : (o : Option Message) (from s : State) (k : KernelState) (r : RunnerState) → k.running ≡ None → Starts from s (dispatch o k r)
dispatch_starts None from s k r out = not_started from s (dispatch None k r) out
dispatch_starts (Some m) from s k r out = deliver_starts (module_named k.modules m.to) from s m k r out refl

-- after a handler's end none runs, no message is in hand, and no call waits
rests_end : (s t : State) (o : Option Running) (k n : KernelState) → Rests (handler_ended k) n → t.kernel.hand ≡ n.hand → t.kernel.frames ≡ n.frames → CrossesBy s t o n.running
rests_end s t o k n rest hand frames =
    subst (λ (x : Option Running). CrossesBy s t o x) (sym rest.running) (none_runs s t o (hand ∙ rest.hand) (frames ∙ rest.frames))

-- A unit that goes on calls, comes back, or leaves what runs.
on_crosses : (s t : State) (run : Running) (x : Acted) → choice s ≡ Acts run → Outcome (next_unit s.runner run) (Some run) s.kernel s.runner x → s.kernel.running ≡ Some run → ends_handler x.ending ≡ false → t.kernel.processor.sp ≡ x.kernel.processor.sp → t.kernel.frames ≡ x.kernel.frames → t.runner ≡ x.runner → CrossesBy s t (Some run) x.kernel.running
on_crosses s t run _ e (ends ending over) i on sp frames runner = absurd (true≢false (sym over ∙ on))
on_crosses s t run _ e (moves p unit) i on sp frames runner =
    subst (λ (o : Option Running). CrossesBy s t (Some run) o) (sym i) (runs_on s t (Some run) frames)
on_crosses s t run _ e (serves n lines call served) i on sp frames runner =
    subst (λ (o : Option Running). CrossesBy s t (Some run) o) (sym (ap (λ (k : KernelState). k.running) served.alone ∙ i))
    (runs_on s t (Some run) (frames ∙ ap (λ (k : KernelState). k.frames) served.alone))
on_crosses s t run _ e (calls_within own target runs) i on sp frames runner =
    let same = same_Some run own runs in
    stays (record {
      domain = ap (λ (x : Running). x.domain) (sym same);
      bound = ap (λ (x : Running). x.bound) (sym same);
      calls = ap crossings frames;
    })
on_crosses s t run _ e (enters own slot provider place runs is to) i on sp frames runner =
    let same = same_Some run own runs in
    into_bound (record {
      acts = e;
      slot = slot;
      calls = is;
      provider = provider;
      place = place;
      is_bound = subst (λ (x : Running). bound_at s.kernel x slot ≡ Some (provider, place)) (sym same) to;
      domain = refl;
      unit = ap (λ (r : RunnerState). r.unit) runner;
      stack = (sym sp, sym sp);
      keeps = frames ∙ ap (λ (x : Running). kept_frame x (s.runner.unit + 1) true ∷ s.kernel.frames) (sym same);
    })
on_crosses s t run _ e (comes_back f below is waits) i on sp frames runner =
    back_to (record {
      acts = e;
      returns = is;
      frame = f;
      below = below;
      top = waits;
      resumes = refl;
      unit = ap (λ (r : RunnerState). r.unit) runner;
      rest = frames;
    })

-- after a unit
settled_crosses : (e : UnitEnd) (s : State) (run : Running) (got : Acted) → got.ending ≡ e → choice s ≡ Acts run → s.kernel.running ≡ Some run → UnitStep s.kernel s.runner got → CrossesBy s (counted s (settled e run got.kernel got.runner got.lines)).state (Some run) (settled e run got.kernel got.runner got.lines).kernel.running
settled_crosses On s run got ending e i step =
    let next : Outcome (next_unit s.runner run) (Some run) s.kernel s.runner (act s.kernel s.runner)
    = subst (λ (o : Option Running). Outcome (next_of o s.runner) o s.kernel s.runner (act s.kernel s.runner)) i (act_outcome s.kernel s.runner) in
    let t = (counted s (settled On run got.kernel got.runner got.lines)).state in
    subst (λ (o : Option Running). CrossesBy s t (Some run) o) (sym (step_running s.kernel s.runner got step))
    (on_crosses s t run (act s.kernel s.runner) e next i (ap ends_handler (sym step.ending ∙ ending)) (ap (λ (k : KernelState). k.processor.sp) step.kernel.rest)
    (step_frames s.kernel s.runner got step) step.runner)
settled_crosses Over s run got ending e i step =
    rests_end s (counted s (settled Over run got.kernel got.runner got.lines)).state (Some run) got.kernel (settled Over run got.kernel got.runner got.lines).kernel
    (close_rests got.kernel.ending (handler_ended got.kernel) got.runner _) refl refl
settled_crosses (Fault note) s run got ending e i step =
    rests_end s (counted s (settled (Fault note) run got.kernel got.runner got.lines)).state (Some run) got.kernel (settled (Fault note) run got.kernel got.runner got.lines).kernel
    (faulted_rests note run got.kernel got.runner got.lines) refl refl

made_crosses : (c : Choice) (s : State) (got : Acted) → choice s ≡ c → Facts c s → May c s got → Crosses s (made c s got).state
made_crosses Stays s got e facts may = runs_on s s s.kernel.running refl
made_crosses Hears s got e facts may =
    let alone = (first_hears (slice_get s.packets 0) s.kernel s.runner).alone in
    subst (λ (o : Option Running). CrossesBy s (made Hears s got).state s.kernel.running o) (sym (ap (λ (k : KernelState). k.running) alone))
    (runs_on s (made Hears s got).state s.kernel.running (ap (λ (k : KernelState). k.frames) alone))
made_crosses Fires s got e facts may =
    let alone = (timer_reminds s.kernel facts.timer facts.first facts.due).alone in
    subst (λ (o : Option Running). CrossesBy s (made Fires s got).state s.kernel.running o) (sym (ap (λ (k : KernelState). k.running) alone))
    (runs_on s (made Fires s got).state s.kernel.running (ap (λ (k : KernelState). k.frames) alone))
made_crosses (Comes event) s got e facts may =
    subst (λ (o : Option Running). CrossesBy s (made (Comes event) s got).state o (came s.images event.what s.kernel s.runner).kernel.running) (sym facts.outside)
    (came_starts s (record s { events = (made (Comes event) s got).state.events; spent = 0 }) s.images event.what s.kernel s.runner facts.outside)
made_crosses Dispatches s got e facts may =
    subst (λ (o : Option Running). CrossesBy s (made Dispatches s got).state o (dispatch (front s.kernel.queues) s.kernel s.runner).kernel.running) (sym facts.outside)
    (dispatch_starts (front s.kernel.queues) s (record s { spent = 0 }) s.kernel s.runner facts.outside)
made_crosses (Jumps now) s got e facts may = runs_on s (made (Jumps now) s got).state s.kernel.running refl
made_crosses Idles s got e facts may = runs_on s (made Idles s got).state s.kernel.running refl
made_crosses Budgets s got e facts may = runs_on s (made Budgets s got).state s.kernel.running refl
made_crosses (Watches run) s got e facts may =
    rests_end s (made (Watches run) s got).state s.kernel.running s.kernel (faulted (watchdog s) run s.kernel s.runner []).kernel
    (faulted_rests (watchdog s) run s.kernel s.runner []) refl refl
made_crosses (Acts run) s got e facts may =
    subst (λ (o : Option Running). CrossesBy s (made (Acts run) s got).state o (settled got.ending run got.kernel got.runner got.lines).kernel.running) (sym facts.running)
    (settled_crosses got.ending s run got refl e facts.running may)

-- other bytes change nothing of it
within_bytes : (s t : State) (old new : Running) (memory : List ℕ) → CrossesWithin s t old new → CrossesWithin s (with_bytes t memory) old new
within_bytes s t old new memory (stays h) = stays (record { domain = h.domain; bound = h.bound; calls = h.calls })
within_bytes s t old new memory (into_bound h) = into_bound (record {
  acts = h.acts;
  slot = h.slot;
  calls = h.calls;
  provider = h.provider;
  place = h.place;
  is_bound = h.is_bound;
  domain = h.domain;
  unit = h.unit;
  stack = h.stack;
  keeps = h.keeps;
})
within_bytes s t old new memory (back_to h) = back_to (record {
  acts = h.acts;
  returns = h.returns;
  frame = h.frame;
  below = h.below;
  top = h.top;
  resumes = h.resumes;
  unit = h.unit;
  rest = h.rest;
})

crosses_bytes : (s t : State) (o n : Option Running) (memory : List ℕ) → CrossesBy s t o n → CrossesBy s (with_bytes t memory) o n
crosses_bytes s t None None memory h = tt
crosses_bytes s t None (Some run) memory h = record {
  receiver = h.receiver;
  message = h.message;
  is_loaded = h.is_loaded;
  domain = h.domain;
  unit = h.unit;
  in_hand = h.in_hand;
  to = h.to;
}
crosses_bytes s t (Some old) None memory h = h
crosses_bytes s t (Some old) (Some new) memory h = within_bytes s t old new memory h

pub turn_crosses : (s t : State) (lines : List TraceLine) → Turn s t lines → Crosses s t
turn_crosses s t lines turn =
    leaves (Crosses s) (λ free x memory same h. crosses_bytes s x s.kernel.running x.kernel.running memory h) (choice s) (made (choice s) s turn.got).state t turn.to
    (made_crosses (choice s) s turn.got refl (choice_facts s) turn.may)
