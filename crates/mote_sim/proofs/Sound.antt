-- The run of a mote whose runner keeps what it holds: each of its turns is lawful, and it comes to an end.
use Rattle.std.proofs.Common.{◌≡◌, ◌≢◌, ◌∙◌, inl, inr, ℕ, zero, suc, ◌<◌, ◌+◌, List, [], ◌++◌, Result, Ok, Err, Option, Some, None, refl, sym, ap, subst, arith, append_assoc, append-nil, slice_get}
use Rattle.std.specs.Prelude.{IsSome, not}
use Rattle.std.specs.List.{AllByRecursion}
use Rattle.std.proofs.lemmas.List.Elements.{filter-append}
use Rattle.mote_base.specs.Messages.{front}
use Rattle.unit_code.specs.Listing.{BankListing}
use Rattle.harbor_spell.proofs.Placed.{all_at}
use Rattle.domain_model.specs.declared.event.Choice.{Choice}
use Rattle.domain_model.specs.declared.event.Choice.TheVariants.{Stays, Hears, Fires, Comes, Dispatches, Jumps, Idles, Budgets, Watches, Acts}
use Rattle.domain_model.specs.declared.event.LoaderOrder.{LoaderOrder}
use Rattle.domain_model.specs.declared.event.LoaderOrder.TheVariants as what
use Rattle.domain_model.specs.declared.event.Turned.TheVariants.{More}
use Rattle.domain_model.specs.declared.fault.UnitEnd.{UnitEnd}
use Rattle.domain_model.specs.declared.fault.UnitEnd.TheVariants.{On, Over, Fault}
use Rattle.domain_model.specs.declared.handler.Running.{Running}
use Rattle.domain_model.specs.declared.line.TraceLine.{TraceLine}
use Rattle.domain_model.specs.Act.{Acted}
use Rattle.domain_model.specs.Facts.{Facts}
use Rattle.domain_model.specs.Free.{UnitStep}
use Rattle.domain_model.specs.Good.{Good, GoodMachine}
use Rattle.domain_model.specs.Laws.{LawfulRunFrom, LawfulTurn}
use Rattle.domain_model.specs.Modules.{module_named}
use Rattle.domain_model.specs.Remaining.{remaining}
use Rattle.domain_model.specs.Runners.{IsPlaceable, is_ran, unit_by, without_ran, without_ran_lines}
use Rattle.domain_model.specs.State.{KernelState, Loaded, Message, State}
use Rattle.domain_model.specs.Turn.{Made, May, Leaves, Turn, choice, made, more, over}
use Rattle.domain_model.proofs.ChoiceLaws.{choice_facts}
use Rattle.domain_model.proofs.FewerLaws.{remaining_falls}
use Rattle.domain_model.proofs.LawfulLaws.{turns_are_lawful}
use Rattle.domain_model.proofs.TurnLaws.{leaves_itself, made_good, turn_by}
use Rattle.mod_loader.specs.declared.refusal.LoadRefusal.{LoadRefusal}
use Rattle.mod_loader.specs.Banks.{AreSpelled, Banked, Readied, code_of}
use Rattle.mod_loader.specs.Loads.{loading}
use Rattle.mod_loader.proofs.Banks.{placeable}
use Rattle.mote_core.specs.Exact.{Turning, Workings, came_by, closed_by, dispatched_by, faulted_by, handler_entered, loaded_by, loaded_into, module_cleared, runner_after, settled_by, turned}
use Rattle.mote_core.specs.Seen.{AreLawful, seen}
use Rattle.mote_core.specs.Value.{MoteValue, acted, state_of}
use Rattle.mote_core.proofs.SeenLaws.{turn_is_seen}
use Rattle.mote_sim.specs.Generating.{last_of}
use Rattle.mote_sim.specs.Turns.{EndsAt, one_more, turns}
use Rattle.mote_sim.proofs.Turning.{more_stays, stands}

-- What a runner keeps through all of its workings: it is another's place of what is placed, cleared and entered, and of a unit that
-- runs, which is a unit of the machine.
pub record AreKept {R : Type 0} (w : Workings R) (holds : R → Type 0) : Type 0 where
  pub lawful : AreLawful w
  pub placed : (r : R) (domain : ℕ) (code : BankListing) → holds r → IsPlaceable code → holds (w.placed_by r domain code)
  pub cleared : (r : R) (domain : ℕ) → holds r → holds (w.cleared_by r domain)
  pub entered : (r : R) (domain unit : ℕ) → holds r → holds (w.entered_by r domain unit)
  pub acted : (k : KernelState) (r : R) → holds r → holds (w.acts k r).runner
  pub unit : (k : KernelState) (r : R) → holds r → GoodMachine k (w.part r) → IsSome k.running → UnitStep k (w.part r) (unit_by w.part (w.acts k r))

-- A mote in such a state.
pub record IsSound {R : Type 0} (w : Workings R) (holds : R → Type 0) (m : MoteValue R) : Type 0 where
  pub good : Good (state_of w.part m)
  pub held : holds m.runner
  pub spelled : AllByRecursion AreSpelled m.images

-- A lawful run, and the state to which it comes.
pub record RunsTo (s : State) (lines : List TraceLine) (last : State) : Type 0 where
  pub run : LawfulRunFrom s lines
  pub to : last_of run ≡ last

some_is : {X : Type 0} (o : Option X) (x : X) → o ≡ Some x → IsSome o
some_is None x is = absurd (cc)
some_is (Some y) x is = refl

module _ {R : Type 0} (w : Workings R) (holds : R → Type 0) (keeps : AreKept w holds) where
  -- What is held stays so, whatever the turn does to the runner.
  entered_kept : (o : Option Loaded) (r : R) → holds r → holds (handler_entered w.entered_by o r)
  entered_kept None r h = h
  entered_kept (Some m) r h = keeps.entered r m.domain m.handler h

  dispatched_kept : (o : Option Message) (k : KernelState) (r : R) → holds r → holds (dispatched_by w.entered_by o k r)
  dispatched_kept None k r h = h
  dispatched_kept (Some m) k r h = entered_kept (module_named k.modules m.to) r h

  loaded_kept : (a : Result ℕ LoadRefusal) (b : Banked) (r : R) → AreSpelled (Ok b) → holds r → holds (loaded_into w.placed_by w.entered_by a b r)
  loaded_kept (Ok domain) b r spelled h =
      keeps.entered (w.placed_by r domain (code_of b)) domain b.loadable.handler
      (keeps.placed r domain (code_of b) h (placeable (code_of b) b.loadable.sealed spelled))
  loaded_kept (Err refusal) b r spelled h = h

  image_kept : (o : Option Readied) (k : KernelState) (r : R) → ((x : Readied) → o ≡ Some x → AreSpelled x) → holds r → holds (loaded_by w.placed_by w.entered_by o k r)
  image_kept None k r spelled h = h
  image_kept (Some (Err refusal)) k r spelled h = h
  image_kept (Some (Ok b)) k r spelled h = loaded_kept (loading (Ok b) k).answer b r (spelled (Ok b) refl) h

  came_kept : (images : List Readied) (e : LoaderOrder) (k : KernelState) (r : R) → AllByRecursion AreSpelled images → holds r → holds (came_by w.placed_by w.entered_by images e k r)
  came_kept images (what.Load n) k r spelled h =
      image_kept (slice_get images n) k r (λ x is. all_at AreSpelled images n x spelled is) h
  came_kept images (what.Unload id) k r spelled h = entered_kept (module_named k.modules id) r h
  came_kept images what.Dump k r spelled h = h

  cleared_kept : (o : Option Loaded) (r : R) → holds r → holds (module_cleared w.cleared_by o r)
  cleared_kept None r h = h
  cleared_kept (Some m) r h = keeps.cleared r m.domain h

  closed_kept : (e : Option ℕ) (modules : List Loaded) (r : R) → holds r → holds (closed_by w.cleared_by e modules r)
  closed_kept None modules r h = h
  closed_kept (Some id) modules r h = cleared_kept (module_named modules id) r h

  faulted_kept : (run : Running) (k : KernelState) (r : R) → holds r → holds (faulted_by w.cleared_by run k r)
  faulted_kept run k r h = closed_kept k.ending _ (w.cleared_by r run.domain) (keeps.cleared r run.domain h)

  settled_kept : (e : UnitEnd) (run : Running) (k : KernelState) (r : R) → holds r → holds (settled_by w.cleared_by e run k r)
  settled_kept On run k r h = h
  settled_kept Over run k r h = closed_kept k.ending k.modules r h
  settled_kept (Fault note) run k r h = faulted_kept run k r h

  runner_kept : (c : Choice) (m : MoteValue R) → AllByRecursion AreSpelled m.images → holds m.runner → holds (runner_after w c m)
  runner_kept Stays m spelled h = h
  runner_kept Hears m spelled h = h
  runner_kept Fires m spelled h = h
  runner_kept (Comes e) m spelled h = came_kept m.images e.what m.kernel m.runner spelled h
  runner_kept Dispatches m spelled h = dispatched_kept (front m.kernel.queues) m.kernel m.runner h
  runner_kept (Jumps now) m spelled h = h
  runner_kept Idles m spelled h = h
  runner_kept Budgets m spelled h = h
  runner_kept (Watches run) m spelled h = faulted_kept run m.kernel m.runner h
  runner_kept (Acts run) m spelled h =
      settled_kept (w.acts m.kernel m.runner).ending run (w.acts m.kernel m.runner).kernel (w.acts m.kernel m.runner).runner
      (keeps.acted m.kernel m.runner h)

  -- What a turn may do is what the machine's may.
  may_do : (c : Choice) (m : MoteValue R) → IsSound w holds m → Facts c (state_of w.part m) → May c (state_of w.part m) (without_ran_lines (acted w.part w.acts m))
  may_do Stays m sound facts = tt
  may_do Hears m sound facts = tt
  may_do Fires m sound facts = tt
  may_do (Comes e) m sound facts = tt
  may_do Dispatches m sound facts = tt
  may_do (Jumps now) m sound facts = tt
  may_do Idles m sound facts = tt
  may_do Budgets m sound facts = tt
  may_do (Watches run) m sound facts = tt
  may_do (Acts run) m sound facts =
      keeps.unit m.kernel m.runner sound.held sound.good.machine (some_is m.kernel.running run facts.running)

  -- A turn is a turn of the machine, without the lines of instructions, and lawful,
  is_turn : (m : MoteValue R) → IsSound w holds m → Turn (state_of w.part m) (state_of w.part (turned w m).value) (without_ran (turned w m).lines)
  is_turn m sound =
      let s : State = state_of w.part m in
      let got : Acted = without_ran_lines (acted w.part w.acts m) in
      let same : seen w.part (turned w m) ≡ made (choice s) s got = turn_is_seen w keeps.lawful m in
      let may : May (choice s) s got = may_do (choice s) m sound (choice_facts s) in
      let left : Leaves (choice s) (made (choice s) s got).state (made (choice s) s got).state =
      leaves_itself (choice s) (made (choice s) s got).state (made_good (choice s) s got sound.good (choice_facts s) may) in
      turn_by (choice s) s (state_of w.part (turned w m).value) got (without_ran (turned w m).lines) refl may
      (subst (λ (x : State). Leaves (choice s) (made (choice s) s got).state x) (sym (ap (λ (x : Made). x.state) same)) left)
      (ap (λ (x : Made). x.lines) same)

  pub lawful_turn : (m : MoteValue R) → IsSound w holds m → LawfulTurn (state_of w.part m) (state_of w.part (turned w m).value) (without_ran (turned w m).lines)
  lawful_turn m sound = turns_are_lawful _ _ _ sound.good (is_turn m sound)

  -- and the mote is as sound behind it.
  pub sound_turn : (m : MoteValue R) → IsSound w holds m → IsSound w holds (turned w m).value
  sound_turn m sound = record {
    good = (lawful_turn m sound).good;
    held = runner_kept (choice (state_of w.part m)) m sound.spelled sound.held;
    spelled = sound.spelled;
  }

  -- Turns one after the other.
  pub sound_turns : (n : ℕ) (m : MoteValue R) → IsSound w holds m → IsSound w holds (turns w n m).value
  sound_turns zero m sound = sound
  sound_turns (suc n) m sound = sound_turn (turns w n m).value (sound_turns n m sound)

  runs_on : (n : ℕ) (m : MoteValue R) → IsSound w holds m → (rest : List TraceLine) (last : State) → RunsTo (state_of w.part (turns w n m).value) rest last → RunsTo (state_of w.part m) (without_ran (turns w n m).lines ++ rest) last
  runs_on zero m sound rest last r = r
  runs_on (suc n) m sound rest last r =
      let t : Turning R = turns w n m in
      let next : List TraceLine = without_ran (turned w t.value).lines in
      elim (stands t.value.ended) [
        | inl live ↦
            let joined : without_ran (t.lines ++ (turned w t.value).lines) ++ rest ≡ without_ran t.lines ++ (next ++ rest) =
            ap (λ ls. ls ++ rest) (filter-append (λ l. not (is_ran l)) t.lines (turned w t.value).lines) ∙ append_assoc (without_ran t.lines) next rest in
            let turn : LawfulTurn (state_of w.part t.value) (state_of w.part (turned w t.value).value) next = lawful_turn t.value (sound_turns n m sound) in
            subst (λ ls. RunsTo (state_of w.part m) ls last) (sym joined)
            (runs_on n m sound (next ++ rest) last (record { run = more (state_of w.part (turned w t.value).value) next rest live turn r.run; to = r.to }))
        | inr done ↦
            let same : one_more w t ≡ t = more_stays w t done in
            subst (λ (x : Turning R). RunsTo (state_of w.part m) (without_ran x.lines ++ rest) last) (sym same)
            (runs_on n m sound rest last (subst (λ (x : Turning R). RunsTo (state_of w.part x.value) rest last) same r))
      ]

  lawful_to : (n : ℕ) (m : MoteValue R) (t : Turning R) → IsSound w holds m → turns w n m ≡ t → t.value.ended ≢ More → RunsTo (state_of w.part m) (without_ran t.lines) (state_of w.part t.value)
  lawful_to n m t sound are done =
      let ended : (turns w n m).value.ended ≢ More = subst (λ (x : Turning R). x.value.ended ≢ More) (sym are) done in
      let last : State = state_of w.part (turns w n m).value in
      subst (λ (x : Turning R). RunsTo (state_of w.part m) (without_ran x.lines) (state_of w.part x.value)) are
      (subst (λ ls. RunsTo (state_of w.part m) ls last) (append-nil (without_ran (turns w n m).lines))
      (runs_on n m sound [] last (record { run = over ended; to = refl })))

  -- The run of a sound mote is lawful,
  pub lawful_end : (m : MoteValue R) (lines : List TraceLine) (last : MoteValue R) → IsSound w holds m → EndsAt w m lines last → RunsTo (state_of w.part m) (without_ran lines) (state_of w.part last)
  lawful_end m lines last sound e = lawful_to e.leads.count m (record { value = last; lines = lines }) sound e.leads.are e.ended

  -- and it comes to an end.
  ends_within : (fuel n : ℕ) (m : MoteValue R) → IsSound w holds m → remaining (state_of w.part (turns w n m).value) < fuel → (lines : List TraceLine) × (last : MoteValue R) × EndsAt w m lines last
  ends_within zero n m sound few = absurd (omega (arith, few))
  ends_within (suc fuel) n m sound few =
      let t : Turning R = turns w n m in
      elim (stands t.value.ended) [
        | inr done ↦ (t.lines, t.value, record { leads = record { count = n; are = refl }; ended = done })
        | inl live ↦
            let here = sound_turns n m sound in
            let fewer = remaining_falls (state_of w.part t.value) (state_of w.part (turned w t.value).value) (without_ran (turned w t.value).lines) here.good live (is_turn t.value here) in
            ends_within fuel (suc n) m sound (omega (arith, fewer, few))
      ]

  pub comes_to_end : (m : MoteValue R) → IsSound w holds m → (lines : List TraceLine) × (last : MoteValue R) × EndsAt w m lines last
  comes_to_end m sound = ends_within (remaining (state_of w.part m) + 1) zero m sound (omega arith)
