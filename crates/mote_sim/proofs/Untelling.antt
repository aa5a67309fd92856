-- The run of a mote that tells its instructions, and of one that does not: they differ in the lines of instructions alone.
use Rattle.std.proofs.Common.{◌≡◌, ◌∙◌, ℕ, zero, suc, List, ◌++◌, false, Result, Ok, Err, Option, Some, None, refl, sym, ap, slice_get}
use Rattle.std.specs.Prelude.{not}
use Rattle.std.proofs.lemmas.List.Elements.{filter-append}
use Rattle.mote_base.specs.Messages.{front}
use Rattle.domain_model.specs.declared.event.Choice.{Choice}
use Rattle.domain_model.specs.declared.event.Choice.TheVariants.{Stays, Hears, Fires, Comes, Dispatches, Jumps, Idles, Budgets, Watches, Acts}
use Rattle.domain_model.specs.declared.event.LoaderOrder.{LoaderOrder}
use Rattle.domain_model.specs.declared.event.LoaderOrder.TheVariants as what
use Rattle.domain_model.specs.declared.fault.UnitEnd.{UnitEnd}
use Rattle.domain_model.specs.declared.fault.UnitEnd.TheVariants.{On, Over, Fault}
use Rattle.domain_model.specs.declared.handler.Running.{Running}
use Rattle.domain_model.specs.declared.line.TraceLine.{TraceLine}
use Rattle.domain_model.specs.Act.{Acted}
use Rattle.domain_model.specs.Modules.{module_named, without_domain}
use Rattle.domain_model.specs.Runners.{is_ran, seen_by, without_ran, without_ran_lines}
use Rattle.domain_model.specs.State.{Input, KernelState, Loaded, Message, State}
use Rattle.domain_model.specs.Turn.{choice, made}
use Rattle.domain_model.proofs.RanLaws.{lines_without_ran, state_without_ran}
use Rattle.mod_loader.specs.declared.refusal.LoadRefusal.{LoadRefusal}
use Rattle.mod_loader.specs.Banks.{Banked, Readied}
use Rattle.mod_loader.specs.Loads.{loading}
use Rattle.word_run.specs.FlashValue.{FlashValue, part, words_cleared, words_entered, words_placed}
use Rattle.word_run.specs.Telling.{untold}
use Rattle.word_run.specs.WordRun.{WordsActed, words_act}
use Rattle.word_run.proofs.Untold.{acts_untold}
use Rattle.mote_core.specs.Exact.{Turning, came_by, closed_by, dispatched_by, faulted_by, handler_entered, loaded_by, loaded_into, module_cleared, moved_to, runner_after, settled_by, turned, turned_by}
use Rattle.mote_core.specs.Value.{MoteValue, acted, state_of}
use Rattle.mote_sim.specs.Turns.{EndsAt, one_more, turns}
use Rattle.mote_sim.specs.WordRun.{by_words, word_start}
use Rattle.mote_sim.proofs.Turning.{one_end}

-- the mote whose runner tells none, and a turn of it
abbrev pub quiet_mote : MoteValue FlashValue → MoteValue FlashValue
quiet_mote m = record m { runner = untold m.runner }

abbrev pub quiet_turning : Turning FlashValue → Turning FlashValue
quiet_turning t = record { value = quiet_mote t.value; lines = without_ran t.lines }

-- What a turn does to the runner has nothing to do with what is told.
entered_untold : (o : Option Loaded) (v : FlashValue) → handler_entered words_entered o (untold v) ≡ untold (handler_entered words_entered o v)
entered_untold None v = refl
entered_untold (Some m) v = refl

dispatched_untold : (o : Option Message) (k : KernelState) (v : FlashValue) → dispatched_by words_entered o k (untold v) ≡ untold (dispatched_by words_entered o k v)
dispatched_untold None k v = refl
dispatched_untold (Some m) k v = entered_untold (module_named k.modules m.to) v

loaded_untold : (a : Result ℕ LoadRefusal) (b : Banked) (v : FlashValue) → loaded_into words_placed words_entered a b (untold v) ≡ untold (loaded_into words_placed words_entered a b v)
loaded_untold (Ok domain) b v = refl
loaded_untold (Err refusal) b v = refl

image_untold : (o : Option Readied) (k : KernelState) (v : FlashValue) → loaded_by words_placed words_entered o k (untold v) ≡ untold (loaded_by words_placed words_entered o k v)
image_untold None k v = refl
image_untold (Some (Err refusal)) k v = refl
image_untold (Some (Ok b)) k v = loaded_untold (loading (Ok b) k).answer b v

came_untold : (images : List Readied) (e : LoaderOrder) (k : KernelState) (v : FlashValue) → came_by words_placed words_entered images e k (untold v) ≡ untold (came_by words_placed words_entered images e k v)
came_untold images (what.Load n) k v = image_untold (slice_get images n) k v
came_untold images (what.Unload id) k v = entered_untold (module_named k.modules id) v
came_untold images what.Dump k v = refl

cleared_untold : (o : Option Loaded) (v : FlashValue) → module_cleared words_cleared o (untold v) ≡ untold (module_cleared words_cleared o v)
cleared_untold None v = refl
cleared_untold (Some m) v = refl

closed_untold : (o : Option ℕ) (modules : List Loaded) (v : FlashValue) → closed_by words_cleared o modules (untold v) ≡ untold (closed_by words_cleared o modules v)
closed_untold None modules v = refl
closed_untold (Some id) modules v = cleared_untold (module_named modules id) v

faulted_untold : (run : Running) (k : KernelState) (v : FlashValue) → faulted_by words_cleared run k (untold v) ≡ untold (faulted_by words_cleared run k v)
faulted_untold run k v = closed_untold k.ending (without_domain run.domain k.modules) (words_cleared v run.domain)

settled_untold : (e : UnitEnd) (run : Running) (k : KernelState) (v : FlashValue) → settled_by words_cleared e run k (untold v) ≡ untold (settled_by words_cleared e run k v)
settled_untold On run k v = refl
settled_untold Over run k v = closed_untold k.ending k.modules v
settled_untold (Fault note) run k v = faulted_untold run k v

runner_untold : (c : Choice) (m : MoteValue FlashValue) → runner_after by_words c (quiet_mote m) ≡ untold (runner_after by_words c m)
runner_untold Stays m = refl
runner_untold Hears m = refl
runner_untold Fires m = refl
runner_untold (Comes e) m = came_untold m.images e.what m.kernel m.runner
runner_untold Dispatches m = dispatched_untold (front m.kernel.queues) m.kernel m.runner
runner_untold (Jumps now) m = refl
runner_untold Idles m = refl
runner_untold Budgets m = refl
runner_untold (Watches run) m = faulted_untold run m.kernel m.runner
runner_untold (Acts run) m =
    let got : WordsActed = words_act m.kernel m.runner in
    ap (λ (g : WordsActed). settled_by words_cleared g.ending run g.kernel g.runner) (acts_untold m.kernel m.runner)
    ∙ settled_untold got.ending run got.kernel got.runner

-- A turn,
by_untold : (c : Choice) (m : MoteValue FlashValue) → turned_by by_words c (quiet_mote m) ≡ quiet_turning (turned_by by_words c m)
by_untold c m =
    let s : State = state_of part m in
    let got : Acted = acted part words_act m in
    let after : FlashValue = runner_after by_words c (quiet_mote m) in
    let quiet : acted part words_act (quiet_mote m) ≡ without_ran_lines got =
    ap (λ (g : WordsActed). seen_by part g) (acts_untold m.kernel m.runner) in
    ap (λ (g : Acted). record { value = moved_to (made c s g).state after m; lines = (made c s g).lines }) quiet
    ∙ ap (λ (x : State). record { value = moved_to x after m; lines = (made c s (without_ran_lines got)).lines }) (sym (state_without_ran c s got))
    ∙ ap (λ (ls : List TraceLine). record { value = moved_to (made c s got).state after m; lines = ls }) (sym (lines_without_ran c s got))
    ∙ ap (λ (v : FlashValue). record { value = moved_to (made c s got).state v m; lines = without_ran (made c s got).lines }) (runner_untold c m)

turn_untold : (m : MoteValue FlashValue) → turned by_words (quiet_mote m) ≡ quiet_turning (turned by_words m)
turn_untold m = by_untold (choice (state_of part m)) m

-- turns one after the other,
turns_untold : (n : ℕ) (m : MoteValue FlashValue) → turns by_words n (quiet_mote m) ≡ quiet_turning (turns by_words n m)
turns_untold zero m = refl
turns_untold (suc n) m =
    let t : Turning FlashValue = turns by_words n m in
    let next : List TraceLine = (turned by_words t.value).lines in
    ap (λ (x : Turning FlashValue). one_more by_words x) (turns_untold n m)
    ∙ ap (λ (x : Turning FlashValue). record { value = x.value; lines = without_ran t.lines ++ x.lines }) (turn_untold t.value)
    ∙ ap (λ (ls : List TraceLine). record { value = quiet_mote (turned by_words t.value).value; lines = ls }) (sym (filter-append (λ l. not (is_ran l)) t.lines next))

-- and a run to its end.
pub ends_untold : (m last : MoteValue FlashValue) (lines : List TraceLine) → EndsAt by_words m lines last → EndsAt by_words (quiet_mote m) (without_ran lines) (quiet_mote last)
ends_untold m last lines e = record {
  leads = record { count = e.leads.count; are = turns_untold e.leads.count m ∙ ap (λ (t : Turning FlashValue). quiet_turning t) e.leads.are };
  ended = e.ended;
}

-- So a run that is not told has no line of an instruction.
pub none_told : (i : Input) (images : List Readied) (last : MoteValue FlashValue) (lines : List TraceLine) → EndsAt by_words (word_start i images false) lines last → without_ran lines ≡ lines
none_told i images last lines e =
    ap (λ (t : Turning FlashValue). t.lines)
    (one_end by_words (word_start i images false) (without_ran lines) lines (quiet_mote last) last (ends_untold (word_start i images false) last lines e) e)
