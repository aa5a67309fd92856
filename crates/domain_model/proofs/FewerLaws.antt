-- Each turn of a live state leaves fewer to come.
use Rattle.std.proofs.Common.{◌≡◌, ℕ, suc, if◌then◌else◌, nat_lt, not, ◌+◌, ◌*◌, ◌<◌, ◌≤◌, ◌&&◌, ◌||◌, List, [], ◌∷◌, ◌++◌, length, drop, Bool, true, false, refl, sym, ap, subst, ◌∙◌, arith, Option, Some, slice_get, is_some}
use Rattle.std.proofs.lemmas.Bool.{cond-true, lt-ltb, le-leb, or_left, or_right, true≢false, false≢true}
use Rattle.std.proofs.lemmas.Option.{none-some, same_Some, slice_get_within}
use Rattle.std.proofs.lemmas.List.{length-drop}
use Rattle.mote_base.specs.Messages.{Lists, in_order, front, without_front}
use Rattle.mote_base.specs.Timers.{after_firing}
use Rattle.mote_base.specs.declared.timer.Timer.{Timer}
use Rattle.domain_model.specs.declared.event.LoaderEvent.{LoaderEvent}
use Rattle.domain_model.specs.declared.handler.Running.{Running}
use Rattle.domain_model.specs.declared.event.Choice.{Choice}
use Rattle.domain_model.specs.declared.event.Choice.TheVariants.{Stays, Hears, Fires, Comes, Dispatches, Jumps, Idles, Budgets, Watches, Acts}
use Rattle.domain_model.specs.declared.event.Turned.TheVariants.{More}
use Rattle.domain_model.specs.declared.line.TraceLine.{TraceLine}
use Rattle.domain_model.specs.State.{Loaded, Message, KernelState, State}
use Rattle.domain_model.specs.Events.{packet_times, event_times, timer_times, is_due}
use Rattle.domain_model.specs.Act.{Acted, act}
use Rattle.domain_model.specs.Turn.{deliver, dispatch, made, watchdog, choice, May, Turn}
use Rattle.domain_model.specs.Good.{GoodTimer, Good}
use Rattle.domain_model.specs.Facts.{Facts}
use Rattle.domain_model.specs.Remaining.{one_if, due_count, any_due, is_quiet, has_run, goes_on, remaining}
use Rattle.domain_model.proofs.ChoiceLaws.{hears_by, choice_facts}
use Rattle.domain_model.proofs.TimeLaws.{not_due, none_before, due_then}
use Rattle.domain_model.proofs.DueLaws.{due_few, fired_counted}
use Rattle.domain_model.proofs.FiringLaws.{timer_reminds}
use Rattle.domain_model.proofs.Kept.{each_at}
use Rattle.domain_model.proofs.ActLaws.{act_posts_one}
use Rattle.domain_model.proofs.MachineLaws.{receiver_loaded}
use Rattle.domain_model.proofs.CloseLaws.{faulted_rests, settled_rests}
use Rattle.domain_model.proofs.HearLaws.{first_hears}
use Rattle.domain_model.proofs.TurnLaws.{came_apart, dispatch_clock, dispatch_timers, dispatch_runs, step_queues, made_good, with_bytes, leaves}

one_at_most : (b : Bool) → one_if b ≤ 1
one_at_most true = omega arith
one_at_most false = omega arith

-- Whether a state is quiet: by what runs, by what waits, and by what is due.

quiet_running : (runs waits due : Bool) → runs ≡ true → one_if (not runs && (not waits && not due)) ≡ 0
quiet_running true waits due e = refl
quiet_running false waits due e = absurd (false≢true e)

quiet_waits : (runs waits due : Bool) → waits ≡ true → one_if (not runs && (not waits && not due)) ≡ 0
quiet_waits true waits due e = refl
quiet_waits false true due e = refl
quiet_waits false false due e = absurd (false≢true e)

quiet_due : (runs waits due : Bool) → due ≡ true → one_if (not runs && (not waits && not due)) ≡ 0
quiet_due true waits due e = refl
quiet_due false true due e = refl
quiet_due false false true e = refl
quiet_due false false false e = absurd (false≢true e)

-- No handler runs, or none has run a unit, or one has.
ran_outside : (runs some : Bool) → runs ≡ false → one_if (runs && some) ≡ 0
ran_outside true some e = absurd (true≢false e)
ran_outside false some e = refl

ran_none : (runs : Bool) → one_if (runs && nat_lt 0 0) ≡ 0
ran_none true = refl
ran_none false = refl

-- A handler runs, or a state is quiet, but not both.
not_both : (runs waits due some : Bool) → 33 * one_if (not runs && (not waits && not due)) + 34 * one_if (runs && some) ≤ 34
not_both true waits due some = omega (arith, one_at_most some)
not_both false waits due some = omega (arith, one_at_most (not waits && not due))

-- The events that are due, and the timers.
events_due : (events : List LoaderEvent) (e : LoaderEvent) (now : ℕ) → slice_get events 0 ≡ Some e → e.time ≤ now → is_due (event_times events) now ≡ true
events_due [] e now first due = absurd (none-some e first)
events_due (x ∷ xs) e now first due = le-leb x.time now (subst (λ (y : LoaderEvent). y.time ≤ now) (sym (same_Some x e first)) due)

same_due : (k n : KernelState) → n.clock ≡ k.clock → n.timers ≡ k.timers → due_count n.clock n.timers ≡ due_count k.clock k.timers
same_due k n clock timers = ap (λ (now : ℕ). due_count now n.timers) clock ∙ ap (λ (ts : List Timer). due_count k.clock ts) timers

-- Messages that wait.

-- a dispatch takes one
taken_one : (high low : List Message) (m : Message) → slice_get (high ++ low) 0 ≡ Some m → length (in_order (without_front (record { high = high; low = low }))) + 1 ≡ length (high ++ low)
taken_one [] [] m e = absurd (none-some m e)
taken_one [] (x ∷ low) m e = omega arith
taken_one (x ∷ high) low m e =
    let same : (if nat_lt 0 (length (x ∷ high)) then low else drop 1 low) ≡ low
    = cond-true (nat_lt 0 (length (x ∷ high))) low (drop 1 low) (lt-ltb 0 (length (x ∷ high)) (omega arith)) in
    let one : length (high ++ low) + 1 ≡ suc (length (high ++ low)) = omega arith in
    ap (λ (ms : List Message). length (high ++ ms) + 1) same ∙ one

dispatch_takes : (s : State) (m : Message) → Good s → front s.kernel.queues ≡ Some m → length (in_order (dispatch (front s.kernel.queues) s.kernel s.runner).kernel.queues) + 1 ≡ length (in_order s.kernel.queues)
dispatch_takes s m g e =
    let to = receiver_loaded s.kernel s.runner m g.machine e in
    let made : (dispatch (front s.kernel.queues) s.kernel s.runner).kernel.queues ≡ without_front s.kernel.queues
    = ap (λ (o : Option Message). (dispatch o s.kernel s.runner).kernel.queues) e
    ∙ ap (λ (o : Option Loaded). (deliver o m s.kernel s.runner).kernel.queues) to.found in
    ap (λ (q : Lists Message). length (in_order q) + 1) made ∙ taken_one s.kernel.queues.high s.kernel.queues.low m e

-- what a turn makes of a live state has fewer to come
pub made_fewer : (c : Choice) (s : State) (got : Acted) → Good s → Facts c s → May c s got → s.ended ≡ More → remaining (made c s got).state < remaining s
unfolding remaining
made_fewer Stays s got g facts may live = absurd (facts live)
made_fewer Hears s got g facts may live =
    let t : State = (made Hears s got).state in
    let some : 0 < length s.packets = slice_get_within s.packets 0 facts.packet facts.first in
    let hears = first_hears (slice_get s.packets 0) s.kernel s.runner in
    let due : any_due s ≡ true
    = or_left (is_due (packet_times s.packets) s.kernel.clock) (is_due (timer_times s.kernel.timers) s.kernel.clock || is_due (event_times s.events) s.kernel.clock)
    (hears_by s s.packets facts.packet facts.first facts.due) in
    let before : one_if (is_quiet s) ≡ 0 = quiet_due (is_some s.kernel.running) (is_some (front s.kernel.queues)) (any_due s) due in
    let ran : one_if (has_run t) ≡ one_if (has_run s) = ap (λ (n : KernelState). one_if (is_some n.running && nat_lt 0 s.spent)) hears.alone in
    let timers : due_count t.kernel.clock t.kernel.timers ≡ due_count s.kernel.clock s.kernel.timers
    = same_due s.kernel t.kernel (ap (λ (n : KernelState). n.clock) hears.alone) (ap (λ (n : KernelState). n.timers) hears.alone) in
    omega (arith, some, hears.more, before, ran, timers, length-drop 1 s.packets, one_at_most (is_quiet t))
made_fewer Fires s got g facts may live =
    let t : State = (made Fires s got).state in
    let reminds = timer_reminds s.kernel facts.timer facts.first facts.due in
    let after : one_if (is_quiet t) ≡ 0 = quiet_waits (is_some t.kernel.running) (is_some (front t.kernel.queues)) (any_due t) reminds.waits in
    let ran : one_if (has_run t) ≡ one_if (has_run s) = ap (λ (n : KernelState). one_if (is_some n.running && nat_lt 0 s.spent)) reminds.alone in
    let timers : due_count t.kernel.clock t.kernel.timers ≡ due_count s.kernel.clock (after_firing s.kernel.clock s.kernel.timers)
    = ap (λ (n : KernelState). due_count n.clock n.timers) reminds.alone in
    let ticks : 1 ≤ facts.timer.ticks = (each_at (GoodTimer s.kernel.modules s.kernel.clock) s.kernel.timers 0 facts.timer g.machine.timers.each facts.first).ticks.0 in
    let fewer = fired_counted s.kernel.clock s.kernel.timers facts.timer facts.first facts.due ticks in
    omega (arith, reminds.more, after, ran, timers, fewer)
made_fewer (Comes e) s got g facts may live =
    let t : State = (made (Comes e) s got).state in
    let some : 0 < length s.events = slice_get_within s.events 0 e facts.first in
    let apart = came_apart s.images e.what s.kernel s.runner in
    let same : length (in_order t.kernel.queues) ≡ length (in_order s.kernel.queues) = ap (λ (q : Lists Message). length (in_order q)) apart.queues in
    let due : any_due s ≡ true
    = or_right (is_due (packet_times s.packets) s.kernel.clock) (is_due (timer_times s.kernel.timers) s.kernel.clock || is_due (event_times s.events) s.kernel.clock)
    (or_right (is_due (timer_times s.kernel.timers) s.kernel.clock) (is_due (event_times s.events) s.kernel.clock) (events_due s.events e s.kernel.clock facts.first facts.due)) in
    let before : one_if (is_quiet s) ≡ 0 = quiet_due (is_some s.kernel.running) (is_some (front s.kernel.queues)) (any_due s) due in
    let after : one_if (has_run t) ≡ 0 = ran_none (is_some t.kernel.running) in
    let timers : due_count t.kernel.clock t.kernel.timers ≡ due_count s.kernel.clock s.kernel.timers = same_due s.kernel t.kernel apart.clock apart.timers in
    omega (arith, some, same, before, after, timers, length-drop 1 s.events, one_at_most (is_quiet t))
made_fewer Dispatches s got g facts may live =
    let t : State = (made Dispatches s got).state in
    let one : length (in_order t.kernel.queues) + 1 ≡ length (in_order s.kernel.queues) = dispatch_takes s facts.message g facts.first in
    let runs = dispatch_runs s.kernel s.runner facts.message g.machine facts.first in
    let after : one_if (is_quiet t) ≡ 0
    = quiet_running (is_some t.kernel.running) (is_some (front t.kernel.queues)) (any_due t) (ap (λ (o : Option Running). is_some o) runs.1) in
    let ran : one_if (has_run t) ≡ 0 = ran_none (is_some t.kernel.running) in
    let timers : due_count t.kernel.clock t.kernel.timers ≡ due_count s.kernel.clock s.kernel.timers
    = same_due s.kernel t.kernel (dispatch_clock (front s.kernel.queues) s.kernel s.runner) (dispatch_timers (front s.kernel.queues) s.kernel s.runner) in
    omega (arith, one, after, ran, timers)
made_fewer (Jumps now) s got g facts may live =
    let t : State = (made (Jumps now) s got).state in
    let none = none_before s.packets s.events s.kernel.timers s.kernel.clock now facts.next facts.later in
    let before : one_if (is_quiet s) ≡ 1
    = rw (facts.outside, facts.none_waits, not_due (packet_times s.packets) s.kernel.clock none.packets, not_due (timer_times s.kernel.timers) s.kernel.clock none.timers, not_due (event_times s.events) s.kernel.clock none.events) refl in
    let after : one_if (is_quiet t) ≡ 0
    = quiet_due (is_some t.kernel.running) (is_some (front t.kernel.queues)) (any_due t) (due_then s.packets s.events s.kernel.timers now facts.next) in
    omega (arith, before, after, due_few now s.kernel.timers, g.machine.timers.few)
made_fewer Idles s got g facts may live = let e : one_if (goes_on s.ended) ≡ 1 = rw live refl in omega (arith, e)
made_fewer Budgets s got g facts may live = let e : one_if (goes_on s.ended) ≡ 1 = rw live refl in omega (arith, e)
made_fewer (Watches run) s got g facts may live =
    let t : State = (made (Watches run) s got).state in
    let rest = faulted_rests (watchdog s) run s.kernel s.runner [] in
    let before : one_if (has_run s) ≡ 1
    = rw (facts.running, lt-ltb 0 s.spent (omega (arith, facts.spent, g.handler.0))) refl in
    let after : one_if (has_run t) ≡ 0 = ran_outside (is_some t.kernel.running) (nat_lt 0 s.spent) (ap (λ (o : Option Running). is_some o) rest.running) in
    let timers : due_count t.kernel.clock t.kernel.timers ≤ due_count s.kernel.clock s.kernel.timers
    = subst (λ (now : ℕ). due_count now t.kernel.timers ≤ due_count s.kernel.clock s.kernel.timers) (sym rest.clock) (rest.due s.kernel.clock) in
    omega (arith, before, after, timers, rest.fewer, one_at_most (is_quiet t))
made_fewer (Acts run) s got g facts may live =
    let t : State = (made (Acts run) s got).state in
    let rest = settled_rests got.ending run got.kernel got.runner got.lines in
    let same : length (in_order got.kernel.queues) ≡ length (in_order (act s.kernel s.runner).kernel.queues)
    = ap (λ (q : Lists Message). length (in_order q)) (step_queues s.kernel s.runner got may) in
    omega (
      arith,
      facts.total,
      g.total,
      rest.fewer,
      same,
      act_posts_one s.kernel s.runner,
      due_few t.kernel.clock t.kernel.timers,
      (made_good (Acts run) s got g facts may).machine.timers.few,
      not_both (is_some t.kernel.running) (is_some (front t.kernel.queues)) (any_due t) (nat_lt 0 t.spent),
    )

-- other bytes leave as many
fewer_bytes : (limit : ℕ) (s : State) (memory : List ℕ) → length memory ≡ length s.kernel.processor.memory → remaining s < limit → remaining (with_bytes s memory) < limit
unfolding remaining
fewer_bytes limit s memory same h = h

-- a turn of a live state leaves fewer
pub remaining_falls : (s t : State) (lines : List TraceLine) → Good s → s.ended ≡ More → Turn s t lines → remaining t < remaining s
remaining_falls s t lines g live turn =
    leaves (λ (x : State). remaining x < remaining s) (λ free x memory same h. fewer_bytes (remaining s) x memory same.same_length h) (choice s) (made (choice s) s turn.got).state t turn.to
    (made_fewer (choice s) s turn.got g (choice_facts s) turn.may live)
