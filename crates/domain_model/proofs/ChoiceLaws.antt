-- What each choice of a turn says of the state holds where it is chosen.
use Rattle.std.proofs.Common.{◌≡◌, ◌≢◌, ℕ, ◌≤◌, ◌==◌, nat_le, slice_get, ap, sym, subst, ◌∙◌, refl, Bool, true, false, Option, Some, None, List, [], ◌∷◌}
use Rattle.std.proofs.lemmas.Bool.{leb-true, leb-false, eqb-true, eqb-false, le-leb, lt-leb, eq-eqb, ne_eqb}
use Rattle.std.proofs.lemmas.Option.{none-some, same_Some}
use Rattle.domain_model.specs.declared.event.LoaderEvent.{LoaderEvent}
use Rattle.domain_model.specs.declared.event.Packet.{Packet}
use Rattle.domain_model.specs.declared.handler.Running.{Running}
use Rattle.domain_model.specs.declared.event.Choice.{Choice}
use Rattle.domain_model.specs.declared.event.Choice.TheVariants.{Stays, Hears, Fires, Comes, Dispatches, Jumps, Idles, Budgets, Watches, Acts}
use Rattle.domain_model.specs.declared.event.Turned.{Turned}
use Rattle.domain_model.specs.declared.event.Turned.TheVariants.{More, EndIdle, EndBudget}
use Rattle.mote_base.specs.Messages.{front}
use Rattle.mote_base.specs.declared.timer.Timer.{Timer}
use Rattle.domain_model.specs.State.{Message, State}
use Rattle.domain_model.specs.Turn.{choice, choose_time, choose_message, choose_event, choose_outside, choose_unit, choose_inside, choose_running, choose_timer, choose_packet, choose_ended}
use Rattle.domain_model.specs.Events.{packet_times, event_times, timer_times, is_due, next_time}
use Rattle.domain_model.specs.Facts.{NoneDue, NoInterrupt, Facts, ChoicesAreFounded}
use Rattle.domain_model.proofs.TimeLaws.{not_due, none_due, first_due, first_timer_due, next_later, none_before, none_to_come}

module _ (s : State) (live : s.ended ≡ More) where
  packet_facts : is_due (packet_times s.packets) s.kernel.clock ≡ true → Facts Hears s
  packet_facts h =
      let p = first_due s.packets s.kernel.clock h in
      record { live = live; packet = p.0; first = p.1; due = leb-true p.0.time s.kernel.clock p.2 }

  timer_facts : NoneDue (packet_times s.packets) s.kernel.clock → is_due (timer_times s.kernel.timers) s.kernel.clock ≡ true → Facts Fires s
  timer_facts no_packet h =
      let t = first_timer_due s.kernel.timers s.kernel.clock h in
      record { live = live; no_packet = no_packet; timer = t.0; first = t.1; due = t.2 }

  -- no packet is due, and no timer
  module _ (no_interrupt : NoInterrupt s) where
    -- and no event is
    time_facts : (o : Option ℕ) → s.kernel.running ≡ None → front s.kernel.queues ≡ None → next_time s.packets s.events s.kernel.timers ≡ o → NoneDue (event_times s.events) s.kernel.clock → Facts (choose_time o) s
    time_facts (Some time) out waiting next none = record {
      live = live;
      outside = out;
      none_waits = waiting;
      next = next;
      later = next_later s.packets s.events s.kernel.timers s.kernel.clock time no_interrupt.packets none no_interrupt.timers next;
    }
    time_facts None out waiting next none = record { live = live; outside = out; none_waits = waiting; none = none_to_come s.packets s.events s.kernel.timers next }

    message_facts : (o : Option Message) → s.kernel.running ≡ None → front s.kernel.queues ≡ o → NoneDue (event_times s.events) s.kernel.clock → Facts (choose_message o s) s
    message_facts (Some m) out waiting none = record { live = live; outside = out; no_interrupt = no_interrupt; none_due = none; message = m; first = waiting }
    message_facts None out waiting none = time_facts (next_time s.packets s.events s.kernel.timers) out waiting refl none

    event_facts : (b : Bool) (e : LoaderEvent) (es : List LoaderEvent) → s.kernel.running ≡ None → s.events ≡ e ∷ es → nat_le e.time s.kernel.clock ≡ b → Facts (choose_event b e s) s
    event_facts true e es out all h = record { live = live; no_interrupt = no_interrupt; outside = out; first = rw all refl; due = leb-true e.time s.kernel.clock h }
    event_facts false e es out all h = message_facts (front s.kernel.queues) out refl (rw all (leb-false e.time s.kernel.clock h))

    outside_facts : (es : List LoaderEvent) → s.kernel.running ≡ None → s.events ≡ es → Facts (choose_outside es s) s
    outside_facts [] out all = message_facts (front s.kernel.queues) out refl (rw all tt)
    outside_facts (e ∷ es) out all = event_facts (nat_le e.time s.kernel.clock) e es out all refl

    unit_facts : (b : Bool) (run : Running) → s.kernel.running ≡ Some run → s.total ≢ s.unit_limit → (s.spent == s.handler_limit) ≡ b → Facts (choose_unit b run) s
    unit_facts true run inside total h = record { live = live; no_interrupt = no_interrupt; running = inside; total = total; spent = eqb-true s.spent s.handler_limit h }
    unit_facts false run inside total h = record { live = live; no_interrupt = no_interrupt; running = inside; total = total; spent = eqb-false s.spent s.handler_limit h }

    inside_facts : (b : Bool) (run : Running) → s.kernel.running ≡ Some run → (s.total == s.unit_limit) ≡ b → Facts (choose_inside b run s) s
    inside_facts true run inside h = record { live = live; no_interrupt = no_interrupt; run = run; running = inside; total = eqb-true s.total s.unit_limit h }
    inside_facts false run inside h = unit_facts (s.spent == s.handler_limit) run inside (eqb-false s.total s.unit_limit h) refl

    running_facts : (o : Option Running) → s.kernel.running ≡ o → Facts (choose_running o s) s
    running_facts None h = outside_facts s.events h refl
    running_facts (Some run) h = inside_facts (s.total == s.unit_limit) run h refl

  fires_facts : (b : Bool) → NoneDue (packet_times s.packets) s.kernel.clock → is_due (timer_times s.kernel.timers) s.kernel.clock ≡ b → Facts (choose_timer b s) s
  fires_facts true no_packet h = timer_facts no_packet h
  fires_facts false no_packet h =
      running_facts (record { packets = no_packet; timers = none_due (timer_times s.kernel.timers) s.kernel.clock h }) s.kernel.running refl

  due_facts : (b : Bool) → is_due (packet_times s.packets) s.kernel.clock ≡ b → Facts (choose_packet b s) s
  due_facts true h = packet_facts h
  due_facts false h =
      fires_facts (is_due (timer_times s.kernel.timers) s.kernel.clock) (none_due (packet_times s.packets) s.kernel.clock h) refl

ended_facts : (s : State) (t : Turned) → s.ended ≡ t → Facts (choose_ended t s) s
ended_facts s More h = due_facts s h (is_due (packet_times s.packets) s.kernel.clock) refl
ended_facts s EndIdle h = λ e. absurd (cc)
ended_facts s EndBudget h = λ e. absurd (cc)

-- the facts of the turn that comes next
pub choice_facts : (s : State) → Facts (choice s) s
choice_facts s = ended_facts s s.ended refl

-- A turn of which that is said comes next.

stays_by : (s : State) (t : Turned) → t ≢ More → choose_ended t s ≡ Stays
stays_by s More over = absurd (over refl)
stays_by s EndIdle over = refl
stays_by s EndBudget over = refl

pub hears_by : (s : State) (packets : List Packet) (p : Packet) → slice_get packets 0 ≡ Some p → p.time ≤ s.kernel.clock → is_due (packet_times packets) s.kernel.clock ≡ true
hears_by s [] p first due = absurd (none-some p first)
hears_by s (x ∷ xs) p first due = le-leb x.time s.kernel.clock (subst (λ (y : Packet). y.time ≤ s.kernel.clock) (sym (same_Some x p first)) due)

comes_by : (es : List LoaderEvent) (e : LoaderEvent) (s : State) → slice_get es 0 ≡ Some e → e.time ≤ s.kernel.clock → choose_outside es s ≡ Comes e
comes_by [] e s first due = absurd (none-some e first)
comes_by (x ∷ xs) e s first due =
    subst (λ (y : LoaderEvent). choose_event (nat_le y.time s.kernel.clock) y s ≡ Comes e) (sym (same_Some x e first))
    (ap (λ (b : Bool). choose_event b e s) (le-leb e.time s.kernel.clock due))

-- no event is due
waits_by : (es : List LoaderEvent) (s : State) → NoneDue (event_times es) s.kernel.clock → choose_outside es s ≡ choose_message (front s.kernel.queues) s
waits_by [] s none = refl
waits_by (e ∷ es) s none = ap (λ (b : Bool). choose_event b e s) (lt-leb e.time s.kernel.clock none)

pub fires_by : (timers : List Timer) (t : Timer) (now : ℕ) → slice_get timers 0 ≡ Some t → t.due ≤ now → is_due (timer_times timers) now ≡ true
fires_by [] t now first due = absurd (none-some t first)
fires_by (x ∷ xs) t now first due = le-leb x.due now (subst (λ (y : Timer). y.due ≤ now) (sym (same_Some x t first)) due)

-- in a run that goes on, where no packet is due, and where no timer is either, outside a handler and in one
to_timers : (s : State) → s.ended ≡ More → NoneDue (packet_times s.packets) s.kernel.clock → choice s ≡ choose_timer (is_due (timer_times s.kernel.timers) s.kernel.clock) s
to_timers s live none =
    ap (λ (t : Turned). choose_ended t s) live ∙ ap (λ (b : Bool). choose_packet b s) (not_due (packet_times s.packets) s.kernel.clock none)

left_to : (s : State) (o : Option Running) → s.ended ≡ More → NoInterrupt s → s.kernel.running ≡ o → choice s ≡ choose_running o s
left_to s o live none running =
    to_timers s live none.packets ∙ ap (λ (b : Bool). choose_timer b s) (not_due (timer_times s.kernel.timers) s.kernel.clock none.timers)
    ∙ ap (λ (x : Option Running). choose_running x s) running

message_by : (s : State) (o : Option Message) → s.ended ≡ More → NoInterrupt s → s.kernel.running ≡ None → NoneDue (event_times s.events) s.kernel.clock → front s.kernel.queues ≡ o → choice s ≡ choose_message o s
message_by s o live no_interrupt outside none waiting =
    left_to s None live no_interrupt outside ∙ waits_by s.events s none ∙ ap (λ (x : Option Message). choose_message x s) waiting

left_by : (s : State) (run : Running) → s.ended ≡ More → NoInterrupt s → s.kernel.running ≡ Some run → s.total ≢ s.unit_limit → choice s ≡ choose_unit (s.spent == s.handler_limit) run
left_by s run live no_interrupt inside left =
    left_to s (Some run) live no_interrupt inside ∙ ap (λ (b : Bool). choose_inside b run s) (ne_eqb s.total s.unit_limit left)

-- nothing is to come
idle_by : (s : State) → s.ended ≡ More → s.kernel.running ≡ None → front s.kernel.queues ≡ None → s.packets ≡ [] → s.events ≡ [] → s.kernel.timers ≡ [] → choice s ≡ Idles
idle_by s live outside waiting no_packets no_events no_timers =
    message_by s None live
    (record {
      packets = subst (λ (ps : List Packet). NoneDue (packet_times ps) s.kernel.clock) (sym no_packets) tt;
      timers = subst (λ (ts : List Timer). NoneDue (timer_times ts) s.kernel.clock) (sym no_timers) tt;
    }) outside
    (subst (λ (es : List LoaderEvent). NoneDue (event_times es) s.kernel.clock) (sym no_events) tt) waiting
    ∙ ap (λ (ps : List Packet). choose_time (next_time ps s.events s.kernel.timers)) no_packets
    ∙ ap (λ (es : List LoaderEvent). choose_time (next_time [] es s.kernel.timers)) no_events ∙ ap (λ (ts : List Timer). choose_time (next_time [] [] ts)) no_timers

pub chosen_by : (c : Choice) (s : State) → Facts c s → choice s ≡ c
chosen_by Stays s f = stays_by s s.ended f
chosen_by Hears s f =
    ap (λ (t : Turned). choose_ended t s) f.live ∙ ap (λ (b : Bool). choose_packet b s) (hears_by s s.packets f.packet f.first f.due)
chosen_by Fires s f =
    to_timers s f.live f.no_packet ∙ ap (λ (b : Bool). choose_timer b s) (fires_by s.kernel.timers f.timer s.kernel.clock f.first f.due)
chosen_by (Comes e) s f = left_to s None f.live f.no_interrupt f.outside ∙ comes_by s.events e s f.first f.due
chosen_by Dispatches s f = message_by s (Some f.message) f.live f.no_interrupt f.outside f.none_due f.first
chosen_by (Jumps time) s f =
    let none = none_before s.packets s.events s.kernel.timers s.kernel.clock time f.next f.later in
    message_by s None f.live (record { packets = none.packets; timers = none.timers }) f.outside none.events f.none_waits ∙ ap (λ (o : Option ℕ). choose_time o) f.next
chosen_by Idles s f = idle_by s f.live f.outside f.none_waits f.none.0 f.none.1 f.none.2
chosen_by Budgets s f =
    left_to s (Some f.run) f.live f.no_interrupt f.running ∙ ap (λ (b : Bool). choose_inside b f.run s) (eq-eqb s.total s.unit_limit f.total)
chosen_by (Watches run) s f =
    left_by s run f.live f.no_interrupt f.running f.total ∙ ap (λ (b : Bool). choose_unit b run) (eq-eqb s.spent s.handler_limit f.spent)
chosen_by (Acts run) s f =
    left_by s run f.live f.no_interrupt f.running f.total ∙ ap (λ (b : Bool). choose_unit b run) (ne_eqb s.spent s.handler_limit f.spent)

pub choices_are_founded : ChoicesAreFounded
choices_are_founded s c = (λ next. subst (λ (x : Choice). Facts x s) next (choice_facts s), λ facts. chosen_by c s facts)
