-- How late the clock can be.
use Rattle.std.proofs.Common.{◌≡◌, ◌≢◌, inl, inr, ℕ, ◌+◌, ◌*◌, ◌^◌, ◌<◌, ◌≤◌, ◌||◌, ◌==◌, ◌++◌, List, [], ◌∷◌, length, Bool, true, false, refl, sym, ap, ◌∙◌, arith, Option, Some, None, is_some, slice_get}
use Rattle.std.proofs.lemmas.Bool.{true≢false, false≢true, ne_eqb, or_cases, or_left, or_right}
use Rattle.std.proofs.lemmas.Option.{none-some, same_Some}
use Rattle.mote_base.specs.Messages.{Lists, front, appended}
use Rattle.mote_base.specs.declared.timer.Timer.{Timer}
use Rattle.domain_model.specs.declared.handler.Running.{Running}
use Rattle.domain_model.specs.State.{Loaded, Message, State}
use Rattle.domain_model.specs.Events.{timer_times, is_due}
use Rattle.domain_model.specs.Facts.{NoneDue}
use Rattle.domain_model.specs.Good.{longest_wait, GoodTimers, ahead_by, is_ahead, latest}
use Rattle.domain_model.proofs.TimeLaws.{not_due}

-- Bounds.

pub latest_least : (total : ℕ) (ahead : Bool) → 2 ^ 32 + (longest_wait + 1) * total ≤ latest total ahead
latest_least total true = omega arith
latest_least total false = omega arith

pub latest_behind : (total : ℕ) (ahead : Bool) → ahead ≡ false → latest total ahead ≤ 2 ^ 32 + (longest_wait + 1) * total
latest_behind total true e = absurd (true≢false e)
latest_behind total false e = omega arith

pub latest_ahead : (total : ℕ) (ahead : Bool) → ahead ≡ true → 2 ^ 32 + (longest_wait + 1) * total + longest_wait ≤ latest total ahead
latest_ahead total true e = omega arith
latest_ahead total false e = absurd (false≢true e)

pub latest_more : (total : ℕ) (ahead more : Bool) → (ahead ≡ true → more ≡ true) → latest total ahead ≤ latest total more
latest_more total false more f = omega (arith, latest_least total more)
latest_more total true true f = omega arith
latest_more total true false f = absurd (false≢true (f refl))

-- a unit pays for the jump before it, and for its own tick
pub latest_unit : (total : ℕ) (ahead after : Bool) → latest total ahead + 1 ≤ latest (total + 1) after
latest_unit total true after = omega (arith, latest_least (total + 1) after)
latest_unit total false after = omega (arith, latest_least (total + 1) after)

-- When the clock is ahead.

-- a message waits, or a timer is due
abbrev pub waits_on : State → Bool
waits_on s = is_some (front s.kernel.queues) || is_due (timer_times s.kernel.timers) s.kernel.clock

-- more messages wait, and the same timers run at the same time
pub waits_more : (s t : State) → (is_some (front s.kernel.queues) ≡ true → is_some (front t.kernel.queues) ≡ true) → t.kernel.timers ≡ s.kernel.timers → t.kernel.clock ≡ s.kernel.clock → waits_on s ≡ true → waits_on t ≡ true
waits_more s t more timers clock h =
    elim (or_cases (is_some (front s.kernel.queues)) (is_due (timer_times s.kernel.timers) s.kernel.clock) h) [
      | inl some ↦ or_left (is_some (front t.kernel.queues)) (is_due (timer_times t.kernel.timers) t.kernel.clock) (more some)
      | inr due ↦
          or_right (is_some (front t.kernel.queues)) (is_due (timer_times t.kernel.timers) t.kernel.clock)
          (ap (λ (ts : List Timer). is_due (timer_times ts) t.kernel.clock) timers ∙ ap (λ (now : ℕ). is_due (timer_times s.kernel.timers) now) clock ∙ due)
    ]

-- what runs is the same, and so many units of it ran
ahead_same_by : (o : Option Running) (s t : State) → t.spent ≡ s.spent → (waits_on s ≡ true → waits_on t ≡ true) → ahead_by o s ≡ true → ahead_by o t ≡ true
ahead_same_by None s t spent f h = f h
ahead_same_by (Some run) s t spent f h = ap (λ (n : ℕ). n == 0) spent ∙ h

pub ahead_same : (s t : State) → t.kernel.running ≡ s.kernel.running → t.spent ≡ s.spent → (waits_on s ≡ true → waits_on t ≡ true) → is_ahead s ≡ true → is_ahead t ≡ true
ahead_same s t running spent f h = ap (λ (o : Option Running). ahead_by o t) running ∙ ahead_same_by s.kernel.running s t spent f h

-- no unit ran yet, and nothing else changed
ahead_begun_by : (o : Option Running) (s t : State) → t.spent ≡ 0 → (waits_on s ≡ true → waits_on t ≡ true) → waits_on s ≡ true → ahead_by o t ≡ true
ahead_begun_by None s t spent f h = f h
ahead_begun_by (Some run) s t spent f h = ap (λ (n : ℕ). n == 0) spent

pub ahead_begun : (s t : State) → s.kernel.running ≡ None → t.spent ≡ 0 → (waits_on s ≡ true → waits_on t ≡ true) → is_ahead s ≡ true → is_ahead t ≡ true
ahead_begun s t outside spent f h =
    ahead_begun_by t.kernel.running s t spent f (ap (λ (o : Option Running). ahead_by o s) (sym outside) ∙ h)

-- outside a handler nothing waits and nothing is due
pub behind_outside : (s : State) → s.kernel.running ≡ None → front s.kernel.queues ≡ None → NoneDue (timer_times s.kernel.timers) s.kernel.clock → is_ahead s ≡ false
behind_outside s outside waiting none =
    ap (λ (o : Option Running). ahead_by o s) outside ∙ ap (λ (o : Option Message). is_some o || is_due (timer_times s.kernel.timers) s.kernel.clock) waiting
    ∙ not_due (timer_times s.kernel.timers) s.kernel.clock none

-- a handler has begun
pub ahead_started : (s : State) (run : Running) → s.kernel.running ≡ Some run → s.spent ≡ 0 → is_ahead s ≡ true
ahead_started s run inside none = ap (λ (o : Option Running). ahead_by o s) inside ∙ ap (λ (n : ℕ). n == 0) none

-- and in a handler a unit ran
pub behind_inside : (s : State) (run : Running) → s.kernel.running ≡ Some run → s.spent ≢ 0 → is_ahead s ≡ false
behind_inside s run inside ran = ap (λ (o : Option Running). ahead_by o s) inside ∙ ne_eqb s.spent 0 ran

-- a timer is due outside a handler
pub ahead_due : (s : State) → s.kernel.running ≡ None → is_due (timer_times s.kernel.timers) s.kernel.clock ≡ true → is_ahead s ≡ true
ahead_due s outside due =
    ap (λ (o : Option Running). ahead_by o s) outside
    ∙ or_right (is_some (front s.kernel.queues)) (is_due (timer_times s.kernel.timers) s.kernel.clock) due

-- Messages that wait.

some_front : (high low : List Message) → 0 < length high → is_some (slice_get (high ++ low) 0) ≡ true
some_front [] low some = absurd (omega (arith, some))
some_front (m ∷ high) low some = refl

pub high_waits : (q : Lists Message) → 0 < length q.high → is_some (front q) ≡ true
high_waits q some = some_front q.high q.low some

one_in : (high low : List Message) (m : Message) → is_some (slice_get ((high ++ m ∷ []) ++ low) 0) ≡ true
one_in [] low m = refl
one_in (x ∷ high) low m = refl

one_low : (high low : List Message) (m : Message) → is_some (slice_get (high ++ (low ++ m ∷ [])) 0) ≡ true
one_low [] [] m = refl
one_low [] (x ∷ low) m = refl
one_low (x ∷ high) low m = refl

pub appended_waits : (high : Bool) (m : Message) (q : Lists Message) → is_some (front (appended high m q)) ≡ true
appended_waits true m q = one_in q.high q.low m
appended_waits false m q = one_low q.high q.low m

-- The first timer is due after its ticks at the latest.
pub first_within : (modules : List Loaded) (now time : ℕ) (ts : List Timer) → GoodTimers modules now ts → slice_get (timer_times ts) 0 ≡ Some time → time ≤ now + longest_wait
first_within modules now time [] h e = absurd (none-some time e)
first_within modules now time (t ∷ ts) h e = omega (arith, h.each.0.due, same_Some t.due time e)
