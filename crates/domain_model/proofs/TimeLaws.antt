-- The times of what is still to come.
use Rattle.std.proofs.Common.{◌≡◌, ◌⊎◌, inl, inr, ℕ, ◌<◌, ◌≤◌, ◌^◌, ◌||◌, nat_le, min, true, false, refl, sym, ap, ◌∙◌, List, [], ◌∷◌, subst, arith, Option, Some, None, slice_get, drop}
use Rattle.std.proofs.lemmas.Bool.{cases_Bool, or_left, or_right, leb-true, leb-false, le-leb, lt-leb, true≢false}
use Rattle.std.proofs.lemmas.Option.{none-some, same_Some}
use Rattle.mote_base.specs.declared.timer.Timer.{Timer}
use Rattle.domain_model.specs.declared.event.LoaderEvent.{LoaderEvent}
use Rattle.domain_model.specs.declared.event.Packet.{Packet}
use Rattle.domain_model.specs.Events.{packet_times, event_times, timer_times, is_due, earlier, next_time}
use Rattle.domain_model.specs.Good.{AreTimesFrom, AreTimes}
use Rattle.domain_model.specs.Facts.{NoneDue}

-- Times from a moment on.

times_from : (low before : ℕ) (times : List ℕ) → low ≤ before → AreTimesFrom before times → AreTimesFrom low times
times_from low before [] earlier h = tt
times_from low before (t ∷ ts) earlier h = (omega (arith, earlier, h.0), h.1, h.2)

pub events_drop : (events : List LoaderEvent) → AreTimes (event_times events) → AreTimes (event_times (drop 1 events))
events_drop [] h = tt
events_drop (e ∷ es) h = times_from 0 e.time (event_times es) (omega arith) h.2

pub packets_drop : (packets : List Packet) → AreTimes (packet_times packets) → AreTimes (packet_times (drop 1 packets))
packets_drop [] h = tt
packets_drop (p ∷ ps) h = times_from 0 p.time (packet_times ps) (omega arith) h.2

-- The next time is one that a script can name.

first_time : (times : List ℕ) (time : ℕ) → AreTimes times → slice_get times 0 ≡ Some time → time < 2 ^ 32
first_time [] time h at = absurd (none-some time at)
first_time (t ∷ ts) time h at = subst (λ (n : ℕ). n < 2 ^ 32) (same_Some t time at) h.1

earlier_below : (o p : Option ℕ) (time limit : ℕ) → ((n : ℕ) → o ≡ Some n → n < limit) → ((n : ℕ) → p ≡ Some n → n < limit) → earlier o p ≡ Some time → time < limit
earlier_below None p time limit f g e = g time e
earlier_below (Some n) None time limit f g e = f time e
earlier_below (Some n) (Some m) time limit f g e = omega (arith, f n refl, same_Some _ time e)

lines_below : (packets : List Packet) (events : List LoaderEvent) (time : ℕ) → AreTimes (packet_times packets) → AreTimes (event_times events) → earlier (slice_get (packet_times packets) 0) (slice_get (event_times events) 0) ≡ Some time → time < 2 ^ 32
lines_below packets events time h g e =
    earlier_below (slice_get (packet_times packets) 0) (slice_get (event_times events) 0) time (2 ^ 32) (λ n at. first_time (packet_times packets) n h at)
    (λ n at. first_time (event_times events) n g at) e

-- Or it is the first timer's moment.
which_of : (o p : Option ℕ) (time : ℕ) → earlier o p ≡ Some time → (o ≡ Some time) ⊎ (p ≡ Some time)
which_of None p time e = inr e
which_of (Some n) None time e = inl e
which_of (Some n) (Some m) time e =
    elim (cases_Bool (nat_le n m)) [
      | inl first ↦ inl (ap Some (omega (arith, leb-true n m first, same_Some (min n m) time e)))
      | inr second ↦ inr (ap Some (omega (arith, leb-false n m second, same_Some (min n m) time e)))
    ]

-- what comes first is due then
pub first_moment : (times : List ℕ) (time : ℕ) → slice_get times 0 ≡ Some time → is_due times time ≡ true
first_moment [] time e = absurd (none-some time e)
first_moment (t ∷ ts) time e = le-leb t time (omega (arith, same_Some t time e))

pub next_below : (packets : List Packet) (events : List LoaderEvent) (timers : List Timer) (time : ℕ) → AreTimes (packet_times packets) → AreTimes (event_times events) → next_time packets events timers ≡ Some time → (time < 2 ^ 32) ⊎ (slice_get (timer_times timers) 0 ≡ Some time)
next_below packets events timers time h g e =
    elim (which_of (earlier (slice_get (packet_times packets) 0) (slice_get (event_times events) 0)) (slice_get (timer_times timers) 0) time e) [
      | inl line ↦ inl (lines_below packets events time h g line)
      | inr timer ↦ inr timer
    ]

-- What is due now, and what is later.

pub not_due : (times : List ℕ) (now : ℕ) → NoneDue times now → is_due times now ≡ false
not_due [] now h = refl
not_due (t ∷ ts) now h = lt-leb t now h

pub none_due : (times : List ℕ) (now : ℕ) → is_due times now ≡ false → NoneDue times now
none_due [] now h = tt
none_due (t ∷ ts) now h = leb-false t now h

pub first_due : (packets : List Packet) (now : ℕ) → is_due (packet_times packets) now ≡ true → (p : Packet) × (slice_get packets 0 ≡ Some p) × (nat_le p.time now ≡ true)
first_due [] now h = absurd (true≢false (sym h))
first_due (p ∷ ps) now h = (p, refl, h)

-- None of what comes at these times is due where the first of them, if there is one, is later.
later_first : (times : List ℕ) (now : ℕ) → ((time : ℕ) → slice_get times 0 ≡ Some time → now < time) → NoneDue times now
later_first [] now f = tt
later_first (t ∷ ts) now f = f t refl

first_later : (times : List ℕ) (now time : ℕ) → NoneDue times now → slice_get times 0 ≡ Some time → now < time
first_later [] now time h e = absurd (none-some time e)
first_later (t ∷ ts) now time h e = omega (arith, h, same_Some t time e)

both_later : (o p : Option ℕ) (now time : ℕ) → ((n : ℕ) → o ≡ Some n → now < n) → ((n : ℕ) → p ≡ Some n → now < n) → earlier o p ≡ Some time → now < time
both_later None p now time f g e = g time e
both_later (Some n) None now time f g e = f time e
both_later (Some n) (Some m) now time f g e = omega (arith, f n refl, g m refl, same_Some (min n m) time e)

-- Where the earlier of two times is later than now, both are.
abbrev AllLater : Option ℕ → ℕ → Type 0
AllLater o now = (n : ℕ) → o ≡ Some n → now < n

two_later : (o p : Option ℕ) (now : ℕ) → AllLater (earlier o p) now → AllLater o now × AllLater p now
two_later None p now f = (λ n at. absurd (none-some n at), f)
two_later (Some n) None now f = (f, λ n at. absurd (none-some n at))
two_later (Some n) (Some m) now f =
    let least = f (min n m) refl in (λ l at. omega (arith, least, same_Some n l at), λ l at. omega (arith, least, same_Some m l at))

-- where nothing is due now, the next time is later
pub next_later : (packets : List Packet) (events : List LoaderEvent) (timers : List Timer) (now time : ℕ) → NoneDue (packet_times packets) now → NoneDue (event_times events) now → NoneDue (timer_times timers) now → next_time packets events timers ≡ Some time → now < time
next_later packets events timers now time h g t e =
    both_later (earlier (slice_get (packet_times packets) 0) (slice_get (event_times events) 0)) (slice_get (timer_times timers) 0) now time
    (λ n at. both_later (slice_get (packet_times packets) 0) (slice_get (event_times events) 0) now n (λ m. first_later (packet_times packets) now m h) (λ m. first_later (event_times events) now m g) at)
    (λ n. first_later (timer_times timers) now n t) e

-- where the next time is later, nothing is due now
pub record NothingDue (ps : List Packet) (es : List LoaderEvent) (ts : List Timer) (now : ℕ) : Type 0 where
  pub packets : NoneDue (packet_times ps) now
  pub events : NoneDue (event_times es) now
  pub timers : NoneDue (timer_times ts) now

pub none_before : (packets : List Packet) (events : List LoaderEvent) (timers : List Timer) (now time : ℕ) → next_time packets events timers ≡ Some time → now < time → NothingDue packets events timers now
none_before packets events timers now time e later =
    let all = two_later (earlier (slice_get (packet_times packets) 0) (slice_get (event_times events) 0)) (slice_get (timer_times timers) 0) now
    (λ n at. omega (arith, later, same_Some n time (sym at ∙ e))) in
    let lines = two_later (slice_get (packet_times packets) 0) (slice_get (event_times events) 0) now all.0 in
    record {
      packets = later_first (packet_times packets) now lines.0;
      events = later_first (event_times events) now lines.1;
      timers = later_first (timer_times timers) now all.1;
    }

-- where there is no next time, nothing is to come
neither : (o p : Option ℕ) → earlier o p ≡ None → (o ≡ None) × (p ≡ None)
neither None p e = (refl, e)
neither (Some n) None e = absurd (none-some n (sym e))
neither (Some n) (Some m) e = absurd (none-some (min n m) (sym e))

no_packet : (packets : List Packet) → slice_get (packet_times packets) 0 ≡ None → packets ≡ []
no_packet [] e = refl
no_packet (p ∷ ps) e = absurd (none-some p.time (sym e))

no_event : (events : List LoaderEvent) → slice_get (event_times events) 0 ≡ None → events ≡ []
no_event [] e = refl
no_event (x ∷ xs) e = absurd (none-some x.time (sym e))

no_timer : (timers : List Timer) → slice_get (timer_times timers) 0 ≡ None → timers ≡ []
no_timer [] e = refl
no_timer (t ∷ ts) e = absurd (none-some t.due (sym e))

pub none_to_come : (packets : List Packet) (events : List LoaderEvent) (timers : List Timer) → next_time packets events timers ≡ None → (packets ≡ []) × (events ≡ []) × (timers ≡ [])
none_to_come packets events timers e =
    let all = neither (earlier (slice_get (packet_times packets) 0) (slice_get (event_times events) 0)) (slice_get (timer_times timers) 0) e in
    let lines = neither (slice_get (packet_times packets) 0) (slice_get (event_times events) 0) all.0 in
    (no_packet packets lines.0, no_event events lines.1, no_timer timers all.1)

-- the first timer is due
pub first_timer_due : (timers : List Timer) (now : ℕ) → is_due (timer_times timers) now ≡ true → (t : Timer) × (slice_get timers 0 ≡ Some t) × (t.due ≤ now)
first_timer_due [] now h = absurd (true≢false (sym h))
first_timer_due (t ∷ ts) now h = (t, refl, leb-true t.due now h)

-- At the next time a packet is due, or a timer, or an event.
pub due_then : (packets : List Packet) (events : List LoaderEvent) (timers : List Timer) (time : ℕ) → next_time packets events timers ≡ Some time → (is_due (packet_times packets) time || (is_due (timer_times timers) time || is_due (event_times events) time)) ≡ true
due_then packets events timers time e =
    elim (which_of (earlier (slice_get (packet_times packets) 0) (slice_get (event_times events) 0)) (slice_get (timer_times timers) 0) time e) [
      | inl line ↦
          elim (which_of (slice_get (packet_times packets) 0) (slice_get (event_times events) 0) time line) [
            | inl packet ↦
                or_left (is_due (packet_times packets) time) (is_due (timer_times timers) time || is_due (event_times events) time)
                (first_moment (packet_times packets) time packet)
            | inr event ↦
                or_right (is_due (packet_times packets) time) (is_due (timer_times timers) time || is_due (event_times events) time)
                (or_right (is_due (timer_times timers) time) (is_due (event_times events) time) (first_moment (event_times events) time event))
          ]
      | inr timer ↦
          or_right (is_due (packet_times packets) time) (is_due (timer_times timers) time || is_due (event_times events) time)
          (or_left (is_due (timer_times timers) time) (is_due (event_times events) time) (first_moment (timer_times timers) time timer))
    ]
