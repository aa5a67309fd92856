-- How many turns may still come: it falls with each turn, so every run ends.
use Rattle.std.specs.Prelude.{ℕ, ◌+◌, ◌-◌, ◌*◌, ◌&&◌, ◌||◌, not, nat_lt, nat_le, List, length, filter, Bool, true, false, is_some}
use Rattle.domain_model.specs.declared.event.Turned.{Turned}
use Rattle.domain_model.specs.declared.event.Turned.TheVariants.{More, EndIdle, EndBudget}
use Rattle.mote_base.specs.Messages.{front, in_order}
use Rattle.mote_base.specs.declared.timer.Timer.{Timer}
use Rattle.domain_model.specs.Events.{packet_times, event_times, timer_times, is_due}
use Rattle.domain_model.specs.State.{State}

abbrev pub one_if : Bool → ℕ
one_if true = 1
one_if false = 0

-- how many of the timers are due
abbrev pub due_count : ℕ → List Timer → ℕ
due_count now timers = length (filter (λ (t : Timer). nat_le t.due now) timers)

-- A packet, a timer or an event for the loader is due.
abbrev pub any_due : State → Bool
any_due s =
    is_due (packet_times s.packets) s.kernel.clock
    || (is_due (timer_times s.kernel.timers) s.kernel.clock || is_due (event_times s.events) s.kernel.clock)

-- No handler runs, no message waits and nothing is due: the clock has still to jump.
abbrev pub is_quiet : State → Bool
is_quiet s = not (is_some s.kernel.running) && (not (is_some (front s.kernel.queues)) && not (any_due s))

-- A handler runs that has run a unit.
abbrev pub has_run : State → Bool
has_run s = is_some s.kernel.running && nat_lt 0 s.spent

abbrev pub goes_on : Turned → Bool
goes_on More = true
goes_on EndIdle = false
goes_on EndBudget = false

-- A message pays for the start of its handler, and a timer that is due for its message too. At most sixteen timers are
-- due after a jump of the clock, so it costs 33; the end of a handler, behind which the clock may jump, 34; a line of
-- the script, for its message and the jump behind it, 35; and a unit 68, for itself, its message, all timers, and the
-- end of its handler.
unfoldable pub remaining : State → ℕ
remaining s =
    68 * (s.unit_limit - s.total) + 35 * length s.packets + 35 * length s.events + 2 * due_count s.kernel.clock s.kernel.timers
    + length (in_order s.kernel.queues) + 33 * one_if (is_quiet s) + 34 * one_if (has_run s) + one_if (goes_on s.ended)
