use Rattle.std.proofs.Common.{◌≡◌, ◌<◌, ◌≤◌, ◌+◌, length, ◌++◌, drop, map}
use Rattle.mote_base.specs.Timers.{timer_limit}
use Rattle.domain_model.specs.Dump.{timer_line}
use Rattle.kernel_call.proofs.dump.dump_timers.Given as goal

-- with the lines of the timers still to come these are all, and the first look tells that the timers are few
abbrev pub invariant-loop-place : goal.invariant-loop-place
invariant-loop-place l =
    (l.lines ++ map timer_line (drop l.place l.timers) ≡ l.fn.lines ++ map timer_line l.timers) × (length l.lines ≤ length l.fn.lines + l.place)
    × (0 < l.place → length l.timers ≤ timer_limit)
