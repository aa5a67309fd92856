-- Timers that fire.
use Rattle.std.specs.Prelude.{ℕ, nat_lt, [], ◌∷◌, length, Bool, true, false, Option, Some, None}
use Rattle.mote_base.specs.Messages.{appended, queue_limit}
use Rattle.mote_base.specs.Timers.{firing, after_firing}
use Rattle.mote_base.specs.declared.timer.Timer.{Timer}
use Rattle.domain_model.specs.declared.line.Why.TheVariants as why
use Rattle.domain_model.specs.declared.line.TraceLine.TheVariants as line
use Rattle.domain_model.specs.State.{Message, KernelState}
use Rattle.domain_model.specs.Radio.{Hearing}

-- the type of the messages of timers
abbrev pub reminder_sort : ℕ
reminder_sort = 2

-- The short message that a timer sends to its module, from sender 0 and by the high queue. Its byte is the timer's id.
abbrev pub reminder : Timer → Message
reminder t =
    record { to = t.«module»; from = 0; sort = reminder_sort; byte = t.id; word = 0; long = false; len = 0; load = None; high = true }

-- The first timer starts anew where it repeats, and is gone where it doesn't.
abbrev pub without_fired : KernelState → KernelState
without_fired k = record k { timers = after_firing k.clock k.timers }

-- Its message waits, where its queue has room; else it is dropped.
abbrev pub fired_where : Bool → Timer → KernelState → Hearing
fired_where true t k =
    record {
      kernel = record (without_fired k) { queues = appended true (reminder t) k.queues };
      lines = line.Queued k.clock t.«module» reminder_sort ∷ [];
    }
fired_where false t k =
    record { kernel = without_fired k; lines = line.Dropped k.clock why.Queue t.«module» reminder_sort ∷ [] }

abbrev pub fired_by : Option Timer → KernelState → Hearing
fired_by None k = record { kernel = k; lines = [] }
fired_by (Some t) k = fired_where (nat_lt (length k.queues.high) queue_limit) t k

-- The first timer fires, where it is due.
abbrev pub fired : KernelState → Hearing
fired k = fired_by (firing k.clock k.timers) k
