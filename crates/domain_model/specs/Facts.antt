-- What each choice of a turn says of the state, and that it is the choice of such a state.
use Rattle.std.specs.Prelude.{◌≡◌, ◌≢◌, ◌↔◌, ℕ, ◌<◌, ◌≤◌, ⊤, List, [], ◌∷◌, Some, None, slice_get}
use Rattle.domain_model.specs.declared.handler.Running.{Running}
use Rattle.domain_model.specs.declared.event.LoaderEvent.{LoaderEvent}
use Rattle.domain_model.specs.declared.event.Packet.{Packet}
use Rattle.domain_model.specs.declared.event.Choice.{Choice}
use Rattle.domain_model.specs.declared.event.Choice.TheVariants.{Stays, Hears, Fires, Comes, Dispatches, Jumps, Idles, Budgets, Watches, Acts}
use Rattle.domain_model.specs.declared.event.Turned.TheVariants.{More}
use Rattle.mote_base.specs.Messages.{front}
use Rattle.mote_base.specs.declared.timer.Timer.{Timer}
use Rattle.domain_model.specs.State.{Message, State}
use Rattle.domain_model.specs.Events.{packet_times, event_times, timer_times, next_time}
use Rattle.domain_model.specs.Turn.{choice}

-- None of what comes at these times is due now.
abbrev pub NoneDue : List ℕ → ℕ → Type 0
NoneDue [] now = ⊤
NoneDue (time ∷ times) now = now < time

-- No packet is due, and no timer.
pub record NoInterrupt (s : State) : Type 0 where
  pub packets : NoneDue (packet_times s.packets) s.kernel.clock
  pub timers : NoneDue (timer_times s.kernel.timers) s.kernel.clock

-- The first packet is due, in a handler or outside.
pub record IsHeard (s : State) : Type 0 where
  pub live : s.ended ≡ More
  pub packet : Packet
  pub first : slice_get s.packets 0 ≡ Some packet
  pub due : packet.time ≤ s.kernel.clock

-- No packet is due, and the first timer is, in a handler or outside.
pub record IsFiring (s : State) : Type 0 where
  pub live : s.ended ≡ More
  pub no_packet : NoneDue (packet_times s.packets) s.kernel.clock
  pub timer : Timer
  pub first : slice_get s.kernel.timers 0 ≡ Some timer
  pub due : timer.due ≤ s.kernel.clock

-- No packet and no timer is due, and outside a handler the first event is.
pub record IsDue (e : LoaderEvent) (s : State) : Type 0 where
  pub live : s.ended ≡ More
  pub no_interrupt : NoInterrupt s
  pub outside : s.kernel.running ≡ None
  pub first : slice_get s.events 0 ≡ Some e
  pub due : e.time ≤ s.kernel.clock

-- Outside a handler nothing is due, and a message waits.
pub record IsWaiting (s : State) : Type 0 where
  pub live : s.ended ≡ More
  pub outside : s.kernel.running ≡ None
  pub no_interrupt : NoInterrupt s
  pub none_due : NoneDue (event_times s.events) s.kernel.clock
  pub message : Message
  pub first : front s.kernel.queues ≡ Some message

-- Outside a handler no message waits, and the next line of the script or the next timer is due at a later time.
pub record IsLater (time : ℕ) (s : State) : Type 0 where
  pub live : s.ended ≡ More
  pub outside : s.kernel.running ≡ None
  pub none_waits : front s.kernel.queues ≡ None
  pub next : next_time s.packets s.events s.kernel.timers ≡ Some time
  pub later : s.kernel.clock < time

-- Outside a handler no message waits, no line of the script is to come, and no timer runs.
pub record IsIdle (s : State) : Type 0 where
  pub live : s.ended ≡ More
  pub outside : s.kernel.running ≡ None
  pub none_waits : front s.kernel.queues ≡ None
  pub none : (s.packets ≡ []) × (s.events ≡ []) × (s.kernel.timers ≡ [])

-- In a handler no packet and no timer is due, and the budget of units is spent.
pub record IsSpent (s : State) : Type 0 where
  pub live : s.ended ≡ More
  pub no_interrupt : NoInterrupt s
  pub run : Running
  pub running : s.kernel.running ≡ Some run
  pub total : s.total ≡ s.unit_limit

-- In a handler no packet and no timer is due, and there is budget left, but not for this handler.
pub record IsStruck (run : Running) (s : State) : Type 0 where
  pub live : s.ended ≡ More
  pub no_interrupt : NoInterrupt s
  pub running : s.kernel.running ≡ Some run
  pub total : s.total ≢ s.unit_limit
  pub spent : s.spent ≡ s.handler_limit

-- In a handler no packet and no timer is due, and there is budget left, also for this handler.
pub record IsActing (run : Running) (s : State) : Type 0 where
  pub live : s.ended ≡ More
  pub no_interrupt : NoInterrupt s
  pub running : s.kernel.running ≡ Some run
  pub total : s.total ≢ s.unit_limit
  pub spent : s.spent ≢ s.handler_limit

abbrev pub Facts : Choice → State → Type 0
Facts Stays s = s.ended ≢ More
Facts Hears s = IsHeard s
Facts Fires s = IsFiring s
Facts (Comes e) s = IsDue e s
Facts Dispatches s = IsWaiting s
Facts (Jumps time) s = IsLater time s
Facts Idles s = IsIdle s
Facts Budgets s = IsSpent s
Facts (Watches run) s = IsStruck run s
Facts (Acts run) s = IsActing run s

-- Which turn comes: that of which this is said of the state, and no other is said of it.
abbrev pub ChoicesAreFounded : Type 0
ChoicesAreFounded = (s : State) (c : Choice) → (choice s ≡ c) ↔ Facts c s
