-- What a kernel keeps of itself, so that its calls need no more than that a handler runs, or that none does. It says
-- nothing of the processor's values.
use Rattle.std.specs.Prelude.{⊤, ◌≡◌, ℕ, ◌^◌, ◌<◌, ◌≤◌, List, [], Option, None, Some, true}
use Rattle.std.specs.List.{AllByRecursion}
use Rattle.mote_layout.specs.Memory.{domain_count, stack_top}
use Rattle.mote_base.specs.Messages.{Lists}
use Rattle.mote_base.specs.declared.frame.Frame.{Frame}
use Rattle.mote_base.specs.declared.timer.Timer.{Timer}
use Rattle.domain_model.specs.declared.handler.Running.{Running}
use Rattle.mote_layout.specs.Parcels.{Payload}
use Rattle.domain_model.specs.State.{Loaded, Message, payload_address}
use Rattle.domain_model.specs.Modules.{constants_at, in_use, is_loaded}
use Rattle.domain_model.specs.Good.{AreDistinct}
use Rattle.kernel_call.specs.Mail.{kept_for}

-- the last moment that a clock is set to
abbrev pub last_moment : ℕ
last_moment = 2 ^ 62

-- Each module is in a domain that there is, and no two share an id or a domain.
pub record AreSeated (modules : List Loaded) : Type 0 where
  pub domains : AllByRecursion (λ m. m.domain < domain_count) modules
  pub distinct : AreDistinct modules

-- The receiver of each message is loaded.
abbrev pub AreReceived : List Loaded → List Message → Type 0
AreReceived modules messages = AllByRecursion (λ m. is_loaded modules m.to ≡ true) messages

-- The module of each timer is loaded.
abbrev pub AreRemindable : List Loaded → List Timer → Type 0
AreRemindable modules timers = AllByRecursion (λ t. is_loaded modules t.«module» ≡ true) timers

-- What runs is in a domain that there is, its base lies on the stack, and its module is loaded.
abbrev pub IsRow : List Loaded → Option Running → Type 0
IsRow modules None = ⊤
IsRow modules (Some run) = (run.domain < domain_count) × (run.base ≤ stack_top) × (in_use modules run.domain ≡ true)

-- and so is each caller
abbrev pub AreRows : List Loaded → List Frame → Type 0
AreRows modules frames =
    AllByRecursion (λ f. (f.domain < domain_count) × (f.base ≤ stack_top) × (in_use modules f.domain ≡ true)) frames

-- What is kept for each domain are the constants of the module in it.
abbrev pub AreKept : List Loaded → List (Option Payload) → Type 0
AreKept modules kept = (domain : ℕ) → payload_address (kept_for kept domain) ≡ constants_at modules domain

-- Outside a handler no call waits, no message is in hand, and no module ends.
pub record IsSound (now : ℕ) (run : Option Running) (calls : List Frame) (message : Option Message) (last : Option ℕ) (modules : List Loaded) (queues : Lists Message) (kept : List (Option Payload)) (timers : List Timer) : Type 0 where
  pub clock : now ≤ last_moment
  pub running : IsRow modules run
  pub callers : AreRows modules calls
  pub outside : run ≡ None → (calls ≡ []) × (message ≡ None) × (last ≡ None)
  pub high : AreReceived modules queues.high
  pub low : AreReceived modules queues.low
  pub constants : AreKept modules kept
  pub owners : AreRemindable modules timers
