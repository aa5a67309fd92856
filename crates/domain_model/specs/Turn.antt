-- Turns and runs.
use Rattle.std.specs.Prelude.{◌≡◌, ◌≢◌, ℕ, ◌+◌, ◌==◌, ◌||◌, nat_le, not, List, [], ◌∷◌, ◌++◌, length, drop, Bool, true, false, Option, Some, None, Ok, Err, slice_get, slice_set, ⊤}
use Rattle.mote_layout.specs.Memory.{heap_end, stack_top, kernel}
use Rattle.mote_base.specs.Messages.{front, in_order, without_front, unnamed}
use Rattle.mote_base.specs.Timers.{without_module}
use Rattle.mote_layout.specs.Blocks.{without_owner}
use Rattle.unit_code.specs.declared.unit.Unit.{Unit}
use Rattle.domain_model.specs.declared.handler.Running.{Running}
use Rattle.domain_model.specs.declared.event.LoaderEvent.{LoaderEvent}
use Rattle.domain_model.specs.declared.event.Packet.{Packet}
use Rattle.domain_model.specs.declared.event.LoaderOrder.{LoaderOrder}
use Rattle.domain_model.specs.declared.event.LoaderOrder.TheVariants as what
use Rattle.domain_model.specs.declared.event.Choice.{Choice}
use Rattle.domain_model.specs.declared.event.Choice.TheVariants.{Stays, Hears, Fires, Comes, Dispatches, Jumps, Idles, Budgets, Watches, Acts}
use Rattle.domain_model.specs.declared.event.Turned.{Turned}
use Rattle.domain_model.specs.declared.event.Turned.TheVariants.{More, EndIdle, EndBudget}
use Rattle.domain_model.specs.declared.fault.FaultNote.{FaultNote}
use Rattle.domain_model.specs.declared.fault.Rule.TheVariants as rule
use Rattle.domain_model.specs.declared.fault.UnitEnd.{UnitEnd}
use Rattle.domain_model.specs.declared.fault.UnitEnd.TheVariants.{On, Over, Fault}
use Rattle.domain_model.specs.declared.line.TraceLine.{TraceLine}
use Rattle.domain_model.specs.declared.line.TraceLine.TheVariants as line
use Rattle.domain_model.specs.declared.refusal.Refusal.{Refusal}
use Rattle.domain_model.specs.Prepared.{Module, Prep, refusal_number, refusal_kind, refusal_value, refusal_detail}
use Rattle.domain_model.specs.State.{Message, Loaded, KernelState, RunnerState, State, Input, start, dispatched}
use Rattle.domain_model.specs.Events.{packet_times, timer_times, is_due, next_time}
use Rattle.domain_model.specs.Payloads.{load_of, kept_at, without_load, without_payloads}
use Rattle.domain_model.specs.Radio.{Hearing, heard}
use Rattle.domain_model.specs.Firing.{fired}
use Rattle.domain_model.specs.Dump.{dumped}
use Rattle.domain_model.specs.Modules.{id_at, constants_at, is_loaded, module_named, free_domain, without_domain}
use Rattle.domain_model.specs.Given.{Given, given, nothing_given, filled_with, with_given}
use Rattle.domain_model.specs.Act.{Acted}
use Rattle.domain_model.specs.Free.{SameState, UnitStep, is_kernel_byte}

-- The kernel's part of a turn.

-- The state block of a module; none where it asks for no byte.
abbrev pub state_where : Bool → KernelState → ℕ → ℕ → Option Given
state_where true k domain size = Some (nothing_given k)
state_where false k domain size = given k domain size

abbrev pub state_block : KernelState → ℕ → ℕ → Option Given
state_block k domain size = state_where (size == 0) k domain size

-- The block of a module's constants: it is the kernel's, and has zeros behind them. A module without constants has
-- none.
abbrev pub constants_given : Option Given → List ℕ → Option Given
constants_given None constants = None
constants_given (Some g) constants = Some (filled_with constants g)

abbrev pub constants_where : Bool → KernelState → List ℕ → Option Given
constants_where true k constants = Some (nothing_given k)
constants_where false k constants = constants_given (given k kernel (length constants)) constants

abbrev pub constants_block : KernelState → List ℕ → Option Given
constants_block k constants = constants_where (length constants == 0) k constants

-- the module is in, with what was given to it
abbrev pub admitted : KernelState → Loaded → Given → KernelState
admitted k m g = record (with_given k g) { modules = k.modules ++ m ∷ [] }

-- the handler of the module in a domain, with its state block and its constants at these addresses, starts with a
-- message
abbrev pub begun : KernelState → ℕ → ℕ → ℕ → Message → KernelState
begun k domain state constants m =
    record k {
      processor = dispatched k.processor state constants m;
      running = Some (record { domain = domain; base = stack_top; bound = stack_top });
      hand = Some m;
    }

-- The handler is over, with all its calls. The payload in hand that was not taken is free.
abbrev pub handler_ended : KernelState → KernelState
handler_ended k = record k { running = None; frames = []; hand = None; blocks = without_load (load_of k.hand) k.blocks }

-- The module with an id in a domain is out: its row, the block of its constants, every block of its domain, every
-- message from or to it with its payload, and its timers.
abbrev pub purged : KernelState → ℕ → ℕ → KernelState
purged k id domain =
    record k {
      modules = without_domain domain k.modules;
      blocks = without_owner domain (without_payloads id (in_order k.queues)
          (without_load (kept_at (constants_at k.modules domain)) k.blocks));
      queues = unnamed id k.queues;
      timers = without_module id k.timers;
    }

abbrev pub at_clock : KernelState → ℕ → KernelState
at_clock k now = record k { clock = now }

-- The runner's part of a turn.

-- other units stand in a domain
abbrev pub placed : RunnerState → ℕ → List Unit → RunnerState
placed r domain units = record r { banks = slice_set r.banks domain units }

-- no units stand there
abbrev pub emptied : RunnerState → ℕ → RunnerState
emptied r domain = placed r domain []

-- another unit is next
abbrev pub entered : RunnerState → ℕ → RunnerState
entered r unit = record r { unit = unit }

-- Which turn comes next: the first of these that applies.

-- Outside a handler: an event that is due for the loader; else the first message; else the clock jumps to the next line
-- of the script or to the next timer's moment; else the run ends.
abbrev pub choose_time : Option ℕ → Choice
choose_time (Some time) = Jumps time
choose_time None = Idles

abbrev pub choose_message : Option Message → State → Choice
choose_message (Some m) s = Dispatches
choose_message None s = choose_time (next_time s.packets s.events s.kernel.timers)

abbrev pub choose_event : Bool → LoaderEvent → State → Choice
choose_event true e s = Comes e
choose_event false e s = choose_message (front s.kernel.queues) s

abbrev pub choose_outside : List LoaderEvent → State → Choice
choose_outside [] s = choose_message (front s.kernel.queues) s
choose_outside (e ∷ es) s = choose_event (nat_le e.time s.kernel.clock) e s

-- In a handler: the run ends where its budget is spent; else the watchdog strikes where the handler's is;
-- else a unit runs.
abbrev pub choose_unit : Bool → Running → Choice
choose_unit true run = Watches run
choose_unit false run = Acts run

abbrev pub choose_inside : Bool → Running → State → Choice
choose_inside true run s = Budgets
choose_inside false run s = choose_unit (s.spent == s.handler_limit) run

abbrev pub choose_running : Option Running → State → Choice
choose_running None s = choose_outside s.events s
choose_running (Some run) s = choose_inside (s.total == s.unit_limit) run s

-- A packet that is due comes before all else, and then a timer that is, in a handler too.
abbrev pub choose_timer : Bool → State → Choice
choose_timer true s = Fires
choose_timer false s = choose_running s.kernel.running s

abbrev pub choose_packet : Bool → State → Choice
choose_packet true s = Hears
choose_packet false s = choose_timer (is_due (timer_times s.kernel.timers) s.kernel.clock) s

abbrev pub choose_ended : Turned → State → Choice
choose_ended More s = choose_packet (is_due (packet_times s.packets) s.kernel.clock) s
choose_ended EndIdle s = Stays
choose_ended EndBudget s = Stays

abbrev pub choice : State → Choice
choice s = choose_ended s.ended s

-- What a turn makes of kernel and runner, and the lines that it writes.
pub record Moved : Type 0 where
  pub kernel : KernelState
  pub runner : RunnerState
  pub lines : List TraceLine

-- nothing but the line of a refused load
abbrev pub refused_by : ℕ → ℕ → ℕ → ℕ → ℕ → KernelState → RunnerState → Moved
refused_by number kind value detail image k r =
    record { kernel = k; runner = r; lines = line.Refused k.clock image number kind value detail ∷ [] }

abbrev pub refused : ℕ → ℕ → KernelState → RunnerState → Moved
refused number image k r = refused_by number 0 0 0 image k r

abbrev pub refused_file : Refusal → ℕ → KernelState → RunnerState → Moved
refused_file refusal image k r =
    refused_by (refusal_number refusal) (refusal_kind refusal) (refusal_value refusal) (refusal_detail refusal) image k r

-- The kernel's own messages: short ones from sender 0. INIT, type 0, starts a module; FINAL, type 1, is its last.
abbrev pub kernel_message : ℕ → ℕ → Message
kernel_message id sort =
    record { to = id; from = 0; sort = sort; byte = 0; word = 0; long = false; len = 0; load = None; high = false }

abbrev pub init_to : ℕ → Message
init_to id = kernel_message id 0

abbrev pub final_to : ℕ → Message
final_to id = kernel_message id 1

-- The module in a domain, with its state at an address and its constants where they were given. What was given last has
-- both blocks.
abbrev pub seated : Module → ℕ → ℕ → Given → Loaded
seated m domain state g =
    record {
      face = m.face;
      domain = domain;
      state = state;
      constants = g.address;
      handler = m.handler;
      entries = m.entries;
      sealed = m.sealed;
    }

-- the module is loaded, and its handler starts at once
abbrev pub loaded : Module → ℕ → ℕ → Given → KernelState → RunnerState → Moved
loaded m domain state g k r =
    record {
      kernel = begun (admitted k (seated m domain state g) g) domain state g.address (init_to m.face.id);
      runner = entered (placed r domain m.units) m.handler;
      lines = line.Load k.clock m.face.id domain state ∷ line.Run k.clock m.face.id 0 0 ∷ [];
    }

-- A file that holds no module is refused as 1 where it is no image, as 2 where its code has no units, and as 3 where a
-- rewriter's words spell none. Else a load is refused as 4 where a module with the id is loaded, else as 5 where no
-- domain is free, else as 6 where no run of blocks is long enough for the state, or none beside it for the constants:
-- then neither is given.
abbrev pub load_beside : Option Given → ℕ → Module → ℕ → ℕ → KernelState → RunnerState → Moved
load_beside None state m domain image k r = refused 6 image k r
load_beside (Some g) state m domain image k r = loaded m domain state g k r

abbrev pub load_given : Option Given → Module → ℕ → ℕ → KernelState → RunnerState → Moved
load_given None m domain image k r = refused 6 image k r
load_given (Some g) m domain image k r =
    load_beside (constants_block (with_given k g) m.constants) g.address m domain image k r

abbrev pub load_in : Option ℕ → Module → ℕ → KernelState → RunnerState → Moved
load_in None m image k r = refused 5 image k r
load_in (Some domain) m image k r = load_given (state_block k domain m.state_size) m domain image k r

abbrev pub load_new : Bool → Module → ℕ → KernelState → RunnerState → Moved
load_new true m image k r = refused 4 image k r
load_new false m image k r = load_in (free_domain k.modules) m image k r

abbrev pub load_prepared : Prep → ℕ → KernelState → RunnerState → Moved
load_prepared (Err refusal) image k r = refused_file refusal image k r
load_prepared (Ok m) image k r = load_new (is_loaded k.modules m.face.id) m image k r

-- A script names no image that there isn't.
abbrev pub load_image : Option Prep → ℕ → KernelState → RunnerState → Moved
load_image None image k r = record { kernel = k; runner = r; lines = [] }
load_image (Some prep) image k r = load_prepared prep image k r

-- An unload of an id that no module has writes so. Else FINAL is dispatched, with the module as the one that ends.
abbrev pub unload_module : Option Loaded → ℕ → KernelState → RunnerState → Moved
unload_module None id k r = record { kernel = k; runner = r; lines = line.Absent k.clock id ∷ [] }
unload_module (Some m) id k r =
    record {
      kernel = record (begun k m.domain m.state m.constants (final_to id)) { ending = Some id };
      runner = entered r m.handler;
      lines = line.Run k.clock id 1 0 ∷ [];
    }

-- A dump prints the state and changes nothing.
abbrev pub came : List Prep → LoaderOrder → KernelState → RunnerState → Moved
came images (what.Load n) k r = load_image (slice_get images n) n k r
came images (what.Unload id) k r = unload_module (module_named k.modules id) id k r
came images what.Dump k r = record { kernel = k; runner = r; lines = dumped k }

-- The first packet comes, or the first timer fires. The runner stays where it is.
abbrev pub moved_by : Hearing → RunnerState → Moved
moved_by h r = record { kernel = h.kernel; runner = r; lines = h.lines }

abbrev pub hear : Option Packet → KernelState → RunnerState → Moved
hear None k r = record { kernel = k; runner = r; lines = [] }
hear (Some p) k r = moved_by (heard p k) r

-- The first message is dispatched to its receiver. In a state that a run reaches it is loaded.
abbrev pub deliver : Option Loaded → Message → KernelState → RunnerState → Moved
deliver None m k r = record { kernel = k; runner = r; lines = [] }
deliver (Some receiver) m k r =
    record {
      kernel = begun (record k { queues = without_front k.queues }) receiver.domain receiver.state receiver.constants m;
      runner = entered r receiver.handler;
      lines = line.Run k.clock receiver.face.id m.sort m.from ∷ [];
    }

abbrev pub dispatch : Option Message → KernelState → RunnerState → Moved
dispatch None k r = record { kernel = k; runner = r; lines = [] }
dispatch (Some m) k r = deliver (module_named k.modules m.to) m k r

-- At the end of a handler the module that ends is purged, where it is still loaded.
abbrev pub with_none_ending : KernelState → KernelState
with_none_ending k = record k { ending = None }

abbrev pub close_module : Option Loaded → KernelState → RunnerState → List TraceLine → Moved
close_module None k r lines = record { kernel = with_none_ending k; runner = r; lines = lines }
close_module (Some m) k r lines =
    record {
      kernel = with_none_ending (purged k m.face.id m.domain);
      runner = emptied r m.domain;
      lines = lines ++ line.Unload k.clock m.face.id ∷ [];
    }

abbrev pub close : Option ℕ → KernelState → RunnerState → List TraceLine → Moved
close None k r lines = record { kernel = k; runner = r; lines = lines }
close (Some id) k r lines = close_module (module_named k.modules id) k r lines

-- A handler that faults is over, and the module that ran is purged; its callers stay.
abbrev pub faulted : FaultNote → Running → KernelState → RunnerState → List TraceLine → Moved
faulted note run k r lines =
    close k.ending (purged (handler_ended k) (id_at k.modules run.domain) run.domain) (emptied r run.domain) (lines
    ++ line.Fault k.clock note.rule (id_at k.modules run.domain) r.unit note.address
    ∷ line.Unload k.clock (id_at k.modules run.domain) ∷ [])

-- After a unit, by its end.
abbrev pub settled : UnitEnd → Running → KernelState → RunnerState → List TraceLine → Moved
settled On run k r lines = record { kernel = k; runner = r; lines = lines }
settled Over run k r lines =
    close k.ending (handler_ended k) r (lines ++ line.Done k.clock (id_at k.modules run.domain) ∷ [])
settled (Fault note) run k r lines = faulted note run k r lines

-- The state after a turn, and its lines.
pub record Made : Type 0 where
  pub state : State
  pub lines : List TraceLine

abbrev pub made_of : State → Moved → Made
made_of s m = record { state = record s { kernel = m.kernel; runner = m.runner }; lines = m.lines }

-- a unit ran: the clock and the counts of units rise by one
abbrev pub counted : State → Moved → Made
counted s m =
    record {
      state = record s {
        kernel = at_clock m.kernel (m.kernel.clock + 1);
        runner = m.runner;
        total = s.total + 1;
        spent = s.spent + 1;
      };
      lines = m.lines;
    }

-- the watchdog's fault
abbrev pub watchdog : State → FaultNote
watchdog s = record { rule = rule.Watchdog; address = s.kernel.processor.sp }

-- What each turn makes of the state. The last argument is what the unit does, where one runs.
abbrev pub made : Choice → State → Acted → Made
made Stays s got = record { state = s; lines = [] }
made Hears s got = made_of (record s { packets = drop 1 s.packets }) (hear (slice_get s.packets 0) s.kernel s.runner)
made Fires s got = made_of s (moved_by (fired s.kernel) s.runner)
made (Comes e) s got =
    made_of (record s { events = drop 1 s.events; spent = 0 }) (came s.images e.what s.kernel s.runner)
made Dispatches s got =
    made_of (record s { spent = 0 }) (dispatch (front s.kernel.queues) s.kernel s.runner)
made (Jumps now) s got = record { state = record s { kernel = at_clock s.kernel now }; lines = [] }
made Idles s got = record { state = record s { ended = EndIdle }; lines = line.EndIdle s.kernel.clock ∷ [] }
made Budgets s got = record { state = record s { ended = EndBudget }; lines = line.EndBudget s.kernel.clock ∷ [] }
made (Watches run) s got = made_of s (faulted (watchdog s) run s.kernel s.runner [])
made (Acts run) s got = counted s (settled got.ending run got.kernel got.runner got.lines)

-- What the turn leaves open: a unit what its step does; a turn of an ended run nothing; every other turn is
-- an entry of the kernel, and leaves the kernel's bytes.
abbrev pub May : Choice → State → Acted → Type 0
May Stays s got = ⊤
May Hears s got = ⊤
May Fires s got = ⊤
May (Comes e) s got = ⊤
May Dispatches s got = ⊤
May (Jumps now) s got = ⊤
May Idles s got = ⊤
May Budgets s got = ⊤
May (Watches run) s got = ⊤
May (Acts run) s got = UnitStep s.kernel s.runner got

abbrev pub Leaves : Choice → State → State → Type 0
Leaves Stays want t = t ≡ want
Leaves Hears want t = SameState is_kernel_byte want t
Leaves Fires want t = SameState is_kernel_byte want t
Leaves (Comes e) want t = SameState is_kernel_byte want t
Leaves Dispatches want t = SameState is_kernel_byte want t
Leaves (Jumps now) want t = SameState is_kernel_byte want t
Leaves Idles want t = SameState is_kernel_byte want t
Leaves Budgets want t = SameState is_kernel_byte want t
Leaves (Watches run) want t = SameState is_kernel_byte want t
Leaves (Acts run) want t = t ≡ want

-- A turn may lead from s to t and write these lines.
pub record Turn (s t : State) (lines : List TraceLine) : Type 0 where
  pub got : Acted
  pub may : May (choice s) s got
  pub to : Leaves (choice s) (made (choice s) s got).state t
  pub tells : lines ≡ (made (choice s) s got).lines

-- Turns one after the other, to an end. Each meets the relation.
pub data RunBy (T : State → State → List TraceLine → Type 0) : State → List TraceLine → Type 0 where
  over : {s : State} → s.ended ≢ More → RunBy T s []
  more : {s : State} (t : State) (lines rest : List TraceLine) → s.ended ≡ More → T s t lines → RunBy T t rest → RunBy T s (lines ++ rest)

abbrev pub RunFrom : State → List TraceLine → Type 0
RunFrom s lines = RunBy Turn s lines

-- A run may begin in a state that is `start` but for the bytes of which nothing is said: the kernel's bytes,
-- the red zone and the stack.
abbrev pub is_unstated : ℕ → Bool
is_unstated address = is_kernel_byte address || not (nat_le address heap_end)

pub record IsStart (i : Input) (s : State) : Type 0 where
  pub same : SameState is_unstated (start i) s

-- The lines of a run of an input.
pub record Run (i : Input) (lines : List TraceLine) : Type 0 where
  pub first : State
  pub begins : IsStart i first
  pub turns : RunFrom first lines
