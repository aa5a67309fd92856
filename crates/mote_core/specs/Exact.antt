-- Turns of a mote, in the values of its own runner. Of all else the machine says what a turn makes.
use Rattle.std.specs.Prelude.{ℕ, List, Option, Some, None, Result, Ok, Err, slice_get}
use Rattle.mote_base.specs.Messages.{front}
use Rattle.unit_code.specs.Listing.{BankListing}
use Rattle.domain_model.specs.declared.event.Choice.{Choice}
use Rattle.domain_model.specs.declared.event.Choice.TheVariants.{Stays, Hears, Fires, Comes, Dispatches, Jumps, Idles, Budgets, Watches, Acts}
use Rattle.domain_model.specs.declared.event.LoaderOrder.{LoaderOrder}
use Rattle.domain_model.specs.declared.event.LoaderOrder.TheVariants as what
use Rattle.domain_model.specs.declared.event.Turned.TheVariants.{More}
use Rattle.domain_model.specs.declared.fault.UnitEnd.{UnitEnd}
use Rattle.domain_model.specs.declared.fault.UnitEnd.TheVariants.{On, Over, Fault}
use Rattle.domain_model.specs.declared.handler.Running.{Running}
use Rattle.domain_model.specs.declared.line.TraceLine.{TraceLine}
use Rattle.domain_model.specs.declared.script.Event.{Event}
use Rattle.domain_model.specs.Events.{loader_events, packets_in}
use Rattle.domain_model.specs.Modules.{module_named, without_domain}
use Rattle.domain_model.specs.Runners.{ActedBy}
use Rattle.domain_model.specs.State.{KernelState, Loaded, Message, RunnerState, State, no_kernel}
use Rattle.domain_model.specs.Turn.{choice}
use Rattle.mod_loader.specs.declared.refusal.LoadRefusal.{LoadRefusal}
use Rattle.mod_loader.specs.Banks.{Banked, Readied, code_of}
use Rattle.mod_loader.specs.Loads.{loading}
use Rattle.mote_core.specs.declared.limits.Limits.{Limits}
use Rattle.mote_core.specs.Value.{MoteValue, made_by, state_of}

-- How a runner of the type R works: what the machine sees of it, what its next unit does to the kernel and to it, and
-- what it is with the code of a module put into a domain, with the code of a domain taken out, and with a unit of a
-- domain next.
pub record Workings (R : Type 0) : Type 0 where
  pub part : R → RunnerState
  pub acts : KernelState → R → ActedBy R
  pub placed_by : R → ℕ → BankListing → R
  pub cleared_by : R → ℕ → R
  pub entered_by : R → ℕ → ℕ → R

-- The runner behind each turn, by those of its workings that the turn takes.

-- the handler of a module is next, where there is the module
abbrev pub handler_entered : {R : Type 0} → (R → ℕ → ℕ → R) → Option Loaded → R → R
handler_entered enter None r = r
handler_entered enter (Some m) r = enter r m.domain m.handler

-- A message is dispatched: its receiver's handler is next.
abbrev pub dispatched_by : {R : Type 0} → (R → ℕ → ℕ → R) → Option Message → KernelState → R → R
dispatched_by enter None k r = r
dispatched_by enter (Some m) k r = handler_entered enter (module_named k.modules m.to) r

-- A load, by how it is answered: the code stands in the domain of the module, and its handler is next. One that is
-- refused leaves the runner as it is, and so does one of an image that holds no module, and of none.
abbrev pub loaded_into : {R : Type 0} → (R → ℕ → BankListing → R) → (R → ℕ → ℕ → R) → Result ℕ LoadRefusal → Banked → R → R
loaded_into place enter (Ok domain) b r = enter (place r domain (code_of b)) domain b.loadable.handler
loaded_into place enter (Err refusal) b r = r

abbrev pub loaded_by : {R : Type 0} → (R → ℕ → BankListing → R) → (R → ℕ → ℕ → R) → Option Readied → KernelState → R → R
loaded_by place enter None k r = r
loaded_by place enter (Some (Err refusal)) k r = r
loaded_by place enter (Some (Ok b)) k r = loaded_into place enter (loading (Ok b) k).answer b r

-- An event of the script comes. An unload enters the handler of the module for its last message.
abbrev pub came_by : {R : Type 0} → (R → ℕ → BankListing → R) → (R → ℕ → ℕ → R) → List Readied → LoaderOrder → KernelState → R → R
came_by place enter images (what.Load n) k r = loaded_by place enter (slice_get images n) k r
came_by place enter images (what.Unload id) k r = handler_entered enter (module_named k.modules id) r
came_by place enter images what.Dump k r = r

-- A handler is over, among these modules: the code of the one that ends is taken out, where it is still loaded.
abbrev pub module_cleared : {R : Type 0} → (R → ℕ → R) → Option Loaded → R → R
module_cleared clear None r = r
module_cleared clear (Some m) r = clear r m.domain

abbrev pub closed_by : {R : Type 0} → (R → ℕ → R) → Option ℕ → List Loaded → R → R
closed_by clear None modules r = r
closed_by clear (Some id) modules r = module_cleared clear (module_named modules id) r

-- A fault takes the code of the running domain out first.
abbrev pub faulted_by : {R : Type 0} → (R → ℕ → R) → Running → KernelState → R → R
faulted_by clear run k r = closed_by clear k.ending (without_domain run.domain k.modules) (clear r run.domain)

-- After a unit, by its end.
abbrev pub settled_by : {R : Type 0} → (R → ℕ → R) → UnitEnd → Running → KernelState → R → R
settled_by clear On run k r = r
settled_by clear Over run k r = closed_by clear k.ending k.modules r
settled_by clear (Fault note) run k r = faulted_by clear run k r

-- and behind the unit, with what its end asks for
abbrev pub ran_by : {R : Type 0} → (R → ℕ → R) → Running → ActedBy R → R
ran_by clear run got = settled_by clear got.ending run got.kernel got.runner

-- The runner behind a turn.
abbrev pub runner_after : {R : Type 0} → Workings R → Choice → MoteValue R → R
runner_after w Stays m = m.runner
runner_after w Hears m = m.runner
runner_after w Fires m = m.runner
runner_after w (Comes e) m = came_by w.placed_by w.entered_by m.images e.what m.kernel m.runner
runner_after w Dispatches m = dispatched_by w.entered_by (front m.kernel.queues) m.kernel m.runner
runner_after w (Jumps now) m = m.runner
runner_after w Idles m = m.runner
runner_after w Budgets m = m.runner
runner_after w (Watches run) m = faulted_by w.cleared_by run m.kernel m.runner
runner_after w (Acts run) m = ran_by w.cleared_by run (w.acts m.kernel m.runner)

-- The mote with this runner, and in all else that a turn may change as in a state of the machine. Its images and its
-- limits stay.
abbrev pub moved_to : {R : Type 0} → State → R → MoteValue R → MoteValue R
moved_to s r m =
    record m {
      kernel = s.kernel;
      runner = r;
      packets = s.packets;
      events = s.events;
      total = s.total;
      spent = s.spent;
      ended = s.ended;
    }

-- A mote behind a turn, and the lines that the turn wrote, with those of the instructions that the runner ran.
pub record Turning (R : Type 0) : Type 0 where
  pub value : MoteValue R
  pub lines : List TraceLine

-- What a turn makes of a mote.
abbrev pub turned_by : {R : Type 0} → Workings R → Choice → MoteValue R → Turning R
turned_by w c m =
    record {
      value = moved_to (made_by w.part w.acts c m).state (runner_after w c m) m;
      lines = (made_by w.part w.acts c m).lines;
    }

-- The next turn of a mote, by the machine's choice.
abbrev pub turned : {R : Type 0} → Workings R → MoteValue R → Turning R
turned w m = turned_by w (choice (state_of w.part m)) m

-- A mote at the start of a run: nothing is loaded, and all events of the script are to come.
abbrev pub starting : {R : Type 0} → R → List Readied → List Event → Limits → MoteValue R
starting r images events limits =
    record {
      kernel = no_kernel;
      runner = r;
      images = images;
      packets = packets_in events;
      events = loader_events events;
      limits = limits;
      total = 0;
      spent = 0;
      ended = More;
    }
