-- A mote, seen as the state of the machine of domains.
use Rattle.std.specs.Prelude.{ℕ, List, map}
use Rattle.domain_model.specs.State.{KernelState, RunnerState, State}
use Rattle.domain_model.specs.Act.{Acted}
use Rattle.domain_model.specs.Runners.{ActedBy, seen_by}
use Rattle.domain_model.specs.Turn.{Made, made}
use Rattle.domain_model.specs.declared.event.Choice.{Choice}
use Rattle.domain_model.specs.declared.event.LoaderEvent.{LoaderEvent}
use Rattle.domain_model.specs.declared.event.Packet.{Packet}
use Rattle.domain_model.specs.declared.event.Turned.{Turned}
use Rattle.mod_loader.specs.Banks.{Readied, prepared_of}
use Rattle.mote_core.specs.declared.limits.Limits.{Limits}

-- What is to come of a script, in its order: the packets, and the events that are for the loader.
pub record Plan : Type 0 where
  pub packets : List Packet
  pub events : List LoaderEvent

-- What a mote with a runner of the type R holds.
pub record MoteValue (R : Type 0) : Type 0 where
  pub kernel : KernelState
  pub runner : R
  pub images : List Readied
  pub packets : List Packet
  pub events : List LoaderEvent
  pub limits : Limits
  pub total : ℕ
  pub spent : ℕ
  pub ended : Turned

-- The state of the machine that it is in: of the runner the machine sees a part.
abbrev pub state_of : {R : Type 0} → (R → RunnerState) → MoteValue R → State
state_of part m =
    record {
      kernel = m.kernel;
      runner = part m.runner;
      images = map prepared_of m.images;
      packets = m.packets;
      events = m.events;
      unit_limit = m.limits.units;
      handler_limit = m.limits.handler;
      total = m.total;
      spent = m.spent;
      ended = m.ended;
    }

-- What its runner's next unit does.
abbrev pub acted : {R : Type 0} → (R → RunnerState) → (KernelState → R → ActedBy R) → MoteValue R → Acted
acted part acts m = seen_by part (acts m.kernel m.runner)

-- What a turn makes of it, where its runner runs the unit.
abbrev pub made_by : {R : Type 0} → (R → RunnerState) → (KernelState → R → ActedBy R) → Choice → MoteValue R → Made
made_by part acts c m = made c (state_of part m) (acted part acts m)

-- Of a plain runner the machine sees all.
abbrev pub plain_state : MoteValue RunnerState → State
plain_state m = state_of (λ r. r) m
