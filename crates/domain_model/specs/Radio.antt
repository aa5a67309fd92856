-- Packets that come by radio.
use Rattle.std.specs.Prelude.{◌==◌, nat_lt, List, [], ◌∷◌, length, Bool, true, false, Option, Some, None}
use Rattle.mote_base.specs.Messages.{appended, queue_limit}
use Rattle.mote_layout.specs.Memory.{kernel}
use Rattle.mote_layout.specs.Blocks.{block_of}
use Rattle.mote_layout.specs.Parcels.{Payload}
use Rattle.domain_model.specs.declared.event.Packet.{Packet}
use Rattle.domain_model.specs.declared.line.Why.{Why}
use Rattle.domain_model.specs.declared.line.Why.TheVariants as why
use Rattle.domain_model.specs.declared.line.TraceLine.{TraceLine}
use Rattle.domain_model.specs.declared.line.TraceLine.TheVariants as line
use Rattle.domain_model.specs.State.{Message, radio, KernelState}
use Rattle.domain_model.specs.Modules.{is_loaded}
use Rattle.domain_model.specs.Given.{Given, given, filled_with, with_given}

-- The kernel after a packet came, and the lines that were written of it.
pub record Hearing : Type 0 where
  pub kernel : KernelState
  pub lines : List TraceLine

-- nothing but the line of a packet that is dropped
abbrev pub dropped : Why → Packet → KernelState → Hearing
dropped reason p k = record { kernel = k; lines = line.Dropped k.clock reason p.to p.sort ∷ [] }

-- The long message that a packet becomes. It is as long as the packet.
abbrev pub message_by_radio : Packet → Option Payload → Message
message_by_radio p load =
    record { to = p.to; from = radio; sort = p.sort; byte = 0; word = 0; long = true; len = length p.bytes; load = load; high = false }

-- The message waits in the low list.
abbrev pub queued : Packet → Option Payload → KernelState → Hearing
queued p load k =
    record {
      kernel = record k { queues = appended false (message_by_radio p load) k.queues };
      lines = line.Queued k.clock p.to p.sort ∷ [];
    }

-- what was given out, with a packet's bytes at its beginning
abbrev pub filled : Packet → Given → Given
filled p g = filled_with p.bytes g

-- the payload that a packet's bytes are where they were put
abbrev pub payload_in : Packet → Given → Payload
payload_in p g = record { block = block_of g.address; len = length p.bytes }

-- The bytes stand in a new block of the kernel's. Without a place for them the packet is dropped.
abbrev pub heard_given : Option Given → Packet → KernelState → Hearing
heard_given None p k = dropped why.Room p k
heard_given (Some g) p k = queued p (Some (payload_in p g)) (with_given k (filled p g))

-- A packet without bytes asks for no block.
abbrev pub heard_bytes : Bool → Packet → KernelState → Hearing
heard_bytes true p k = queued p None k
heard_bytes false p k = heard_given (given k kernel (length p.bytes)) p k

-- Whether its queue has room is looked at before the place for its bytes is.
abbrev pub heard_where : Bool → Packet → KernelState → Hearing
heard_where true p k = heard_bytes (length p.bytes == 0) p k
heard_where false p k = dropped why.Queue p k

-- A packet for a module that isn't loaded is dropped first.
abbrev pub heard_by : Bool → Packet → KernelState → Hearing
heard_by true p k = heard_where (nat_lt (length k.queues.low) queue_limit) p k
heard_by false p k = dropped why.Module p k

-- A packet comes.
abbrev pub heard : Packet → KernelState → Hearing
heard p k = heard_by (is_loaded k.modules p.to) p k
