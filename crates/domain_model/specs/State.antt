-- The state of the machine.
use Rattle.std.specs.Prelude.{ℕ, Bool, List, [], ◌-◌, ◌∷◌, ◌++◌, Option, Some, None, replicate, take, drop, map, if◌then◌else◌}
use Rattle.mote_layout.specs.Memory.{ram_start, register_count, message_frame, message_frame_bytes, domain_count, stack_top}
use Rattle.mote_layout.specs.Blocks.{block_address}
use Rattle.mote_layout.specs.Parcels.{Payload}
use Rattle.mote_base.specs.declared.frame.Frame.{Frame}
use Rattle.mote_base.specs.declared.message.Msg.{Msg}
use Rattle.mote_base.specs.declared.timer.Timer.{Timer}
use Rattle.mote_base.specs.Messages.{Lists}
use Rattle.mote_layout.specs.declared.segment.Segment.{Segment}
use Rattle.avr_machine.specs.Processor.{Processor as CountingProcessor, register as register_of, pair as pair_of, low, high, no_processor as no_counting_processor}
use Rattle.avr_machine.specs.Write.{Write, set_register, set_pair, set_byte, written}
unfoldable pub use Rattle.avr_machine.specs.Processor.{no_memory}
pub use Rattle.avr_machine.specs.Bytes.{with_bytes, with_zeros}
use Rattle.unit_code.specs.declared.unit.Unit.{Unit}
use Rattle.module_image.specs.declared.face.Face.{Face}
use Rattle.module_image.specs.Links.{Seat}
use Rattle.domain_model.specs.declared.handler.Running.{Running}
use Rattle.domain_model.specs.declared.event.LoaderEvent.{LoaderEvent}
use Rattle.domain_model.specs.declared.event.Packet.{Packet}
use Rattle.domain_model.specs.declared.script.Event.{Event}
use Rattle.domain_model.specs.Events.{loader_events, packets_in}
use Rattle.domain_model.specs.declared.event.Turned.{Turned}
use Rattle.domain_model.specs.declared.event.Turned.TheVariants.{More}
use Rattle.domain_model.specs.Prepared.{Prep, prepared}

-- The processor: R0 to R31, the status register, the stack pointer, and the bytes of the memory.
-- Byte i of the memory has the data address 0x0100 + i. It has no program counter: between two units the runner's
-- number of the next one says where the run stands.
pub record Processor : Type 0 where
  pub registers : List ℕ
  pub sreg : ℕ
  pub sp : ℕ
  pub memory : List ℕ

-- The radio as a sender of messages.
abbrev pub radio : ℕ
radio = 255

-- A message. Its payload, if it has one, is a block of the kernel's. A message in hand has none any more once its
-- payload was taken.
abbrev pub Message : Type 0
Message = Msg Payload

-- A module that is loaded: what it shows to others, its domain, the address of its state block and that of its
-- constants, each 0 where it has none, the unit at which a dispatch starts, the units at which the functions that it
-- provides begin, and whether its loads are checked.
pub record Loaded : Type 0 where
  pub face : Face
  pub domain : ℕ
  pub state : ℕ
  pub constants : ℕ
  pub handler : ℕ
  pub entries : List ℕ
  pub sealed : Bool

-- What the kernel keeps: the clock, the processor, the owned blocks of the heap, the loaded modules in the order of
-- their loads, the messages that wait, the timers in the order in which they fire, the domain that runs, the frames of
-- the calls that have not returned with the last call first, the message in hand, and the id of the module whose last
-- message that is. Outside a handler no domain runs, there is no frame, no message is in hand and no module ends, and
-- the registers, SREG and SP mean nothing.
pub record KernelState : Type 0 where
  pub clock : ℕ
  pub processor : Processor
  pub blocks : List Segment
  pub modules : List Loaded
  pub queues : Lists Message
  pub timers : List Timer
  pub running : Option Running
  pub frames : List Frame
  pub hand : Option Message
  pub ending : Option ℕ

-- What a runner keeps: the units of each domain's module, by domain, and the number of the unit that runs
-- next.
pub record RunnerState : Type 0 where
  pub banks : List (List Unit)
  pub unit : ℕ

-- The whole: kernel and runner; what the images came to, by number; the script's packets still to come, and its events
-- for the loader; how many units a run and a handler may have, and have had; how the run stands.
pub record State : Type 0 where
  pub kernel : KernelState
  pub runner : RunnerState
  pub images : List Prep
  pub packets : List Packet
  pub events : List LoaderEvent
  pub unit_limit : ℕ
  pub handler_limit : ℕ
  pub total : ℕ
  pub spent : ℕ
  pub ended : Turned

-- What a run is given: the bytes of the images, the events of the script, and the two limits.
pub record Input : Type 0 where
  pub images : List (List ℕ)
  pub events : List Event
  pub unit_limit : ℕ
  pub handler_limit : ℕ

-- the bytes of the memory from an address on, so many
abbrev pub bytes_at : Processor → ℕ → ℕ → List ℕ
bytes_at p address n = take n (drop (address - ram_start) p.memory)

-- the processor with its program counter at an address, as it runs instructions
abbrev pub at_counter : Processor → ℕ → CountingProcessor
at_counter p address =
    record { registers = p.registers; sreg = p.sreg; sp = p.sp; pc = address; memory = p.memory }

-- and the processor that has no program counter any more
abbrev pub without_counter : CountingProcessor → Processor
without_counter c = record { registers = c.registers; sreg = c.sreg; sp = c.sp; memory = c.memory }

-- a register
abbrev pub register : Processor → ℕ → ℕ
register p d = register_of (at_counter p 0) d

-- a pair of registers by its lower one, low byte first
abbrev pub pair : Processor → ℕ → ℕ
pair p d = pair_of (at_counter p 0) d

-- The processor after one change.
abbrev pub changed : Write → Processor → Processor
changed change p = without_counter (written change (at_counter p 0))

-- with another value in a register, another word in a pair of registers, another byte at an address
abbrev pub with_register : Processor → ℕ → ℕ → Processor
with_register p d v = changed (set_register d v) p

abbrev pub with_pair : Processor → ℕ → ℕ → Processor
with_pair p d w = changed (set_pair d w) p

abbrev pub with_byte : Processor → ℕ → ℕ → Processor
with_byte p a v = changed (set_byte a v) p

abbrev pub with_processor : KernelState → Processor → KernelState
with_processor k p = record k { processor = p }

-- The seats of the modules that are loaded: what each slot of theirs is bound to is said of these alone
-- (`bound_slot`).
abbrev pub seats : List Loaded → List Seat
seats modules = map (λ m. record { domain = m.domain; face = m.face }) modules

-- the address of a message's payload, or 0
abbrev pub payload_address : Option Payload → ℕ
payload_address None = 0
payload_address (Some p) = block_address p.block

-- The message frame as a handler finds it: type, sender, receiver, 1 for a long message and 0 for a short one, the byte
-- and the word of a short message, the length and the address of the payload of a long one, and zeros. Each word stands
-- low byte first.
abbrev pub frame_of : Message → List ℕ
frame_of m =
    m.sort ∷ m.from ∷ m.to ∷ (if m.long then 1 else 0) ∷ m.byte ∷ low m.word ∷ high m.word ∷ low m.len ∷ high m.len
    ∷ low (payload_address m.load) ∷ high (payload_address m.load) ∷ replicate 5 0

-- The processor as a handler finds it: R21:R20 is the address of the module's constants, R23:R22 that of the message
-- frame, R25:R24 that of the module's state block, every other register and SREG are 0, and the stack is empty.
abbrev pub dispatched : Processor → ℕ → ℕ → Message → Processor
dispatched p state constants m =
    with_pair (with_pair (with_pair (record {
      registers = replicate register_count 0;
      sreg = 0;
      sp = stack_top;
      memory = frame_of m ++ drop message_frame_bytes p.memory;
    }) 20 constants) 22 message_frame) 24 state

-- At the beginning every byte and register is 0. (Of the kernel's bytes and of the stack the first turns
-- leave nothing that this says, since they are free.)
abbrev pub no_processor : Processor
no_processor = without_counter no_counting_processor

abbrev pub no_kernel : KernelState
no_kernel =
    record {
      clock = 0;
      processor = no_processor;
      blocks = [];
      modules = [];
      queues = record { high = []; low = [] };
      timers = [];
      running = None;
      frames = [];
      hand = None;
      ending = None;
    }

abbrev pub no_runner : RunnerState
no_runner = record { banks = replicate domain_count []; unit = 0 }

-- The state in which a run of prepared images begins.
abbrev pub begins : List Prep → List Packet → List LoaderEvent → ℕ → ℕ → State
begins images packets events unit_limit handler_limit =
    record {
      kernel = no_kernel;
      runner = no_runner;
      images = images;
      packets = packets;
      events = events;
      unit_limit = unit_limit;
      handler_limit = handler_limit;
      total = 0;
      spent = 0;
      ended = More;
    }

-- The state in which a run begins.
abbrev pub start : Input → State
start i = begins (map prepared i.images) (packets_in i.events) (loader_events i.events) i.unit_limit i.handler_limit
