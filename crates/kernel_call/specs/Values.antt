-- What the kernel's parts leave.
use Rattle.std.specs.Prelude.{ℕ, ◌-◌, ◌*◌, ◌++◌, ◌∷◌, [], ◌==◌, Bool, true, false, List, length, drop, Option, Some, None, if◌then◌else◌}
use Rattle.mote_base.specs.declared.timer.Timer.{Timer}
use Rattle.sos_timer.specs.declared.timers.Fired.{Fired}
use Rattle.sos_timer.specs.declared.timers.Started.{Started}
use Rattle.sos_timer.specs.declared.timers.Started.TheVariants.{Set, Zero, Full}
use Rattle.mote_layout.specs.Fit.{blocks_for}
use Rattle.mote_layout.specs.Memory.{block_bytes, message_frame_bytes, ram_start, stack_top}
use Rattle.mote_layout.specs.declared.segment.Segment.{Segment}
use Rattle.domain_model.specs.declared.handler.Running.{Running}
use Rattle.domain_model.specs.State.{KernelState, Processor, Message, frame_of, with_bytes, with_zeros}
use Rattle.domain_model.specs.Given.{Given}
use Rattle.domain_model.specs.Firing.{reminder_sort}
use Rattle.domain_model.specs.Dump.{timer_line}
use Rattle.domain_model.specs.declared.event.Packet.{Packet}
use Rattle.domain_model.specs.declared.line.Why.{Why}
use Rattle.domain_model.specs.declared.line.Why.TheVariants as why
use Rattle.domain_model.specs.declared.line.TraceLine.{TraceLine}
use Rattle.domain_model.specs.declared.line.TraceLine.TheVariants as line
use Rattle.kernel_call.specs.declared.place.Place.{Place}

-- the blocks and the memory of a kernel, as what was given with an address
abbrev pub given_as : KernelState → ℕ → Given
given_as k address = record { blocks = k.blocks; memory = k.processor.memory; address = address }

-- the processor with the frame of a message
abbrev pub framed : Processor → Message → Processor
framed p m = record p { memory = frame_of m ++ drop message_frame_bytes p.memory }

-- the processor with the block for so many bytes at an address cleared; none is where none are asked for
abbrev pub with_cleared : Bool → ℕ → ℕ → Processor → Processor
with_cleared true address size p = p
with_cleared false address size p =
    record p { memory = with_zeros p.memory (address - ram_start) (block_bytes * blocks_for size) }

-- and with bytes in it
abbrev pub with_filled : Bool → ℕ → List ℕ → Processor → Processor
with_filled true address bytes p = p
with_filled false address bytes p =
    record p { memory = with_bytes (with_cleared false address (length bytes) p).memory (address - ram_start) bytes }

-- the processor where a module's blocks stand ready: that of its state cleared, and its constants in theirs, with zeros
-- behind
abbrev pub readied : Place → ℕ → List ℕ → Processor → Processor
readied place size constants p =
    with_filled (length constants == 0) place.constants constants (with_cleared (size == 0) place.state size p)

-- a packet by its parts
abbrev pub packet : ℕ → ℕ → ℕ → List ℕ → Packet
packet time to sort bytes = record { time = time; to = to; sort = sort; bytes = bytes }

-- what runs in a domain before its first unit
abbrev pub first_running : ℕ → Running
first_running domain = record { domain = domain; base = stack_top; bound = stack_top }

-- the line of a packet: why it was dropped, or that it waits
abbrev pub packet_line : ℕ → Option Why → ℕ → ℕ → List TraceLine
packet_line time None to sort = line.Queued time to sort ∷ []
packet_line time (Some why) to sort = line.Dropped time why to sort ∷ []

-- a segment, where it begins with a block
abbrev pub begun_by : ℕ → Option Segment → Option Segment
begun_by block None = None
begun_by block (Some s) = if s.first == block then Some s else None

-- the segment, as a list
abbrev pub at_most_one : Option Segment → List Segment
at_most_one None = []
at_most_one (Some s) = s ∷ []

-- what is told of a timer that fires
abbrev pub fired_of : Timer → Fired
fired_of t = record { «module» = t.«module»; id = t.id }

-- the message of a timer that is told so
abbrev pub reminder_by : Fired → Message
reminder_by f =
    record { to = f.«module»; from = 0; sort = reminder_sort; byte = f.id; word = 0; long = false; len = 0; load = None; high = true }

-- the line of that message: it waits, or its queue has no room
abbrev pub reminder_line : ℕ → Bool → ℕ → TraceLine
reminder_line time true to = line.Queued time to reminder_sort
reminder_line time false to = line.Dropped time why.Queue to reminder_sort

-- the kernel call's answer to what became of a start
abbrev pub start_told : Started → ℕ
start_told Set = 0
start_told Full = 1
start_told Zero = 2

-- the line of a timer, if there is one
abbrev pub timer_told : Option Timer → List TraceLine
timer_told None = []
timer_told (Some t) = timer_line t ∷ []
