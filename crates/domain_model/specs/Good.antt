-- What every turn keeps.
use Rattle.std.specs.Prelude.{◌⊎◌, ℕ, ◌≡◌, ◌≢◌, ◌+◌, ◌^◌, ◌<◌, ◌≤◌, List, [], ◌∷◌, length, slice_index_or, ◌*◌, ◌==◌, ◌||◌, if◌then◌else◌, Bool, Option, Some, None, is_some, Ok, Err, true, false, ⊤}
use Rattle.std.specs.List.{AllByRecursion}
use Rattle.mote_base.specs.Frames.{frame_limit}
use Rattle.mote_base.specs.Messages.{Lists, AreWithinLimit, front}
use Rattle.mote_base.specs.Timers.{timer_limit, InOrder, is_of}
use Rattle.mote_base.specs.declared.frame.Frame.{Frame}
use Rattle.mote_base.specs.declared.timer.Timer.{Timer}
use Rattle.mote_layout.specs.Memory.{kernel, register_count, ram_bytes, block_count, domain_count, stack_top, floor}
use Rattle.mote_layout.specs.Limits.{payload_limit, unit_limit, handler_limit}
use Rattle.mote_layout.specs.Blocks.{AreBlocks, block_address}
use Rattle.mote_layout.specs.declared.segment.Segment.{Segment}
use Rattle.unit_code.specs.declared.unit.Unit.{Unit}
use Rattle.unit_code.specs.Proper.{IsProper}
use Rattle.module_image.specs.declared.face.Face.{Face}
use Rattle.module_image.specs.Contents.{FaceRules, constants_limit}
use Rattle.domain_model.specs.declared.handler.Running.{Running}
use Rattle.domain_model.specs.declared.event.Packet.{Packet}
use Rattle.domain_model.specs.Bytes.{AreBytes}
use Rattle.domain_model.specs.Prepared.{Module, Prep}
use Rattle.domain_model.specs.State.{Processor, Message, radio, payload_address, Loaded, KernelState, RunnerState, State}
use Rattle.domain_model.specs.Events.{packet_times, event_times, timer_times, is_due}
use Rattle.domain_model.specs.Payloads.{constants_kept, HoldsPayloads, IsAsLong}
use Rattle.domain_model.specs.Modules.{in_use, is_loaded}
use Rattle.domain_model.specs.Frames.{resumed}
use Rattle.domain_model.specs.Act.{bank}

-- The processor has all its registers and all bytes of its memory, and each of them is a byte, as SREG is.
pub record GoodProcessor (p : Processor) : Type 0 where
  pub registers : length p.registers ≡ register_count
  pub memory : length p.memory ≡ ram_bytes
  pub register_bytes : AreBytes p.registers
  pub memory_bytes : AreBytes p.memory
  pub sreg_byte : p.sreg < 256

-- The unit at which a dispatch starts is one of these, and so is that of each function that the face provides.
pub record AreEntered (units : List Unit) (face : Face) (start : ℕ) (starts : List ℕ) : Type 0 where
  pub handler : start < length units
  pub entries : AllByRecursion (λ unit. unit < length units) starts
  pub provided : length starts ≡ length face.provided.items

-- An address of constants is that of a block of the heap, or 0.
abbrev pub IsBlockOrNone : ℕ → Type 0
IsBlockOrNone address = (address ≡ 0) ⊎ ((block : ℕ) × (block < block_count) × (address ≡ block_address block))

-- A module's face keeps the rules of its fields (its id is 1 to 254), its domain is a domain, its state's address is a
-- word, its constants begin with a block, and the units in its bank are proper, with checked loads where it is sealed,
-- and have its handler and its functions.
pub record GoodModule (r : RunnerState) (m : Loaded) : Type 0 where
  pub face : FaceRules m.face
  pub domain : m.domain < domain_count
  pub state : m.state < 2 ^ 16
  pub constants : IsBlockOrNone m.constants
  pub units : IsProper (bank r m.domain) m.sealed
  pub entered : AreEntered (bank r m.domain) m.face m.handler m.entries

-- No module behind this one has its id or its domain.
abbrev pub IsApart : Loaded → Loaded → Type 0
IsApart m n = (n.face.id ≢ m.face.id) × (n.domain ≢ m.domain)

abbrev pub AreDistinct : List Loaded → Type 0
AreDistinct [] = ⊤
AreDistinct (m ∷ ms) = AllByRecursion (IsApart m) ms × AreDistinct ms

-- Each block's owner is the kernel or the domain of a loaded module.
abbrev pub IsOwned : List Loaded → Segment → Type 0
IsOwned modules b = (b.owner ≡ kernel) ⊎ (in_use modules b.owner ≡ true)

abbrev pub AreOwned : List Loaded → List Segment → Type 0
AreOwned modules blocks = AllByRecursion (IsOwned modules) blocks

-- A frame and what runs above it: its domain is loaded and goes on at one of its units; behind the base of what runs
-- above stand the two bytes of the call; and where the domain called itself within, its domain and bound are those
-- above it.
pub record IsBelow (modules : List Loaded) (banks : List (List Unit)) (above : Running) (f : Frame) : Type 0 where
  pub loaded : in_use modules f.domain ≡ true
  pub back : f.back < length (slice_index_or banks f.domain [])
  pub base : above.base + 2 ≤ f.base
  pub bound : f.base ≤ f.bound
  pub top : f.bound ≤ stack_top
  pub own : f.cross ≡ false → (f.domain ≡ above.domain) × (f.bound ≡ above.bound)

-- The frames below what runs, each below the one that it called. What called first has the whole stack.
abbrev pub AreFrames : List Loaded → List (List Unit) → Running → List Frame → Type 0
AreFrames modules banks run [] = (run.base ≡ stack_top) × (run.bound ≡ stack_top)
AreFrames modules banks run (f ∷ below) = IsBelow modules banks run f × AreFrames modules banks (resumed f) below

-- In a handler a loaded domain runs, its next unit is one of its units, the stack pointer lies between the floor and
-- the base, and no more calls wait than there is room for.
pub record GoodRunning (k : KernelState) (r : RunnerState) (run : Running) : Type 0 where
  pub loaded : in_use k.modules run.domain ≡ true
  pub unit : r.unit < length (bank r run.domain)
  pub floor : floor ≤ k.processor.sp
  pub base : k.processor.sp ≤ run.base
  pub bound : run.base ≤ run.bound
  pub top : run.bound ≤ stack_top
  pub depth : length k.frames ≤ frame_limit
  pub frames : AreFrames k.modules r.banks run k.frames

-- The numbers of a message fit their places in the message frame: all are bytes, but the word, the length and the
-- address are two.
pub record IsFramed (m : Message) : Type 0 where
  pub to : m.to < 256
  pub from : m.from < 256
  pub sort : m.sort < 256
  pub byte : m.byte < 256
  pub word : m.word < 2 ^ 16
  pub len : m.len < 2 ^ 16
  pub address : payload_address m.load < 2 ^ 16

-- A message's receiver is loaded, its sender is the kernel, the radio or loaded, and a payload has as many bytes as it
-- says.
pub record IsKnown (modules : List Loaded) (m : Message) : Type 0 where
  pub receiver : is_loaded modules m.to ≡ true
  pub sender : ((m.from ≡ 0) ⊎ (m.from ≡ radio)) ⊎ (is_loaded modules m.from ≡ true)
  pub framed : IsFramed m
  pub load : IsAsLong m.len m.load

abbrev pub GoodHand : List Loaded → Option Message → Type 0
GoodHand modules None = ⊥
GoodHand modules (Some m) = IsKnown modules m

-- Outside a handler no message is in hand, no module ends, and no call waits.
abbrev pub GoodHandler : KernelState → RunnerState → Option Running → Type 0
GoodHandler k r None = (k.hand ≡ None) × (k.ending ≡ None) × (k.frames ≡ [])
GoodHandler k r (Some run) = GoodRunning k r run × GoodHand k.modules k.hand

-- Each list has at most sixteen messages, each between modules that are loaded.
pub record GoodQueues (modules : List Loaded) (queues : Lists Message) : Type 0 where
  pub within : AreWithinLimit queues
  pub high : AllByRecursion (IsKnown modules) queues.high
  pub low : AllByRecursion (IsKnown modules) queues.low

-- the most ticks that a timer has
abbrev pub longest_wait : ℕ
longest_wait = 65535

-- A timer is a loaded module's, and is due before its ticks have passed once more.
pub record GoodTimer (modules : List Loaded) (now : ℕ) (t : Timer) : Type 0 where
  pub owner : is_loaded modules t.«module» ≡ true
  pub id : t.id < 256
  pub ticks : (1 ≤ t.ticks) × (t.ticks ≤ longest_wait)
  pub due : t.due ≤ now + longest_wait

-- No two are of one module and have one id.
abbrev pub AreApart : List Timer → Type 0
AreApart [] = ⊤
AreApart (t ∷ ts) = AllByRecursion (λ s. is_of t.«module» t.id s ≡ false) ts × AreApart ts

-- There are at most sixteen, in the order in which they fire.
pub record GoodTimers (modules : List Loaded) (now : ℕ) (timers : List Timer) : Type 0 where
  pub few : length timers ≤ timer_limit
  pub order : InOrder timers
  pub apart : AreApart timers
  pub each : AllByRecursion (GoodTimer modules now) timers

-- Kernel and runner together.
pub record GoodMachine (k : KernelState) (r : RunnerState) : Type 0 where
  pub processor : GoodProcessor k.processor
  pub banks : length r.banks ≡ domain_count
  pub modules : AllByRecursion (GoodModule r) k.modules
  pub distinct : AreDistinct k.modules
  pub blocks : AreBlocks k.blocks
  pub owners : AreOwned k.modules k.blocks
  pub queues : GoodQueues k.modules k.queues
  pub timers : GoodTimers k.modules k.clock k.timers
  pub payloads : HoldsPayloads k.blocks k.queues k.hand (constants_kept k.modules)
  pub handler : GoodHandler k r k.running

-- A module that can be loaded. Its constants are bytes.
pub record GoodImage (m : Module) : Type 0 where
  pub face : FaceRules m.face
  pub constants : AreBytes m.constants × (length m.constants ≤ constants_limit)
  pub units : IsProper m.units m.sealed
  pub entered : AreEntered m.units m.face m.handler m.entries

abbrev pub IsGoodImage : Prep → Type 0
IsGoodImage (Err refusal) = ⊤
IsGoodImage (Ok m) = GoodImage m

-- The times of what is still to come: from a moment on they don't fall, and each is one that a script can name.
abbrev pub AreTimesFrom : ℕ → List ℕ → Type 0
AreTimesFrom before [] = ⊤
AreTimesFrom before (time ∷ times) = (before ≤ time) × (time < 2 ^ 32) × AreTimesFrom time times

abbrev pub AreTimes : List ℕ → Type 0
AreTimes times = AreTimesFrom 0 times

-- The numbers of a packet are bytes, and it is no longer than a packet may be.
pub record IsPacket (p : Packet) : Type 0 where
  pub to : p.to < 256
  pub sort : p.sort < 256
  pub bytes : AreBytes p.bytes
  pub short : length p.bytes ≤ payload_limit

abbrev pub ArePackets : List Packet → Type 0
ArePackets packets = AllByRecursion IsPacket packets

-- The clock has jumped to a timer's moment, and no unit ran since: the running handler has run none, or outside a
-- handler a message waits or a timer is due.
abbrev pub ahead_by : Option Running → State → Bool
ahead_by None s = is_some (front s.kernel.queues) || is_due (timer_times s.kernel.timers) s.kernel.clock
ahead_by (Some run) s = s.spent == 0

abbrev pub is_ahead : State → Bool
is_ahead s = ahead_by s.kernel.running s

-- The latest that the clock can be after so many units: each unit may stand behind a jump to a timer's moment, and
-- behind the last one there may be a further jump.
abbrev pub latest : ℕ → Bool → ℕ
latest total ahead = 2 ^ 32 + (longest_wait + 1) * total + (if ahead then longest_wait else 0)

pub record Good (s : State) : Type 0 where
  pub machine : GoodMachine s.kernel s.runner
  pub images : AllByRecursion IsGoodImage s.images
  pub packets : ArePackets s.packets
  pub packet_times : AreTimes (packet_times s.packets)
  pub times : AreTimes (event_times s.events)
  pub clock : s.kernel.clock ≤ latest s.total (is_ahead s)
  pub total : s.total ≤ s.unit_limit
  pub units : s.unit_limit ≤ unit_limit
  pub spent : s.spent ≤ s.handler_limit
  pub handler : (1 ≤ s.handler_limit) × (s.handler_limit ≤ handler_limit)
