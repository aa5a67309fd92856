-- What holds of every turn of every run.
use Rattle.std.specs.Prelude.{◌≡◌, ◌≢◌, ◌⊎◌, ◌↔◌, ℕ, ◌+◌, ◌<◌, ◌≤◌, ◌==◌, ◌||◌, not, List, [], ◌∷◌, length, filter, Option, Some, None, IsSomeAnd, Contains, Bool, true, false, slice_index, slice_get, drop, ⊤}
use Rattle.std.specs.List.{AllByRecursion, list_any}
use Rattle.mote_base.specs.Messages.{Lists, in_order, appended, queue_limit}
use Rattle.mote_base.specs.Timers.{fires_before, is_of, after_firing}
use Rattle.mote_base.specs.declared.frame.Frame.{Frame}
use Rattle.mote_base.specs.declared.timer.Timer.{Timer}
use Rattle.avr_isa.specs.declared.instruction.Instr.{Instr}
use Rattle.avr_machine.specs.Processor.{Processor as CountingProcessor}
use Rattle.avr_machine.specs.Effect.{effect}
use Rattle.avr_machine.specs.Conditions.{IsSkip, IsStraight}
use Rattle.unit_code.specs.Proper.{IsOfKind}
use Rattle.unit_code.specs.declared.unit.Unit.{Unit}
use Rattle.unit_code.specs.declared.unit.Unit.TheVariants.{Plain, Store, Load, Skip, SlotCall, SlotIndirect, Return}
use Rattle.module_image.specs.Links.{bound_slot}
use Rattle.mote_layout.specs.Memory.{ram_start, red_zone_start, kernel_bytes_start, kernel_bytes_end, kernel, block_count}
use Rattle.mote_layout.specs.Blocks.{AreFree, starting_at, owns}
use Rattle.mote_layout.specs.Parcels.{Payload}
use Rattle.mote_layout.specs.declared.segment.Segment.{Segment}
use Rattle.domain_model.specs.declared.handler.Running.{Running}
use Rattle.domain_model.specs.declared.event.Choice.TheVariants.{Hears, Fires, Acts}
use Rattle.domain_model.specs.declared.event.Turned.TheVariants.{More}
use Rattle.domain_model.specs.declared.fault.FaultNote.{FaultNote}
use Rattle.domain_model.specs.declared.fault.UnitEnd.TheVariants.{Fault}
use Rattle.domain_model.specs.declared.line.TraceLine.{TraceLine}
use Rattle.domain_model.specs.declared.line.TraceLine.TheVariants as line
use Rattle.domain_model.specs.State.{Processor, Message, radio, Loaded, KernelState, RunnerState, State, at_counter, without_counter, seats}
use Rattle.domain_model.specs.Frames.{kept_frame, resumed, indirect_slot, bound_at, entry_unit}
use Rattle.domain_model.specs.Act.{act, plain_effect, passes, bank, next_unit}
use Rattle.domain_model.specs.Free.{ends_handler, enters_kernel}
use Rattle.domain_model.specs.Modules.{in_use}
use Rattle.domain_model.specs.Firing.{reminder_sort}
use Rattle.domain_model.specs.Payloads.{namings, kept_at, constants_kept, naming_kept}
use Rattle.domain_model.specs.Turn.{choice, Turn, RunBy, RunFrom}
use Rattle.domain_model.specs.Good.{Good}
use Rattle.domain_model.specs.Remaining.{remaining}

-- Confinement.

-- What the running domain may change: the bytes of its blocks, and the stack up to its bound.
abbrev pub MayChange : KernelState → Running → ℕ → Type 0
MayChange k run address = (owns k.blocks run.domain address ≡ true) ⊎ ((red_zone_start ≤ address) × (address ≤ run.bound))

-- the frames of calls into other domains, the last call first
abbrev pub crossings : List Frame → List Frame
crossings frames = filter (λ (f : Frame). f.cross) frames

-- What ran goes on in its domain, up to its bound, and no call into another domain is made or comes back. (The base
-- moves with calls within the domain.)
pub record StaysWithin (k : KernelState) (run : Running) (new : KernelState) (after : Running) : Type 0 where
  pub domain : after.domain ≡ run.domain
  pub bound : after.bound ≡ run.bound
  pub calls : crossings new.frames ≡ crossings k.frames

-- The rest of the kernel's lists stays, and each byte that changes is one of these.
pub record KeepsOthers (k : KernelState) (run : Running) (new : KernelState) : Type 0 where
  pub blocks : new.blocks ≡ k.blocks
  pub modules : new.modules ≡ k.modules
  pub queues : new.queues ≡ k.queues
  pub timers : new.timers ≡ k.timers
  pub hand : new.hand ≡ k.hand
  pub ending : new.ending ≡ k.ending
  pub running : IsSomeAnd new.running (λ after. StaysWithin k run new after)
  pub memory : (i : ℕ) → slice_index new.processor.memory i ≢ slice_index k.processor.memory i → MayChange k run (i + ram_start)

-- Where a unit faults, only dead bytes of the stack and the kernel's own bytes change.
abbrev pub MayChangeAtFault : KernelState → ℕ → Type 0
MayChangeAtFault k address =
    ((red_zone_start ≤ address) × (address ≤ k.processor.sp)) ⊎ ((kernel_bytes_start ≤ address) × (address ≤ kernel_bytes_end))

-- A unit that is no entry of the kernel changes what is the running domain's and nothing else, and no units in any
-- bank; and a unit that faults changes none of the domains' bytes.
pub record Confined (s t : State) : Type 0 where
  pub between : (run : Running) → choice s ≡ Acts run → enters_kernel s.kernel s.runner ≡ false → KeepsOthers s.kernel run t.kernel
  pub units : (run : Running) → choice s ≡ Acts run → enters_kernel s.kernel s.runner ≡ false → t.runner.banks ≡ s.runner.banks
  pub at_fault : (run : Running) (note : FaultNote) → choice s ≡ Acts run → (act s.kernel s.runner).ending ≡ Fault note → (i : ℕ) → slice_index t.kernel.processor.memory i ≢ slice_index s.kernel.processor.memory i → MayChangeAtFault s.kernel (i + ram_start)

-- Crossing.

-- A handler starts: a module that is loaded runs from its handler's unit, with a message to it in hand.
pub record Dispatched (t : State) (run : Running) : Type 0 where
  pub receiver : Loaded
  pub message : Message
  pub is_loaded : Contains t.kernel.modules receiver
  pub domain : run.domain ≡ receiver.domain
  pub unit : t.runner.unit ≡ receiver.handler
  pub in_hand : t.kernel.hand ≡ Some message
  pub to : message.to ≡ receiver.face.id

-- the slot that a unit calls, if it calls one
abbrev pub slot_of : Option Unit → Processor → Option ℕ
slot_of (Some (SlotCall slot)) p = Some slot
slot_of (Some SlotIndirect) p = indirect_slot p
slot_of _ p = None

-- A unit calls a slot that is bound, and enters its provider at the unit of its function. What called is kept as a
-- frame, and what is entered has the stack from where it stands then: it may neither pop nor store above.
pub record EntersBound (s t : State) (old new : Running) : Type 0 where
  pub acts : choice s ≡ Acts old
  pub slot : ℕ
  pub calls : slot_of (next_unit s.runner old) s.kernel.processor ≡ Some slot
  pub provider : ℕ
  pub place : ℕ
  pub is_bound : bound_at s.kernel old slot ≡ Some (provider, place)
  pub domain : new.domain ≡ provider
  pub unit : t.runner.unit ≡ entry_unit s.kernel.modules provider place
  pub stack : (new.base ≡ t.kernel.processor.sp) × (new.bound ≡ t.kernel.processor.sp)
  pub keeps : t.kernel.frames ≡ kept_frame old (s.runner.unit + 1) true ∷ s.kernel.frames

-- A unit returns, and what the frame on top kept goes on.
pub record ComesBack (s t : State) (old new : Running) : Type 0 where
  pub acts : choice s ≡ Acts old
  pub returns : next_unit s.runner old ≡ Some Return
  pub frame : Frame
  pub below : List Frame
  pub top : s.kernel.frames ≡ frame ∷ below
  pub resumes : new ≡ resumed frame
  pub unit : t.runner.unit ≡ frame.back
  pub rest : t.kernel.frames ≡ below

-- In a handler the running domain changes only by a call of a slot that is bound, and by a return.
pub data CrossesWithin (s t : State) (old new : Running) : Type 0 where
  stays : StaysWithin s.kernel old t.kernel new → CrossesWithin s t old new
  enters : EntersBound s t old new → CrossesWithin s t old new
  comes_back : ComesBack s t old new → CrossesWithin s t old new

-- Else it changes only by a dispatch while none runs, and by the handler's end, which leaves no frame.
abbrev pub CrossesBy : State → State → Option Running → Option Running → Type 0
CrossesBy s t None None = ⊤
CrossesBy s t None (Some new) = Dispatched t new
CrossesBy s t (Some old) None = (t.kernel.hand ≡ None) × (t.kernel.frames ≡ [])
CrossesBy s t (Some old) (Some new) = CrossesWithin s t old new

abbrev pub Crosses : State → State → Type 0
Crosses s t = CrossesBy s t s.kernel.running t.kernel.running

-- Clean unload.

-- Something still names the module or its domain. A slot does where it is bound to a function in the domain, and a
-- block of the kernel's where it is lost: no message names it, and it is no loaded module's constants.
pub data Names (k : KernelState) (id domain : ℕ) : Type 0 where
  a_module : (m : Loaded) → Contains k.modules m → (m.face.id ≡ id) ⊎ (m.domain ≡ domain) → Names k id domain
  a_slot : (d i p place : ℕ) → bound_slot (seats k.modules) d i ≡ Some (p, place) → p ≡ domain → Names k id domain
  a_message : (m : Message) → Contains (in_order k.queues) m → (m.to ≡ id) ⊎ (m.from ≡ id) → Names k id domain
  a_timer : (t : Timer) → Contains k.timers t → t.«module» ≡ id → Names k id domain
  the_message : (m : Message) → k.hand ≡ Some m → (m.to ≡ id) ⊎ (m.from ≡ id) → Names k id domain
  a_block : (b : Segment) → Contains k.blocks b → b.owner ≡ domain → Names k id domain
  a_lost_block : (b : Segment) → Contains k.blocks b → b.owner ≡ kernel → namings b.first k.queues k.hand ≡ 0 → naming_kept b.first (constants_kept k.modules) ≡ 0 → Names k id domain
  a_frame : (f : Frame) → Contains k.frames f → f.domain ≡ domain → Names k id domain
  the_running : (run : Running) → k.running ≡ Some run → run.domain ≡ domain → Names k id domain

-- Where a turn says that a module is unloaded, nothing names it or the domain that it had.
abbrev pub UnloadsCleanly : State → State → List TraceLine → Type 0
UnloadsCleanly s t lines =
    (time : ℕ) (m : Loaded) → Contains lines (line.Unload time m.face.id) → Contains s.kernel.modules m → ¬ Names t.kernel m.face.id m.domain

-- The lines say that the module with an id is unloaded. A turn unloads two where the last handler of one is ended by
-- another's fault.
abbrev pub tells_unload : ℕ → TraceLine → Bool
tells_unload id (line.Unload time other) = other == id
tells_unload id _ = false

abbrev pub is_gone : List TraceLine → ℕ → Bool
is_gone lines id = list_any (tells_unload id) lines

-- the messages from and to modules that aren't gone
abbrev pub without_gone : List TraceLine → List Message → List Message
without_gone lines messages = filter (λ (m : Message). not (is_gone lines m.from || is_gone lines m.to)) messages

-- The modules that aren't gone stay in their order, each with the block of its constants, and so do their timers, and
-- the messages that name none that is, each with the block of its payload; their domains have the blocks that they had,
-- and no other has any; and the bytes in the blocks stay.
pub record KeepsTheRest (k : KernelState) (lines : List TraceLine) (new : KernelState) : Type 0 where
  pub modules : new.modules ≡ filter (λ (m : Loaded). not (is_gone lines m.face.id)) k.modules
  pub high : new.queues.high ≡ without_gone lines k.queues.high
  pub low : new.queues.low ≡ without_gone lines k.queues.low
  pub timers : new.timers ≡ filter (λ (t : Timer). not (is_gone lines t.«module»)) k.timers
  pub blocks : (b : Segment) → b.owner ≢ kernel → Contains new.blocks b ↔ (Contains k.blocks b × (in_use new.modules b.owner ≡ true))
  pub payloads : (m : Message) (p : Payload) → Contains (in_order new.queues) m → m.load ≡ Some p → starting_at new.blocks p.block ≡ starting_at k.blocks p.block
  pub constants : (m : Loaded) (p : Payload) → Contains new.modules m → kept_at m.constants ≡ Some p → starting_at new.blocks p.block ≡ starting_at k.blocks p.block
  pub bytes : (owner i : ℕ) → owns k.blocks owner (i + ram_start) ≡ true → slice_index new.processor.memory i ≡ slice_index k.processor.memory i

-- The units of the modules that stay do, and those of the one in this domain are gone.
pub record KeepsOtherUnits (modules : List Loaded) (r : RunnerState) (domain : ℕ) (new : RunnerState) : Type 0 where
  pub others : (other : ℕ) → in_use modules other ≡ true → bank new other ≡ bank r other
  pub gone : bank new domain ≡ []

-- Where a turn says that a module is unloaded, those of which it says no such thing are as they were, with their units.
abbrev pub UnloadsAlone : State → State → List TraceLine → Type 0
UnloadsAlone s t lines =
    (time : ℕ) (m : Loaded) → Contains lines (line.Unload time m.face.id) → Contains s.kernel.modules m →
    KeepsTheRest s.kernel lines t.kernel × KeepsOtherUnits t.kernel.modules s.runner m.domain t.runner

-- Interrupts.

-- An address of a block that nobody had, and that is the kernel's now.
pub record IsNewlyKernels (k new : KernelState) (address : ℕ) : Type 0 where
  pub free : (owner : ℕ) → owns k.blocks owner address ≡ false
  pub kernels : owns new.blocks kernel address ≡ true

-- One message more waits, in the low list and from the radio, or none more.
pub data IsOneMore (old : Lists Message) : Lists Message → Type 0 where
  none_more : IsOneMore old old
  one_more : (m : Message) → m.from ≡ radio → m.high ≡ false → IsOneMore old (appended false m old)

-- What a packet leaves that comes, in a handler and outside: all registers, SREG and SP; every owner's blocks, with the
-- bytes in them; what waits; and all else but the packets that are to come. It brings one message at most, and a block
-- of the kernel's that nobody had.
pub record Interrupted (s t : State) : Type 0 where
  pub processor : t.kernel.processor ≡ record s.kernel.processor { memory = t.kernel.processor.memory }
  pub memory : (i : ℕ) → slice_index t.kernel.processor.memory i ≢ slice_index s.kernel.processor.memory i → ((kernel_bytes_start ≤ i + ram_start) × (i + ram_start ≤ kernel_bytes_end)) ⊎ IsNewlyKernels s.kernel t.kernel (i + ram_start)
  pub kept : (owner address : ℕ) → owns s.kernel.blocks owner address ≡ true → owns t.kernel.blocks owner address ≡ true
  pub new : (owner address : ℕ) → owns t.kernel.blocks owner address ≡ true → (owns s.kernel.blocks owner address ≡ true) ⊎ ((owner ≡ kernel) × IsNewlyKernels s.kernel t.kernel address)
  pub queues : IsOneMore s.kernel.queues t.kernel.queues
  pub kernel_rest : t.kernel ≡ record s.kernel { processor = t.kernel.processor; blocks = t.kernel.blocks; queues = t.kernel.queues }
  pub rest : t ≡ record s { kernel = t.kernel; packets = drop 1 s.packets }

-- One short message more waits, in the high list where it has room: a timer's, for its module and with its id; else
-- none more.
pub data IsOneReminder (old : Lists Message) (timer : Timer) : Lists Message → Type 0 where
  none_more : queue_limit ≤ length old.high → IsOneReminder old timer old
  one_more : length old.high < queue_limit → (m : Message) → m.to ≡ timer.«module» → m.from ≡ 0 → m.sort ≡ reminder_sort → m.byte ≡ timer.id → m.word ≡ 0 → m.long ≡ false → m.load ≡ None → IsOneReminder old timer (appended true m old)

-- What a timer leaves that fires, in a handler and outside: the processor but for the kernel's bytes, all blocks, and
-- all else but the high list and the timers. It is due and none fires before it, and it doesn't fire again at this
-- time.
pub record Reminded (s t : State) : Type 0 where
  pub timer : Timer
  pub first : slice_get s.kernel.timers 0 ≡ Some timer
  pub due : timer.due ≤ s.kernel.clock
  pub least : AllByRecursion (λ other. fires_before other timer ≡ false) s.kernel.timers
  pub once : AllByRecursion (λ other. is_of timer.«module» timer.id other ≡ true → s.kernel.clock < other.due) t.kernel.timers
  pub processor : t.kernel.processor ≡ record s.kernel.processor { memory = t.kernel.processor.memory }
  pub memory : (i : ℕ) → slice_index t.kernel.processor.memory i ≢ slice_index s.kernel.processor.memory i → (kernel_bytes_start ≤ i + ram_start) × (i + ram_start ≤ kernel_bytes_end)
  pub queues : IsOneReminder s.kernel.queues timer t.kernel.queues
  pub timers : t.kernel.timers ≡ after_firing s.kernel.clock s.kernel.timers
  pub kernel_rest : t.kernel ≡ record s.kernel { processor = t.kernel.processor; queues = t.kernel.queues; timers = t.kernel.timers }
  pub rest : t ≡ record s { kernel = t.kernel }

abbrev pub InterruptsAlone : State → State → Type 0
InterruptsAlone s t = (choice s ≡ Hears → Interrupted s t) × (choice s ≡ Fires → Reminded s t)

-- Holders.

-- A segment is the one in which a block lies.
pub record LiesIn (blocks : List Segment) (block : ℕ) (s : Segment) : Type 0 where
  pub contained : Contains blocks s
  pub from : s.first ≤ block
  pub to : block < s.first + s.count
  pub alone : (t : Segment) → Contains blocks t → t.first ≤ block → block < t.first + t.count → t ≡ s

-- What names a segment: so many messages, of those that wait and the one in hand, and so many loaded modules as their
-- constants.
pub record IsNamedBy (k : KernelState) (messages modules : ℕ) (s : Segment) : Type 0 where
  pub by_messages : namings s.first k.queues k.hand ≡ messages
  pub by_modules : naming_kept s.first (constants_kept k.modules) ≡ modules

-- A block of the heap is free; or it is a loaded domain's, and nothing names it; or it is the kernel's, and exactly one
-- message carries it, once; or it is the kernel's, and is the constants of exactly one loaded module.
pub data HasOneHolder (k : KernelState) (block : ℕ) : Type 0 where
  is_free : AreFree k.blocks block 1 → HasOneHolder k block
  is_owned : (s : Segment) → LiesIn k.blocks block s → in_use k.modules s.owner ≡ true → IsNamedBy k 0 0 s → HasOneHolder k block
  is_carried : (s : Segment) → LiesIn k.blocks block s → s.owner ≡ kernel → IsNamedBy k 1 0 s → HasOneHolder k block
  is_kept : (s : Segment) → LiesIn k.blocks block s → s.owner ≡ kernel → IsNamedBy k 0 1 s → HasOneHolder k block

-- Turns lead from one state to another.
pub data Reaches (s : State) : State → Type 0 where
  here : Reaches s s
  next : (t u : State) (lines : List TraceLine) → Reaches s t → Turn t u lines → Reaches s u

-- A turn, with all that holds of it.
pub record LawfulTurn (s t : State) (lines : List TraceLine) : Type 0 where
  pub turn : Turn s t lines
  pub good : Good t
  pub confined : Confined s t
  pub crosses : Crosses s t
  pub unloads : UnloadsCleanly s t lines
  pub unloads_alone : UnloadsAlone s t lines
  pub interrupts : InterruptsAlone s t

abbrev pub LawfulRunFrom : State → List TraceLine → Type 0
LawfulRunFrom s lines = RunBy LawfulTurn s lines

-- The laws of the machine.

-- The program counter is all that a processor forgets.
abbrev pub CounterComesBack : Type 0
CounterComesBack = (c : CountingProcessor) → at_counter (without_counter c) c.pc ≡ c

-- Wherever the program counter stands and whatever follows, an instruction that leads to the next one leaves the
-- counter and does what it does as a unit.
abbrev pub UnitsActAsInstructions : Type 0
UnitsActAsInstructions = (i : Instr) (over address : ℕ) (p : Processor) → IsStraight i
    → effect i over (at_counter p address) ≡ at_counter (plain_effect i p) address

-- Each unit's instruction is of that sort: it leads to the next one, or it is a skip.
pub record UnitsAreOfTheirSorts : Type 0 where
  pub plain : (i : Instr) → IsOfKind (Plain i) → IsStraight i
  pub store : (i : Instr) → IsOfKind (Store i) → IsStraight i
  pub load : (i : Instr) → IsOfKind (Load i) → IsStraight i
  pub skip : (i : Instr) → IsOfKind (Skip i) → IsSkip i

-- where a skip leads, from a program counter that stands at the next instruction
abbrev pub skipped : Bool → ℕ → ℕ → ℕ
skipped true over address = over
skipped false over address = address

-- Wherever the program counter stands, a skip goes behind the next instruction where its unit passes over the next one,
-- and changes nothing else.
abbrev pub SkipsPassAsInstructions : Type 0
SkipsPassAsInstructions = (i : Instr) (over address : ℕ) (p : Processor) → IsSkip i
    → effect i over (at_counter p address) ≡ at_counter p (skipped (passes i p) over address)

-- A unit that ends the handler, by its return or by a fault, changes nothing and writes nothing: the turn does the
-- rest.
abbrev pub LastUnitsChangeNothing : Type 0
LastUnitsChangeNothing = (k : KernelState) (r : RunnerState) → ends_handler (act k r).ending ≡ true
    → ((act k r).kernel ≡ k) × ((act k r).runner ≡ r) × ((act k r).lines ≡ [])

-- Every turn from a good state is lawful.
abbrev pub TurnsAreLawful : Type 0
TurnsAreLawful = (s t : State) (lines : List TraceLine) → Good s → Turn s t lines → LawfulTurn s t lines

-- So is every turn of a run from one.
abbrev pub RunsAreLawful : Type 0
RunsAreLawful = (s : State) (lines : List TraceLine) → Good s → RunFrom s lines → LawfulRunFrom s lines

-- Each turn of a run that goes on leaves fewer turns to come, whatever a module's code does: no run is without end.
abbrev pub FewerTurnsRemain : Type 0
FewerTurnsRemain = (s t : State) (lines : List TraceLine) → Good s → s.ended ≡ More → Turn s t lines → remaining t < remaining s

-- In every state that turns lead to from a good one, each block of the heap has one holder: none is lost, and none has
-- two.
abbrev pub NoBlockIsLost : Type 0
NoBlockIsLost = (s t : State) (block : ℕ) → Good s → Reaches s t → block < block_count → HasOneHolder t.kernel block

-- From every good state there is a run to an end.
abbrev pub RunsEnd : Type 0
RunsEnd = (s : State) → Good s → (lines : List TraceLine) × RunFrom s lines
