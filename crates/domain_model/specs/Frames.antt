-- Calls within a domain and of a slot: what they ask for, what they enter, and the frames by which they come back.
use Rattle.std.specs.Prelude.{ℕ, ◌+◌, ◌-◌, nat_lt, nat_le, List, ◌∷◌, length, Bool, true, false, Option, Some, None, slice_get, slice_index_or}
use Rattle.std.specs.Option.{option_map_or}
use Rattle.mote_base.specs.Frames.{frame_limit}
use Rattle.mote_base.specs.declared.frame.Frame.{Frame}
use Rattle.mote_layout.specs.Memory.{floor, pointer_z}
use Rattle.mote_layout.specs.Page.{entry_at}
use Rattle.mote_layout.specs.declared.page.Entry.{Entry}
use Rattle.mote_layout.specs.declared.page.Entry.TheVariants as entry
use Rattle.module_image.specs.declared.face.Provided.{Provided}
use Rattle.module_image.specs.Links.{bound_slot}
use Rattle.domain_model.specs.declared.handler.Running.{Running}
use Rattle.domain_model.specs.declared.fault.Rule.TheVariants as rule
use Rattle.domain_model.specs.declared.fault.FaultNote.{FaultNote}
use Rattle.domain_model.specs.declared.line.TraceLine.{TraceLine}
use Rattle.domain_model.specs.declared.line.TraceLine.TheVariants as line
use Rattle.domain_model.specs.State.{Processor, Loaded, KernelState, pair, with_byte, seats}
use Rattle.domain_model.specs.Modules.{id_at, module_at}

-- Two bytes 0 are pushed.
abbrev pub reserved : Processor → Processor
reserved p = record (with_byte (with_byte p p.sp 0) (p.sp - 1) 0) { sp = p.sp - 2 }

-- Two bytes have room on the stack.
abbrev pub has_room : Processor → Bool
has_room p = nat_le (floor + 2) p.sp

-- What a call asks for: room for two bytes on the stack, and then room for its frame.
abbrev pub depth_fault : Bool → KernelState → Option FaultNote
depth_fault true k = None
depth_fault false k = Some (record { rule = rule.Depth; address = k.processor.sp })

abbrev pub room_fault : Bool → KernelState → Option FaultNote
room_fault true k = depth_fault (nat_lt (length k.frames) frame_limit) k
room_fault false k = Some (record { rule = rule.StackOver; address = k.processor.sp })

abbrev pub call_fault : KernelState → Option FaultNote
call_fault k = room_fault (has_room k.processor) k

-- what is kept of the caller, which goes on at a unit: by its own call, or by one of a slot
abbrev pub kept_frame : Running → ℕ → Bool → Frame
kept_frame run back cross = record { domain = run.domain; back = back; base = run.base; bound = run.bound; cross = cross }

-- A call keeps a frame and pushes two bytes, and something else runs.
abbrev pub called : Frame → Running → KernelState → KernelState
called f run k = record k { processor = reserved k.processor; frames = f ∷ k.frames; running = Some run }

-- A call within the domain: it may not pop the two bytes, and may store as before.
abbrev pub local_called : KernelState → Running → ℕ → KernelState
local_called k run back = called (kept_frame run back false) (record run { base = k.processor.sp - 2 }) k

-- A call of a slot, into a domain: it may neither pop nor store above what it pushes itself.
abbrev pub slot_called : KernelState → Running → ℕ → ℕ → KernelState
slot_called k run back domain =
    called (kept_frame run back true)
    (record { domain = domain; base = k.processor.sp - 2; bound = k.processor.sp - 2 }) k

-- what runs again, once its frame is taken
abbrev pub resumed : Frame → Running
resumed f = record { domain = f.domain; base = f.base; bound = f.bound }

-- A return takes the frame on top, and the two bytes from the stack. What they are doesn't matter.
abbrev pub came_back : Frame → List Frame → KernelState → KernelState
came_back f below k =
    record k {
      processor = record k.processor { sp = k.processor.sp + 2 };
      frames = below;
      running = Some (resumed f);
    }

-- The slot that an indirect call names: Z is its address in the entry page.
abbrev pub slot_there : Option Entry → Option ℕ
slot_there (Some (entry.Slot i)) = Some i
slot_there _ = None

abbrev pub indirect_slot : Processor → Option ℕ
indirect_slot p = slot_there (entry_at (pair p pointer_z))

-- The domain and the place in its provided list to which a slot of the running module is bound.
abbrev pub bound_at : KernelState → Running → ℕ → Option (ℕ × ℕ)
bound_at k run slot = bound_slot (seats k.modules) run.domain slot

-- the unit at which the function at a place in a domain's provided list begins, and its id
abbrev pub entry_unit : List Loaded → ℕ → ℕ → ℕ
entry_unit modules domain place =
    option_map_or (λ (m : Loaded). slice_index_or m.entries place 0) (module_at modules domain) 0

abbrev pub function_id : List Loaded → ℕ → ℕ → ℕ
function_id modules domain place =
    option_map_or (λ (m : Loaded). option_map_or (λ (p : Provided). p.func) (slice_get m.face.provided.items place) 0)
    (module_at modules domain) 0

-- the line of a call through a slot that is bound, and that of one through a slot that isn't
abbrev pub call_line : KernelState → Running → ℕ → ℕ → ℕ → TraceLine
call_line k run slot domain place =
    line.Call k.clock (id_at k.modules run.domain) slot (id_at k.modules domain) (function_id k.modules domain place)

abbrev pub unbound_line : KernelState → Running → ℕ → TraceLine
unbound_line k run slot = line.Unbound k.clock (id_at k.modules run.domain) slot

-- the answer of a slot that isn't bound
abbrev pub unbound_answer : ℕ
unbound_answer = 0xFFFF
