-- What a dump prints: the modules by their domains, the blocks by their addresses, the messages that wait in the order
-- in which they are taken, the timers in the order in which they fire.
use Rattle.std.specs.Prelude.{ℕ, zero, suc, ◌*◌, ◌==◌, List, [], ◌∷◌, ◌++◌, map, Bool, true, false, Option, Some, None, if◌then◌else◌}
use Rattle.mote_base.specs.declared.timer.Timer.{Timer}
use Rattle.mote_layout.specs.Memory.{block_bytes, domain_count, kernel}
use Rattle.mote_layout.specs.Blocks.{block_address}
use Rattle.mote_layout.specs.declared.segment.Segment.{Segment}
use Rattle.domain_model.specs.declared.line.TraceLine.{TraceLine}
use Rattle.domain_model.specs.declared.line.TraceLine.TheVariants as line
use Rattle.domain_model.specs.State.{Message, Loaded, KernelState, payload_address}
use Rattle.domain_model.specs.Modules.{id_at, module_at}

-- the line of a module
abbrev pub module_line : Option Loaded → List TraceLine
module_line None = []
module_line (Some m) = line.DumpModule m.face.id m.domain m.state ∷ []

-- the lines of the modules in so many domains from one on
abbrev pub module_lines : List Loaded → ℕ → ℕ → List TraceLine
module_lines modules domain zero = []
module_lines modules domain (suc count) = module_line (module_at modules domain) ++ module_lines modules (suc domain) count

-- and of all
unfoldable pub modules_dumped : List Loaded → List TraceLine
modules_dumped modules = module_lines modules 0 domain_count

-- A block's owner is told by its module's id, and the kernel by none.
abbrev pub owner_told : List Loaded → ℕ → Option ℕ
owner_told modules owner = if owner == kernel then None else Some (id_at modules owner)

abbrev pub block_line : List Loaded → Segment → TraceLine
block_line modules s = line.DumpBlock (block_address s.first) (block_bytes * s.count) (owner_told modules s.owner)

abbrev pub message_line : Bool → Message → TraceLine
message_line high m = line.DumpMsg high m.from m.to m.sort (payload_address m.load)

abbrev pub timer_line : Timer → TraceLine
timer_line t = line.DumpTimer t.«module» t.id t.due

-- A dump changes nothing.
abbrev pub dumped : KernelState → List TraceLine
dumped k =
    line.Dump k.clock ∷ modules_dumped k.modules ++ map (block_line k.modules) k.blocks ++ map (message_line true) k.queues.high
    ++ map (message_line false) k.queues.low ++ map timer_line k.timers ++ line.DumpEnd ∷ []
