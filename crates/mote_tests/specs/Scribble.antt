-- What the runner that scribbles does.
use Rattle.std.specs.Prelude.{ℕ, zero, suc, ◌+◌, ◌-◌, ◌||◌, List, Bool, true, false, Option, Some, None, slice_set}
use Rattle.mote_layout.specs.Memory.{ram_start, red_zone_start, kernel_bytes_start, kernel_bytes_end}
use Rattle.domain_model.specs.State.{KernelState, RunnerState}
use Rattle.domain_model.specs.declared.fault.UnitEnd.{UnitEnd}
use Rattle.domain_model.specs.declared.handler.Running.{Running}
use Rattle.domain_model.specs.Act.{act, next_unit}
use Rattle.domain_model.specs.Free.{calls_kernel, dead_top, ends_handler, with_memory}
use Rattle.domain_model.specs.Runners.{ActedBy}

-- the byte that it writes
abbrev pub ink : ℕ
ink = 0xAA

-- so many bytes from a place on are ink
abbrev pub inked : ℕ → ℕ → List ℕ → List ℕ
inked place zero memory = memory
inked place (suc n) memory = slice_set (inked place n memory) (place + n) ink

-- the bytes from the red zone's first up to the stack pointer
abbrev pub dead_inked : ℕ → List ℕ → List ℕ
dead_inked top memory = inked (red_zone_start - ram_start) (top + 1 - red_zone_start) memory

-- and at a call of the kernel and at the handler's end all of the kernel's own
abbrev pub kernel_inked : Bool → List ℕ → List ℕ
kernel_inked true memory = inked (kernel_bytes_start - ram_start) (kernel_bytes_end + 1 - kernel_bytes_start) memory
kernel_inked false memory = memory

-- whether a unit calls the kernel or ends the handler. (One that returns to another domain's call leaves the kernel's
-- bytes open too; this runner keeps them there.)
abbrev pub calls_or_ends : Option Running → RunnerState → UnitEnd → Bool
calls_or_ends None r ending = true
calls_or_ends (Some run) r ending = calls_kernel (next_unit r run) || ends_handler ending

-- the last address of the stack that the next unit leaves open
abbrev pub top_of : KernelState → RunnerState → ℕ
top_of k r = dead_top (act k r).ending k (act k r).kernel

-- the memory behind the unit, with ink in every byte that the unit leaves open
abbrev pub scribbled : KernelState → RunnerState → List ℕ
scribbled k r = kernel_inked (calls_or_ends k.running r (act k r).ending) (dead_inked (top_of k r) (act k r).kernel.processor.memory)

-- the unit itself but for these bytes
abbrev pub scribble_acts : KernelState → RunnerState → ActedBy RunnerState
scribble_acts k r =
    record {
      kernel = with_memory (act k r).kernel (scribbled k r);
      runner = (act k r).runner;
      lines = (act k r).lines;
      ending = (act k r).ending;
    }
