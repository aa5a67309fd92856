-- The bytes whose values a run leaves open, as an interrupt on the same stack and a kernel's own bytes would:
-- at every unit the dead bytes of the stack, at every entry of the kernel the kernel's own bytes.
use Rattle.std.specs.Prelude.{◌≡◌, ℕ, ◌+◌, ◌<◌, ◌&&◌, ◌||◌, nat_le, List, [], ◌∷◌, length, slice_index, Bool, true, false, Option, Some, None}
use Rattle.mote_base.specs.declared.frame.Frame.{Frame}
use Rattle.mote_layout.specs.Memory.{ram_start, red_zone_start, kernel_bytes_start, kernel_bytes_end}
use Rattle.unit_code.specs.declared.unit.Unit.{Unit}
use Rattle.unit_code.specs.declared.unit.Unit.TheVariants.{KernelCall, SlotCall, SlotIndirect, Return}
use Rattle.domain_model.specs.declared.handler.Running.{Running}
use Rattle.domain_model.specs.declared.fault.UnitEnd.{UnitEnd}
use Rattle.domain_model.specs.declared.fault.UnitEnd.TheVariants.{On, Over, Fault}
use Rattle.domain_model.specs.State.{KernelState, RunnerState, State}
use Rattle.domain_model.specs.Act.{Acted, act, next_unit}

-- the bytes from 0x0E00 to a stack pointer
abbrev pub is_dead : ℕ → ℕ → Bool
is_dead sp address = nat_le red_zone_start address && nat_le address sp

-- the kernel's own bytes, 0x0110 to 0x01FF
abbrev pub is_kernel_byte : ℕ → Bool
is_kernel_byte address = nat_le kernel_bytes_start address && nat_le address kernel_bytes_end

-- Two memories that agree at each address that is not free. What stands at a free address is a byte.
pub record SameBut (free : ℕ → Bool) (want got : List ℕ) : Type 0 where
  pub same_length : length got ≡ length want
  pub same : (i : ℕ) → free (i + ram_start) ≡ false → slice_index got i ≡ slice_index want i
  pub bytes : (i : ℕ) → free (i + ram_start) ≡ true → slice_index got i < 256

-- Two kernels that agree but for their memories' free bytes.
abbrev pub with_memory : KernelState → List ℕ → KernelState
with_memory k memory = record k { processor = record k.processor { memory = memory } }

pub record SameKernel (free : ℕ → Bool) (want got : KernelState) : Type 0 where
  pub rest : got ≡ with_memory want got.processor.memory
  pub memory : SameBut free want.processor.memory got.processor.memory

-- Two states that do.
pub record SameState (free : ℕ → Bool) (want got : State) : Type 0 where
  pub kernel : SameKernel free want.kernel got.kernel
  pub rest : got ≡ record want { kernel = got.kernel }

-- A unit enters the kernel where it is a kernel call or a call of a slot, where it returns to another domain's call,
-- where it faults, and where it ends the handler.
abbrev pub calls_kernel : Option Unit → Bool
calls_kernel None = true
calls_kernel (Some (KernelCall n)) = true
calls_kernel (Some (SlotCall i)) = true
calls_kernel (Some SlotIndirect) = true
calls_kernel (Some _) = false

abbrev pub is_crossed : List Frame → Bool
is_crossed [] = false
is_crossed (f ∷ below) = f.cross

abbrev pub crosses_back : Option Unit → List Frame → Bool
crosses_back (Some Return) frames = is_crossed frames
crosses_back _ frames = false

abbrev pub ends_handler : UnitEnd → Bool
ends_handler On = false
ends_handler Over = true
ends_handler (Fault note) = true

abbrev pub enters_from : Option Running → List Frame → RunnerState → UnitEnd → Bool
enters_from None frames r ending = true
enters_from (Some run) frames r ending =
    calls_kernel (next_unit r run) || (crosses_back (next_unit r run) frames || ends_handler ending)

abbrev pub enters_kernel : KernelState → RunnerState → Bool
enters_kernel k r = enters_from k.running k.frames r (act k r).ending

-- The dead bytes end at the stack pointer that the unit leaves; after a fault and after the handler's end, at
-- the one that it found.
abbrev pub dead_top : UnitEnd → KernelState → KernelState → ℕ
dead_top On old new = new.processor.sp
dead_top Over old new = old.processor.sp
dead_top (Fault note) old new = old.processor.sp

-- the addresses that the next unit leaves open
abbrev pub unit_free : KernelState → RunnerState → ℕ → Bool
unit_free k r address =
    is_dead (dead_top (act k r).ending k (act k r).kernel) address || (enters_kernel k r && is_kernel_byte address)

-- What the next unit may do: it is `act` in everything but the free bytes.
pub record UnitStep (k : KernelState) (r : RunnerState) (got : Acted) : Type 0 where
  pub kernel : SameKernel (unit_free k r) (act k r).kernel got.kernel
  pub runner : got.runner ≡ (act k r).runner
  pub lines : got.lines ≡ (act k r).lines
  pub ending : got.ending ≡ (act k r).ending
