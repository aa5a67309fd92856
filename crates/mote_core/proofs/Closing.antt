-- The end of a handler, where the kernel tells which module ends and keeps it no longer.
use Rattle.std.proofs.Common.{◌≡◌, ℕ, List, Option, None, Some, refl, ap, sym}
use Rattle.domain_model.specs.declared.line.TraceLine.{TraceLine}
use Rattle.domain_model.specs.Modules.{module_named}
use Rattle.domain_model.specs.State.{Loaded, KernelState, RunnerState}
use Rattle.domain_model.specs.Turn.{close, close_module, with_none_ending}

-- a kernel where none ends
pub none_ends : (k : KernelState) → k.ending ≡ None → with_none_ending k ≡ k
none_ends k none = ap (λ (o : Option ℕ). record k { ending = o }) (sym none)

module_closes : (o : Option Loaded) (k : KernelState) (r : RunnerState) (lines : List TraceLine) → close_module o (with_none_ending k) r lines ≡ close_module o k r lines
module_closes None k r lines = refl
module_closes (Some m) k r lines = refl

-- it goes on as the one where the module ended
closes_by : (e : Option ℕ) (k : KernelState) (r : RunnerState) (lines : List TraceLine) → k.ending ≡ e → close e (with_none_ending k) r lines ≡ close e k r lines
closes_by None k r lines is = ap (λ (n : KernelState). record { kernel = n; runner = r; lines = lines }) (none_ends k is)
closes_by (Some id) k r lines is = module_closes (module_named k.modules id) k r lines

pub closes : (k : KernelState) (r : RunnerState) (lines : List TraceLine) → close k.ending (with_none_ending k) r lines ≡ close k.ending k r lines
closes k r lines = closes_by k.ending k r lines refl
