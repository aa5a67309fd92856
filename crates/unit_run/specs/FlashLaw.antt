-- The runner of words meets the law of runners.
use Rattle.std.specs.Prelude.{IsSome}
use Rattle.domain_model.specs.State.{KernelState}
use Rattle.domain_model.specs.Free.{UnitStep}
use Rattle.domain_model.specs.Good.{GoodMachine}
use Rattle.domain_model.specs.Runners.{unit_by}
use Rattle.word_run.specs.FlashValue.{FlashValue, part}
use Rattle.word_run.specs.WordRun.{words_act}
use Rattle.word_run.proofs.WordLaws.{words_run_as_units}
use Rattle.unit_run.specs.FlashRunners.{KeepsWords}

pub flash_law : (k : KernelState) (v : FlashValue) → KeepsWords v → GoodMachine k (part v) → IsSome k.running → UnitStep k (part v) (unit_by part (words_act k v))
flash_law k v held good inside = words_run_as_units k v held.words good inside
