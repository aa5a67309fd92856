use Rattle.std.proofs.Common.{ℕ, List, replicate, ap}
use Rattle.avr_machine.specs.Processor.{Processor, no_memory}
use Rattle.avr_machine.proofs.cpu.Cpu.new.Goals as goal

-- the processor is 0 everywhere, if its memory is
pub returns : goal.returns
unfolding no_memory
returns c =
    let of_memory : List ℕ → Processor =
    λ bytes. record { registers = replicate 32 0; sreg = 0; sp = 0; pc = 0; memory = bytes }
    in ap of_memory (c.in_ok-ram.ensures.items_if_clones_equal (λ byte same. cc))
