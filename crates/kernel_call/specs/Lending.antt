-- The processor is lent.
use Rattle.std.specs.Borrow.{Lends, MutBor, Fml}
use Rattle.avr_machine.specs.Processor.{Processor as CountingProcessor}
use Rattle.avr_machine.specs.contracts.cpu.Cpu as cpu
use Rattle.domain_model.specs.State.{KernelState, with_processor, without_counter}
use Rattle.kernel_call.specs.contracts.kernel.Kernel as kernel

-- k ends with what is left behind r as its processor. Where the program counter is left is not kept.
abbrev pub LendsCpu : MutBor KernelState → MutBor CountingProcessor → Fml
LendsCpu k r = Lends kernel.the_row cpu.the_row k r (λ c. with_processor k.now (without_counter c))
