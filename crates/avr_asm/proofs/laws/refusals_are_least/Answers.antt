use Rattle.avr_asm.proofs.Least.{refusals_are_least}
use Rattle.avr_asm.proofs.laws.refusals_are_least.Goals as goal

pub returns : goal.returns
returns c = refusals_are_least
