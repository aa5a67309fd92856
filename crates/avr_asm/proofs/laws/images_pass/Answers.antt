use Rattle.avr_asm.proofs.Passing.{images_pass}
use Rattle.avr_asm.proofs.laws.images_pass.Goals as goal

pub returns : goal.returns
returns c = images_pass
