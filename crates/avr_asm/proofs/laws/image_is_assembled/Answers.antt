use Rattle.avr_asm.proofs.Assembled.{image_is_assembled}
use Rattle.avr_asm.proofs.laws.image_is_assembled.Goals as goal

pub returns : goal.returns
returns c = image_is_assembled
