use Rattle.avr_asm.proofs.Uniques.{images_are_one}
use Rattle.avr_asm.proofs.laws.images_are_one.Goals as goal

pub returns : goal.returns
returns c = images_are_one
