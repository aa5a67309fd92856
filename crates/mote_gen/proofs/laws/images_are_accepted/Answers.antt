use Rattle.mote_gen.specs.Numbers.{numbers_of}
use Rattle.mote_gen.proofs.ImageLaws.{images_are_accepted}
use Rattle.mote_gen.proofs.laws.images_are_accepted.Goals as goal

pub returns : goal.returns
returns c = λ seed. images_are_accepted (numbers_of seed)
