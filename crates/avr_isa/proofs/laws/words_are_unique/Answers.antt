use Rattle.avr_isa.proofs.Unique.{words_are_unique}
use Rattle.avr_isa.proofs.laws.words_are_unique.Goals as goal

pub returns : goal.returns
returns c = words_are_unique
