use Rattle.avr_isa.proofs.Encodable.{one_word_stands_alone}
use Rattle.avr_isa.proofs.laws.one_word_stands_alone.Goals as goal

pub returns : goal.returns
returns c = one_word_stands_alone
