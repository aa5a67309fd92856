-- The first word of an instruction of two words has a second one, whatever it is.
use Rattle.std.proofs.Common.{None}
use Rattle.avr_isa.proofs.Encodable.{one_word_encodable}
use Rattle.avr_isa.proofs.Outcome.{second_of_row}
use Rattle.avr_isa.proofs.decoding.outcome.Goals as goal

pub returns-in-None-clause-row : goal.returns-in-None-clause-row
returns-in-None-clause-row c = (c.in-None.is, second_of_row _ _ _ (c.in-Begun.ensures 0))

pub returns-in-Whole-clause-encodable : goal.returns-in-Whole-clause-encodable
returns-in-Whole-clause-encodable c = one_word_encodable _ None _ (c.in-Whole.ensures None)
