use Rattle.avr_isa.proofs.Encodable.{rows_are_encodable}
use Rattle.avr_isa.proofs.laws.rows_are_encodable.Goals as goal

pub returns : goal.returns
returns c = rows_are_encodable
