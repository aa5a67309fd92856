use Rattle.avr_isa.proofs.Exact.{rows_are_unique}
use Rattle.avr_isa.proofs.laws.rows_are_unique.Goals as goal

pub returns : goal.returns
returns c = rows_are_unique
