use Rattle.avr_isa.proofs.Length.{row_length}
use Rattle.avr_isa.proofs.laws.lengths_are_the_rows.Goals as goal

pub returns : goal.returns
returns c = row_length
