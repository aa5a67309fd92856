use Rattle.avr_asm.proofs.Whole.{lines_are_read_in_one_way}
use Rattle.avr_asm.proofs.laws.lines_are_read_in_one_way.Goals as goal

pub returns : goal.returns
returns c = lines_are_read_in_one_way
