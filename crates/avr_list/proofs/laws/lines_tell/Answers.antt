use Rattle.avr_list.proofs.Telling.{lines_tell}
use Rattle.avr_list.proofs.laws.lines_tell.Goals as goal

pub returns : goal.returns
returns c = lines_tell
