use Rattle.unit_code.proofs.Entries.{stands}
use Rattle.unit_code.proofs.laws.entries_stand.Goals as goal

pub returns : goal.returns
returns c = λ e h. stands e h
