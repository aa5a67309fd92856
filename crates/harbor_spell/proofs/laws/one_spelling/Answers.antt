use Rattle.harbor_spell.proofs.OneSpelling.{one_spelling}
use Rattle.harbor_spell.proofs.laws.one_spelling.Goals as goal

pub returns : goal.returns
returns c = λ words marks sealed us vs starts places small h k. one_spelling words marks sealed us vs starts places small h k
