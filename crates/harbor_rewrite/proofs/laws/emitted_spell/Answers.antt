use Rattle.harbor_rewrite.proofs.Emission.{emitted_spell}
use Rattle.harbor_rewrite.proofs.laws.emitted_spell.Goals as goal

pub returns : goal.returns
returns c = emitted_spell
