use Rattle.harbor_spell.proofs.Emitted.{emitted_words_spell}
use Rattle.harbor_spell.proofs.laws.templates_spell.Goals as goal

pub returns : goal.returns
returns c = λ words sealed us ss proper shapes reads h. emitted_words_spell words sealed us ss proper shapes reads h
