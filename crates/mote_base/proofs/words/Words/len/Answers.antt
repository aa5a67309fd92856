use Rattle.std.proofs.Common.{◌∙◌, sym, ap, length}
use Rattle.mote_base.proofs.WordLemmas.{length-words_of}
use Rattle.mote_base.proofs.words.Words.len.Goals as goal

pub returns-clause-len : goal.returns-clause-len
returns-clause-len c = sym (length-words_of c.self.inside.bytes.now) ∙ ap length c.self.view_is

pub returns-clause-words : goal.returns-clause-words
returns-clause-words c = rw (← c.self.view_is) c.self.invariant.1
