use Rattle.std.proofs.Common.{arith}
use Rattle.mote_base.proofs.WordLemmas.{words_fit}
use Rattle.mote_base.proofs.words.Words.new.Goals as goal

pub invariant_of-result : goal.invariant_of-result
invariant_of-result c = (omega (arith, c.if-bytes-eq1.false), words_fit c.args.bytes.now (λ i. omega (arith, c.type_inv.bytes i)))
