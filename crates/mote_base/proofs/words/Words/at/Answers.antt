use Rattle.std.proofs.Common.{◌<◌, length, ap, arith}
use Rattle.mote_base.specs.Words.{words_of}
use Rattle.mote_base.proofs.WordLemmas.{length-words_of, get_or-words_of}
use Rattle.mote_base.proofs.words.Words.at.Goals as goal

pub overflow_mul-i : goal.overflow_mul-i
overflow_mul-i c = omega (arith, ap length c.self.view_is, length-words_of c.self.inside.bytes.now)

pub bounds-bytes-i : goal.bounds-bytes-i
bounds-bytes-i c = omega (arith, ap length c.self.view_is, length-words_of c.self.inside.bytes.now)

pub overflow_mul-i-2 : goal.overflow_mul-i-2
overflow_mul-i-2 c = omega (arith, ap length c.self.view_is, length-words_of c.self.inside.bytes.now)

pub overflow_add-i : goal.overflow_add-i
overflow_add-i c = omega (arith, ap length c.self.view_is, length-words_of c.self.inside.bytes.now)

pub bounds-bytes-i-2 : goal.bounds-bytes-i-2
bounds-bytes-i-2 c = omega (arith, ap length c.self.view_is, length-words_of c.self.inside.bytes.now)

pub returns-clause-word : goal.returns-clause-word
returns-clause-word c =
    let below : c.args.i < length (words_of c.self.inside.bytes.now) = rw c.self.view_is c.requires in
    let worth = get_or-words_of c.self.inside.bytes.now c.args.i below in
    rw (← c.self.view_is, worth) (omega arith)

pub returns-clause-words : goal.returns-clause-words
returns-clause-words c = rw (← c.self.view_is) c.self.invariant.1
