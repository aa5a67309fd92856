use Rattle.std.proofs.Common.{subst}
use Rattle.avr_asm.proofs.Encoded.{Ahead, ahead_end, another, cut_at, no_more}
use Rattle.avr_asm.proofs.encoding.words_of.Goals as goal

pub loop-unit-preserved : goal.loop-unit-preserved
loop-unit-preserved c =
    another c.args.firsts.now c.args.units.now c.args.units.now c.loop-unit.unit-index c.loop-unit.place c.unit_words-further.result c.loop-unit.words.items c.put_unit.new.words.items _
    (cut_at c.args.units.now c.loop-unit.unit-index _ c.loop-unit-test.true) c.unit_words-further.ensures.words c.in_ok-put_unit.ensures c.loop-unit.invariant.0 c.loop-unit.invariant.1 c.loop-unit.invariant.2

pub returns-clause-spelled : goal.returns-clause-spelled
returns-clause-spelled c = ahead_end c.args.firsts.now c.args.units.now c.loop-unit.place c.loop-unit.words.items
    (subst (λ us. Ahead c.args.firsts.now c.args.units.now c.loop-unit.place c.loop-unit.words.items us) (no_more c.args.units.now c.loop-unit.unit-index c.loop-unit-test.false) c.loop-unit.invariant.0)
