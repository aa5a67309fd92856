use Rattle.std.proofs.Common.{◌≡◌, ◌++◌, arith, rules}
use Rattle.harbor_rewrite.proofs.Joining.{joined_all, joined_next, templates_within}
use Rattle.harbor_rewrite.proofs.bank.words.Goals as goal

pub loop-i-preserved : goal.loop-i-preserved
loop-i-preserved c =
    let at : c.extend_from_slice.new.self.items ≡ c.loop-i.words.items ++ c.spell_unit.new.out.items = search rules in
    joined_next c.args.units.now c.args.shapes.now c.args.starts.now c.loop-i.words.items c.extend_from_slice.new.self.items c.spell_unit.new.out.items c.loop-i.i
    c.requires.shapes c.requires.starts c.loop-i-test.true c.spell_unit.ensures at c.loop-i.invariant

pub returns-clause-templates : goal.returns-clause-templates
returns-clause-templates c = joined_all c.args.units.now c.args.shapes.now c.args.starts.now c.loop-i.words.items c.loop-i.i c.requires.starts (omega arith) c.loop-i.invariant

pub returns-clause-room : goal.returns-clause-room
returns-clause-room c =
    let most = templates_within c.args.units.now c.args.shapes.now c.loop-i.words.items c.requires.proper.1.kinds (returns-clause-templates c) in
    omega (arith, most, c.requires.proper.1.fits)
