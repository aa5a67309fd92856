use Rattle.std.proofs.Common.{suc, refl, sym, ap, arith}
use Rattle.harbor_short.specs.Longs.{longs}
use Rattle.harbor_short.proofs.Chosen.{all_longs}
use Rattle.harbor_short.proofs.rounds.make_rounds.Goals as goal

pub loop-shapes-init : goal.loop-shapes-init
loop-shapes-init c = record {
  rounds = (0, omega (arith, ap longs c.requires.long, all_longs c.args.units.now), sym c.requires.long);
  placed = c.measure.ensures;
}

pub loop-shapes-preserved : goal.loop-shapes-preserved
loop-shapes-preserved c =
    let before = c.loop-shapes.invariant.rounds in
    let fewer = c.loop-shapes-test.ensures.fewer refl in
    let round = c.loop-shapes-test.ensures.round in
    record {
      rounds = (suc before.0, omega (arith, fewer, before.1), (c.loop-shapes.shapes, before.2, round));
      placed = c.measure-in-loop-shapes.ensures;
    }
