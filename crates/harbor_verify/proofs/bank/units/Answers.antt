use Rattle.std.proofs.Common.{arith}
use Rattle.harbor_verify.proofs.Unfolded.{units_end}
use Rattle.harbor_verify.proofs.bank.units.Goals as goal

pub returns : goal.returns
returns c =
    units_end c.args.code.now c.args.starts.now c.requires.parts c.requires.units c.loop-n.n c.loop-n.read.items (omega (arith, c.loop-n-test.false)) c.loop-n.invariant
