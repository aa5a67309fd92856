use Rattle.mote_sim.proofs.Pushed.{pushed}
use Rattle.mote_sim.proofs.operands.Operands.push.Goals as goal

pub returns : goal.returns
returns c = pushed c.self.inside.words c.self.inside.count c.args.word c.args.self.now c.self.invariant c.requires c.self.view_is
