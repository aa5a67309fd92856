use Rattle.mod_loader.proofs.Banks.{placeable}
use Rattle.mod_loader.proofs.loadable.Loadable.code.Goals as goal

pub returns-clause-placeable : goal.returns-clause-placeable
returns-clause-placeable c = placeable c.self.inside.code c.self.inside.sealed c.self.invariant.1
