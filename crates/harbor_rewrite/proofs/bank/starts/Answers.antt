use Rattle.unit_code.specs.Spelling.{starts_of}
use Rattle.harbor_spell.proofs.Placed.{same_count}
use Rattle.harbor_rewrite.proofs.bank.starts.Goals as goal

pub measure-requires-clause-shaped : goal.measure-requires-clause-shaped
measure-requires-clause-shaped c = same_count (starts_of c.args.units.now c.args.shapes.now) 0 c.args.units.now c.args.shapes.now c.requires.shapes
