use Rattle.harbor_verify.proofs.NthForm.{no_more-is}
use Rattle.harbor_verify.proofs.targets.no_more.Goals as goal

pub returns : goal.returns
returns c = no_more-is c.args.code.now c.args.starts.now c.requires.parts c.args.n c.requires.inside
