use Rattle.harbor_verify.proofs.NthForm.{first_words}
use Rattle.harbor_verify.proofs.targets.resolve.Goals as goal

pub number_reached-requires : goal.number_reached-requires
number_reached-requires c = first_words c.args.code.now c.args.starts.now c.requires.parts

pub branch_to-requires : goal.branch_to-requires
branch_to-requires c = first_words c.args.code.now c.args.starts.now c.requires.parts

pub jump_to-requires : goal.jump_to-requires
jump_to-requires c = first_words c.args.code.now c.args.starts.now c.requires.parts

pub call_to-requires : goal.call_to-requires
call_to-requires c = first_words c.args.code.now c.args.starts.now c.requires.parts
