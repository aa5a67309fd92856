use Rattle.domain_model.specs.State.{at_counter}
use Rattle.domain_model.proofs.InstructionLaws.{load_is_straight}
use Rattle.unit_run.proofs.Inside.{load_inside}
use Rattle.unit_run.proofs.plain.PlainRunner.load.Goals as goal

pub run_instruction-requires-clause-straight : goal.run_instruction-requires-clause-straight
run_instruction-requires-clause-straight c = load_is_straight c.args.load.now c.requires.kind

pub run_instruction-requires-clause-inside : goal.run_instruction-requires-clause-inside
run_instruction-requires-clause-inside c = load_inside c.args.load.now (at_counter c.args.k.now.processor 0) c.requires.kind
