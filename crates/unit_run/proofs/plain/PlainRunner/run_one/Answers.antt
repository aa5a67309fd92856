use Rattle.std.proofs.Common.{subst}
use Rattle.unit_code.specs.Proper.{IsOfKind}
use Rattle.domain_model.specs.State.{at_counter}
use Rattle.domain_model.proofs.InstructionLaws.{plain_is_straight}
use Rattle.unit_run.proofs.Inside.{plain_inside}
use Rattle.unit_run.proofs.plain.PlainRunner.run_one.Goals as goal

pub run_instruction-requires-clause-straight : goal.run_instruction-requires-clause-straight
run_instruction-requires-clause-straight c = plain_is_straight c.in-Plain.instruction (subst IsOfKind c.in-Plain.is c.requires.kind)

pub run_instruction-requires-clause-inside : goal.run_instruction-requires-clause-inside
run_instruction-requires-clause-inside c =
    plain_inside c.in-Plain.instruction (at_counter c.args.k.now.processor 0) (subst IsOfKind c.in-Plain.is c.requires.kind)
