use Rattle.avr_isa.specs.Operands.{IsEncodable}
use Rattle.avr_machine.specs.Conditions.{IsStraight}
use Rattle.domain_model.specs.State.{at_counter}
use Rattle.unit_run.proofs.Inside.{pop_inside}
use Rattle.unit_run.proofs.plain.PlainRunner.pop.Goals as goal

pub run_instruction-requires : goal.run_instruction-requires
unfolding IsEncodable IsStraight
run_instruction-requires c = record {
  operands = c.requires.register;
  straight = tt;
  inside = pop_inside c.args.d (at_counter c.args.k.now.processor 0);
}
