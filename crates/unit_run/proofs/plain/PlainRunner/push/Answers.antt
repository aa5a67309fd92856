use Rattle.std.proofs.Common.{arith}
use Rattle.avr_isa.specs.Operands.{IsEncodable}
use Rattle.avr_machine.specs.Conditions.{IsStraight}
use Rattle.avr_machine.specs.DataRead.{IsInMemory}
use Rattle.domain_model.specs.State.{at_counter}
use Rattle.domain_model.proofs.ActLaws.{running_good}
use Rattle.unit_run.proofs.Inside.{push_inside}
use Rattle.unit_run.proofs.plain.PlainRunner.push.Goals as goal

pub run_instruction-requires : goal.run_instruction-requires
unfolding IsEncodable IsStraight
run_instruction-requires c =
    let good = (running_good c.args.k.now c.args.self.now c.args.run.now c.requires.good c.requires.running).0 in
    let inside : IsInMemory c.args.k.now.processor.sp = (omega (arith, good.floor), omega (arith, good.base, good.top)) in
    record {
      operands = c.requires.register;
      straight = tt;
      inside = push_inside c.args.r (at_counter c.args.k.now.processor 0) inside;
    }
