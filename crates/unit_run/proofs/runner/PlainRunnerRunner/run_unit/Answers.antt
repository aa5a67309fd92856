use Rattle.std.proofs.Common.{◌∙◌, sym, arith}
use Rattle.domain_model.proofs.ActLaws.{act_lines, unit_of_kind, unit_in_bank}
use Rattle.unit_run.proofs.runner.PlainRunnerRunner.run_unit.Goals as goal

pub run_one-requires-clause-kind : goal.run_one-requires-clause-kind
run_one-requires-clause-kind c =
    unit_of_kind c.args.k.now c.args.self.now c.in-Some.run' c.in-Some-next_unit.unit c.requires.good (sym c.handler.ensures ∙ c.in-Some.is)
    (sym c.next_unit.ensures ∙ c.in-Some-next_unit.is)

pub run_one-requires-clause-unit : goal.run_one-requires-clause-unit
run_one-requires-clause-unit c =
    unit_in_bank c.args.k.now c.args.self.now c.in-Some.run' c.requires.good (sym c.handler.ensures ∙ c.in-Some.is)

pub returns-clause-few : goal.returns-clause-few
returns-clause-few c = omega (arith, act_lines c.args.k.now c.args.self.now)
