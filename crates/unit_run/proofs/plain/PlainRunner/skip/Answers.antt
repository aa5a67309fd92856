use Rattle.domain_model.proofs.InstructionLaws.{skip_is_skip}
use Rattle.unit_run.proofs.plain.PlainRunner.skip.Goals as goal

pub passes-requires-clause-skip : goal.passes-requires-clause-skip
passes-requires-clause-skip c = skip_is_skip c.args.skip.now c.requires.kind
