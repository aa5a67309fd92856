use Rattle.command_line.proofs.CommandLaws.{commands_are_by_rules, commands_are_within_limits}
use Rattle.command_line.proofs.command.commands_are_by_rules.Goals as goal

pub returns-clause-rules : goal.returns-clause-rules
returns-clause-rules c = commands_are_by_rules

pub returns-clause-limits : goal.returns-clause-limits
returns-clause-limits c = commands_are_within_limits
