use Rattle.std.proofs.Common.{◌-◌, ◌∷◌, length, take, drop, sym}
use Rattle.command_line.proofs.CommandLaws.{commands_are_by_rules, commands_are_within_limits}
use Rattle.mote_sim.proofs.request.request_of.Goals as goal

pub returns-in-Some-clause-limits : goal.returns-in-Some-clause-limits
returns-in-Some-clause-limits c =
    commands_are_within_limits (c.verb-item.result ∷ take (length c.args.words.now - 1) (drop 1 c.args.words.now))
    (record { kind = c.in-Some.kind; files = c.in-Some.files }) (sym c.in-Some.ensures)

pub returns-in-Some-clause-operands : goal.returns-in-Some-clause-operands
returns-in-Some-clause-operands c =
    ((commands_are_by_rules (c.verb-item.result ∷ take (length c.args.words.now - 1) (drop 1 c.args.words.now))
    (record { kind = c.in-Some.kind; files = c.in-Some.files })).0 (sym c.in-Some.ensures)).number
