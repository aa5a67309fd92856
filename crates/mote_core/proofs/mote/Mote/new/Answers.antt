use Rattle.std.proofs.Common.{map}
use Rattle.domain_model.proofs.StartLaws.{begins_good}
use Rattle.domain_model.specs.Events.{loader_events, packets_in}
use Rattle.mod_loader.specs.Banks.{prepared_of}
use Rattle.mote_core.proofs.mote.Mote.new.Goals as goal

pub invariant_of-result : goal.invariant_of-result
invariant_of-result g c =
    rw (c.in_ok-kernel.ensures, c.requires.runner, c.in_ok-agenda.ensures.packets, c.in_ok-agenda.ensures.events)
    (begins_good (map prepared_of c.args.images.items) (packets_in c.args.script.events.items) (loader_events c.args.script.events.items) c.args.limits.units c.args.limits.handler c.requires.images c.requires.packets c.requires.packet_times c.requires.times c.requires.units c.requires.least c.requires.greatest)

pub returns-clause-good : goal.returns-clause-good
returns-clause-good g c =
    rw (c.in_ok-kernel.ensures, c.requires.runner, c.in_ok-agenda.ensures.packets, c.in_ok-agenda.ensures.events)
    (begins_good (map prepared_of c.args.images.items) (packets_in c.args.script.events.items) (loader_events c.args.script.events.items) c.args.limits.units c.args.limits.handler c.requires.images c.requires.packets c.requires.packet_times c.requires.times c.requires.units c.requires.least c.requires.greatest)
