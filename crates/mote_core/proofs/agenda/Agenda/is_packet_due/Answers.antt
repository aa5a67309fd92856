use Rattle.mote_core.proofs.Agendas.{first_is_due, none_is_due}
use Rattle.mote_core.proofs.agenda.Agenda.is_packet_due.Goals as goal

pub returns-in-Some : goal.returns-in-Some
returns-in-Some c = first_is_due c.args.self.now.packets c.in-Some.packet.now c.args.now c.in-Some.ensures

pub returns-in-None : goal.returns-in-None
returns-in-None c = none_is_due c.args.self.now.packets c.args.now c.in-None.ensures
