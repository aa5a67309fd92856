use Rattle.std.proofs.Common.{List, ap, sym, drop-drop, drop}
use Rattle.domain_model.specs.declared.event.Packet.{Packet}
use Rattle.mote_core.proofs.agenda.Agenda.pass_packet.Goals as goal

pub returns : goal.returns
returns c =
    rw (← c.self.view_is)
    (ap (λ (ps : List Packet). record { packets = ps; events = drop c.self.inside.passed c.self.inside.events.items })
    (sym (drop-drop 1 c.self.inside.heard c.self.inside.packets.items)))
