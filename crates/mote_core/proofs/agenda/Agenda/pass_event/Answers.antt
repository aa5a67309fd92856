use Rattle.std.proofs.Common.{List, ap, sym, drop-drop, drop}
use Rattle.domain_model.specs.declared.event.LoaderEvent.{LoaderEvent}
use Rattle.mote_core.proofs.agenda.Agenda.pass_event.Goals as goal

pub returns : goal.returns
returns c =
    rw (← c.self.view_is)
    (ap (λ (es : List LoaderEvent). record { packets = drop c.self.inside.heard c.self.inside.packets.items; events = es })
    (sym (drop-drop 1 c.self.inside.passed c.self.inside.events.items)))
