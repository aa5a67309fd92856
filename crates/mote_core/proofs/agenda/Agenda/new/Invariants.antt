use Rattle.std.proofs.Common.{◌≡◌, ◌++◌, length}
use Rattle.std.specs.Vec.Iter.{into_iter_items, into_iter_len}
use Rattle.domain_model.specs.Events.{loader_events, packets_in}
use Rattle.mote_core.proofs.agenda.Agenda.new.Given as goal

abbrev pub invariant-loop-line : goal.invariant-loop-line
invariant-loop-line l = (l.yielded ++ into_iter_items l.line-iterator ≡ into_iter_items l.initial.line-iterator)
    × (l.packets.items ≡ packets_in l.yielded)
    × (l.events.items ≡ loader_events l.yielded)
    × (into_iter_len l.line-iterator ≡ length (into_iter_items l.line-iterator))
