use Rattle.std.proofs.Common.{◌≡◌, ◌∷◌, [], ◌++◌, List, length, sym, ap, ◌∙◌, append_assoc, append-nil, arith}
use Rattle.std.specs.Vec.Iter.{into_iter_items}
use Rattle.domain_model.specs.declared.event.LoaderEvent.{LoaderEvent}
use Rattle.domain_model.specs.declared.event.Packet.{Packet}
use Rattle.domain_model.specs.Events.{loader_event, loader_events, onto_events, onto_packets, packet_of, packets_in}
use Rattle.mote_core.proofs.Agendas.{nothing_left, one_more, one_more_packet}
use Rattle.mote_core.proofs.agenda.Agenda.new.Goals as goal

pub loop-line-preserved : goal.loop-line-preserved
loop-line-preserved c =
    let at = c.loop-line in
    let x = c.in-Some.line in
    let steps : into_iter_items at.line-iterator ≡ x ∷ into_iter_items c.next.new.self = c.in-Some.ensures.steps.0 in (
      append_assoc at.yielded (x ∷ []) _ ∙ rw (← steps) at.invariant.0,
      c.in_ok-push_line.ensures.packets ∙ ap (λ (ps : List Packet). ps ++ onto_packets (packet_of x) []) at.invariant.1 ∙ sym (one_more_packet at.yielded x),
      c.in_ok-push_line.ensures.events ∙ ap (λ (es : List LoaderEvent). es ++ onto_events (loader_event x) []) at.invariant.2 ∙ sym (one_more at.yielded x),
      let was = at.invariant.3 in
          let gone = c.in-Some.ensures.steps.1 in
          let short = ap length steps in
          omega arith,
    )

pub returns : goal.returns
returns c =
    let at = c.loop-line in
    let none = c.in-None.ensures.steps in
    let empty : into_iter_items at.line-iterator ≡ [] = nothing_left _ (sym at.invariant.3 ∙ none.0) in
    let all : at.yielded ≡ c.args.script.events.items
    = sym (append-nil at.yielded) ∙ rw empty at at.invariant.0 ∙ c.into_iter-line-iterator.ensures.into_iter_gives.0 in
    record {
      packets = at.invariant.1 ∙ ap packets_in all;
      events = at.invariant.2 ∙ ap loader_events all;
    }
