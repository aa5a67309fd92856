use Rattle.std.proofs.Common.{◌≡◌, ◌∙◌, ◌<◌, ℕ, List, length, sym, subst}
use Rattle.avr_list.specs.Lines.{listing_line}
use Rattle.mote_base.specs.Written.{Puts}
use Rattle.mote_base.proofs.Puts.{puts_one}
use Rattle.mote_sim.specs.Pieces.{LeadsBySome}
use Rattle.mote_sim.proofs.SomeBytes.{listing_some}
use Rattle.mote_sim.proofs.listing.put_unit.Goals as goal

pub returns : goal.returns
returns g c =
    let d = c.put.ensures in
    let same : c.as_slice.result.now ≡ listing_line c.args.number c.args.place c.args.unit.now = c.as_slice.ensures.value ∙ c.list_line.ensures.text in
    subst (λ t. Puts g.K.Sink.written g.K.Sink.faults (LeadsBySome g.K.Sink.leads) c.args.out.now c.put.new.self t c.put.result) same (puts_one d.ok d.partly d.cause
    (subst (λ (t : List ℕ). 0 < length t) (sym same) (listing_some c.args.number c.args.place c.args.unit.now), d.leads))
