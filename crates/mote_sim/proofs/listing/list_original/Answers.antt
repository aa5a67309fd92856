use Rattle.std.proofs.Common.{ap}
use Rattle.unit_code.specs.Listing.{Listing}
use Rattle.domain_model.proofs.UnitLaws.{proper_fits}
use Rattle.mote_sim.proofs.listing.list_original.Goals as goal

pub put_units-requires-clause-fits : goal.put_units-requires-clause-fits
put_units-requires-clause-fits g c =
    rw (c.deref.ensures.value, ap (λ (l : Listing). l.units) c.list.view_is) (proper_fits _ c.in-Ok.ensures.proper)
