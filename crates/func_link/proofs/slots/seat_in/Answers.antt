use Rattle.std.proofs.Common.{◌∙◌, eqb, rules, tests}
use Rattle.std.proofs.lemmas.Iterator.{YieldsList-from_slice}
use Rattle.std.proofs.lemmas.Iterator.Search.{find_from_yields_List}
use Rattle.module_image.specs.Links.{Seat}
use Rattle.func_link.proofs.Seats.{find-seat_in}
use Rattle.func_link.proofs.slots.seat_in.Goals as goal

pub returns : goal.returns
returns c =
    find_from_yields_List (λ (s : Seat). eqb s.domain c.args.domain) _ _ c.find.result c.find.ensures.ran (YieldsList-from_slice c.args.seats.now cc) (λ x b q k. search (rules, tests))
    ∙ find-seat_in c.args.domain c.args.seats.now
