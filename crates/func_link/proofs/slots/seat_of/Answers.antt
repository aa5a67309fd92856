use Rattle.std.proofs.Common.{◌∙◌, eqb, rules, tests}
use Rattle.std.proofs.lemmas.Iterator.{YieldsList-from_slice}
use Rattle.std.proofs.lemmas.Iterator.Search.{find_from_yields_List}
use Rattle.module_image.specs.Links.{Seat}
use Rattle.func_link.proofs.Seats.{find-seat_of}
use Rattle.func_link.proofs.slots.seat_of.Goals as goal

pub returns : goal.returns
returns c =
    find_from_yields_List (λ (s : Seat). eqb s.face.id c.args.id) _ _ c.find.result c.find.ensures.ran (YieldsList-from_slice c.args.seats.now cc) (λ x b q k. search (rules, tests))
    ∙ find-seat_of c.args.id c.args.seats.now
