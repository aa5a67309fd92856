use Rattle.std.proofs.Common.{◌∙◌, rules, tests}
use Rattle.std.proofs.lemmas.Iterator.{YieldsList-from_slice}
use Rattle.std.proofs.lemmas.Iterator.Search.{position_from_yields_List}
use Rattle.module_image.specs.Links.{serves}
use Rattle.func_link.proofs.Seats.{position-place_of}
use Rattle.func_link.proofs.seat.place_of.Goals as goal

pub returns-clause-place : goal.returns-clause-place
returns-clause-place c =
    position_from_yields_List (serves c.args.subscribed.now) _ _ c.position.result c.position.ensures.ran (YieldsList-from_slice c.args.provided.now cc) (λ x b q k. search (rules, tests))
    ∙ position-place_of c.args.subscribed.now c.args.provided.now
