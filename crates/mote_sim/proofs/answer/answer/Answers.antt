use Rattle.std.proofs.Common.{refl, subst}
use Rattle.mote_sim.specs.Asking.{AsksBy, Came}
use Rattle.mote_sim.specs.Outcome.{NoCommand, MayFind}
use Rattle.mote_sim.proofs.Calls.{asks_none}
use Rattle.mote_sim.proofs.Ends.{ends_map}
use Rattle.mote_sim.proofs.answer.answer.Goals as goal

pub returns-in-Usage-clause-ends : goal.returns-in-Usage-clause-ends
returns-in-Usage-clause-ends g c =
    ends_map _ _ _ _ _ _ _ _ _
    (λ s t a. record {
      found = NoCommand;
      may = subst (λ o. MayFind (g.F.Shelf.files c.args.shelf.now) (Came g.F.Shelf.leads c.args.shelf.now c.args.shelf.now) o NoCommand) c.in-Usage.ensures.asked refl;
      answer = a;
    }) refl c.put_answer.result c.put_answer.ensures.ends

pub returns-in-Usage-clause-asks : goal.returns-in-Usage-clause-asks
returns-in-Usage-clause-asks g c =
    subst (λ o. AsksBy g.F.Shelf.leads c.args.shelf.now c.args.shelf.now o c.put_answer.result) c.in-Usage.ensures.asked
    (asks_none g.F.Shelf.leads c.args.shelf.now _ _ _ _ _ _ c.put_answer.result c.put_answer.ensures.ends)
