use Rattle.std.proofs.Common.{◌≡◌, sym, subst, true, rules}
use Rattle.mote_sim.specs.Tools.{IsListWhere}
use Rattle.mote_sim.proofs.Ends.{ends_as}
use Rattle.mote_sim.proofs.listing.list_contents.Goals as goal

pub returns-then-rewritten : goal.returns-then-rewritten
returns-then-rewritten g c =
    let is : c.args.image.now.rewritten ≡ true = search rules in
    ends_as _ _ _ _ _ _ _
    (λ s t a. record { made = a.made; is_made = subst (λ b. IsListWhere b c.args.image.now a.made) (sym is) a.is_made; told = a.told })
    c.list_spelled.result c.list_spelled.ensures
