use Rattle.std.proofs.Common.{◌≡◌, refl, sym, subst, Err, rules}
use Rattle.module_image.specs.Reading.{image_of}
use Rattle.mote_sim.specs.Refusal.{BadImage}
use Rattle.mote_sim.specs.Tools.{IsListBy}
use Rattle.mote_sim.proofs.Ends.{ends_as}
use Rattle.mote_sim.proofs.listing.list.Goals as goal

pub returns-in-Err : goal.returns-in-Err
returns-in-Err g c =
    let bad : image_of c.args.file.now ≡ Err c.in-Err.refusal = search rules in
    ends_as _ _ _ _ _ _ _
    (λ s t a. record { made = Err (BadImage c.in-Err.refusal); is_made = subst (λ r. IsListBy r (Err (BadImage c.in-Err.refusal))) (sym bad) refl; told = a })
    c.put_image.result c.put_image.ensures
