use Rattle.std.proofs.Common.{◌<◌, List, ℕ, length, ◌∙◌, sym, subst}
use Rattle.mote_sim.proofs.Sources.{source_some}
use Rattle.mote_sim.proofs.assembling.write_image_text.Goals as goal

pub put_answer-requires-clause-some : goal.put_answer-requires-clause-some
put_answer-requires-clause-some g c =
    let e = c.in-Ok.ensures.ok in
    subst (λ (t : List ℕ). 0 < length t) (sym (c.deref.ensures.value ∙ e.2)) (source_some c.args.image.now e.1)
