use Rattle.std.proofs.Common.{◌≡◌, ◌∙◌, arith}
use Rattle.std.proofs.lemmas.Grind.{common_steps}
use Rattle.mote_sim.specs.Refusal.{text_line}
use Rattle.mote_sim.proofs.Ends.{ends_as}
use Rattle.mote_sim.proofs.one_line.put_text.Goals as goal

pub returns : goal.returns
returns g c =
    let line : c.as_slice.result.now ≡ text_line c.args.refusal.now = grind (arith, common_steps) in
    ends_as _ _ _ _ _ _ _ (λ s t a. (a.0, a.1 ∙ line)) c.put_answer.result c.put_answer.ensures.ends
