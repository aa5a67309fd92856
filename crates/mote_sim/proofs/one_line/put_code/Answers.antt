use Rattle.std.proofs.Common.{◌≡◌, ◌∙◌, arith}
use Rattle.std.proofs.lemmas.Grind.{common_steps}
use Rattle.mote_sim.specs.Refusal.{code_line}
use Rattle.mote_sim.proofs.Ends.{ends_as}
use Rattle.mote_sim.proofs.one_line.put_code.Goals as goal

pub returns : goal.returns
returns g c =
    let line : c.as_slice.result.now ≡ code_line c.args.refusal.now = grind (arith, common_steps) in
    ends_as _ _ _ _ _ _ _ (λ s t a. (a.0, a.1 ∙ line)) c.put_answer.result c.put_answer.ensures.ends
