use Rattle.std.proofs.Common.{◌≡◌, ◌∙◌, refl, sym, subst, true, false, Ok, Err, length, rules}
use Rattle.mote_sim.specs.Refusal.{BadWords, IsOriginal}
use Rattle.mote_sim.specs.Tools.{Counts, IsVerdictWhere, Tells}
use Rattle.mote_sim.proofs.Ends.{ends_as}
use Rattle.mote_sim.proofs.Judged.{words_spell, words_refused}
use Rattle.mote_sim.proofs.judging.judge_image.Goals as goal

pub returns-then-not-rewritten : goal.returns-then-not-rewritten
returns-then-not-rewritten g c =
    let plain : c.args.image.now.rewritten ≡ false = search rules in
    ends_as _ _ _ _ _ _ _
    (λ s t a. record { made = Err IsOriginal; is_made = subst (λ b. IsVerdictWhere b c.args.image.now (Err IsOriginal)) (sym plain) refl; told = a })
    c.put_answer.result c.put_answer.ensures.ends

pub returns-in-Ok-verify : goal.returns-in-Ok-verify
returns-in-Ok-verify g c =
    let is : c.args.image.now.rewritten ≡ true = search rules in
    let h = c.in-Ok-verify.ensures.ok in
    let read = words_spell c.args.image.now _ _ _ c.code-code.ensures.code (c.as_slice.ensures.value ∙ c.marks-marks.ensures) c.sealed.ensures (λ us ss. Counts (length us)) h.0 _ h.1 in
    ends_as _ _ _ _ _ _ _
    (λ s t a. record {
      made = Ok (Counts (length h.0));
      is_made = subst (λ b. IsVerdictWhere b c.args.image.now (Ok (Counts (length h.0)))) (sym is) read;
      told = subst (λ n. Tells (Ok (Counts n)) s t) h.2 a;
    }) c.put_verdict.result c.put_verdict.ensures

pub returns : goal.returns
returns g c =
    let is : c.args.image.now.rewritten ≡ true = search rules in
    let refusal = c.in-Err-verify.refusal in
    let read = words_refused c.args.image.now _ _ _ c.code-code.ensures.code (c.as_slice.ensures.value ∙ c.marks-marks.ensures) c.sealed.ensures (λ us ss. Counts (length us)) refusal c.in-Err-verify.ensures.first in
    ends_as _ _ _ _ _ _ _
    (λ s t a. record { made = Err (BadWords refusal); is_made = subst (λ b. IsVerdictWhere b c.args.image.now (Err (BadWords refusal))) (sym is) read; told = a })
    c.put_words.result c.put_words.ensures
