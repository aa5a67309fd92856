use Rattle.std.proofs.Common.{◌∙◌, Ok, Err}
use Rattle.mote_sim.specs.Refusal.{BadWords}
use Rattle.mote_sim.specs.Tools.{Lists}
use Rattle.mote_sim.proofs.Ends.{ends_as}
use Rattle.mote_sim.proofs.Judged.{words_spell, words_refused}
use Rattle.mote_sim.proofs.listing.list_spelled.Goals as goal

pub returns-in-Ok-verify : goal.returns-in-Ok-verify
returns-in-Ok-verify g c =
    let h = c.in-Ok-verify.ensures.ok in
    let read = words_spell c.args.image.now _ _ _ c.code-code.ensures.code (c.as_slice.ensures.value ∙ c.marks-marks.ensures) c.sealed.ensures (λ units starts. Lists units starts) h.0 _ h.1 in
    ends_as _ _ _ _ _ _ _ (λ s t a. record { made = Ok (Lists h.0 _); is_made = read; told = a }) c.list_accepted.result (c.list_accepted.ensures _ _ h.0 h.1)

pub returns : goal.returns
returns g c =
    let refusal = c.in-Err-verify.refusal in
    let read = words_refused c.args.image.now _ _ _ c.code-code.ensures.code (c.as_slice.ensures.value ∙ c.marks-marks.ensures) c.sealed.ensures (λ units starts. Lists units starts) refusal c.in-Err-verify.ensures.first in
    ends_as _ _ _ _ _ _ _ (λ s t a. record { made = Err (BadWords refusal); is_made = read; told = a }) c.put_words.result c.put_words.ensures
