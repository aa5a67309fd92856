use Rattle.std.proofs.Common.{◌≡◌, ◌∙◌, ap, arith, sym}
use Rattle.std.proofs.lemmas.Option.{none-some, same_Some}
use Rattle.harbor_verify.specs.Walks.{form_first, forms_in}
use Rattle.std.proofs.Common.{drop, ◌+◌, ◌∷◌}
use Rattle.harbor_verify.proofs.NthForm.{nth}
use Rattle.unit_code.specs.Beside.{form_words}
use Rattle.harbor_verify.proofs.targets.nth_form.Goals as goal

pub form_at-requires : goal.form_at-requires
form_at-requires c =
    let there = (nth c.args.code.now c.args.starts.now c.requires.parts c.args.n c.requires.inside).1 in
    omega (arith, c.from.ensures, there.within)

pub unreachable-requires : goal.unreachable-requires
unreachable-requires c =
    let there = nth c.args.code.now c.args.starts.now c.requires.parts c.args.n c.requires.inside in
    none-some there.0 (sym c.in-None.is ∙ c.form_at.ensures ∙ ap (λ place. form_first (drop place c.args.code.now)) c.from.ensures ∙ there.1.read)

pub returns-clause-form : goal.returns-clause-form
returns-clause-form c =
    let there = nth c.args.code.now c.args.starts.now c.requires.parts c.args.n c.requires.inside in
    let same : there.0 ≡ c.in-Some.form = same_Some there.0 c.in-Some.form (sym there.1.read ∙ sym (ap (λ place. form_first (drop place c.args.code.now)) c.from.ensures) ∙ sym c.form_at.ensures ∙ c.in-Some.is) in
    there.1.behind ∙ ap (λ f. f ∷ drop (c.args.n + 1) (forms_in c.args.code.now)) same

pub returns-clause-within : goal.returns-clause-within
returns-clause-within c =
    let there = nth c.args.code.now c.args.starts.now c.requires.parts c.args.n c.requires.inside in
    let same : there.0 ≡ c.in-Some.form = same_Some there.0 c.in-Some.form (sym there.1.read ∙ sym (ap (λ place. form_first (drop place c.args.code.now)) c.from.ensures) ∙ sym c.form_at.ensures ∙ c.in-Some.is) in
    let count = ap form_words same in
    omega (arith, there.1.within, count)
