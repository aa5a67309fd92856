use Rattle.std.proofs.Common.{◌≡◌, ◌∙◌, ℕ, List, ap, sym, subst, None}
use Rattle.std.specs.Prelude.{Ok}
use Rattle.std.specs.List.{filter_map}
use Rattle.module_image.specs.Contents.{Contents}
use Rattle.unit_code.specs.Targets.{number_of}
use Rattle.harbor_verify.specs.Verdict.{refusal as verify_refusal, units_in}
use Rattle.harbor_verify.specs.Walks.{starts_in}
use Rattle.domain_model.specs.Prepared.{Module, marks_of}
use Rattle.mod_loader.specs.Listed.{AreNumbersOf}
use Rattle.mod_loader.proofs.Prepared.{spelled_numbers, spelled_prepared, spelled_units}
use Rattle.mod_loader.proofs.Banks.{own_words}
use Rattle.mod_loader.proofs.preparing.prepared_starts.Goals as goal

pub prepared_module-requires-clause-spelled : goal.prepared_module-requires-clause-spelled
prepared_module-requires-clause-spelled c = spelled_units c.args.code.now c.args.marks.now c.args.starts.now c.args.image.now.sealed c.in_ok-bank.bank c.requires.small c.requires.none c.in_ok-bank.ensures.value c.in_ok-bank.ensures.same.0 c.in_ok-bank.ensures.same.1 c.requires.starts

pub prepared_module-requires-clause-words : goal.prepared_module-requires-clause-words
prepared_module-requires-clause-words c = own_words c.in_ok-bank.bank c.args.image.now c.args.code.now c.requires.rewritten c.in_ok-bank.ensures.same.0 c.requires.code

pub prepared_module-requires-clause-together : goal.prepared_module-requires-clause-together
prepared_module-requires-clause-together c =
    let numbers : List ℕ = c.deref.result.now in
    let numbered : numbers ≡ filter_map (number_of c.args.starts.now) c.args.marks.now = c.deref.ensures.value ∙ c.in_ok-numbers.ensures ∙ ap (λ l. filter_map (number_of l) c.args.marks.now) c.as_slice.ensures in
    let P : List ℕ → Type 0 = λ ms. AreNumbersOf numbers c.in_ok-bank.bank.units ms in
    subst P c.requires.marks
    (spelled_numbers c.args.code.now c.args.marks.now c.args.starts.now numbers c.args.image.now.sealed c.in_ok-bank.bank.units c.requires.small c.requires.none c.in_ok-bank.ensures.value c.requires.starts numbered)

pub returns-clause-prepared : goal.returns-clause-prepared
returns-clause-prepared c =
    let image : Contents = c.args.image.now in
    let numbers : List ℕ = c.deref.result.now in
    let marks : List ℕ = marks_of image in
    let numbered : numbers ≡ filter_map (number_of c.args.starts.now) marks = c.deref.ensures.value ∙ c.in_ok-numbers.ensures ∙ ap (λ l. filter_map (number_of l) c.args.marks.now) c.as_slice.ensures ∙ ap (filter_map (number_of c.args.starts.now)) c.requires.marks in
    let none : verify_refusal image.code marks image.sealed ≡ None = ap (λ ws. verify_refusal ws marks image.sealed) (sym c.requires.code) ∙ ap (λ ms. verify_refusal c.args.code.now ms image.sealed) (sym c.requires.marks) ∙ c.requires.none in
    let is = spelled_prepared image c.in_ok-bank.bank c.args.starts.now numbers none (c.in_ok-bank.ensures.value ∙ ap units_in c.requires.code) c.in_ok-bank.ensures.same.1 (c.requires.starts ∙ ap starts_in c.requires.code) numbered in
    ap (λ (m : Module). Ok m) c.in_ok-found.ensures.loadable ∙ is
