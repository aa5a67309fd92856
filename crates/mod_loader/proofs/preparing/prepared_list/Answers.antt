use Rattle.std.proofs.Common.{◌≡◌, ◌∙◌, ap, subst, List, ℕ}
use Rattle.std.specs.Prelude.{Ok}
use Rattle.unit_code.specs.Listing.{Listing}
use Rattle.domain_model.specs.Prepared.{Module, marks_of}
use Rattle.mod_loader.proofs.Banks.{original_spelled, original_words}
use Rattle.mod_loader.proofs.Prepared.{listed_numbers, listed_prepared}
use Rattle.mod_loader.proofs.preparing.prepared_list.Goals as goal

pub prepared_module-requires-clause-spelled : goal.prepared_module-requires-clause-spelled
prepared_module-requires-clause-spelled c = original_spelled c.in_ok-bank.bank c.args.list.now.units c.args.image.now.sealed c.requires.proper c.in_ok-bank.ensures.units c.in_ok-bank.ensures.emitted

pub prepared_module-requires-clause-words : goal.prepared_module-requires-clause-words
prepared_module-requires-clause-words c = original_words c.in_ok-bank.bank c.args.image.now c.args.list.now.units c.requires.original c.in_ok-bank.ensures.units c.in_ok-bank.ensures.emitted

pub prepared_module-requires-clause-together : goal.prepared_module-requires-clause-together
prepared_module-requires-clause-together c = listed_numbers c.args.list.now c.in_ok-bank.bank.units c.deref.result.now (marks_of c.args.image.now) c.requires.together (c.deref.ensures.value ∙ ap (λ (l : Listing). l.marks) c.list.view_is) c.in_ok-bank.ensures.units

pub returns-clause-prepared : goal.returns-clause-prepared
returns-clause-prepared c =
    let is = listed_prepared c.args.image.now c.args.list.now c.in_ok-bank.bank c.deref.result.now c.requires.none c.requires.listed c.in_ok-bank.ensures.units (c.deref.ensures.value ∙ ap (λ (l : Listing). l.marks) c.list.view_is) in
    ap (λ (m : Module). Ok m) c.in_ok-found.ensures.loadable ∙ is
