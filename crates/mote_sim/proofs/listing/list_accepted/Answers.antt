use Rattle.std.proofs.Common.{◌∙◌, ◌≤◌, ℕ, sym, ap, subst, List, length}
use Rattle.std.specs.List.{AllByRecursion}
use Rattle.mote_layout.specs.Memory.{bank_words}
use Rattle.unit_code.specs.declared.unit.Unit.{Unit}
use Rattle.unit_code.specs.Listing.{BankListing}
use Rattle.unit_code.specs.Proper.{IsOfKind}
use Rattle.mote_sim.proofs.Judged.{spelled_fit, spelled_placed, lines_answer, lines_cut}
use Rattle.mote_sim.proofs.listing.list_accepted.Goals as goal

pub put_units-requires-clause-fits : goal.put_units-requires-clause-fits
put_units-requires-clause-fits g c =
    let a = c.requires.accepted in
    let units = c.deref.ensures.value ∙ ap (λ (b : BankListing). b.units) c.bank.view_is ∙ c.in-Ok.ensures.units a.marks a.sealed a.units a.spells in
    subst (λ (us : List Unit). length us ≤ bank_words) (sym units) (spelled_fit a.spells)

pub put_units-requires-clause-kinds : goal.put_units-requires-clause-kinds
put_units-requires-clause-kinds g c =
    let a = c.requires.accepted in
    let units = c.deref.ensures.value ∙ ap (λ (b : BankListing). b.units) c.bank.view_is ∙ c.in-Ok.ensures.units a.marks a.sealed a.units a.spells in
    subst (AllByRecursion IsOfKind) (sym units) a.spells.proper.kinds

pub put_units-requires-clause-placed : goal.put_units-requires-clause-placed
put_units-requires-clause-placed g c =
    let a = c.requires.accepted in
    let units = c.deref.ensures.value ∙ ap (λ (b : BankListing). b.units) c.bank.view_is ∙ c.in-Ok.ensures.units a.marks a.sealed a.units a.spells in
    let starts = c.deref-2.ensures.value ∙ ap (λ (b : BankListing). b.starts) c.bank.view_is ∙ c.in-Ok.ensures.same.1 in
    ap (λ (l : List ℕ). length l) starts ∙ spelled_placed a.spells ∙ ap (λ (us : List Unit). length us) (sym units)

pub returns-in-Ok-put_units : goal.returns-in-Ok-put_units
returns-in-Ok-put_units g c = λ marks sealed units spells.
    let are = c.deref.ensures.value ∙ ap (λ (b : BankListing). b.units) c.bank.view_is ∙ c.in-Ok.ensures.units marks sealed units spells in
    let starts = c.deref-2.ensures.value ∙ ap (λ (b : BankListing). b.starts) c.bank.view_is ∙ c.in-Ok.ensures.same.1 in
    lines_answer _ _ _ _ _ units c.args.starts.now (rw (← are, ← starts) c.in-Ok-put_units.ensures.wrote)

pub returns : goal.returns
returns g c = λ marks sealed units spells.
    let are = c.deref.ensures.value ∙ ap (λ (b : BankListing). b.units) c.bank.view_is ∙ c.in-Ok.ensures.units marks sealed units spells in
    let starts = c.deref-2.ensures.value ∙ ap (λ (b : BankListing). b.starts) c.bank.view_is ∙ c.in-Ok.ensures.same.1 in
    lines_cut _ _ _ _ _ units c.args.starts.now (rw (← are, ← starts) c.in-Err-put_units.ensures.broke)
