use Rattle.std.proofs.Common.{◌∙◌, List, ℕ, subst, sym}
use Rattle.harbor_verify.specs.Parts.{ArePartsOf}
use Rattle.harbor_verify.proofs.Accepted.{accepted_parts, accepted_units, few_accepted, units_are}
use Rattle.harbor_verify.proofs.bank.read_units.Goals as goal

pub units-requires-clause-parts : goal.units-requires-clause-parts
units-requires-clause-parts c =
    let P : List ℕ → Type 0 = λ l. ArePartsOf c.args.code.now l in
    subst P (sym c.as_slice-places.ensures)
    (accepted_parts c.args.code.now c.args.starts.now (few_accepted c.args.code.now c.args.starts.now c.requires) c.len-count.ensures.words c.requires)

pub units-requires-clause-units : goal.units-requires-clause-units
units-requires-clause-units c = accepted_units c.args.code.now c.args.starts.now (few_accepted c.args.code.now c.args.starts.now c.requires) c.len-count.ensures.words c.requires

pub returns-clause-units : goal.returns-clause-units
returns-clause-units c = λ marks sealed units h.
    c.in_ok-units.ensures ∙ units_are c.args.code.now marks c.args.starts.now sealed units (few_accepted c.args.code.now c.args.starts.now c.requires) c.len-count.ensures.words h
