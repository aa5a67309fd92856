use Rattle.std.proofs.Common.{◌∙◌, sym}
use Rattle.harbor_verify.proofs.Chained.{have_units, parts_end, parts_target, parts_units}
use Rattle.harbor_verify.proofs.NthForm.{first_words}
use Rattle.harbor_verify.proofs.Walking.{none_left}
use Rattle.harbor_verify.proofs.verdict.refused_parts.Goals as goal

pub returns-in-Some : goal.returns-in-Some
returns-in-Some c = sym (parts_target c.args.code.now c.args.marks.now c.args.starts.now c.requires c.in-Some.place (sym c.first_astray.ensures ∙ c.in-Some.is))

pub refusal_of_units-requires-clause-units : goal.refusal_of_units-requires-clause-units
refusal_of_units-requires-clause-units c = have_units c.args.code.now c.args.starts.now c.requires (sym c.first_astray.ensures ∙ none_left c.first_astray.result c.in_default.not-Some)

pub returns-in-Some-refusal_of_units : goal.returns-in-Some-refusal_of_units
returns-in-Some-refusal_of_units c =
    sym (parts_units c.args.code.now c.args.marks.now c.args.starts.now c.requires c.in-Some-refusal_of_units.e (sym c.first_astray.ensures ∙ none_left c.first_astray.result c.in_default.not-Some) (sym c.refusal_of_units.ensures ∙ c.in-Some-refusal_of_units.is))

pub stray_entry-requires : goal.stray_entry-requires
stray_entry-requires c = first_words c.args.code.now c.args.starts.now c.requires

pub returns-in-None : goal.returns-in-None
returns-in-None c =
    c.stray_entry.ensures
    ∙ sym (parts_end c.args.code.now c.args.marks.now c.args.starts.now c.requires (sym c.first_astray.ensures ∙ none_left c.first_astray.result c.in_default.not-Some) (sym c.refusal_of_units.ensures ∙ c.in-None.is))
