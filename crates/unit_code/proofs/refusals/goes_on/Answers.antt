use Rattle.std.proofs.Common.{◌≡◌, ◌∙◌, ◌<◌, sym, ap, arith, length, ◌-◌, not, slice_get, Some}
use Rattle.std.specs.Option.{option_copied}
use Rattle.std.proofs.lemmas.Option.{slice_get_within}
use Rattle.unit_code.proofs.Last.{goes_on-last}
use Rattle.unit_code.proofs.refusals.goes_on.Goals as goal

pub returns-in-Some : goal.returns-in-Some
returns-in-Some c =
    let units = c.args.units.now in
    let last : slice_get units (length units - 1) ≡ Some c.in-Some.unit.now = sym c.last.ensures.value ∙ ap option_copied c.in-Some.is in
    let within : length units - 1 < length units = slice_get_within units (length units - 1) c.in-Some.unit.now last in
    ap not c.leaves.ensures ∙ sym (goes_on-last units (length units - 1) c.in-Some.unit.now (omega (arith, within)) last)
