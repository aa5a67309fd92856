use Rattle.std.proofs.Common.{◌≡◌}
use Rattle.unit_code.specs.Units.{listed}
use Rattle.unit_code.proofs.FirstLaw.{first_told}
use Rattle.unit_code.proofs.reading.units.Goals as goal

pub returns-clause-first : goal.returns-clause-first
returns-clause-first c =
    let words = c.args.code.now in
    let marks = c.args.marks.now in
    let sealed = c.args.sealed in
    first_told words marks sealed c.listing.result (λ list. list ≡ listed words marks sealed) c.requires c.listing.ensures.ok c.listing.ensures.err
