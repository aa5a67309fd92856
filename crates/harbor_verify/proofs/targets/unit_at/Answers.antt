use Rattle.std.proofs.Common.{◌∙◌, sym}
use Rattle.harbor_verify.proofs.Unfolded.{unit_found, unit_read}
use Rattle.harbor_verify.proofs.targets.unit_at.Goals as goal

pub unreachable-requires : goal.unreachable-requires
unreachable-requires c =
    unit_found c.args.code.now c.args.starts.now c.requires.parts c.requires.units c.args.n _ c.requires.inside (λ f e. sym c.in-Err.is ∙ c.unit_or_place.ensures f e)

pub returns : goal.returns
returns c = unit_read c.args.code.now c.args.starts.now c.requires.parts c.requires.units c.args.n c.in-Ok.unit c.requires.inside (λ f e. sym c.in-Ok.is ∙ c.unit_or_place.ensures f e)
