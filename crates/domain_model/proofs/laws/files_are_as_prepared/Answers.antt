use Rattle.domain_model.proofs.FileLaws.{files_are_as_prepared}
use Rattle.domain_model.proofs.laws.files_are_as_prepared.Goals as goal

pub returns : goal.returns
returns c = files_are_as_prepared
