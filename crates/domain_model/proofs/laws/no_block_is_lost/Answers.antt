use Rattle.domain_model.proofs.laws.no_block_is_lost.Goals as goal
use Rattle.domain_model.proofs.HolderLaws as holders

pub returns : goal.returns
returns c = holders.no_block_is_lost
