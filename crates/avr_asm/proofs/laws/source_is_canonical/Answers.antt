use Rattle.avr_asm.proofs.Canons.{source_is_canonical}
use Rattle.avr_asm.proofs.laws.source_is_canonical.Goals as goal

pub returns : goal.returns
returns c = source_is_canonical
