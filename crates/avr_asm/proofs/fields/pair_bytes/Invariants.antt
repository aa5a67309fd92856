use Rattle.std.proofs.Common.{◌≡◌, ◌++◌, true, length}
use Rattle.avr_asm.specs.Text.{are_pairs, pair_bytes}
use Rattle.avr_asm.proofs.fields.pair_bytes.Given as goal

abbrev pub invariant-loop-rest : goal.invariant-loop-rest
invariant-loop-rest l = (l.bytes.items ++ pair_bytes l.rest ≡ pair_bytes l.pairs) × (are_pairs l.rest ≡ true)

abbrev pub decreases-loop-rest : goal.decreases-loop-rest
decreases-loop-rest l = length l.rest
