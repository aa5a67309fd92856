use Rattle.std.proofs.Common.{◌≡◌, length}
use Rattle.avr_asm.specs.Text.{are_pairs}
use Rattle.avr_asm.proofs.words.are_pairs.Given as goal

abbrev pub invariant-loop-rest : goal.invariant-loop-rest
invariant-loop-rest l = are_pairs l.rest ≡ are_pairs l.text

abbrev pub decreases-loop-rest : goal.decreases-loop-rest
decreases-loop-rest l = length l.rest
