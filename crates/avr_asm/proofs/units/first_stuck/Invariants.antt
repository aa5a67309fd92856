use Rattle.std.proofs.Common.{◌≡◌, drop}
use Rattle.avr_asm.specs.Refusals.{stuck}
use Rattle.avr_asm.proofs.units.first_stuck.Given as goal

abbrev pub invariant-loop-at : goal.invariant-loop-at
invariant-loop-at l = stuck l.long l.at (drop l.at l.units) ≡ stuck l.long 0 l.units
