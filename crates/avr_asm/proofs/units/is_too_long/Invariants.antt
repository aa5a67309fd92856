use Rattle.std.proofs.Common.{◌≡◌, ◌≤◌, ◌+◌, drop}
use Rattle.mote_layout.specs.Memory.{bank_words}
use Rattle.unit_code.specs.Ends.{long_length}
use Rattle.avr_asm.proofs.units.is_too_long.Given as goal

abbrev pub invariant-loop-unit : goal.invariant-loop-unit
invariant-loop-unit l = (l.words + long_length (drop l.unit-index l.units) ≡ long_length l.units) × (l.words ≤ bank_words)
