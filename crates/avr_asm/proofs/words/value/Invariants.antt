use Rattle.std.proofs.Common.{◌≡◌, ◌≤◌, drop}
use Rattle.avr_asm.specs.Text.{most, value, value_from}
use Rattle.avr_asm.proofs.words.value.Given as goal

abbrev pub invariant-loop-digit : goal.invariant-loop-digit
invariant-loop-digit l = (value_from l.value (drop l.digit-index l.text) ≡ value l.text) × (l.value ≤ most)
