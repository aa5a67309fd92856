use Rattle.std.proofs.Common.{◌≡◌, drop}
use Rattle.avr_asm.specs.Text.{are_digits}
use Rattle.avr_asm.proofs.words.are_digits.Given as goal

abbrev pub invariant-loop-c : goal.invariant-loop-c
invariant-loop-c l = are_digits (drop l.c-index l.text) ≡ are_digits l.text
