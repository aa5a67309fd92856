use Rattle.std.proofs.Common.{◌≡◌, drop}
use Rattle.avr_asm.specs.Text.{are_word}
use Rattle.avr_asm.proofs.words.are_word.Given as goal

abbrev pub invariant-loop-c : goal.invariant-loop-c
invariant-loop-c l = are_word (drop l.c-index l.text) ≡ are_word l.text
