use Rattle.std.proofs.Common.{◌≡◌, ◌++◌, drop}
use Rattle.avr_asm.specs.Source.{provided_lines, text_of}
use Rattle.avr_asm.proofs.sourcing.put_provided.Given as goal

abbrev pub invariant-loop-i : goal.invariant-loop-i
invariant-loop-i l = l.out.items ++ text_of (provided_lines (drop l.i l.provided) (drop l.i l.numbers)) ≡ l.fn.out.items ++ text_of (provided_lines l.provided l.numbers)
