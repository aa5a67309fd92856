use Rattle.std.proofs.Common.{◌≡◌, ◌++◌, drop}
use Rattle.avr_asm.specs.Source.{subscribed_lines, text_of}
use Rattle.avr_asm.proofs.sourcing.put_subscribed.Given as goal

abbrev pub invariant-loop-entry : goal.invariant-loop-entry
invariant-loop-entry l = l.out.items ++ text_of (subscribed_lines (drop l.entry-index l.subscribed)) ≡ l.fn.out.items ++ text_of (subscribed_lines l.subscribed)
