use Rattle.std.proofs.Common.{◌≡◌, ◌++◌, drop}
use Rattle.mote_base.specs.Digits.{pairs_text}
use Rattle.avr_asm.proofs.sourcing.put_pairs.Given as goal

abbrev pub invariant-loop-byte : goal.invariant-loop-byte
invariant-loop-byte l = l.out.items ++ pairs_text (drop l.byte-index l.bytes) ≡ l.fn.out.items ++ pairs_text l.bytes
