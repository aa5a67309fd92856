use Rattle.harbor_rewrite.proofs.Joining.{HaveJoined}
use Rattle.harbor_rewrite.proofs.bank.words.Given as goal

abbrev pub invariant-loop-i : goal.invariant-loop-i
invariant-loop-i l = HaveJoined l.units l.shapes l.starts l.words.items l.i
