use Rattle.std.proofs.Common.{◌≡◌, ◌++◌, drop, length}
use Rattle.harbor_rewrite.specs.Rewritten.{moved}
use Rattle.harbor_rewrite.proofs.image.moved.Given as goal

abbrev pub invariant-loop-i : goal.invariant-loop-i
invariant-loop-i l = record {
  whole : l.provided.items ++ moved (drop l.i l.functions) (drop l.i l.words) ≡ moved l.functions l.words;
  count : length l.provided.items ≡ l.i;
}
