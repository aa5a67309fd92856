use Rattle.std.proofs.Common.{ℕ, ◌<◌, ◌^◌, List}
use Rattle.std.specs.List.{AllByRecursion}
use Rattle.harbor_rewrite.proofs.Joining.{HaveJoined}
use Rattle.harbor_rewrite.proofs.laws.words_exist.Given as goal

abbrev pub invariant-loop-i : goal.invariant-loop-i
invariant-loop-i l = (words : List ℕ) × AllByRecursion (λ word. word < 2 ^ 16) words × HaveJoined l.units l.shapes l.starts words l.i
