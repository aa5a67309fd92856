use Rattle.std.proofs.Common.{◌≡◌, map, take}
use Rattle.unit_code.specs.Spelling.{start_of}
use Rattle.harbor_rewrite.proofs.image.entries.Given as goal

abbrev pub invariant-loop-number : goal.invariant-loop-number
invariant-loop-number l = l.entries.items ≡ map (start_of l.starts) (take l.number-index l.numbers)
