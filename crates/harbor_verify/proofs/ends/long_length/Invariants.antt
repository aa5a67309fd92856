use Rattle.std.proofs.Common.{◌≡◌, ◌+◌, ◌*◌, ◌≤◌, drop}
use Rattle.unit_code.specs.Ends.{long_length}
use Rattle.harbor_verify.specs.Verdict.{units_in}
use Rattle.harbor_verify.proofs.ends.long_length.Given as goal

-- the words of the units before, each of 16 bits, and of those left
abbrev pub invariant-loop-n : goal.invariant-loop-n
invariant-loop-n l = record {
  sum : l.length + long_length (drop l.n (units_in l.code)) ≡ long_length (units_in l.code);
  most : l.length ≤ 65535 * l.n;
}
