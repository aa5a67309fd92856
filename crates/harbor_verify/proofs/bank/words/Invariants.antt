use Rattle.std.proofs.Common.{◌≡◌, ◌++◌, drop, length}
use Rattle.harbor_verify.proofs.bank.words.Given as goal

-- the words that were copied, and those left
abbrev pub invariant-loop-place : goal.invariant-loop-place
invariant-loop-place l = record {
  all : l.copy.items ++ drop l.place l.code ≡ l.code;
  count : l.count ≡ length l.code;
}
