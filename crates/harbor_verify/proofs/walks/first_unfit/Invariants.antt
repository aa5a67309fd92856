use Rattle.std.proofs.Common.{◌≡◌, ◌+◌, ◌≤◌, drop, length}
use Rattle.unit_code.specs.Beside.{words_in}
use Rattle.harbor_verify.specs.Walks.{fit_instructions}
use Rattle.harbor_verify.proofs.walks.first_unfit.Given as goal

-- the words before the next instruction, with those that are read from there on, are all that are read
abbrev pub invariant-loop : goal.invariant-loop
invariant-loop l = record {
  end_is : l.end ≡ length l.code;
  inside : l.next ≤ length l.code;
  turns : l.counter ≤ l.next;
  read : l.next + words_in (fit_instructions l.sealed (drop l.next l.code)) ≡ words_in (fit_instructions l.sealed l.code);
}
