use Rattle.std.proofs.Common.{◌≡◌, ◌+◌, ◌≤◌, ◌++◌, drop, length}
use Rattle.unit_code.specs.Beside.{forms_words, starts_from}
use Rattle.harbor_verify.specs.Walks.{allowed_forms}
use Rattle.harbor_verify.proofs.walks.note_starts.Given as goal

-- the words before the next template, with those that are read from there on, are all that are read; so are the starts
abbrev pub invariant-loop : goal.invariant-loop
invariant-loop l = record {
  end_is : l.end ≡ length l.code;
  inside : l.next ≤ length l.code;
  turns : l.counter ≤ l.next;
  few : length l.starts ≤ l.counter;
  read : l.next + forms_words (allowed_forms l.sealed (drop l.next l.code)) ≡ forms_words (allowed_forms l.sealed l.code);
  told : l.starts ++ starts_from l.next (allowed_forms l.sealed (drop l.next l.code)) ≡ starts_from 0 (allowed_forms l.sealed l.code);
}
