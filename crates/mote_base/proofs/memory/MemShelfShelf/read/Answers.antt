use Rattle.std.proofs.Common.{◌∙◌, sym, ap, refl, not, List, ℕ}
use Rattle.mote_base.specs.Counting.{lists}
use Rattle.mote_base.specs.Shelves.{FailingShelf}
use Rattle.mote_base.proofs.FileLemmas.{gives_came}
use Rattle.mote_base.proofs.memory.MemShelfShelf.read.Goals as goal

pub returns-clause-bytes : goal.returns-clause-bytes
returns-clause-bytes c = λ p is. c.next_bytes.ensures.bytes p (ap (λ (s : FailingShelf). s.chosen) c.self.view_is ∙ is)

pub returns-clause-leads : goal.returns-clause-leads
returns-clause-leads c =
    rw (← c.self.view_is) (record {
      answer = ap not (sym c.if-fails_at.false ∙ c.fails_at.ensures.fails ∙ ap (λ (fails : List ℕ). lists fails c.self.inside.calls) c.deref.ensures.value);
      chosen = gives_came _ _ _ _ c.next_bytes.ensures.bound c.next_bytes.ensures.bytes;
      files = c.next_bytes.ensures.files;
      fails = refl;
      calls = c.fails_at.ensures.counts;
      faults = refl;
    })
