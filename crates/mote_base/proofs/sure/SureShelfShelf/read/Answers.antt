use Rattle.std.proofs.Common.{◌∙◌, ap, refl}
use Rattle.mote_base.specs.Shelves.{OpenFiles}
use Rattle.mote_base.proofs.FileLemmas.{gives_came}
use Rattle.mote_base.proofs.sure.SureShelfShelf.read.Goals as goal

pub returns-clause-bytes : goal.returns-clause-bytes
returns-clause-bytes c = λ p is. c.next_bytes.ensures.bytes p (ap (λ (s : OpenFiles). s.chosen) c.self.view_is ∙ is)

pub returns-clause-leads : goal.returns-clause-leads
returns-clause-leads c =
    rw (← c.self.view_is) (record {
      answer = refl;
      chosen = gives_came _ _ _ _ c.next_bytes.ensures.bound c.next_bytes.ensures.bytes;
      files = c.next_bytes.ensures.files;
    })
