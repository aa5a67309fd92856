use Rattle.std.proofs.Common.{◌∙◌, sym, refl}
use Rattle.std.proofs.lemmas.Option.{slice_get_read}
use Rattle.mote_base.proofs.FileLemmas.{held_first}
use Rattle.mote_base.proofs.files.find.Goals as goal

pub returns-then-eq : goal.returns-then-eq
returns-then-eq c = record {
  file = c.index-files-i.result;
  here = slice_get_read _ _ _ _ refl c.loop-i-test.true c.index-files-i.is;
  held = held_first _ _ _ _ c.loop-i-test.true c.index-files-i.is c.loop-i.invariant (rw (← c.text.ensures, ← c.text-in-loop-i.ensures) (sym c.eq.ensures ∙ c.if-eq.true));
}
