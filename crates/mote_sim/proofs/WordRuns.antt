-- The word run of an input is one, and lawful.
use Rattle.std.proofs.Common.{◌≡◌, List, Bool, true, false, sym, ap, subst}
use Rattle.domain_model.specs.declared.line.TraceLine.{TraceLine}
use Rattle.domain_model.specs.Runners.{without_ran}
use Rattle.domain_model.specs.State.{Input}
use Rattle.word_run.specs.FlashValue.{FlashValue}
use Rattle.mod_loader.specs.Banks.{Readied}
use Rattle.mote_core.specs.Exact.{Turning}
use Rattle.mote_core.specs.Value.{MoteValue}
use Rattle.mote_sim.specs.Turns.{EndsAt}
use Rattle.mote_sim.specs.WordLaws.{LinesAreLeftOut, RunsAreOne}
use Rattle.mote_sim.specs.WordRun.{by_words, word_start}
use Rattle.mote_sim.proofs.Readied.{one_readying}
use Rattle.mote_sim.proofs.Turning.{one_end}
use Rattle.mote_sim.proofs.Untelling.{ends_untold, quiet_mote}

-- One mote's runs have equal lines, whatever list of the same images it is that they begin with.
same_lines : (i : Input) (words : Bool) (images others : List Readied) (lines told : List TraceLine) (last end : MoteValue FlashValue) → images ≡ others → EndsAt by_words (word_start i images words) lines last → EndsAt by_words (word_start i others words) told end → lines ≡ told
same_lines i words images others lines told last end same a b =
    let there : EndsAt by_words (word_start i images words) told end =
    subst (λ (rs : List Readied). EndsAt by_words (word_start i rs words) told end) (sym same) b in
    ap (λ (t : Turning FlashValue). t.lines) (one_end by_words (word_start i images words) lines told last end a there)

pub one_run : RunsAreOne
one_run i words lines others a b =
    same_lines i words a.images b.images lines others a.last b.last (one_readying i.images a.images b.images a.readied b.readied) a.ends b.ends

pub left_out : LinesAreLeftOut
left_out i all lines a b =
    same_lines i false a.images b.images (without_ran all) lines (quiet_mote a.last) b.last (one_readying i.images a.images b.images a.readied b.readied)
    (ends_untold (word_start i a.images true) a.last all a.ends) b.ends
