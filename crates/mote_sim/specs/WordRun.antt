-- The word run of an input: the machine's turns, with the words of each bank in place of its units.
use Rattle.std.specs.Prelude.{◌≡◌, ℕ, Bool, List, [], ◌∷◌, Ok, Err, ⊤}
use Rattle.module_image.specs.Contents.{Contents}
use Rattle.module_image.specs.Spelling.{Image}
use Rattle.domain_model.specs.declared.line.TraceLine.{TraceLine}
use Rattle.domain_model.specs.Prepared.{prepared}
use Rattle.domain_model.specs.State.{Input}
use Rattle.word_run.specs.FlashValue.{FlashValue, no_words, part, words_cleared, words_entered, words_placed}
use Rattle.word_run.specs.WordRun.{words_act}
use Rattle.mod_loader.specs.Banks.{AreWordsFor, Banked, Readied, SpellUnits, code_of, prepared_of}
use Rattle.mote_core.specs.Exact.{Workings, starting}
use Rattle.mote_core.specs.Value.{MoteValue}
use Rattle.mote_sim.specs.Turns.{EndsAt}

-- How the runner of words works.
abbrev pub by_words : Workings FlashValue
by_words =
    record {
      part = part;
      acts = words_act;
      placed_by = words_placed;
      cleared_by = words_cleared;
      entered_by = words_entered;
    }

-- The file is the image of a module, with these words: a rewriter's image has its own, and any other those that the rewriter gives to
-- its units. They spell the units.
pub record HasWords (file : List ℕ) (b : Banked) : Type 0 where
  pub contents : Contents
  pub image : Image file contents
  pub words : AreWordsFor (code_of b) contents
  pub spelled : SpellUnits (code_of b) b.loadable.sealed

abbrev pub HasWordsOrNone : List ℕ → Readied → Type 0
HasWordsOrNone file (Err refusal) = ⊤
HasWordsOrNone file (Ok b) = HasWords file b

-- What a file comes to, with words.
pub record IsReadied (file : List ℕ) (r : Readied) : Type 0 where
  pub prepares : prepared_of r ≡ prepared file
  pub words : HasWordsOrNone file r

abbrev pub AreReadied : List (List ℕ) → List Readied → Type 0
AreReadied [] [] = ⊤
AreReadied [] (r ∷ rs) = ⊥
AreReadied (file ∷ files) [] = ⊥
AreReadied (file ∷ files) (r ∷ rs) = IsReadied file r × AreReadied files rs

-- A mote of words at the start of the run of an input. It tells the instructions that it runs, or does not.
abbrev pub word_start : Input → List Readied → Bool → MoteValue FlashValue
word_start i images words =
    starting (no_words words) images i.events (record { units = i.unit_limit; handler = i.handler_limit })

-- These are the lines of the word run of an input, with those of the instructions where they are asked for.
pub record IsWordRun (i : Input) (words : Bool) (lines : List TraceLine) : Type 0 where
  pub images : List Readied
  pub readied : AreReadied i.images images
  pub last : MoteValue FlashValue
  pub ends : EndsAt by_words (word_start i images words) lines last
