-- What holds of a runner of words.
use Rattle.std.specs.Prelude.{ℕ, ◌<◌, List, slice_index}
use Rattle.mote_layout.specs.Memory.{bank_words, domain_count}
use Rattle.unit_code.specs.declared.unit.Unit.{Unit}
use Rattle.word_run.specs.FlashValue.{FlashValue, HoldsWords, IsSpelledBank, starts_of}

-- The words of each bank spell its units, and each template starts in the bank.
pub record KeepsWords (v : FlashValue) : Type 0 where
  pub words : HoldsWords v
  pub low : (domain unit : ℕ) → domain < domain_count → slice_index (starts_of v domain) unit < bank_words

-- A bank of a runner: its words spell its units, and its templates start in it.
pub record IsBank (units : List Unit) (words starts : List ℕ) : Type 0 where
  pub spelled : IsSpelledBank units words starts
  pub low : (unit : ℕ) → slice_index starts unit < bank_words
