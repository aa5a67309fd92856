-- Runners that tell the instructions that they run, and runners that do not.
use Rattle.std.specs.Prelude.{◌≡◌, false}
use Rattle.domain_model.specs.Runners.{without_ran}
use Rattle.domain_model.specs.State.{KernelState}
use Rattle.word_run.specs.FlashValue.{FlashValue}
use Rattle.word_run.specs.WordRun.{WordsActed, words_act}

-- the runner that tells none
abbrev pub untold : FlashValue → FlashValue
untold v = record v { tells = false }

-- A unit whose instructions are not told.
abbrev pub quietly : WordsActed → WordsActed
quietly got = record { kernel = got.kernel; runner = untold got.runner; lines = without_ran got.lines; ending = got.ending }

-- Whether the instructions are told changes nothing but their lines.
abbrev pub TellingAddsLines : Type 0
TellingAddsLines = (k : KernelState) (v : FlashValue) → words_act k (untold v) ≡ quietly (words_act k v)
