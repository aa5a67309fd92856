use Rattle.word_run.proofs.Untold.{acts_untold}
use Rattle.word_run.proofs.telling.telling_adds_lines.Goals as goal

pub returns : goal.returns
returns c = acts_untold
