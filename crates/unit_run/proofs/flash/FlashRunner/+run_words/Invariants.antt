use Rattle.unit_run.proofs.flash.FlashRunner.+run_words.Given as goal

abbrev pub decreases-run_words : goal.decreases-run_words
decreases-run_words l = l.left
