use Rattle.word_run.proofs.FewLines.{lines_are_few}
use Rattle.word_run.proofs.WordLaws.{few_instructions_suffice, words_run_as_units}
use Rattle.word_run.proofs.laws.words_run_as_units.Goals as goal

pub returns-clause-units : goal.returns-clause-units
returns-clause-units c = words_run_as_units

pub returns-clause-can : goal.returns-clause-can
returns-clause-can c = few_instructions_suffice

pub returns-clause-few : goal.returns-clause-few
returns-clause-few c = lines_are_few
