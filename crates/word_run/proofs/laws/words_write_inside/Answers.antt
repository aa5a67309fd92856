use Rattle.word_run.proofs.WordLaws.{faults_come_first, writes_lie_inside}
use Rattle.word_run.proofs.laws.words_write_inside.Goals as goal

pub returns-clause-inside : goal.returns-clause-inside
returns-clause-inside c = writes_lie_inside

pub returns-clause-faults : goal.returns-clause-faults
returns-clause-faults c = faults_come_first
