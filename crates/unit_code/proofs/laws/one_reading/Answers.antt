use Rattle.unit_code.proofs.ReadAgain.{spelled_are_read}
use Rattle.unit_code.proofs.SpelledBack.{accepted_are_spelled}
use Rattle.unit_code.proofs.laws.one_reading.Goals as goal

pub returns-clause-spelled : goal.returns-clause-spelled
returns-clause-spelled c = accepted_are_spelled

pub returns-clause-read : goal.returns-clause-read
returns-clause-read c = spelled_are_read
