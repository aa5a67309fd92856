use Rattle.event_script.proofs.Spelling.{spelled_events_are_read}
use Rattle.event_script.proofs.laws.spelled_events_are_read.Goals as goal

pub returns : goal.returns
returns c = spelled_events_are_read
