use Rattle.event_script.proofs.Ranges.{scripts_have_events}
use Rattle.event_script.proofs.laws.scripts_have_such_events.Goals as goal

pub returns : goal.returns
returns c = scripts_have_events
