use Rattle.trace_text.proofs.ReadBack.{lines_tell}
use Rattle.trace_text.proofs.laws.lines_tell.Goals as goal

pub returns : goal.returns
returns c = lines_tell
