use Rattle.std.proofs.Common.{length}
use Rattle.event_script.proofs.Steps.{IsSoFar}
use Rattle.event_script.proofs.script.parse_script.Given as goal

abbrev pub invariant-loop-rest : goal.invariant-loop-rest
invariant-loop-rest l = IsSoFar l.images l.text l.rest l.latest l.line l.events.items

abbrev pub decreases-loop-rest : goal.decreases-loop-rest
decreases-loop-rest l = length l.rest
