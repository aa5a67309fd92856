use Rattle.std.proofs.Common.{◌≡◌, ◌+◌, ◌*◌, ◌≤◌, length}
use Rattle.mote_layout.specs.Limits.{payload_limit}
use Rattle.event_script.specs.Bytes.{pairs_of}
use Rattle.event_script.proofs.Pairs.{joined}
use Rattle.event_script.proofs.hex.pairs_of.Given as goal

abbrev pub invariant-loop-rest : goal.invariant-loop-rest
invariant-loop-rest l = (joined l.bytes (pairs_of l.rest) ≡ pairs_of l.text) × (2 * length l.bytes + length l.rest ≤ 2 * payload_limit)

abbrev pub decreases-loop-rest : goal.decreases-loop-rest
decreases-loop-rest l = length l.rest
