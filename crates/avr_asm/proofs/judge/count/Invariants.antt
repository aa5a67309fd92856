use Rattle.std.proofs.Common.{◌≡◌, ◌≤◌, ◌+◌, drop, map}
use Rattle.avr_asm.specs.Refusals.{count}
use Rattle.avr_asm.specs.Seen.{row_seen}
use Rattle.avr_asm.proofs.judge.count.Given as goal

abbrev pub invariant-loop-row : goal.invariant-loop-row
invariant-loop-row l = (l.total + count (map row_seen (drop l.row-index l.rows)) ≡ count (map row_seen l.rows)) × (l.total ≤ l.row-index)
