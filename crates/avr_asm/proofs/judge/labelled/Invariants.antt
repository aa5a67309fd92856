use Rattle.std.proofs.Common.{◌≡◌, drop, map}
use Rattle.avr_asm.specs.Refusals.{labelled}
use Rattle.avr_asm.specs.Seen.{row_seen}
use Rattle.avr_asm.proofs.judge.labelled.Given as goal

abbrev pub invariant-loop-row : goal.invariant-loop-row
invariant-loop-row l = labelled l.name (map row_seen (drop l.row-index l.rows)) ≡ labelled l.name (map row_seen l.rows)
