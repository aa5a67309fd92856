use Rattle.std.proofs.Common.{◌≡◌, drop, map}
use Rattle.avr_asm.specs.Refusals.{row_of}
use Rattle.avr_asm.specs.Seen.{row_seen}
use Rattle.avr_asm.proofs.judge.row_of.Given as goal

abbrev pub invariant-loop-row : goal.invariant-loop-row
invariant-loop-row l = row_of (map row_seen (drop l.row-index l.rows)) l.unit ≡ row_of (map row_seen l.rows) l.unit
