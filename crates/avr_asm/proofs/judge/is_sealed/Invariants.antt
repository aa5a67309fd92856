use Rattle.std.proofs.Common.{◌≡◌, drop, map}
use Rattle.avr_asm.specs.Refusals.{is_sealed}
use Rattle.avr_asm.specs.Seen.{row_seen}
use Rattle.avr_asm.proofs.judge.is_sealed.Given as goal

abbrev pub invariant-loop-row : goal.invariant-loop-row
invariant-loop-row l = is_sealed (map row_seen (drop l.row-index l.rows)) ≡ is_sealed (map row_seen l.rows)
