use Rattle.std.proofs.Common.{◌≡◌, ◌++◌, drop, map}
use Rattle.avr_asm.specs.Refusals.{kinds_in}
use Rattle.avr_asm.specs.Seen.{row_seen}
use Rattle.avr_asm.proofs.units.kinds.Given as goal

abbrev pub invariant-loop-row : goal.invariant-loop-row
invariant-loop-row l = l.units.items ++ kinds_in l.sealed (map row_seen (drop l.row-index l.rows)) ≡ kinds_in l.sealed (map row_seen l.rows)
