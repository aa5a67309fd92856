use Rattle.std.proofs.Common.{◌≡◌, drop, map}
use Rattle.avr_asm.specs.Assembly.{size_of}
use Rattle.avr_asm.specs.Seen.{row_seen}
use Rattle.avr_asm.proofs.fields.size_of.Given as goal

abbrev pub invariant-loop-row : goal.invariant-loop-row
invariant-loop-row l = size_of (map row_seen (drop l.row-index l.rows)) ≡ size_of (map row_seen l.rows)
