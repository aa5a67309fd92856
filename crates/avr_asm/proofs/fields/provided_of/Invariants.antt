use Rattle.std.proofs.Common.{◌≡◌, ◌++◌, drop, map}
use Rattle.avr_asm.specs.Assembly.{provided_of}
use Rattle.avr_asm.specs.Encoding.{AreLow}
use Rattle.avr_asm.specs.Seen.{row_seen}
use Rattle.avr_asm.proofs.fields.provided_of.Given as goal

abbrev pub invariant-loop-row : goal.invariant-loop-row
invariant-loop-row l =
    (l.provided.items ++ provided_of (map row_seen l.rows) (map row_seen (drop l.row-index l.rows)) ≡ provided_of (map row_seen l.rows) (map row_seen l.rows))
    × AreLow (provided_of (map row_seen l.rows) (map row_seen (drop l.row-index l.rows)))
