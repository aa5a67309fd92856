use Rattle.std.proofs.Common.{◌≡◌, ◌++◌, drop, map}
use Rattle.avr_asm.specs.Assembly.{units_in}
use Rattle.avr_asm.specs.Encoding.{AreNear}
use Rattle.avr_asm.specs.Seen.{row_seen}
use Rattle.avr_asm.proofs.units.units.Given as goal

abbrev pub invariant-loop-row : goal.invariant-loop-row
invariant-loop-row l =
    (l.units.items ++ units_in (map row_seen l.rows) l.sealed (map row_seen (drop l.row-index l.rows)) ≡ units_in (map row_seen l.rows) l.sealed (map row_seen l.rows))
    × AreNear (map row_seen l.rows) (map row_seen (drop l.row-index l.rows))
