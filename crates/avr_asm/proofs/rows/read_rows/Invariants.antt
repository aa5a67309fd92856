use Rattle.std.proofs.Common.{◌≡◌, ◌≤◌, ◌+◌, ◌++◌, map, length}
use Rattle.avr_asm.specs.Rows.{rows, rows_of}
use Rattle.avr_asm.specs.Seen.{row_seen}
use Rattle.avr_asm.specs.Text.{lines_in}
use Rattle.avr_asm.proofs.rows.read_rows.Given as goal

abbrev pub invariant-loop-rest : goal.invariant-loop-rest
invariant-loop-rest l =
    (map row_seen l.found.items ++ rows l.line l.stage l.unit l.place (lines_in l.rest) ≡ rows_of (lines_in l.text))
    × (l.line + length (lines_in l.rest) ≡ 1 + length (lines_in l.text))
    × (l.line + length l.rest ≤ length l.text + 1) × (l.unit ≤ l.line)

abbrev pub decreases-loop-rest : goal.decreases-loop-rest
decreases-loop-rest l = length l.rest
