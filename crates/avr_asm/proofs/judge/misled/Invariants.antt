use Rattle.std.proofs.Common.{◌≡◌, List, drop, map}
use Rattle.avr_asm.specs.Refusals.{first, goal_of, leads_astray}
use Rattle.avr_asm.specs.Rows.{Row}
use Rattle.avr_asm.specs.Seen.{row_seen}
use Rattle.avr_asm.proofs.judge.misled.Given as goal

abbrev pub invariant-loop-row : goal.invariant-loop-row
invariant-loop-row l =
    first (λ (r : Row) (rs : List Row). leads_astray (map row_seen l.rows) l.total r (goal_of r.says)) (map row_seen (drop l.row-index l.rows))
    ≡ first (λ (r : Row) (rs : List Row). leads_astray (map row_seen l.rows) l.total r (goal_of r.says)) (map row_seen l.rows)
