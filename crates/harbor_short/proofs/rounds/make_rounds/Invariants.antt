-- So many rounds lead from all long to the present shapes, and the starts are theirs.
use Rattle.std.proofs.Common.{◌≡◌, ℕ, ◌+◌, ◌≤◌, length}
use Rattle.unit_code.specs.Spelling.{starts_of}
use Rattle.harbor_short.specs.Longs.{longs}
use Rattle.harbor_short.specs.Rounds.{AreRounds, all_long}
use Rattle.harbor_short.proofs.rounds.make_rounds.Given as goal

abbrev pub invariant-loop-shapes : goal.invariant-loop-shapes
invariant-loop-shapes l = record {
  rounds : (n : ℕ) × (n + longs l.shapes ≤ length l.units) × AreRounds l.units n (all_long l.units) l.shapes;
  placed : l.starts ≡ starts_of l.units l.shapes;
}

abbrev pub decreases-loop-shapes : goal.decreases-loop-shapes
decreases-loop-shapes l = longs l.shapes
