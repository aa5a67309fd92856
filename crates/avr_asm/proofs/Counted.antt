-- Counting from the front.
use Rattle.std.specs.Prelude.{ℕ, ◌+◌, ◌≡◌, Option, Some, None}
use Rattle.std.proofs.Common.{arith}
use Rattle.avr_asm.specs.Line.{Line, Item}
use Rattle.avr_asm.specs.Rows.{unit_after}

pub more : (k : ℕ) (o : Option Line) → unit_after k o ≡ unit_after 0 o + k
more k None = omega arith
more k (Some (Item u goal)) = omega arith
more k (Some _) = omega arith
