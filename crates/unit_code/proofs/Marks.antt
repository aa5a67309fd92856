-- The least of marks, found one after the other.
use Rattle.std.proofs.Common.{◌≡◌, ℕ, Option, Some, None, refl, ap, arith}
use Rattle.unit_code.specs.Refusals.{lesser}

-- the least of a mark so far and the least of what is left
abbrev pub least_of : Option ℕ → Option ℕ → Option ℕ
least_of None left = left
least_of (Some mark) left = lesser left mark

-- a mark taken in before or after
pub least_of-lesser : (least left : Option ℕ) (mark : ℕ) → least_of (lesser least mark) left ≡ least_of least (lesser left mark)
least_of-lesser None left mark = refl
least_of-lesser (Some a) None mark = ap Some (omega arith)
least_of-lesser (Some a) (Some b) mark = ap Some (omega arith)
