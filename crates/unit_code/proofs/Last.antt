-- The last unit decides how a list of units ends.
use Rattle.std.proofs.Common.{◌≡◌, ℕ, zero, suc, ◌+◌, List, [], ◌∷◌, length, not, slice_get, Some, ap, arith}
use Rattle.unit_code.specs.declared.unit.Unit.{Unit}
use Rattle.unit_code.specs.Ends.{goes_on, leaves}

pub goes_on-last : (us : List Unit) (i : ℕ) (u : Unit) → i + 1 ≡ length us → slice_get us i ≡ Some u → goes_on us ≡ not (leaves u)
goes_on-last [] i u last is = absurd (omega (arith, last))
goes_on-last (x ∷ []) zero u last is = let same : x ≡ u = cc in ap (λ v. not (leaves v)) same
goes_on-last (x ∷ []) (suc i) u last is = absurd (omega (arith, last))
goes_on-last (x ∷ y ∷ us) zero u last is = absurd (omega (arith, last))
goes_on-last (x ∷ y ∷ us) (suc i) u last is = goes_on-last (y ∷ us) i u (omega (arith, last)) is
