-- The first item at which a condition holds, looked for from the front.
use Rattle.std.proofs.Common.{◌≡◌, ◌∙◌, ℕ, zero, suc, ◌+◌, ◌<◌, List, [], ◌∷◌, length, drop, Option, None, sym, ap, arith}
use Rattle.unit_code.specs.declared.error.CodeError.{CodeError}
use Rattle.unit_code.specs.declared.items.Item.{Item}
use Rattle.unit_code.specs.Refusals.{first_refused, or_else}

-- an item of which the condition doesn't hold is passed
pub first_refused-passed : (test : List Item → Option CodeError) (items : List Item) (i : ℕ) → i < length items → test (drop i items) ≡ None → first_refused test (drop (i + 1) items) ≡ first_refused test (drop i items)
first_refused-passed test [] i within none = absurd (omega (arith, within))
first_refused-passed test (x ∷ xs) zero within none = sym (ap (λ o. or_else o (first_refused test xs)) none)
first_refused-passed test (x ∷ xs) (suc i) within none =
    let next : suc i + 1 ≡ suc (i + 1) = omega arith in
    ap (λ k. first_refused test (drop k (x ∷ xs))) next ∙ first_refused-passed test xs i (omega (arith, within)) none
