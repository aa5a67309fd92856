-- The refusal that is told: the first condition in the order of their numbers, at its least word.
use Rattle.std.specs.Prelude.{◌≡◌, ◌⊎◌, ℕ, ◌<◌, ◌≤◌, Bool, List}
use Rattle.harbor_verify.specs.Conditions.{Holds}
use Rattle.harbor_verify.specs.declared.error.VerifyError.{VerifyError}
use Rattle.harbor_verify.specs.declared.error.VerifyError.TheVariants.{Word, Guard, Target, FallsOff, Empty, TooLong, Entry}

-- A condition by its number, from 1, and the place or the count that it names, or 0.
abbrev pub numbered : VerifyError → ℕ × ℕ
numbered (Word place) = (1, place)
numbered (Guard place) = (2, place)
numbered (Target place) = (3, place)
numbered FallsOff = (4, 0)
numbered Empty = (5, 0)
numbered (TooLong count) = (6, count)
numbered (Entry mark) = (7, mark)

abbrev pub order : VerifyError → ℕ
order e = (numbered e).0

abbrev pub error_word : VerifyError → ℕ
error_word e = (numbered e).1

-- The other has a greater number, or the same and no lesser word.
abbrev pub IsNoLater : VerifyError → VerifyError → Type 0
IsNoLater e other = (order e < order other) ⊎ ((order e ≡ order other) × (error_word e ≤ error_word other))

-- It holds, and is no later than any that holds.
pub record IsFirst (words marks : List ℕ) (sealed : Bool) (e : VerifyError) : Type 0 where
  pub holds : Holds words marks sealed e
  pub first : (other : VerifyError) → Holds words marks sealed other → IsNoLater e other
