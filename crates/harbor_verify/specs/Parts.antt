-- What is known of words between the verifier's steps, and of words that it has accepted.
use Rattle.std.specs.Prelude.{◌≡◌, ℕ, ◌^◌, ◌<◌, ◌≤◌, Bool, List, None, Ok, length}
use Rattle.std.specs.List.{AllByRecursion}
use Rattle.unit_code.specs.Spelling.{Spells}
use Rattle.unit_code.specs.declared.unit.Unit.{Unit}
use Rattle.harbor_verify.specs.Resolved.{resolved}
use Rattle.harbor_verify.specs.Walks.{gap, starts_in, unfit}

-- There are few words of 16 bits, and in an image that is sealed or not they are templates side by side, with these
-- starts.
pub record ArePartsOf (words starts : List ℕ) : Type 0 where
  pub sealed : Bool
  pub small : AllByRecursion (λ word. word < 2 ^ 16) words
  pub few : length words ≤ 65535
  pub fit : unfit sealed words ≡ None
  pub stand : gap sealed words ≡ None
  pub starts_are : starts ≡ starts_in words

-- No template leads astray: the words have units.
pub record HaveUnits (words : List ℕ) : Type 0 where
  pub units : List Unit
  pub are : resolved words ≡ Ok units

-- The words were accepted, with these starts: in an image that is sealed or not, entered at some marks, they spell
-- units.
pub record IsAccepted (words starts : List ℕ) : Type 0 where
  pub sealed : Bool
  pub marks : List ℕ
  pub units : List Unit
  pub spells : Spells words marks sealed units starts
