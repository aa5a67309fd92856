-- A text that a byte parts in two.
use Rattle.std.specs.Prelude.{ℕ, ◌≡◌, ◌≢◌, ◌<◌, ◌++◌, List, ◌∷◌, length, slice_index}

-- no such byte stands in the text
abbrev pub Lacks : ℕ → List ℕ → Type 0
Lacks byte text = (k : ℕ) → k < length text → slice_index text k ≢ byte

-- the first such byte stands between the two
pub record IsCut (byte : ℕ) (text before behind : List ℕ) : Type 0 where
  pub whole : text ≡ before ++ (byte ∷ behind)
  pub first : Lacks byte before
