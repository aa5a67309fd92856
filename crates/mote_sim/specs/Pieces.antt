-- The pieces that are put.
use Rattle.std.specs.Prelude.{◌≡◌, ℕ, ◌<◌, Bool, List, ◌++◌, length, Option, Result, OnOk, OnErr}
use Rattle.mote_base.specs.Written.{Wrote, Broke}

-- how many bytes a piece of a trace has at least, but for the last piece
abbrev pub piece_bytes : ℕ
piece_bytes = 4096

-- A put led from the old sink to the new one, and its piece is not empty. So a put that fails is of bytes that belong
-- to the output.
abbrev pub LeadsBySome : {K : Type 0} → (K → List ℕ → Bool → K → Type 0) → K → List ℕ → Bool → K → Type 0
LeadsBySome leads old piece ok new = (0 < length piece) × leads old piece ok new

-- A front of the text was put, and this is left of it; or a put failed within the text.
pub record Moves {K T E : Type 0} (written : K → Option (List ℕ)) (faults : K → ℕ) (leads : K → List ℕ → Bool → K → Type 0) (old new : K) (text left : List ℕ) (result : Result T E) : Type 0 where
  pub moved : OnOk result ((front : List ℕ) × Wrote written faults leads old new front × (front ++ left ≡ text))
  pub broke : OnErr result (Broke written faults leads old new text)
