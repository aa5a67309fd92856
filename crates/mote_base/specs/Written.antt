-- What a sink was given: its bytes, its count of faults, and which puts were made.
use Rattle.std.specs.Prelude.{◌≡◌, ◌⊎◌, ℕ, ◌≤◌, Bool, true, false, List, [], ◌∷◌, ◌++◌, Option, Some, Result, OnOk, OnErr}
use Rattle.mote_base.specs.Causes.{Rose}

-- The whole begins with this front.
abbrev pub IsStartOf : List ℕ → List ℕ → Type 0
IsStartOf front whole = (rest : List ℕ) × (front ++ rest ≡ whole)

-- The piece was added, where the sink tells its bytes.
abbrev pub Grows : Option (List ℕ) → Option (List ℕ) → List ℕ → Type 0
Grows old new piece = (before : List ℕ) → old ≡ Some before → new ≡ Some (before ++ piece)

-- A front of the piece was added, where the sink tells its bytes.
abbrev pub GrowsByPart : Option (List ℕ) → Option (List ℕ) → List ℕ → Type 0
GrowsByPart old new piece =
    (before : List ℕ) → old ≡ Some before → (part : List ℕ) × (new ≡ Some (before ++ part)) × IsStartOf part piece

-- The calls that were made from the old sink or shelf to the new one, where `leads s asked ok t` says that a call with
-- `asked` (a piece to put; a file to start, or what a read gave) led from s to t and was Ok or not. The calls were made
-- in this order, one call an item. Where all were Ok the answer is true. Else the last call is the first that failed,
-- and those of the items behind it were not made.
abbrev pub Calls : {K A : Type 0} → (K → A → Bool → K → Type 0) → K → List A → Bool → K → Type 0
Calls leads old [] ok new = (ok ≡ true) × (new ≡ old)
Calls {K = K} leads old (a ∷ others) ok new =
    ((ok ≡ false) × leads old a false new) ⊎ ((mid : K) × leads old a true mid × Calls leads mid others ok new)

-- The pieces one after the other, as one text.
abbrev pub joined : List (List ℕ) → List ℕ
joined [] = []
joined (p ∷ ps) = p ++ joined ps

-- The text was put in pieces, each by one put, up to the first that failed.
pub record InPieces {K : Type 0} (leads : K → List ℕ → Bool → K → Type 0) (old new : K) (text : List ℕ) (ok : Bool) : Type 0 where
  pub pieces : List (List ℕ)
  pub calls : Calls leads old pieces ok new
  pub whole : joined pieces ≡ text

-- From the old sink to the new one the text was written, and no put failed.
pub record Wrote {K : Type 0} (written : K → Option (List ℕ)) (faults : K → ℕ) (leads : K → List ℕ → Bool → K → Type 0) (old new : K) (text : List ℕ) : Type 0 where
  pub grows : Grows (written old) (written new) text
  pub kept : faults new ≡ faults old
  pub puts : InPieces leads old new text true

-- From the old sink to the new one a front of the text was written, a put failed, and no put follows it.
pub record Broke {K : Type 0} (written : K → Option (List ℕ)) (faults : K → ℕ) (leads : K → List ℕ → Bool → K → Type 0) (old new : K) (text : List ℕ) : Type 0 where
  pub grows : GrowsByPart (written old) (written new) text
  pub later : faults old ≤ faults new
  pub rose : Rose (faults old) (faults new)
  pub puts : InPieces leads old new text false

-- The text was written where the answer is Ok, and broke off where it is an Err.
pub record Puts {K T E : Type 0} (written : K → Option (List ℕ)) (faults : K → ℕ) (leads : K → List ℕ → Bool → K → Type 0) (old new : K) (text : List ℕ) (result : Result T E) : Type 0 where
  pub wrote : OnOk result (Wrote written faults leads old new text)
  pub broke : OnErr result (Broke written faults leads old new text)
