-- What the sinks in memory are seen as.
use Rattle.std.specs.Prelude.{◌≡◌, ℕ, ◌+◌, ◌-◌, ◌^◌, ◌++◌, min, Bool, true, not, ◌||◌, nat_lt, List, length, if◌then◌else◌}
use Rattle.mote_base.specs.Counting.{lists, next_count}

-- A sink with room for so many bytes, which fails at the puts with the listed numbers. `calls` is how many were made,
-- which is the number of the next one.
pub record FailingSink : Type 0 where
  pub bytes : List ℕ
  pub room : ℕ
  pub fails : List ℕ
  pub calls : ℕ
  pub faults : ℕ

-- The next put has a listed number, or its piece passes the room that is left.
abbrev pub fails_put : FailingSink → List ℕ → Bool
fails_put s piece = lists s.fails s.calls || nat_lt (s.room - length s.bytes) (length piece)

-- One put, by whether it was Ok: it is refused exactly where it fails, and then adds nothing.
pub record PutsInMemory (old : FailingSink) (piece : List ℕ) (ok : Bool) (new : FailingSink) : Type 0 where
  pub answer : ok ≡ not (fails_put old piece)
  pub bytes : new.bytes ≡ (if ok then old.bytes ++ piece else old.bytes)
  pub calls : new.calls ≡ next_count old.calls
  pub fails : new.fails ≡ old.fails
  pub room : new.room ≡ old.room
  pub faults : new.faults ≡ (if ok then old.faults else next_count old.faults)

-- The count of bytes behind those of a piece, up to the last value of a u64.
abbrev pub total_with : ℕ → List ℕ → ℕ
total_with total piece = min (total + length piece) (2 ^ 64 - 1)

-- One put to a sink that counts bytes: it is Ok, and its piece is counted once.
pub record Counts (old : ℕ) (piece : List ℕ) (ok : Bool) (new : ℕ) : Type 0 where
  pub answer : ok ≡ true
  pub total : new ≡ total_with old piece
