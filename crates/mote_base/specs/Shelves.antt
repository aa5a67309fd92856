-- What the shelves in memory are seen as.
use Rattle.std.specs.Prelude.{◌≡◌, ℕ, Bool, true, not, ◌||◌, is_none, List, Option, if◌then◌else◌}
use Rattle.mote_base.specs.Counting.{lists, next_count}
use Rattle.mote_base.specs.Asked.{Asked, Start, Read, Chooses}
use Rattle.mote_base.specs.Files.{Named, Place, held}

-- Files and the chosen one.
pub record OpenFiles : Type 0 where
  pub files : List Named
  pub chosen : Option Place

-- A shelf that fails at the calls with the listed numbers. `calls` is how many were made, which is the number of the
-- next one.
pub record FailingShelf : Type 0 where
  pub files : List Named
  pub chosen : Option Place
  pub fails : List ℕ
  pub calls : ℕ
  pub faults : ℕ

-- The next call of the shelf has a listed number.
abbrev pub fails_next : FailingShelf → Bool
fails_next s = lists s.fails s.calls

-- The call was counted; the listed numbers are the same.
pub record CountsCall (old new : FailingShelf) : Type 0 where
  pub calls : new.calls ≡ next_count old.calls
  pub fails : new.fails ≡ old.fails

-- the count of failed calls behind one more call, by whether it was Ok
abbrev pub faults_after : Bool → ℕ → ℕ
faults_after ok faults = if ok then faults else next_count faults

-- A call fails: where its number is listed, and where it starts a file of a name that isn't held.
abbrev pub fails_call : FailingShelf → Asked → Bool
fails_call s (Start name) = fails_next s || is_none (held s.files name)
fails_call s (Read bytes) = fails_next s

-- One call, by whether it was Ok: it fails exactly where it has to, and is counted.
pub record AsksInMemory (old : FailingShelf) (asked : Asked) (ok : Bool) (new : FailingShelf) : Type 0 where
  pub answer : ok ≡ not (fails_call old asked)
  pub chosen : Chooses old.files old.chosen asked ok new.chosen
  pub files : new.files ≡ old.files
  pub fails : new.fails ≡ old.fails
  pub calls : new.calls ≡ next_count old.calls
  pub faults : new.faults ≡ faults_after ok old.faults

-- One call of a shelf that never fails.
pub record AsksSurely (old : OpenFiles) (asked : Asked) (ok : Bool) (new : OpenFiles) : Type 0 where
  pub answer : ok ≡ true
  pub chosen : Chooses old.files old.chosen asked ok new.chosen
  pub files : new.files ≡ old.files
