-- The calls of a shelf.
use Rattle.std.specs.Prelude.{◌≡◌, ℕ, Bool, true, false, List, [], length, take, Option, None, Result, Ok, Err}
use Rattle.mote_base.specs.Files.{Named, Place, held, front_of, Gives}

-- A call, with what came of it: the file of a name was started, or bytes of the chosen file were read. A read that
-- failed gave none.
pub data Asked : Type 0 where
  Start : List ℕ → Asked
  Read : List ℕ → Asked

-- what came by a read: the bytes at the buffer's front, and none where it failed
abbrev pub came : {E : Type 0} → Result ℕ E → List ℕ → List ℕ
came (Ok n) buf = take n buf
came (Err e) buf = []

-- What is chosen after a call, by whether it was Ok: the file of that name at its front, or the file that was chosen
-- at a place behind what was read. After a call that failed none is.
abbrev pub Chooses : List Named → Option Place → Asked → Bool → Option Place → Type 0
Chooses files old (Start name) true new = new ≡ front_of (held files name)
Chooses files old (Read bytes) true new = Gives old new (length bytes) bytes
Chooses files old asked false new = new ≡ None
