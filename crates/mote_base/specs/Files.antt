-- Files by name, and the place in the chosen one.
use Rattle.std.specs.Prelude.{◌≡◌, ℕ, ◌+◌, ◌<◌, ◌≤◌, List, [], ◌∷◌, length, take, drop, Option, Some, None, IsSome, if◌then◌else◌}
use Rattle.std.specs.Str.{bytes_eq}

-- A file: its name's bytes and its content.
pub record Named : Type 0 where
  pub name : List ℕ
  pub bytes : List ℕ

-- The content of the file of that name. Of two files with equal names the first counts.
abbrev pub held : List Named → List ℕ → Option (List ℕ)
held [] name = None
held (f ∷ fs) name = if bytes_eq f.name name then Some f.bytes else held fs name

-- The same over a shelf that may not tell its files.
abbrev pub told : Option (List Named) → List ℕ → Option (List ℕ)
told None name = None
told (Some fs) name = held fs name

-- The shelf holds a file of that name, where it tells its files.
abbrev pub Holds : Option (List Named) → List ℕ → Type 0
Holds None name = Unit {0}
Holds (Some fs) name = IsSome (held fs name)

-- The content of the chosen file, and how many of its bytes have been given.
pub record Place : Type 0 where
  pub file : List ℕ
  pub at : ℕ

-- The front of that content, where there is one.
abbrev pub front_of : Option (List ℕ) → Option Place
front_of None = None
front_of (Some bytes) = Some (record { file = bytes; at = 0 })

-- The file of that name is chosen, at its front.
abbrev pub Opens : Option (List Named) → List ℕ → Option Place → Type 0
Opens files name place =
    (bytes : List ℕ) → told files name ≡ Some bytes → place ≡ Some (record { file = bytes; at = 0 })

-- The buffer begins with the next n bytes of the file, the place moves past exactly these,
-- and none come only at the end of the file or for an empty buffer.
pub record Moves (old : Place) (new : Option Place) (n : ℕ) (buf : List ℕ) : Type 0 where
  pub place : new ≡ Some (record { file = old.file; at = old.at + n })
  pub bytes : take n buf ≡ take n (drop old.at old.file)
  pub inside : n ≤ length (drop old.at old.file)
  pub ends : n ≡ 0 → 0 < length buf → length old.file ≤ old.at

-- The same where the shelf tells its place.
abbrev pub Gives : Option Place → Option Place → ℕ → List ℕ → Type 0
Gives old new n buf = (p : Place) → old ≡ Some p → Moves p new n buf
