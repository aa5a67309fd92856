-- Files as a vector of names and contents.
use Rattle.std.specs.Prelude.{◌≡◌, ℕ, List, map, Option, Some, None, slice_get, Vec}
use Rattle.std.specs.declared.alloc.Global.{Global}
use Rattle.mote_base.specs.declared.files.Cursor.{Cursor}
use Rattle.mote_base.specs.Files.{Named, Place, held}

-- The files by name.
abbrev pub named : List (List ℕ × Vec ℕ Global) → List Named
named files = map (λ f. record { name = f.0; bytes = f.1.items }) files

abbrev pub place_of : Option (List ℕ × Vec ℕ Global) → ℕ → Option Place
place_of None at = None
place_of (Some f) at = Some (record { file = f.1.items; at = at })

-- The cursor's place, where a file is chosen.
abbrev pub place_in : List (List ℕ × Vec ℕ Global) → Option Cursor → Option Place
place_in files None = None
place_in files (Some c) = place_of (slice_get files c.file) c.at

-- The first file of that name has this index.
pub record Finds (files : List (List ℕ × Vec ℕ Global)) (name : List ℕ) (i : ℕ) : Type 0 where
  pub file : List ℕ × Vec ℕ Global
  pub here : slice_get files i ≡ Some file
  pub held : held (named files) name ≡ Some file.1.items
