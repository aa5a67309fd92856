-- What a seed makes.
use Rattle.std.specs.Prelude.{ℕ, List, map, Vec}
use Rattle.std.specs.declared.alloc.Global.{Global}
use Rattle.module_image.specs.Spelling.{spelling}
use Rattle.mote_gen.specs.Modules.{modules_of}

-- the bytes of files
abbrev pub files_of : List (Vec ℕ Global) → List (List ℕ)
files_of files = map (λ v. v.items) files

-- The images are the modules' spellings.
abbrev pub images_of : List ℕ → List (List ℕ)
images_of numbers = map spelling (modules_of numbers)
