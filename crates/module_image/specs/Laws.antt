-- What a refusal says of the file, over the definition of reading alone.
use Rattle.std.specs.Prelude.{◌≡◌, ◌⊎◌, ◌≢◌, ℕ, ◌+◌, ◌<◌, ◌≤◌, List, [], ◌∷◌, ◌++◌, length, take, Err, IsOk}
use Rattle.module_image.specs.declared.error.ImageError.TheVariants.{Short, Field}
use Rattle.module_image.specs.Contents.{IsVersion}
use Rattle.module_image.specs.Reading.{image_of}

-- The field at a place breaks its rule: the bytes before it alone are too short, and so are they with as many of its
-- own as don't fill it; and every file that begins with the bytes up to its end is refused for it. A field with a rule
-- has one byte, but for the number of constants at 15, which has two.
pub record BreaksAt (file : List ℕ) (at : ℕ) : Type 0 where
  pub front : List ℕ
  pub field : List ℕ
  pub rest : List ℕ
  pub parts : file ≡ front ++ (field ++ rest)
  pub place : length front ≡ at
  pub size : (length field ≡ 1) ⊎ ((length field ≡ 2) × (at ≡ 15))
  pub alone : image_of front ≡ Err (Short at)
  pub cut : (k : ℕ) → k < length field → image_of (front ++ take k field) ≡ Err (Short (at + k))
  pub same : (other : List ℕ) → image_of (front ++ (field ++ other)) ≡ Err (Field at)

-- The bytes before a place are an image, and others stand behind them.
pub record EndsBefore (file : List ℕ) (at : ℕ) : Type 0 where
  pub front : List ℕ
  pub rest : List ℕ
  pub parts : file ≡ front ++ rest
  pub place : length front ≡ at
  pub some : 0 < length rest
  pub image : IsOk (image_of front)

-- `SOSM`
abbrev pub magic : List ℕ
magic = 0x53 ∷ 0x4F ∷ 0x53 ∷ 0x4D ∷ []

-- The file has four bytes at its front, and they aren't `SOSM`.
abbrev pub IsOther : List ℕ → Type 0
IsOther file = (4 ≤ length file) × (take 4 file ≢ magic)

-- Behind `SOSM` stands a version that isn't known.
pub record HasOtherVersion (file : List ℕ) (v : ℕ) : Type 0 where
  pub rest : List ℕ
  pub parts : file ≡ magic ++ v ∷ rest
  pub other : ¬ IsVersion v
