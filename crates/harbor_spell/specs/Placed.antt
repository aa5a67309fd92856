-- Units whose templates stand in a bank.
use Rattle.std.specs.Prelude.{ℕ, ◌+◌, ◌<◌, ◌≤◌, List, length, ⊤}
use Rattle.mote_layout.specs.Memory.{bank_words}
use Rattle.mote_layout.specs.declared.page.Entry.{Entry}
use Rattle.mote_layout.specs.declared.page.Entry.TheVariants.{LoadX, LoadXInc, LoadXDec, LoadYInc, LoadYDec, LoadZInc, LoadZDec, LoadY, LoadZ, LoadLds}
use Rattle.unit_code.specs.declared.unit.Unit.{Unit}
use Rattle.unit_code.specs.declared.unit.Unit.TheVariants.{Skip}
use Rattle.unit_code.specs.declared.unit.Shape.{Shape}
use Rattle.unit_code.specs.Lengths.{spelled_length}
use Rattle.unit_code.specs.Proper.{LeadsBelow}
use Rattle.unit_code.specs.Spelling.{start_of}

-- A skip has two units behind it.
abbrev pub SkipsBelow : ℕ → ℕ → Unit → Type 0
SkipsBelow count i (Skip x) = i + 2 < count
SkipsBelow count i _ = ⊤

-- The i-th unit in its shape stands in a bank, among templates with these starts, and leads to one of them.
pub record IsPlaced (starts : List ℕ) (i : ℕ) (u : Unit) (shape : Shape) : Type 0 where
  pub inside : i < length starts
  pub low : (k : ℕ) → start_of starts k < bank_words
  pub fits : start_of starts i + spelled_length u shape ≤ bank_words
  pub target : LeadsBelow (length starts) u
  pub skip : SkipsBelow (length starts) i u

-- the entries that guard loads
abbrev pub IsLoadGuard : Entry → Type 0
IsLoadGuard LoadX = ⊤
IsLoadGuard LoadXInc = ⊤
IsLoadGuard LoadXDec = ⊤
IsLoadGuard LoadYInc = ⊤
IsLoadGuard LoadYDec = ⊤
IsLoadGuard LoadZInc = ⊤
IsLoadGuard LoadZDec = ⊤
IsLoadGuard (LoadY q) = ⊤
IsLoadGuard (LoadZ q) = ⊤
IsLoadGuard LoadLds = ⊤
IsLoadGuard _ = ⊥
