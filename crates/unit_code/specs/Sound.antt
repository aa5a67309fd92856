-- What is read from words is of its kind, whether or not it is refused later.
use Rattle.std.specs.Prelude.{ℕ, List, ⊤}
use Rattle.std.specs.List.{AllByRecursion}
use Rattle.avr_isa.specs.Operands.{IsBit}
use Rattle.unit_code.specs.declared.items.Item.{Item}
use Rattle.unit_code.specs.declared.kinds.Standing.{Standing}
use Rattle.unit_code.specs.declared.kinds.Standing.TheVariants.{NoInstruction, Barred, Part}
use Rattle.unit_code.specs.declared.kinds.Piece.{Piece}
use Rattle.unit_code.specs.declared.kinds.Piece.TheVariants.{Whole, Aimed}
use Rattle.unit_code.specs.declared.kinds.Aim.{Aim}
use Rattle.unit_code.specs.declared.kinds.Aim.TheVariants.{Branching, Jumping, Calling}
use Rattle.unit_code.specs.Proper.{IsOfKind, LeadsBelow}

abbrev pub IsSoundAim : Aim → Type 0
IsSoundAim (Branching set bit) = IsBit bit
IsSoundAim Jumping = ⊤
IsSoundAim Calling = ⊤

-- a unit that is whole is of its kind and has no target
abbrev pub IsSoundPiece : Piece → Type 0
IsSoundPiece (Whole u) = IsOfKind u × ((count : ℕ) → LeadsBelow count u)
IsSoundPiece (Aimed aim offset) = IsSoundAim aim

abbrev pub IsSound : Standing → Type 0
IsSound NoInstruction = ⊤
IsSound (Barred kind) = ⊤
IsSound (Part piece) = IsSoundPiece piece

abbrev pub AreSound : List Item → Type 0
AreSound items = AllByRecursion (λ item. IsSound item.standing) items
