-- The shapes of rewritten code are chosen in rounds.
use Rattle.std.specs.Prelude.{◌≡◌, ◌↔◌, ◌⊎◌, ℕ, zero, suc, ◌+◌, ◌≤◌, true, false, List, [], ◌∷◌, length, replicate, ⊤}
use Rattle.avr_isa.specs.Operands.{IsBranchOffset}
use Rattle.unit_code.specs.declared.unit.Unit.{Unit}
use Rattle.unit_code.specs.declared.unit.Unit.TheVariants.{Skip, Branch}
use Rattle.unit_code.specs.declared.unit.Shape.{Shape}
use Rattle.unit_code.specs.declared.unit.Shape.TheVariants.{Long, Short}
use Rattle.unit_code.specs.Spelled.{offset_to}
use Rattle.unit_code.specs.Spelling.{begins_with_jump, begins_with_single, start_of, starts_of}

-- A long unit that stands at a word becomes short before these units in their shapes, with the present starts: no jump
-- follows, and a branch reaches its target, or the template behind a skip is one instruction.
abbrev pub BecomesShort : List ℕ → ℕ → Unit → List Unit → List Shape → Type 0
BecomesShort starts at (Skip x) us ss = (begins_with_jump us ≡ false) × (begins_with_single us ss ≡ true)
BecomesShort starts at (Branch set bit u) us ss =
    (begins_with_jump us ≡ false) × IsBranchOffset (offset_to at (start_of starts u))
BecomesShort starts at _ us ss = ⊥

-- What a round makes of the shapes of the units from the i-th on, with the present starts: a unit is short after it
-- exactly where it was short or becomes short.
abbrev pub AreTurned : List ℕ → ℕ → List Unit → List Shape → List Shape → Type 0
AreTurned starts i [] [] [] = ⊤
AreTurned starts i (u ∷ us) (s ∷ ss) (t ∷ ts) =
    ((t ≡ Short) ↔ ((s ≡ Short) ⊎ BecomesShort starts (start_of starts i) u us ss))
    × AreTurned starts (i + 1) us ss ts
AreTurned starts i _ _ _ = ⊥

-- One round leads from these shapes to the next ones. All of it is measured with the starts that the shapes before it
-- give.
abbrev pub IsRound : List Unit → List Shape → List Shape → Type 0
IsRound us shapes next = AreTurned (starts_of us shapes) 0 us shapes next

-- This many rounds lead from the first shapes to the last ones.
abbrev pub AreRounds : List Unit → ℕ → List Shape → List Shape → Type 0
AreRounds us zero shapes last = shapes ≡ last
AreRounds us (suc n) shapes last = (before : List Shape) × AreRounds us n shapes before × IsRound us before last

abbrev pub all_long : List Unit → List Shape
all_long us = replicate (length us) Long

-- These are the shapes to which the rounds come from all long: after no more rounds than there are units, one more
-- round changes nothing.
pub record AreChosen (us : List Unit) (shapes : List Shape) : Type 0 where
  pub rounds : ℕ
  pub few : rounds ≤ length us
  pub come : AreRounds us rounds (all_long us) shapes
  pub still : IsRound us shapes shapes
