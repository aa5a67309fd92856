-- Words read one after the other, from the first one on.
use Rattle.std.specs.Prelude.{ℕ, zero, suc, ◌+◌, ◌-◌, ◌==◌, ◌&&◌, Bool, true, false, List, [], ◌∷◌, drop, Option, Some, None, Result, Ok, Err, if◌then◌else◌}
use Rattle.avr_isa.specs.Decoded.{decoded}
use Rattle.avr_isa.specs.declared.instruction.Instr.{Instr}
use Rattle.avr_isa.specs.declared.instruction.DecodeError.{DecodeError}
use Rattle.unit_code.specs.declared.unit.Unit.TheVariants.{SpGroup}
use Rattle.unit_code.specs.declared.kinds.Standing.{Standing}
use Rattle.unit_code.specs.declared.kinds.Standing.TheVariants.{NoInstruction}
use Rattle.unit_code.specs.declared.items.Item.{Item}
use Rattle.unit_code.specs.Kinds.{standing_of, whole}

abbrev pub next_word : List ℕ → Option ℕ
next_word [] = None
next_word (w ∷ ws) = Some w

abbrev pub is_word : ℕ → Option ℕ → Bool
is_word expected None = false
is_word expected (Some w) = w == expected

-- OUT 0x3E,R29 and OUT 0x3F,R0 and OUT 0x3D,R28: the high byte of SP from Y, SREG from R0, the low byte of SP from Y
abbrev pub out_sph : ℕ
out_sph = 0xBFDE

abbrev pub out_sreg : ℕ
out_sreg = 0xBE0F

abbrev pub out_spl : ℕ
out_spl = 0xBFCD

-- an instruction by itself: what it stands for, and how many further words it has
abbrev pub read : Result (Instr × ℕ) DecodeError → Standing × ℕ
read (Err e) = (NoInstruction, 0)
read (Ok (i, n)) = (standing_of i, n - 1)

-- What stands at a word, by it and the two behind it, and how many further words it takes. The three words of the
-- group with SREG, and the two of the group without, are one unit.
unfoldable pub found : ℕ → Option ℕ → Option ℕ → Standing × ℕ
found first second third =
    if first == out_sph && is_word out_sreg second && is_word out_spl third then (whole (SpGroup true), 2)
    else (if first == out_sph && is_word out_spl second then (whole (SpGroup false), 1) else read (decoded first second))

abbrev pub with_item : ℕ → Standing × ℕ → (ℕ → List Item) → List Item
with_item place (standing, further) behind = record { place = place; standing = standing } ∷ behind further

-- What stands where, from a place on. The first argument is the number of words that still belong to the item before.
abbrev pub items_from : ℕ → ℕ → List ℕ → List Item
items_from over place [] = []
items_from zero place (w ∷ ws) =
    with_item place (found w (next_word ws) (next_word (drop 1 ws))) (λ over. items_from over (place + 1) ws)
items_from (suc over) place (w ∷ ws) = items_from over (place + 1) ws

-- What stands at each place of the words where something begins, in order.
abbrev pub items_of : List ℕ → List Item
items_of words = items_from 0 0 words
