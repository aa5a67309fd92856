-- The lines of a listing.
use Rattle.std.specs.Prelude.{ℕ, ◌+◌, true, false, List, [], ◌∷◌, ◌++◌, codes, decimal}
use Rattle.unit_code.specs.declared.unit.Unit.{Unit}
use Rattle.unit_code.specs.declared.unit.Unit.TheVariants.{Plain, Store, Load, Push, Pop, SpGroup, Reserve, Skip, Branch, Jump, LocalCall, KernelCall, SlotCall, SlotIndirect, Return}
use Rattle.mote_base.specs.Digits.{word_digits}
use Rattle.avr_list.specs.Instructions.{instruction_text}
use Rattle.avr_list.specs.Operands.{register, target, with_operand, with_operands}

-- What a unit is. Targets are units, calls go by the number of the kernel call or of the slot.
abbrev pub unit_text : Unit → List ℕ
unit_text (Plain i) = instruction_text i
unit_text (Store i) = instruction_text i
unit_text (Load i) = instruction_text i
unit_text (Skip i) = instruction_text i
unit_text (Push r) = with_operand (codes "push") (register r)
unit_text (Pop d) = with_operand (codes "pop") (register d)
unit_text (SpGroup true) = codes "setsps"
unit_text (SpGroup false) = codes "setsp"
unit_text Reserve = codes "reserve"
unit_text (Branch true bit u) = with_operands (codes "brbs") (decimal bit) (target u)
unit_text (Branch false bit u) = with_operands (codes "brbc") (decimal bit) (target u)
unit_text (Jump u) = with_operand (codes "rjmp") (target u)
unit_text (LocalCall u) = with_operand (codes "rcall") (target u)
unit_text (KernelCall n) = with_operand (codes "kcall") (decimal n)
unit_text (SlotCall i) = with_operand (codes "scall") (decimal i)
unit_text SlotIndirect = codes "icall"
unit_text Return = codes "ret"

-- The line of a unit: its number in decimal, the place of its first word in hexadecimal, what it is, and a line feed.
unfoldable pub listing_line : ℕ → ℕ → Unit → List ℕ
listing_line number place u =
    decimal number ++ codes " " ++ word_digits place ++ codes " " ++ unit_text u ++ codes "\n"

-- The lines of units in their order, of which the first has that number, each with the place of its first word.
abbrev pub listing_from : ℕ → List Unit → List ℕ → List ℕ
listing_from number [] places = []
listing_from number (u ∷ us) [] = []
listing_from number (u ∷ us) (place ∷ places) = listing_line number place u ++ listing_from (number + 1) us places
