-- The text of operands, and of an instruction with its operands.
use Rattle.std.specs.Prelude.{ℕ, List, ◌++◌, codes, decimal}
use Rattle.mote_base.specs.Digits.{word_digits}
use Rattle.avr_list.specs.declared.operand.Pointer.{Pointer}
use Rattle.avr_list.specs.declared.operand.Pointer.TheVariants.{X, Y, Z}
use Rattle.avr_list.specs.declared.operand.Operand.{Operand}
use Rattle.avr_list.specs.declared.operand.Operand.TheVariants.{Register, Number, At, Raised, Lowered, Behind, Address, Target}

-- A register: r0 to r31.
abbrev pub register : ℕ → List ℕ
register n = codes "r" ++ decimal n

-- an address in the data space
abbrev pub address : ℕ → List ℕ
address a = codes "0x" ++ word_digits a

-- a unit to which control goes
abbrev pub target : ℕ → List ℕ
target u = codes "." ++ decimal u

-- A name, a space and an operand.
abbrev pub with_operand : List ℕ → List ℕ → List ℕ
with_operand name operand = name ++ codes " " ++ operand

-- A name, a space and two operands with a comma between them.
abbrev pub with_operands : List ℕ → List ℕ → List ℕ → List ℕ
with_operands name first second = name ++ codes " " ++ first ++ codes "," ++ second

abbrev pub pointer_text : Pointer → List ℕ
pointer_text X = codes "x"
pointer_text Y = codes "y"
pointer_text Z = codes "z"

-- an operand as it is written
abbrev pub operand_text : Operand → List ℕ
operand_text (Register n) = register n
operand_text (Number n) = decimal n
operand_text (At p) = pointer_text p
operand_text (Raised p) = pointer_text p ++ codes "+"
operand_text (Lowered p) = codes "-" ++ pointer_text p
operand_text (Behind p q) = pointer_text p ++ codes "+" ++ decimal q
operand_text (Address a) = address a
operand_text (Target u) = target u
