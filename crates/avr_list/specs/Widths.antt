-- How many bytes a line's parts have at most.
use Rattle.std.specs.Prelude.{ℕ, ◌+◌}
use Rattle.mote_base.specs.Digits.{short_width}

-- the name of an instruction that has operands
abbrev pub name_width : ℕ
name_width = 6

-- an operand: a pointer, a sign and a number
abbrev pub operand_width : ℕ
operand_width = 2 + short_width

-- a name, a space and an operand; and with a comma and another operand
abbrev pub one_width : ℕ
one_width = name_width + 1 + operand_width

abbrev pub unit_width : ℕ
unit_width = one_width + 1 + operand_width
