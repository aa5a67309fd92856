-- Facts of several lines, one after the other: a line's, and those of the lines after it.
infixr 5 ◌▸◌
abbrev pub ◌▸◌ : {P Q : Type 0} → P → Q → P × Q
p ▸ q = (p, q)
