-- What a refusal tells: the number of its kind, and its line.
use Rattle.std.specs.Prelude.{ℕ}
use Rattle.avr_asm.specs.declared.error.AsmError.{AsmError}
use Rattle.avr_asm.specs.declared.error.AsmError.TheVariants.{Line, Label, Target, Code, NoMemory}

abbrev pub kind_number : AsmError → ℕ
kind_number (Line n) = 1
kind_number (Label n) = 2
kind_number (Target n) = 3
kind_number (Code n) = 4
kind_number NoMemory = 0

abbrev pub line_number : AsmError → ℕ
line_number (Line n) = n
line_number (Label n) = n
line_number (Target n) = n
line_number (Code n) = n
line_number NoMemory = 0
