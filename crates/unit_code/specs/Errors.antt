-- What a refusal tells: the number of its condition, the word or count that it names, and the kind of a refused
-- instruction.
use Rattle.std.specs.Prelude.{ℕ, Option, Some, None}
use Rattle.unit_code.specs.declared.error.CodeError.{CodeError}
use Rattle.unit_code.specs.declared.error.CodeError.TheVariants.{Undefined, Refused, Target, FallsOff, Empty, TooLong, Entry, NoMemory}

-- the conditions in the order in which they are tried
abbrev pub error_number : CodeError → Option ℕ
error_number (Undefined word) = Some 1
error_number (Refused word kind) = Some 2
error_number (Target word) = Some 3
error_number FallsOff = Some 4
error_number Empty = Some 5
error_number (TooLong words) = Some 6
error_number (Entry word) = Some 7
error_number NoMemory = None

abbrev pub error_word : CodeError → ℕ
error_word (Undefined word) = word
error_word (Refused word kind) = word
error_word (Target word) = word
error_word FallsOff = 0
error_word Empty = 0
error_word (TooLong words) = words
error_word (Entry word) = word
error_word NoMemory = 0

abbrev pub error_kind : CodeError → ℕ
error_kind (Refused word kind) = kind
error_kind _ = 0
