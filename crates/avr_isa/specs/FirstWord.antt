-- What the first word alone tells of an instruction.
use Rattle.std.specs.Prelude.{◌+◌, ◌*◌, ◌^◌, ℕ, Option, Some}
use Rattle.avr_isa.specs.Table.{Row, HasNoRow}
use Rattle.avr_isa.specs.declared.instruction.Instr.{Instr}
use Rattle.avr_isa.specs.declared.instruction.Instr.TheVariants.{Lds, Sts, Jmp, Call}
use Rattle.avr_isa.specs.declared.first_word.Long.{Long}
use Rattle.avr_isa.specs.declared.first_word.Long.TheVariants.{Load, Store, Jump, Call as LongCall}
use Rattle.avr_isa.specs.declared.first_word.FirstWord.{FirstWord}
use Rattle.avr_isa.specs.declared.first_word.FirstWord.TheVariants.{Whole, Begun, Undefined}

-- the instruction of two words that its first word began, completed by the second
abbrev pub completed : Long → ℕ → Instr
completed (Load d) k = Lds d k
completed (Store r) k = Sts r k
completed (Jump high) k = Jmp (high * 2 ^ 16 + k)
completed (LongCall high) k = Call (high * 2 ^ 16 + k)

-- an instruction of one word is this word's, whatever word follows
abbrev pub IsWordOf : ℕ → Instr → Type 0
IsWordOf word i = (second : Option ℕ) → Row word second i 1

-- what the table says of a first word, whatever word follows
abbrev pub IsFirstWord : ℕ → FirstWord → Type 0
IsFirstWord word (Whole i) = IsWordOf word i
IsFirstWord word (Begun long) = (k : ℕ) → Row word (Some k) (completed long k) 2
IsFirstWord word Undefined = HasNoRow word
