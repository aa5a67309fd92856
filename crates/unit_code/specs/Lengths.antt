-- How many words of flash a unit takes when it is rewritten, by its template.
use Rattle.std.specs.Prelude.{ℕ, ◌+◌, true, false}
use Rattle.avr_isa.specs.declared.instruction.Instr.{Instr}
use Rattle.avr_isa.specs.Place.{second_word}
use Rattle.avr_isa.specs.Table.{word_count}
use Rattle.unit_code.specs.declared.unit.Unit.{Unit}
use Rattle.unit_code.specs.declared.unit.Unit.TheVariants.{Plain, Store, Load, Push, Pop, SpGroup, Reserve, Skip, Branch, Jump, LocalCall, KernelCall, SlotCall, SlotIndirect, Return}
use Rattle.unit_code.specs.declared.unit.Shape.{Shape}
use Rattle.unit_code.specs.declared.unit.Shape.TheVariants.{Long, Short}

-- an instruction has a second word or not (AVR Instruction Set Manual, the opcodes of LDS, STS, JMP and CALL)
abbrev pub instruction_length : Instr → ℕ
instruction_length i = word_count (second_word i)

-- CALL and JMP have two words, RJMP and RCALL one
abbrev pub call : ℕ
call = 2

abbrev pub rjmp : ℕ
rjmp = 1

abbrev pub by_shape : Shape → ℕ → ℕ → ℕ
by_shape Long long short = long
by_shape Short long short = short

-- The template of each unit, as a sum over its instructions. A store, a checked load, a push, a pop and a group stand
-- behind the call of their guard, a local call behind that of its entry. Reserve, an indirect call and a return are a
-- call or a jump to the entry page alone. In its long form a skip stands over a jump over a jump, and a branch is
-- turned round and stands over a jump.
abbrev pub spelled_length : Unit → Shape → ℕ
spelled_length (Plain i) shape = instruction_length i
spelled_length (Store i) shape = call + instruction_length i
spelled_length (Load i) shape = call + instruction_length i
spelled_length (Push r) shape = call + 1
spelled_length (Pop d) shape = call + 1
spelled_length (SpGroup true) shape = call + 3
spelled_length (SpGroup false) shape = call + 2
spelled_length Reserve shape = call
spelled_length (Skip i) shape = by_shape shape (1 + rjmp + rjmp) 1
spelled_length (Branch set bit target) shape = by_shape shape (1 + rjmp) 1
spelled_length (Jump target) shape = rjmp
spelled_length (LocalCall target) shape = call + rjmp
spelled_length (KernelCall n) shape = call
spelled_length (SlotCall i) shape = call
spelled_length SlotIndirect shape = call
spelled_length Return shape = call
