-- A unit's text as a name and its operands.
use Rattle.std.specs.Prelude.{◌≡◌, ℕ, true, false, List, [], codes, refl}
use Rattle.avr_isa.specs.declared.instruction.Instr.{Instr}
use Rattle.avr_isa.specs.declared.instruction.Instr.TheVariants as instr
use Rattle.unit_code.specs.declared.unit.Unit.{Unit}
use Rattle.unit_code.specs.declared.unit.Unit.TheVariants as unit
use Rattle.avr_list.specs.declared.operand.Pointer.TheVariants.{X, Y, Z}
use Rattle.avr_list.specs.declared.operand.Operand.{Operand}
use Rattle.avr_list.specs.declared.operand.Operand.TheVariants.{Register, Number, At, Raised, Lowered, Behind, Address, Target}
use Rattle.avr_list.specs.Instructions.{instruction_text}
use Rattle.avr_list.specs.Lines.{unit_text}
use Rattle.avr_list.specs.Operands.{operand_text, with_operand, with_operands}

-- at most two operands
pub data Operands : Type 0 where
  nothing : Operands
  one : Operand → Operands
  two : Operand → Operand → Operands

pub record Said : Type 0 where
  pub name : List ℕ
  pub operands : Operands

abbrev pub says : List ℕ → Operands → Said
says name operands = record { name = name; operands = operands }

-- the name, a space, and the operands with a comma between them
abbrev pub joined : List ℕ → Operands → List ℕ
joined name nothing = name
joined name (one a) = with_operand name (operand_text a)
joined name (two a b) = with_operands name (operand_text a) (operand_text b)

unfoldable pub instruction_said : Instr → Said
instruction_said instr.Nop = says (codes "nop") nothing
instruction_said (instr.Movw d r) = says (codes "movw") (two (Register d) (Register r))
instruction_said (instr.Muls d r) = says (codes "muls") (two (Register d) (Register r))
instruction_said (instr.Mulsu d r) = says (codes "mulsu") (two (Register d) (Register r))
instruction_said (instr.Fmul d r) = says (codes "fmul") (two (Register d) (Register r))
instruction_said (instr.Fmuls d r) = says (codes "fmuls") (two (Register d) (Register r))
instruction_said (instr.Fmulsu d r) = says (codes "fmulsu") (two (Register d) (Register r))
instruction_said (instr.Cpc d r) = says (codes "cpc") (two (Register d) (Register r))
instruction_said (instr.Sbc d r) = says (codes "sbc") (two (Register d) (Register r))
instruction_said (instr.Add d r) = says (codes "add") (two (Register d) (Register r))
instruction_said (instr.Cpse d r) = says (codes "cpse") (two (Register d) (Register r))
instruction_said (instr.Cp d r) = says (codes "cp") (two (Register d) (Register r))
instruction_said (instr.Sub d r) = says (codes "sub") (two (Register d) (Register r))
instruction_said (instr.Adc d r) = says (codes "adc") (two (Register d) (Register r))
instruction_said (instr.And d r) = says (codes "and") (two (Register d) (Register r))
instruction_said (instr.Eor d r) = says (codes "eor") (two (Register d) (Register r))
instruction_said (instr.Or d r) = says (codes "or") (two (Register d) (Register r))
instruction_said (instr.Mov d r) = says (codes "mov") (two (Register d) (Register r))
instruction_said (instr.Cpi d K) = says (codes "cpi") (two (Register d) (Number K))
instruction_said (instr.Sbci d K) = says (codes "sbci") (two (Register d) (Number K))
instruction_said (instr.Subi d K) = says (codes "subi") (two (Register d) (Number K))
instruction_said (instr.Ori d K) = says (codes "ori") (two (Register d) (Number K))
instruction_said (instr.Andi d K) = says (codes "andi") (two (Register d) (Number K))
instruction_said (instr.LddZ d q) = says (codes "ldd") (two (Register d) (Behind Z q))
instruction_said (instr.LddY d q) = says (codes "ldd") (two (Register d) (Behind Y q))
instruction_said (instr.StdZ r q) = says (codes "std") (two (Behind Z q) (Register r))
instruction_said (instr.StdY r q) = says (codes "std") (two (Behind Y q) (Register r))
instruction_said (instr.Lds d k) = says (codes "lds") (two (Register d) (Address k))
instruction_said (instr.LdZInc d) = says (codes "ld") (two (Register d) (Raised Z))
instruction_said (instr.LdZDec d) = says (codes "ld") (two (Register d) (Lowered Z))
instruction_said (instr.LdYInc d) = says (codes "ld") (two (Register d) (Raised Y))
instruction_said (instr.LdYDec d) = says (codes "ld") (two (Register d) (Lowered Y))
instruction_said (instr.LdX d) = says (codes "ld") (two (Register d) (At X))
instruction_said (instr.LdXInc d) = says (codes "ld") (two (Register d) (Raised X))
instruction_said (instr.LdXDec d) = says (codes "ld") (two (Register d) (Lowered X))
instruction_said (instr.Sts r k) = says (codes "sts") (two (Address k) (Register r))
instruction_said (instr.StZInc r) = says (codes "st") (two (Raised Z) (Register r))
instruction_said (instr.StZDec r) = says (codes "st") (two (Lowered Z) (Register r))
instruction_said (instr.StYInc r) = says (codes "st") (two (Raised Y) (Register r))
instruction_said (instr.StYDec r) = says (codes "st") (two (Lowered Y) (Register r))
instruction_said (instr.StX r) = says (codes "st") (two (At X) (Register r))
instruction_said (instr.StXInc r) = says (codes "st") (two (Raised X) (Register r))
instruction_said (instr.StXDec r) = says (codes "st") (two (Lowered X) (Register r))
instruction_said (instr.Com d) = says (codes "com") (one (Register d))
instruction_said (instr.Neg d) = says (codes "neg") (one (Register d))
instruction_said (instr.Swap d) = says (codes "swap") (one (Register d))
instruction_said (instr.Inc d) = says (codes "inc") (one (Register d))
instruction_said (instr.Asr d) = says (codes "asr") (one (Register d))
instruction_said (instr.Lsr d) = says (codes "lsr") (one (Register d))
instruction_said (instr.Ror d) = says (codes "ror") (one (Register d))
instruction_said (instr.Dec d) = says (codes "dec") (one (Register d))
instruction_said (instr.Bset s) = says (codes "bset") (one (Number s))
instruction_said (instr.Bclr s) = says (codes "bclr") (one (Number s))
instruction_said (instr.Adiw d K) = says (codes "adiw") (two (Register d) (Number K))
instruction_said (instr.Sbiw d K) = says (codes "sbiw") (two (Register d) (Number K))
instruction_said (instr.Mul d r) = says (codes "mul") (two (Register d) (Register r))
instruction_said (instr.In d A) = says (codes "in") (two (Register d) (Number A))
instruction_said (instr.Out r A) = says (codes "out") (two (Number A) (Register r))
instruction_said (instr.Ldi d K) = says (codes "ldi") (two (Register d) (Number K))
instruction_said (instr.Bld d b) = says (codes "bld") (two (Register d) (Number b))
instruction_said (instr.Bst d b) = says (codes "bst") (two (Register d) (Number b))
instruction_said (instr.Sbrc r b) = says (codes "sbrc") (two (Register r) (Number b))
instruction_said (instr.Sbrs r b) = says (codes "sbrs") (two (Register r) (Number b))
instruction_said _ = says [] nothing

abbrev pub unit_said : Unit → Said
unit_said (unit.Plain i) = instruction_said i
unit_said (unit.Store i) = instruction_said i
unit_said (unit.Load i) = instruction_said i
unit_said (unit.Skip i) = instruction_said i
unit_said (unit.Push r) = says (codes "push") (one (Register r))
unit_said (unit.Pop d) = says (codes "pop") (one (Register d))
unit_said (unit.SpGroup true) = says (codes "setsps") nothing
unit_said (unit.SpGroup false) = says (codes "setsp") nothing
unit_said unit.Reserve = says (codes "reserve") nothing
unit_said (unit.Branch true bit u) = says (codes "brbs") (two (Number bit) (Target u))
unit_said (unit.Branch false bit u) = says (codes "brbc") (two (Number bit) (Target u))
unit_said (unit.Jump u) = says (codes "rjmp") (one (Target u))
unit_said (unit.LocalCall u) = says (codes "rcall") (one (Target u))
unit_said (unit.KernelCall n) = says (codes "kcall") (one (Number n))
unit_said (unit.SlotCall n) = says (codes "scall") (one (Number n))
unit_said unit.SlotIndirect = says (codes "icall") nothing
unit_said unit.Return = says (codes "ret") nothing

instruction_is_said : (i : Instr) → instruction_text i ≡ joined (instruction_said i).name (instruction_said i).operands
unfolding instruction_text instruction_said
instruction_is_said instr.Nop = refl
instruction_is_said _ = refl

pub unit_is_said : (u : Unit) → unit_text u ≡ joined (unit_said u).name (unit_said u).operands
unit_is_said (unit.Plain i) = instruction_is_said i
unit_is_said (unit.Store i) = instruction_is_said i
unit_is_said (unit.Load i) = instruction_is_said i
unit_is_said (unit.Skip i) = instruction_is_said i
unit_is_said (unit.Push r) = refl
unit_is_said (unit.Pop d) = refl
unit_is_said (unit.SpGroup true) = refl
unit_is_said (unit.SpGroup false) = refl
unit_is_said unit.Reserve = refl
unit_is_said (unit.Branch true bit u) = refl
unit_is_said (unit.Branch false bit u) = refl
unit_is_said (unit.Jump u) = refl
unit_is_said (unit.LocalCall u) = refl
unit_is_said (unit.KernelCall n) = refl
unit_is_said (unit.SlotCall n) = refl
unit_is_said unit.SlotIndirect = refl
unit_is_said unit.Return = refl
