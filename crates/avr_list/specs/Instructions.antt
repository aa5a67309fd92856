-- The text of each instruction that stands in a unit as it is: the names of the AVR Instruction Set Manual in lower
-- case.
use Rattle.std.specs.Prelude.{◌≢◌, ℕ, List, [], ◌++◌, codes, decimal}
use Rattle.avr_isa.specs.declared.instruction.Instr.{Instr}
use Rattle.avr_isa.specs.declared.instruction.Instr.TheVariants.{Nop, Movw, Muls, Mulsu, Fmul, Fmuls, Fmulsu, Cpc, Sbc, Add, Cpse, Cp, Sub, Adc, And, Eor, Or, Mov, Cpi, Sbci, Subi, Ori, Andi, LddZ, LddY, StdZ, StdY, Lds, LdZInc, LdZDec, LdYInc, LdYDec, LdX, LdXInc, LdXDec, Sts, StZInc, StZDec, StYInc, StYDec, StX, StXInc, StXDec, Com, Neg, Swap, Inc, Asr, Lsr, Ror, Dec, Bset, Bclr, Adiw, Sbiw, Mul, In, Out, Ldi, Bld, Bst, Sbrc, Sbrs}
use Rattle.avr_list.specs.Operands.{register, address, with_operand, with_operands}

-- The destination comes first, then the other register, the constant, port or bit; a store, and OUT, puts its register
-- last. Pairs of registers are named by their lower one. Y and Z with a displacement have it always, 0 too. The
-- instructions that are left either are refused or make a unit that has a text of its own.
unfoldable pub instruction_text : Instr → List ℕ
instruction_text Nop = codes "nop"
instruction_text (Movw d r) = with_operands (codes "movw") (register d) (register r)
instruction_text (Muls d r) = with_operands (codes "muls") (register d) (register r)
instruction_text (Mulsu d r) = with_operands (codes "mulsu") (register d) (register r)
instruction_text (Fmul d r) = with_operands (codes "fmul") (register d) (register r)
instruction_text (Fmuls d r) = with_operands (codes "fmuls") (register d) (register r)
instruction_text (Fmulsu d r) = with_operands (codes "fmulsu") (register d) (register r)
instruction_text (Cpc d r) = with_operands (codes "cpc") (register d) (register r)
instruction_text (Sbc d r) = with_operands (codes "sbc") (register d) (register r)
instruction_text (Add d r) = with_operands (codes "add") (register d) (register r)
instruction_text (Cpse d r) = with_operands (codes "cpse") (register d) (register r)
instruction_text (Cp d r) = with_operands (codes "cp") (register d) (register r)
instruction_text (Sub d r) = with_operands (codes "sub") (register d) (register r)
instruction_text (Adc d r) = with_operands (codes "adc") (register d) (register r)
instruction_text (And d r) = with_operands (codes "and") (register d) (register r)
instruction_text (Eor d r) = with_operands (codes "eor") (register d) (register r)
instruction_text (Or d r) = with_operands (codes "or") (register d) (register r)
instruction_text (Mov d r) = with_operands (codes "mov") (register d) (register r)
instruction_text (Cpi d K) = with_operands (codes "cpi") (register d) (decimal K)
instruction_text (Sbci d K) = with_operands (codes "sbci") (register d) (decimal K)
instruction_text (Subi d K) = with_operands (codes "subi") (register d) (decimal K)
instruction_text (Ori d K) = with_operands (codes "ori") (register d) (decimal K)
instruction_text (Andi d K) = with_operands (codes "andi") (register d) (decimal K)
instruction_text (LddZ d q) = with_operands (codes "ldd") (register d) (codes "z+" ++ decimal q)
instruction_text (LddY d q) = with_operands (codes "ldd") (register d) (codes "y+" ++ decimal q)
instruction_text (StdZ r q) = with_operands (codes "std") (codes "z+" ++ decimal q) (register r)
instruction_text (StdY r q) = with_operands (codes "std") (codes "y+" ++ decimal q) (register r)
instruction_text (Lds d k) = with_operands (codes "lds") (register d) (address k)
instruction_text (LdZInc d) = with_operands (codes "ld") (register d) (codes "z+")
instruction_text (LdZDec d) = with_operands (codes "ld") (register d) (codes "-z")
instruction_text (LdYInc d) = with_operands (codes "ld") (register d) (codes "y+")
instruction_text (LdYDec d) = with_operands (codes "ld") (register d) (codes "-y")
instruction_text (LdX d) = with_operands (codes "ld") (register d) (codes "x")
instruction_text (LdXInc d) = with_operands (codes "ld") (register d) (codes "x+")
instruction_text (LdXDec d) = with_operands (codes "ld") (register d) (codes "-x")
instruction_text (Sts r k) = with_operands (codes "sts") (address k) (register r)
instruction_text (StZInc r) = with_operands (codes "st") (codes "z+") (register r)
instruction_text (StZDec r) = with_operands (codes "st") (codes "-z") (register r)
instruction_text (StYInc r) = with_operands (codes "st") (codes "y+") (register r)
instruction_text (StYDec r) = with_operands (codes "st") (codes "-y") (register r)
instruction_text (StX r) = with_operands (codes "st") (codes "x") (register r)
instruction_text (StXInc r) = with_operands (codes "st") (codes "x+") (register r)
instruction_text (StXDec r) = with_operands (codes "st") (codes "-x") (register r)
instruction_text (Com d) = with_operand (codes "com") (register d)
instruction_text (Neg d) = with_operand (codes "neg") (register d)
instruction_text (Swap d) = with_operand (codes "swap") (register d)
instruction_text (Inc d) = with_operand (codes "inc") (register d)
instruction_text (Asr d) = with_operand (codes "asr") (register d)
instruction_text (Lsr d) = with_operand (codes "lsr") (register d)
instruction_text (Ror d) = with_operand (codes "ror") (register d)
instruction_text (Dec d) = with_operand (codes "dec") (register d)
instruction_text (Bset s) = with_operand (codes "bset") (decimal s)
instruction_text (Bclr s) = with_operand (codes "bclr") (decimal s)
instruction_text (Adiw d K) = with_operands (codes "adiw") (register d) (decimal K)
instruction_text (Sbiw d K) = with_operands (codes "sbiw") (register d) (decimal K)
instruction_text (Mul d r) = with_operands (codes "mul") (register d) (register r)
instruction_text (In d A) = with_operands (codes "in") (register d) (decimal A)
instruction_text (Out r A) = with_operands (codes "out") (decimal A) (register r)
instruction_text (Ldi d K) = with_operands (codes "ldi") (register d) (decimal K)
instruction_text (Bld d b) = with_operands (codes "bld") (register d) (decimal b)
instruction_text (Bst d b) = with_operands (codes "bst") (register d) (decimal b)
instruction_text (Sbrc r b) = with_operands (codes "sbrc") (register r) (decimal b)
instruction_text (Sbrs r b) = with_operands (codes "sbrs") (register r) (decimal b)
instruction_text _ = []

-- the instruction stands in a unit as it is
abbrev pub HasText : Instr → Type 0
HasText i = instruction_text i ≢ []
