-- The effect of one instruction, by the "Operation" line that the AVR Instruction Set Manual gives it.
use Rattle.std.specs.Prelude.{ℕ, ℤ, ◌+◌, ◌*◌, ◌%◌, ◌==◌, ◌&&◌, Bool, true, false, not, List, [], ◌∷◌}
use Rattle.std.specs.Int.{w16, cast_unsigned}
use Rattle.avr_isa.specs.declared.instruction.Instr.{Instr}
use Rattle.avr_isa.specs.declared.instruction.Instr.TheVariants.{Nop, Movw, Muls, Mulsu, Fmul, Fmuls, Fmulsu, Cpc, Sbc, Add, Cpse, Cp, Sub, Adc, And, Eor, Or, Mov, Cpi, Sbci, Subi, Ori, Andi, Ldi, LddZ, LddY, StdZ, StdY, Lds, LdZInc, LdZDec, LdYInc, LdYDec, LdX, LdXInc, LdXDec, Pop, Sts, StZInc, StZDec, StYInc, StYDec, StX, StXInc, StXDec, Push, Com, Neg, Swap, Inc, Asr, Lsr, Ror, Dec, Bset, Bclr, Ret, Jmp, Call, Adiw, Sbiw, Mul, In, Out, Rjmp, Rcall, Brbs, Brbc, Bld, Bst, Sbrc, Sbrs}
use Rattle.avr_alu.specs.declared.logic.Logic.{Logic}
use Rattle.avr_alu.specs.declared.logic.Logic.TheVariants.{And as and_bits, Or as or_bits, Eor as eor_bits}
use Rattle.avr_alu.specs.declared.one.One.{One}
use Rattle.avr_alu.specs.declared.one.One.TheVariants.{Com as complement, Neg as neg, Inc as inc, Dec as dec, Swap as swap, Lsr as lsr, Ror as ror, Asr as asr}
use Rattle.avr_alu.specs.declared.mul.Mul.{Mul as Product}
use Rattle.avr_alu.specs.declared.mul.Mul.TheVariants.{U, S, SU, FU, FS, FSU}
use Rattle.avr_alu.specs.Bits.{is_set, with_bit}
use Rattle.avr_alu.specs.Flags.{flags_of, sreg_of}
use Rattle.avr_alu.specs.Sum.{add_value, add_flags, sub_value, sub_flags}
use Rattle.avr_alu.specs.Logic.{logic_value, logic_flags}
use Rattle.avr_alu.specs.One.{one_value, one_flags}
use Rattle.avr_alu.specs.Mul.{mul_value, mul_flags}
use Rattle.avr_alu.specs.Word.{word_add_value, word_add_flags, word_sub_value, word_sub_flags}
use Rattle.mote_layout.specs.Memory.{first_port, pointer_x, pointer_y, pointer_z}
use Rattle.avr_machine.specs.Processor.{Processor, register, pair, low, high, carry, transfer, transfer_bit, raised, lowered}
use Rattle.avr_machine.specs.DataRead.{data_read}
use Rattle.avr_machine.specs.Write.{Write, set_register, set_pair, set_byte, set_port, set_sp, set_sreg, set_pc, written, after}

-- Rd := Rd + operand + carry
abbrev pub added : Processor → ℕ → ℕ → Bool → List Write
added p d operand k =
    set_register d (add_value (register p d) operand k)
    ∷ set_sreg (sreg_of (add_flags (register p d) operand k (flags_of p.sreg))) ∷ []

-- the flags of Rd - operand - C where the operation is chained to the byte below, else of Rd - operand
abbrev pub compared : Processor → ℕ → ℕ → Bool → List Write
compared p d operand chained =
    set_sreg (sreg_of (sub_flags (register p d) operand (chained && carry p) chained (flags_of p.sreg))) ∷ []

-- the same difference, put into Rd
abbrev pub subtracted : Processor → ℕ → ℕ → Bool → List Write
subtracted p d operand chained =
    set_register d (sub_value (register p d) operand (chained && carry p)) ∷ compared p d operand chained

-- Rd := Rd and, or, exclusive or the operand
abbrev pub combined : Processor → Logic → ℕ → ℕ → List Write
combined p op d operand =
    set_register d (logic_value op (register p d) operand)
    ∷ set_sreg (sreg_of (logic_flags op (register p d) operand (flags_of p.sreg))) ∷ []

-- an operation on Rd alone
abbrev pub changed : Processor → One → ℕ → List Write
changed p op d =
    set_register d (one_value op (register p d) (flags_of p.sreg))
    ∷ set_sreg (sreg_of (one_flags op (register p d) (flags_of p.sreg))) ∷ []

-- R1:R0 := Rd times Rr
abbrev pub multiplied : Processor → Product → ℕ → ℕ → List Write
multiplied p op d r =
    set_pair 0 (mul_value op (register p d) (register p r))
    ∷ set_sreg (sreg_of (mul_flags op (register p d) (register p r) (flags_of p.sreg))) ∷ []

-- Rd := the byte that is read at a pointer, which rises after the read
abbrev pub load_rising : Processor → ℕ → ℕ → List Write
load_rising p pointer d = set_register d (data_read p (pair p pointer))
    ∷ set_pair pointer (raised (pair p pointer)) ∷ []

-- Rd := the byte that is read at a pointer, which falls before the read
abbrev pub load_falling : Processor → ℕ → ℕ → List Write
load_falling p pointer d =
    let address = lowered (pair p pointer) in
    set_pair pointer address ∷ set_register d (data_read (written (set_pair pointer address) p) address) ∷ []

-- Rd := the byte that is read behind a pointer, which stays
abbrev pub load_behind : Processor → ℕ → ℕ → ℕ → List Write
load_behind p pointer d q = set_register d (data_read p ((pair p pointer + q) % 65536)) ∷ []

-- the byte at a pointer, which then rises, := Rr
abbrev pub store_rising : Processor → ℕ → ℕ → List Write
store_rising p pointer r =
    set_byte (pair p pointer) (register p r) ∷ set_pair pointer (raised (pair p pointer)) ∷ []

-- the byte at a pointer, which falls first, := Rr
abbrev pub store_falling : Processor → ℕ → ℕ → List Write
store_falling p pointer r =
    set_pair pointer (lowered (pair p pointer)) ∷ set_byte (lowered (pair p pointer)) (register p r) ∷ []

-- the byte behind a pointer, which stays, := Rr
abbrev pub store_behind : Processor → ℕ → ℕ → ℕ → List Write
store_behind p pointer r q = set_byte ((pair p pointer + q) % 65536) (register p r) ∷ []

-- A push stores at SP, which then falls.
abbrev pub pushed : Processor → ℕ → List Write
pushed p value = set_byte p.sp value ∷ set_sp (lowered p.sp) ∷ []

-- SP rises, and then the byte there is read, from a processor whose SP has risen.
abbrev pub popping : Processor → Processor
popping p = written (set_sp (raised p.sp)) p

abbrev pub popped : Processor → ℕ
popped p = data_read (popping p) (raised p.sp)

-- PC, which is the address of the next instruction, is pushed, its low byte first, and becomes the target.
abbrev pub called : Processor → ℕ → List Write
called p target =
    set_byte p.sp (low p.pc) ∷ set_byte (lowered p.sp) (high p.pc) ∷ set_sp (lowered (lowered p.sp))
    ∷ set_pc target ∷ []

-- PC is popped, its high byte first.
abbrev pub returned : Processor → List Write
returned p =
    set_sp (raised (raised p.sp)) ∷ set_pc (popped p * 256 + popped (popping p)) ∷ []

-- an address that lies k words from the next instruction, modulo 65536; k is taken in two's complement
abbrev pub moved : Processor → ℤ → ℕ
moved p k = (p.pc + cast_unsigned w16 k) % 65536

-- PC becomes the address where the test holds, and else stays
abbrev pub goes_where : Bool → ℕ → List Write
goes_where true address = set_pc address ∷ []
goes_where false address = []

-- What the instruction changes, from a processor whose PC is already the address of the next instruction. `over` is the
-- address after that next instruction, where a skip goes. IJMP, ICALL, RETI, SLEEP, BREAK, WDR, SPM, the reads of flash
-- and the operations on one bit of a port have no effect here: no condition of this crate admits them.
unfoldable pub writes : Instr → ℕ → Processor → List Write
writes Nop over p = []
writes (Add d r) over p = added p d (register p r) false
writes (Adc d r) over p = added p d (register p r) (carry p)
writes (Sub d r) over p = subtracted p d (register p r) false
writes (Sbc d r) over p = subtracted p d (register p r) true
writes (Subi d K) over p = subtracted p d K false
writes (Sbci d K) over p = subtracted p d K true
writes (Cp d r) over p = compared p d (register p r) false
writes (Cpc d r) over p = compared p d (register p r) true
writes (Cpi d K) over p = compared p d K false
writes (And d r) over p = combined p and_bits d (register p r)
writes (Andi d K) over p = combined p and_bits d K
writes (Or d r) over p = combined p or_bits d (register p r)
writes (Ori d K) over p = combined p or_bits d K
writes (Eor d r) over p = combined p eor_bits d (register p r)
writes (Com d) over p = changed p complement d
writes (Neg d) over p = changed p neg d
writes (Inc d) over p = changed p inc d
writes (Dec d) over p = changed p dec d
writes (Lsr d) over p = changed p lsr d
writes (Ror d) over p = changed p ror d
writes (Asr d) over p = changed p asr d
writes (Swap d) over p = set_register d (one_value swap (register p d) (flags_of p.sreg)) ∷ []
writes (Mul d r) over p = multiplied p U d r
writes (Muls d r) over p = multiplied p S d r
writes (Mulsu d r) over p = multiplied p SU d r
writes (Fmul d r) over p = multiplied p FU d r
writes (Fmuls d r) over p = multiplied p FS d r
writes (Fmulsu d r) over p = multiplied p FSU d r
writes (Adiw d K) over p =
    set_pair d (word_add_value (pair p d) K)
    ∷ set_sreg (sreg_of (word_add_flags (pair p d) K (flags_of p.sreg))) ∷ []
writes (Sbiw d K) over p =
    set_pair d (word_sub_value (pair p d) K)
    ∷ set_sreg (sreg_of (word_sub_flags (pair p d) K (flags_of p.sreg))) ∷ []
writes (Bset s) over p = set_sreg (with_bit p.sreg s true) ∷ []
writes (Bclr s) over p = set_sreg (with_bit p.sreg s false) ∷ []
writes (Bst d b) over p = set_sreg (with_bit p.sreg transfer_bit (is_set (register p d) b)) ∷ []
writes (Bld d b) over p = set_register d (with_bit (register p d) b (transfer p)) ∷ []
writes (Mov d r) over p = set_register d (register p r) ∷ []
writes (Movw d r) over p = set_pair d (pair p r) ∷ []
writes (Ldi d K) over p = set_register d K ∷ []
writes (In d A) over p = set_register d (data_read p (A + first_port)) ∷ []
writes (Out r A) over p = set_port A (register p r) ∷ []
writes (LdX d) over p = load_behind p pointer_x d 0
writes (LdXInc d) over p = load_rising p pointer_x d
writes (LdXDec d) over p = load_falling p pointer_x d
writes (LddY d q) over p = load_behind p pointer_y d q
writes (LdYInc d) over p = load_rising p pointer_y d
writes (LdYDec d) over p = load_falling p pointer_y d
writes (LddZ d q) over p = load_behind p pointer_z d q
writes (LdZInc d) over p = load_rising p pointer_z d
writes (LdZDec d) over p = load_falling p pointer_z d
writes (Lds d k) over p = set_register d (data_read p k) ∷ []
writes (StX r) over p = store_behind p pointer_x r 0
writes (StXInc r) over p = store_rising p pointer_x r
writes (StXDec r) over p = store_falling p pointer_x r
writes (StdY r q) over p = store_behind p pointer_y r q
writes (StYInc r) over p = store_rising p pointer_y r
writes (StYDec r) over p = store_falling p pointer_y r
writes (StdZ r q) over p = store_behind p pointer_z r q
writes (StZInc r) over p = store_rising p pointer_z r
writes (StZDec r) over p = store_falling p pointer_z r
writes (Sts r k) over p = set_byte k (register p r) ∷ []
writes (Push r) over p = pushed p (register p r)
writes (Pop d) over p = set_sp (raised p.sp) ∷ set_register d (popped p) ∷ []
writes (Rjmp k) over p = set_pc (moved p k) ∷ []
writes (Jmp k) over p = set_pc (k % 65536) ∷ []
writes (Rcall k) over p = called p (moved p k)
writes (Call k) over p = called p (k % 65536)
writes Ret over p = returned p
writes (Brbs s k) over p = goes_where (is_set p.sreg s) (moved p k)
writes (Brbc s k) over p = goes_where (not (is_set p.sreg s)) (moved p k)
writes (Cpse d r) over p = goes_where (register p d == register p r) over
writes (Sbrc r b) over p = goes_where (not (is_set (register p r) b)) over
writes (Sbrs r b) over p = goes_where (is_set (register p r) b) over
writes _ over p = []

-- the processor after the instruction
abbrev pub effect : Instr → ℕ → Processor → Processor
effect i over p = after (writes i over p) p
