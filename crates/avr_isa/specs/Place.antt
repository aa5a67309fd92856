-- The place of an instruction's line in the table, counted from 0, and its second word.
use Rattle.std.specs.Prelude.{◌%◌, ◌^◌, ℕ, Option, Some, None}
use Rattle.avr_isa.specs.Table.{Row, word_count}
use Rattle.avr_isa.specs.declared.instruction.Instr.{Instr}
use Rattle.avr_isa.specs.declared.instruction.Instr.TheVariants.{Nop, Movw, Muls, Mulsu, Fmul, Fmuls, Fmulsu, Cpc, Sbc, Add, Cpse, Cp, Sub, Adc, And, Eor, Or, Mov, Cpi, Sbci, Subi, Ori, Andi, Ldi, LddZ, LddY, StdZ, StdY, Lds, LdZInc, LdZDec, LpmZ, LpmZInc, ElpmZ, ElpmZInc, LdYInc, LdYDec, LdX, LdXInc, LdXDec, Pop, Sts, StZInc, StZDec, StYInc, StYDec, StX, StXInc, StXDec, Push, Com, Neg, Swap, Inc, Asr, Lsr, Ror, Dec, Bset, Bclr, Ijmp, Icall, Ret, Reti, Sleep, Break, Wdr, LpmR0, ElpmR0, Spm, Jmp, Call, Adiw, Sbiw, Cbi, Sbic, Sbi, Sbis, Mul, In, Out, Rjmp, Rcall, Brbs, Brbc, Bld, Bst, Sbrc, Sbrs}

abbrev pub place : Instr → ℕ
place Nop = 0
place (Movw d r) = 1
place (Muls d r) = 2
place (Mulsu d r) = 3
place (Fmul d r) = 4
place (Fmuls d r) = 5
place (Fmulsu d r) = 6
place (Cpc d r) = 7
place (Sbc d r) = 8
place (Add d r) = 9
place (Cpse d r) = 10
place (Cp d r) = 11
place (Sub d r) = 12
place (Adc d r) = 13
place (And d r) = 14
place (Eor d r) = 15
place (Or d r) = 16
place (Mov d r) = 17
place (Cpi d K) = 18
place (Sbci d K) = 19
place (Subi d K) = 20
place (Ori d K) = 21
place (Andi d K) = 22
place (LddZ d q) = 23
place (LddY d q) = 24
place (StdZ r q) = 25
place (StdY r q) = 26
place (Lds d k) = 27
place (LdZInc d) = 28
place (LdZDec d) = 29
place (LpmZ d) = 30
place (LpmZInc d) = 31
place (ElpmZ d) = 32
place (ElpmZInc d) = 33
place (LdYInc d) = 34
place (LdYDec d) = 35
place (LdX d) = 36
place (LdXInc d) = 37
place (LdXDec d) = 38
place (Pop d) = 39
place (Sts r k) = 40
place (StZInc r) = 41
place (StZDec r) = 42
place (StYInc r) = 43
place (StYDec r) = 44
place (StX r) = 45
place (StXInc r) = 46
place (StXDec r) = 47
place (Push r) = 48
place (Com d) = 49
place (Neg d) = 50
place (Swap d) = 51
place (Inc d) = 52
place (Asr d) = 53
place (Lsr d) = 54
place (Ror d) = 55
place (Dec d) = 56
place (Bset s) = 57
place (Bclr s) = 58
place Ijmp = 59
place Icall = 60
place Ret = 61
place Reti = 62
place Sleep = 63
place Break = 64
place Wdr = 65
place LpmR0 = 66
place ElpmR0 = 67
place Spm = 68
place (Jmp k) = 69
place (Call k) = 70
place (Adiw d K) = 71
place (Sbiw d K) = 72
place (Cbi A b) = 73
place (Sbic A b) = 74
place (Sbi A b) = 75
place (Sbis A b) = 76
place (Mul d r) = 77
place (In d A) = 78
place (Out r A) = 79
place (Rjmp k) = 80
place (Rcall k) = 81
place (Ldi d K) = 82
place (Brbs s k) = 83
place (Brbc s k) = 84
place (Bld d b) = 85
place (Bst d b) = 86
place (Sbrc r b) = 87
place (Sbrs r b) = 88

-- the second word of an instruction that has one
abbrev pub second_word : Instr → Option ℕ
second_word (Lds d k) = Some k
second_word (Sts r k) = Some k
second_word (Jmp k) = Some (k % 2 ^ 16)
second_word (Call k) = Some (k % 2 ^ 16)
second_word i = None

-- the word is the first of the instruction
abbrev pub IsFirstWordOf : ℕ → Instr → Type 0
IsFirstWordOf word i = Row word (second_word i) i (word_count (second_word i))
