-- The ranges that the AVR Instruction Set Manual gives for the operands of each instruction.
use Rattle.std.specs.Prelude.{◌≡◌, ◌^◌, ◌%◌, ◌<◌, ◌≤◌, ◌≤ℤ◌, ℕ, ℤ, pos, negsuc}
use Rattle.avr_isa.specs.declared.instruction.Instr.{Instr}
use Rattle.avr_isa.specs.declared.instruction.Instr.TheVariants.{Nop, Movw, Muls, Mulsu, Fmul, Fmuls, Fmulsu, Cpc, Sbc, Add, Cpse, Cp, Sub, Adc, And, Eor, Or, Mov, Cpi, Sbci, Subi, Ori, Andi, Ldi, LddZ, LddY, StdZ, StdY, Lds, LdZInc, LdZDec, LpmZ, LpmZInc, ElpmZ, ElpmZInc, LdYInc, LdYDec, LdX, LdXInc, LdXDec, Pop, Sts, StZInc, StZDec, StYInc, StYDec, StX, StXInc, StXDec, Push, Com, Neg, Swap, Inc, Asr, Lsr, Ror, Dec, Bset, Bclr, Ijmp, Icall, Ret, Reti, Sleep, Break, Wdr, LpmR0, ElpmR0, Spm, Jmp, Call, Adiw, Sbiw, Cbi, Sbic, Sbi, Sbis, Mul, In, Out, Rjmp, Rcall, Brbs, Brbc, Bld, Bst, Sbrc, Sbrs}

-- R0 to R31
abbrev pub IsRegister : ℕ → Type 0
IsRegister n = n < 32

-- R16 to R31
abbrev pub IsUpper : ℕ → Type 0
IsUpper n = (16 ≤ n) × (n < 32)

-- R16 to R23
abbrev pub IsMiddle : ℕ → Type 0
IsMiddle n = (16 ≤ n) × (n < 24)

-- R1:R0 to R31:R30, by the lower register
abbrev pub IsPair : ℕ → Type 0
IsPair n = (n < 32) × (n % 2 ≡ 0)

-- R25:R24 to R31:R30, by the lower register
abbrev pub IsUpperPair : ℕ → Type 0
IsUpperPair n = (24 ≤ n) × (n < 32) × (n % 2 ≡ 0)

-- a bit of a byte
abbrev pub IsBit : ℕ → Type 0
IsBit n = n < 8

-- a port that can be addressed bit by bit
abbrev pub IsLowPort : ℕ → Type 0
IsLowPort n = n < 32

-- a port, a displacement, or a constant that is added to a pair
abbrev pub IsSixBits : ℕ → Type 0
IsSixBits n = n < 64

abbrev pub IsByte : ℕ → Type 0
IsByte n = n < 256

-- an address in the data space
abbrev pub IsDataAddress : ℕ → Type 0
IsDataAddress n = n < 2 ^ 16

-- an address in the program memory
abbrev pub IsProgramAddress : ℕ → Type 0
IsProgramAddress n = n < 2 ^ 22

-- the offset of a relative jump or call
abbrev pub IsJumpOffset : ℤ → Type 0
IsJumpOffset k = (negsuc 2047 ≤ℤ k) × (k ≤ℤ pos 2047)

-- the offset of a branch
abbrev pub IsBranchOffset : ℤ → Type 0
IsBranchOffset k = (negsuc 63 ≤ℤ k) × (k ≤ℤ pos 63)

-- every operand of the instruction is in its range
unfoldable pub IsEncodable : Instr → Type 0
IsEncodable Nop = Unit {0}
IsEncodable (Movw d r) = IsPair d × IsPair r
IsEncodable (Muls d r) = IsUpper d × IsUpper r
IsEncodable (Mulsu d r) = IsMiddle d × IsMiddle r
IsEncodable (Fmul d r) = IsMiddle d × IsMiddle r
IsEncodable (Fmuls d r) = IsMiddle d × IsMiddle r
IsEncodable (Fmulsu d r) = IsMiddle d × IsMiddle r
IsEncodable (Cpc d r) = IsRegister d × IsRegister r
IsEncodable (Sbc d r) = IsRegister d × IsRegister r
IsEncodable (Add d r) = IsRegister d × IsRegister r
IsEncodable (Cpse d r) = IsRegister d × IsRegister r
IsEncodable (Cp d r) = IsRegister d × IsRegister r
IsEncodable (Sub d r) = IsRegister d × IsRegister r
IsEncodable (Adc d r) = IsRegister d × IsRegister r
IsEncodable (And d r) = IsRegister d × IsRegister r
IsEncodable (Eor d r) = IsRegister d × IsRegister r
IsEncodable (Or d r) = IsRegister d × IsRegister r
IsEncodable (Mov d r) = IsRegister d × IsRegister r
IsEncodable (Cpi d K) = IsUpper d × IsByte K
IsEncodable (Sbci d K) = IsUpper d × IsByte K
IsEncodable (Subi d K) = IsUpper d × IsByte K
IsEncodable (Ori d K) = IsUpper d × IsByte K
IsEncodable (Andi d K) = IsUpper d × IsByte K
IsEncodable (Ldi d K) = IsUpper d × IsByte K
IsEncodable (LddZ d q) = IsRegister d × IsSixBits q
IsEncodable (LddY d q) = IsRegister d × IsSixBits q
IsEncodable (StdZ r q) = IsRegister r × IsSixBits q
IsEncodable (StdY r q) = IsRegister r × IsSixBits q
IsEncodable (Lds d k) = IsRegister d × IsDataAddress k
IsEncodable (LdZInc d) = IsRegister d
IsEncodable (LdZDec d) = IsRegister d
IsEncodable (LpmZ d) = IsRegister d
IsEncodable (LpmZInc d) = IsRegister d
IsEncodable (ElpmZ d) = IsRegister d
IsEncodable (ElpmZInc d) = IsRegister d
IsEncodable (LdYInc d) = IsRegister d
IsEncodable (LdYDec d) = IsRegister d
IsEncodable (LdX d) = IsRegister d
IsEncodable (LdXInc d) = IsRegister d
IsEncodable (LdXDec d) = IsRegister d
IsEncodable (Pop d) = IsRegister d
IsEncodable (Sts r k) = IsRegister r × IsDataAddress k
IsEncodable (StZInc r) = IsRegister r
IsEncodable (StZDec r) = IsRegister r
IsEncodable (StYInc r) = IsRegister r
IsEncodable (StYDec r) = IsRegister r
IsEncodable (StX r) = IsRegister r
IsEncodable (StXInc r) = IsRegister r
IsEncodable (StXDec r) = IsRegister r
IsEncodable (Push r) = IsRegister r
IsEncodable (Com d) = IsRegister d
IsEncodable (Neg d) = IsRegister d
IsEncodable (Swap d) = IsRegister d
IsEncodable (Inc d) = IsRegister d
IsEncodable (Asr d) = IsRegister d
IsEncodable (Lsr d) = IsRegister d
IsEncodable (Ror d) = IsRegister d
IsEncodable (Dec d) = IsRegister d
IsEncodable (Bset s) = IsBit s
IsEncodable (Bclr s) = IsBit s
IsEncodable Ijmp = Unit {0}
IsEncodable Icall = Unit {0}
IsEncodable Ret = Unit {0}
IsEncodable Reti = Unit {0}
IsEncodable Sleep = Unit {0}
IsEncodable Break = Unit {0}
IsEncodable Wdr = Unit {0}
IsEncodable LpmR0 = Unit {0}
IsEncodable ElpmR0 = Unit {0}
IsEncodable Spm = Unit {0}
IsEncodable (Jmp k) = IsProgramAddress k
IsEncodable (Call k) = IsProgramAddress k
IsEncodable (Adiw d K) = IsUpperPair d × IsSixBits K
IsEncodable (Sbiw d K) = IsUpperPair d × IsSixBits K
IsEncodable (Cbi A b) = IsLowPort A × IsBit b
IsEncodable (Sbic A b) = IsLowPort A × IsBit b
IsEncodable (Sbi A b) = IsLowPort A × IsBit b
IsEncodable (Sbis A b) = IsLowPort A × IsBit b
IsEncodable (Mul d r) = IsRegister d × IsRegister r
IsEncodable (In d A) = IsRegister d × IsSixBits A
IsEncodable (Out r A) = IsRegister r × IsSixBits A
IsEncodable (Rjmp k) = IsJumpOffset k
IsEncodable (Rcall k) = IsJumpOffset k
IsEncodable (Brbs s k) = IsBit s × IsBranchOffset k
IsEncodable (Brbc s k) = IsBit s × IsBranchOffset k
IsEncodable (Bld d b) = IsRegister d × IsBit b
IsEncodable (Bst d b) = IsRegister d × IsBit b
IsEncodable (Sbrc r b) = IsRegister r × IsBit b
IsEncodable (Sbrs r b) = IsRegister r × IsBit b
