-- Which instructions the processor runs, and where they may store.
use Rattle.std.specs.Prelude.{ℕ, ◌+◌, ◌≡◌, ◌≢◌, ◌==◌, ◌||◌, IsTrue, List, [], ◌∷◌}
use Rattle.avr_isa.specs.declared.instruction.Instr.{Instr}
use Rattle.avr_isa.specs.declared.instruction.Instr.TheVariants.{Cpse, LdZInc, LdZDec, LpmZ, LpmZInc, ElpmZ, ElpmZInc, LdYInc, LdYDec, LdXInc, LdXDec, StZInc, StZDec, StYInc, StYDec, StXInc, StXDec, Ijmp, Icall, Ret, Reti, Sleep, Break, Wdr, LpmR0, ElpmR0, Spm, Jmp, Call, Cbi, Sbic, Sbi, Sbis, In, Out, Rjmp, Rcall, Brbs, Brbc, Sbrc, Sbrs}
use Rattle.mote_layout.specs.Memory.{pointer_x, pointer_y, pointer_z, spl_port, sph_port, sreg_port}
use Rattle.avr_machine.specs.Processor.{Processor}
use Rattle.avr_machine.specs.DataRead.{IsInMemory}
use Rattle.avr_machine.specs.Write.{Write, set_register, set_pair, set_byte, set_port, set_sp, set_sreg, set_pc}
use Rattle.avr_machine.specs.Effect.{writes}

-- a register that is no part of a pointer; the manual leaves undefined what a load or store of one does
-- while its pointer moves
abbrev pub IsApartFrom : ℕ → ℕ → Type 0
IsApartFrom pointer d = (d ≢ pointer) × (d ≢ pointer + 1)

-- The instructions that lead to the next one: arithmetic, moves, loads and stores, PUSH and POP. IN reads the ports of
-- SP and SREG alone, OUT writes that of SREG alone.
unfoldable pub IsStraight : Instr → Type 0
IsStraight (Cpse d r) = ⊥
IsStraight (Sbrc r b) = ⊥
IsStraight (Sbrs r b) = ⊥
IsStraight (Rjmp k) = ⊥
IsStraight (Jmp k) = ⊥
IsStraight (Rcall k) = ⊥
IsStraight (Call k) = ⊥
IsStraight Ret = ⊥
IsStraight (Brbs s k) = ⊥
IsStraight (Brbc s k) = ⊥
IsStraight Ijmp = ⊥
IsStraight Icall = ⊥
IsStraight LpmR0 = ⊥
IsStraight (LpmZ d) = ⊥
IsStraight (LpmZInc d) = ⊥
IsStraight ElpmR0 = ⊥
IsStraight (ElpmZ d) = ⊥
IsStraight (ElpmZInc d) = ⊥
IsStraight Spm = ⊥
IsStraight Reti = ⊥
IsStraight Sleep = ⊥
IsStraight Break = ⊥
IsStraight Wdr = ⊥
IsStraight (Cbi A b) = ⊥
IsStraight (Sbic A b) = ⊥
IsStraight (Sbi A b) = ⊥
IsStraight (Sbis A b) = ⊥
IsStraight (In d A) = IsTrue (A == spl_port || (A == sph_port || A == sreg_port))
IsStraight (Out r A) = A ≡ sreg_port
IsStraight (LdXInc d) = IsApartFrom pointer_x d
IsStraight (LdXDec d) = IsApartFrom pointer_x d
IsStraight (LdYInc d) = IsApartFrom pointer_y d
IsStraight (LdYDec d) = IsApartFrom pointer_y d
IsStraight (LdZInc d) = IsApartFrom pointer_z d
IsStraight (LdZDec d) = IsApartFrom pointer_z d
IsStraight (StXInc r) = IsApartFrom pointer_x r
IsStraight (StXDec r) = IsApartFrom pointer_x r
IsStraight (StYInc r) = IsApartFrom pointer_y r
IsStraight (StYDec r) = IsApartFrom pointer_y r
IsStraight (StZInc r) = IsApartFrom pointer_z r
IsStraight (StZDec r) = IsApartFrom pointer_z r
IsStraight _ = Unit {0}

-- the instructions that can pass over the next one
unfoldable pub IsSkip : Instr → Type 0
IsSkip (Cpse d r) = Unit {0}
IsSkip (Sbrc r b) = Unit {0}
IsSkip (Sbrs r b) = Unit {0}
IsSkip _ = ⊥

-- The instructions that a step runs: the straight ones, the skips, the branches, jumps, calls and RET, and also the OUT
-- of SP's bytes.
unfoldable pub IsRunnable : Instr → Type 0
IsRunnable (Cpse d r) = Unit {0}
IsRunnable (Sbrc r b) = Unit {0}
IsRunnable (Sbrs r b) = Unit {0}
IsRunnable (Rjmp k) = Unit {0}
IsRunnable (Jmp k) = Unit {0}
IsRunnable (Rcall k) = Unit {0}
IsRunnable (Call k) = Unit {0}
IsRunnable Ret = Unit {0}
IsRunnable (Brbs s k) = Unit {0}
IsRunnable (Brbc s k) = Unit {0}
IsRunnable (Out r A) = IsTrue (A == spl_port || (A == sph_port || A == sreg_port))
IsRunnable i = IsStraight i

-- each byte of the changes lies in the memory
abbrev pub AreInside : List Write → Type 0
AreInside [] = Unit {0}
AreInside (set_byte address value ∷ rest) = IsInMemory address × AreInside rest
AreInside (set_register d value ∷ rest) = AreInside rest
AreInside (set_pair d word ∷ rest) = AreInside rest
AreInside (set_port port value ∷ rest) = AreInside rest
AreInside (set_sp address ∷ rest) = AreInside rest
AreInside (set_sreg value ∷ rest) = AreInside rest
AreInside (set_pc address ∷ rest) = AreInside rest

-- the instruction stores in the memory alone
unfoldable pub StoresInside : Instr → Processor → Type 0
StoresInside i p = AreInside (writes i 0 p)
