-- What each instruction stands for in the code of a module. The kinds of refused instructions are numbers:
-- 1 absolute jumps and IJMP, 2 reads and writes of program memory, 3 RETI, SLEEP, WDR and BREAK, 4 ports,
-- 5 writes of SP outside of a group, 6 a pointer that changes while it is loaded or stored, 7 absolute calls.
use Rattle.std.specs.Prelude.{ℕ, ◌+◌, ◌^◌, ◌==◌, ◌||◌, nat_lt, Bool, true, false, Option, Some, ℤ, pos, if◌then◌else◌, zero}
use Rattle.avr_isa.specs.declared.instruction.Instr.{Instr}
use Rattle.avr_isa.specs.declared.instruction.Instr.TheVariants.{Cpse, Sbrc, Sbrs, Push, Pop, StX, StdY, StdZ, Sts, StXInc, StXDec, StYInc, StYDec, StZInc, StZDec, LdXInc, LdXDec, LdYInc, LdYDec, LdZInc, LdZDec, In, Out, Ijmp, Jmp, LpmR0, LpmZ, LpmZInc, ElpmR0, ElpmZ, ElpmZInc, Spm, Reti, Sleep, Wdr, Break, Sbi, Cbi, Sbic, Sbis, Brbs, Brbc, Rjmp, Rcall, Call, Icall, Ret}
use Rattle.mote_layout.specs.Memory.{pointer_x, pointer_y, pointer_z, spl_port, sph_port, sreg_port}
use Rattle.mote_layout.specs.Page.{entry_at}
use Rattle.mote_layout.specs.declared.page.Entry.{Entry}
use Rattle.mote_layout.specs.declared.page.Entry.TheVariants.{Kernel, Slot}
use Rattle.unit_code.specs.declared.unit.Unit.{Unit}
use Rattle.unit_code.specs.declared.unit.Unit.TheVariants as unit
use Rattle.unit_code.specs.declared.kinds.Standing.{Standing}
use Rattle.unit_code.specs.declared.kinds.Standing.TheVariants.{Barred, Part}
use Rattle.unit_code.specs.declared.kinds.Piece.TheVariants.{Whole, Aimed}
use Rattle.unit_code.specs.declared.kinds.Aim.{Aim}
use Rattle.unit_code.specs.declared.kinds.Aim.TheVariants.{Branching, Jumping, Calling}

abbrev pub whole : Unit → Standing
whole u = Part (Whole u)

abbrev pub aimed : Aim → ℤ → Standing
aimed aim offset = Part (Aimed aim offset)

-- a load or store through a pointer that it changes, on a register which isn't one of the pointer's two
-- (AVR Instruction Set Manual: the result is undefined where it is)
abbrev pub off_pointer : ℕ → ℕ → Unit → Standing
off_pointer low register u = if register == low || register == low + 1 then Barred 6 else whole u

-- the ports of SP's two bytes and of SREG
abbrev pub is_spl_or_sph : ℕ → Bool
is_spl_or_sph port = port == spl_port || port == sph_port

abbrev pub is_sreg : ℕ → Bool
is_sreg port = port == sreg_port

abbrev pub standing_in : ℕ → Unit → Standing
standing_in port u = if is_spl_or_sph port || is_sreg port then whole u else Barred 4

abbrev pub standing_out : ℕ → Unit → Standing
standing_out port u = if is_sreg port then whole u else (if is_spl_or_sph port then Barred 5 else Barred 4)

-- a call of an entry
abbrev pub standing_entry : Option Entry → Standing
standing_entry (Some (Kernel n)) = whole (unit.KernelCall n)
standing_entry (Some (Slot i)) = whole (unit.SlotCall i)
standing_entry _ = Barred 7

-- a call by its address: the entries have addresses of 16 bits
abbrev pub standing_call : ℕ → Standing
standing_call address = if nat_lt address (2 ^ 16) then standing_entry (entry_at address) else Barred 7

-- a relative call by its offset: one to the next instruction is no call
abbrev pub standing_rcall : ℤ → Standing
standing_rcall (pos zero) = whole unit.Reserve
standing_rcall offset = aimed Calling offset

-- What an instruction outside of a group stands for.
unfoldable pub standing_of : Instr → Standing
standing_of (Brbs bit offset) = aimed (Branching true bit) offset
standing_of (Brbc bit offset) = aimed (Branching false bit) offset
standing_of (Rjmp offset) = aimed Jumping offset
standing_of (Rcall offset) = standing_rcall offset
standing_of (Call address) = standing_call address
standing_of Icall = whole unit.SlotIndirect
standing_of Ret = whole unit.Return
standing_of (Cpse d r) = whole (unit.Skip (Cpse d r))
standing_of (Sbrc r b) = whole (unit.Skip (Sbrc r b))
standing_of (Sbrs r b) = whole (unit.Skip (Sbrs r b))
standing_of (Push r) = whole (unit.Push r)
standing_of (Pop d) = whole (unit.Pop d)
standing_of (StX r) = whole (unit.Store (StX r))
standing_of (StdY r q) = whole (unit.Store (StdY r q))
standing_of (StdZ r q) = whole (unit.Store (StdZ r q))
standing_of (Sts r k) = whole (unit.Store (Sts r k))
standing_of (StXInc r) = off_pointer pointer_x r (unit.Store (StXInc r))
standing_of (StXDec r) = off_pointer pointer_x r (unit.Store (StXDec r))
standing_of (StYInc r) = off_pointer pointer_y r (unit.Store (StYInc r))
standing_of (StYDec r) = off_pointer pointer_y r (unit.Store (StYDec r))
standing_of (StZInc r) = off_pointer pointer_z r (unit.Store (StZInc r))
standing_of (StZDec r) = off_pointer pointer_z r (unit.Store (StZDec r))
standing_of (LdXInc d) = off_pointer pointer_x d (unit.Plain (LdXInc d))
standing_of (LdXDec d) = off_pointer pointer_x d (unit.Plain (LdXDec d))
standing_of (LdYInc d) = off_pointer pointer_y d (unit.Plain (LdYInc d))
standing_of (LdYDec d) = off_pointer pointer_y d (unit.Plain (LdYDec d))
standing_of (LdZInc d) = off_pointer pointer_z d (unit.Plain (LdZInc d))
standing_of (LdZDec d) = off_pointer pointer_z d (unit.Plain (LdZDec d))
standing_of (In d port) = standing_in port (unit.Plain (In d port))
standing_of (Out r port) = standing_out port (unit.Plain (Out r port))
standing_of Ijmp = Barred 1
standing_of (Jmp k) = Barred 1
standing_of LpmR0 = Barred 2
standing_of (LpmZ d) = Barred 2
standing_of (LpmZInc d) = Barred 2
standing_of ElpmR0 = Barred 2
standing_of (ElpmZ d) = Barred 2
standing_of (ElpmZInc d) = Barred 2
standing_of Spm = Barred 2
standing_of Reti = Barred 3
standing_of Sleep = Barred 3
standing_of Wdr = Barred 3
standing_of Break = Barred 3
standing_of (Sbi A b) = Barred 4
standing_of (Cbi A b) = Barred 4
standing_of (Sbic A b) = Barred 4
standing_of (Sbis A b) = Barred 4
standing_of i = whole (unit.Plain i)
