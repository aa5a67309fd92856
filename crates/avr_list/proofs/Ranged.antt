-- The operands of a unit are numbers of 16 bits, and no name has a space.
use Rattle.std.proofs.Common.{◌≡◌, ℕ, ◌^◌, ◌<◌, ◌==◌, ◌&&◌, not, Bool, true, false, List, [], ◌∷◌, refl, arith}
use Rattle.std.specs.Prelude.{⊤}
use Rattle.avr_isa.specs.declared.instruction.Instr.{Instr}
use Rattle.avr_isa.specs.declared.instruction.Instr.TheVariants as instr
use Rattle.avr_isa.specs.Operands.{IsEncodable}
use Rattle.unit_code.specs.declared.unit.Unit.{Unit}
use Rattle.unit_code.specs.declared.unit.Unit.TheVariants as unit
use Rattle.avr_list.specs.declared.operand.Operand.{Operand}
use Rattle.avr_list.specs.declared.operand.Operand.TheVariants.{Register, Number, At, Raised, Lowered, Behind, Address, Target}
use Rattle.avr_list.specs.Laws.{MayStand}
use Rattle.avr_list.proofs.Said.{Operands, nothing, one, two, instruction_said, unit_said}

abbrev pub IsRanged : Operand → Type 0
IsRanged (Register n) = n < 2 ^ 16
IsRanged (Number n) = n < 2 ^ 16
IsRanged (At p) = ⊤
IsRanged (Raised p) = ⊤
IsRanged (Lowered p) = ⊤
IsRanged (Behind p q) = q < 2 ^ 16
IsRanged (Address a) = a < 2 ^ 16
IsRanged (Target u) = u < 2 ^ 16

abbrev pub AreRanged : Operands → Type 0
AreRanged nothing = ⊤
AreRanged (one a) = IsRanged a
AreRanged (two a b) = IsRanged a × IsRanged b

instruction_ranged : (i : Instr) → IsEncodable i → AreRanged (instruction_said i).operands
unfolding IsEncodable instruction_said
instruction_ranged instr.Nop e = tt
instruction_ranged (instr.Movw d r) e = (omega arith, omega arith)
instruction_ranged (instr.Muls d r) e = (omega arith, omega arith)
instruction_ranged (instr.Mulsu d r) e = (omega arith, omega arith)
instruction_ranged (instr.Fmul d r) e = (omega arith, omega arith)
instruction_ranged (instr.Fmuls d r) e = (omega arith, omega arith)
instruction_ranged (instr.Fmulsu d r) e = (omega arith, omega arith)
instruction_ranged (instr.Cpc d r) e = (omega arith, omega arith)
instruction_ranged (instr.Sbc d r) e = (omega arith, omega arith)
instruction_ranged (instr.Add d r) e = (omega arith, omega arith)
instruction_ranged (instr.Cpse d r) e = (omega arith, omega arith)
instruction_ranged (instr.Cp d r) e = (omega arith, omega arith)
instruction_ranged (instr.Sub d r) e = (omega arith, omega arith)
instruction_ranged (instr.Adc d r) e = (omega arith, omega arith)
instruction_ranged (instr.And d r) e = (omega arith, omega arith)
instruction_ranged (instr.Eor d r) e = (omega arith, omega arith)
instruction_ranged (instr.Or d r) e = (omega arith, omega arith)
instruction_ranged (instr.Mov d r) e = (omega arith, omega arith)
instruction_ranged (instr.Cpi d K) e = (omega arith, omega arith)
instruction_ranged (instr.Sbci d K) e = (omega arith, omega arith)
instruction_ranged (instr.Subi d K) e = (omega arith, omega arith)
instruction_ranged (instr.Ori d K) e = (omega arith, omega arith)
instruction_ranged (instr.Andi d K) e = (omega arith, omega arith)
instruction_ranged (instr.LddZ d q) e = (omega arith, omega arith)
instruction_ranged (instr.LddY d q) e = (omega arith, omega arith)
instruction_ranged (instr.StdZ r q) e = (omega arith, omega arith)
instruction_ranged (instr.StdY r q) e = (omega arith, omega arith)
instruction_ranged (instr.Lds d k) e = (omega arith, omega arith)
instruction_ranged (instr.LdZInc d) e = (omega arith, tt)
instruction_ranged (instr.LdZDec d) e = (omega arith, tt)
instruction_ranged (instr.LdYInc d) e = (omega arith, tt)
instruction_ranged (instr.LdYDec d) e = (omega arith, tt)
instruction_ranged (instr.LdX d) e = (omega arith, tt)
instruction_ranged (instr.LdXInc d) e = (omega arith, tt)
instruction_ranged (instr.LdXDec d) e = (omega arith, tt)
instruction_ranged (instr.Sts r k) e = (omega arith, omega arith)
instruction_ranged (instr.StZInc r) e = (tt, omega arith)
instruction_ranged (instr.StZDec r) e = (tt, omega arith)
instruction_ranged (instr.StYInc r) e = (tt, omega arith)
instruction_ranged (instr.StYDec r) e = (tt, omega arith)
instruction_ranged (instr.StX r) e = (tt, omega arith)
instruction_ranged (instr.StXInc r) e = (tt, omega arith)
instruction_ranged (instr.StXDec r) e = (tt, omega arith)
instruction_ranged (instr.Com d) e = omega arith
instruction_ranged (instr.Neg d) e = omega arith
instruction_ranged (instr.Swap d) e = omega arith
instruction_ranged (instr.Inc d) e = omega arith
instruction_ranged (instr.Asr d) e = omega arith
instruction_ranged (instr.Lsr d) e = omega arith
instruction_ranged (instr.Ror d) e = omega arith
instruction_ranged (instr.Dec d) e = omega arith
instruction_ranged (instr.Bset s) e = omega arith
instruction_ranged (instr.Bclr s) e = omega arith
instruction_ranged (instr.Adiw d K) e = (omega arith, omega arith)
instruction_ranged (instr.Sbiw d K) e = (omega arith, omega arith)
instruction_ranged (instr.Mul d r) e = (omega arith, omega arith)
instruction_ranged (instr.In d A) e = (omega arith, omega arith)
instruction_ranged (instr.Out r A) e = (omega arith, omega arith)
instruction_ranged (instr.Ldi d K) e = (omega arith, omega arith)
instruction_ranged (instr.Bld d b) e = (omega arith, omega arith)
instruction_ranged (instr.Bst d b) e = (omega arith, omega arith)
instruction_ranged (instr.Sbrc r b) e = (omega arith, omega arith)
instruction_ranged (instr.Sbrs r b) e = (omega arith, omega arith)
instruction_ranged _ e = tt

pub unit_ranged : (sealed : Bool) (u : Unit) → MayStand sealed u → AreRanged (unit_said u).operands
unit_ranged sealed (unit.Plain i) m = instruction_ranged i m.kind.1
unit_ranged sealed (unit.Store i) m = instruction_ranged i m.kind.1
unit_ranged sealed (unit.Load i) m = instruction_ranged i m.kind.2
unit_ranged sealed (unit.Skip i) m = instruction_ranged i m.kind.1
unit_ranged sealed (unit.Push r) m = let kind = m.kind in let target = m.target in omega arith
unit_ranged sealed (unit.Pop d) m = let kind = m.kind in let target = m.target in omega arith
unit_ranged sealed (unit.SpGroup true) m = tt
unit_ranged sealed (unit.SpGroup false) m = tt
unit_ranged sealed unit.Reserve m = tt
unit_ranged sealed (unit.Branch true bit u) m = let kind = m.kind in let target = m.target in (omega arith, omega arith)
unit_ranged sealed (unit.Branch false bit u) m = let kind = m.kind in let target = m.target in (omega arith, omega arith)
unit_ranged sealed (unit.Jump u) m = let kind = m.kind in let target = m.target in omega arith
unit_ranged sealed (unit.LocalCall u) m = let kind = m.kind in let target = m.target in omega arith
unit_ranged sealed (unit.KernelCall n) m = let kind = m.kind in let target = m.target in omega arith
unit_ranged sealed (unit.SlotCall n) m = let kind = m.kind in let target = m.target in omega arith
unit_ranged sealed unit.SlotIndirect m = tt
unit_ranged sealed unit.Return m = tt

abbrev pub is_free : ℕ → List ℕ → Bool
is_free c [] = true
is_free c (x ∷ xs) = not (x == c) && is_free c xs

instruction_free : (i : Instr) → is_free 32 (instruction_said i).name ≡ true
unfolding instruction_said
instruction_free instr.Nop = refl
instruction_free _ = refl

pub unit_free : (u : Unit) → is_free 32 (unit_said u).name ≡ true
unit_free (unit.Plain i) = instruction_free i
unit_free (unit.Store i) = instruction_free i
unit_free (unit.Load i) = instruction_free i
unit_free (unit.Skip i) = instruction_free i
unit_free (unit.Push r) = refl
unit_free (unit.Pop d) = refl
unit_free (unit.SpGroup true) = refl
unit_free (unit.SpGroup false) = refl
unit_free unit.Reserve = refl
unit_free (unit.Branch true bit u) = refl
unit_free (unit.Branch false bit u) = refl
unit_free (unit.Jump u) = refl
unit_free (unit.LocalCall u) = refl
unit_free (unit.KernelCall n) = refl
unit_free (unit.SlotCall n) = refl
unit_free unit.SlotIndirect = refl
unit_free unit.Return = refl
