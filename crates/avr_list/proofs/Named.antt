-- A unit by its name and its operands.
use Rattle.std.proofs.Common.{◌≡◌, ◌∙◌, ℕ, ◌==◌, ◌&&◌, cond, Bool, true, false, List, [], ◌∷◌, refl, sym, ap, subst}
use Rattle.std.specs.Prelude.{codes, ⊤}
use Rattle.std.proofs.lemmas.Bool.{and_from}
use Rattle.avr_isa.specs.declared.instruction.Instr.{Instr}
use Rattle.avr_isa.specs.declared.instruction.Instr.TheVariants as instr
use Rattle.unit_code.specs.declared.unit.Unit.{Unit}
use Rattle.unit_code.specs.declared.unit.Unit.TheVariants as unit
use Rattle.unit_code.specs.Kinds.{standing_of, whole}
use Rattle.unit_code.specs.Loads.{is_load}
use Rattle.avr_list.specs.declared.operand.Pointer.TheVariants.{X, Y, Z}
use Rattle.avr_list.specs.declared.operand.Operand.TheVariants.{Register, Number, At, Raised, Lowered, Behind, Address, Target}
use Rattle.avr_list.specs.Instructions.{HasText, instruction_text}
use Rattle.avr_list.specs.Laws.{MayStand}
use Rattle.avr_list.proofs.Held.{plain_has_text, skip_has_text, store_has_text}
use Rattle.avr_list.proofs.Said.{Operands, one, two, Said, instruction_said, unit_said}

abbrev same_name : List ℕ → List ℕ → Bool
same_name [] [] = true
same_name [] (y ∷ ys) = false
same_name (x ∷ xs) [] = false
same_name (x ∷ xs) (y ∷ ys) = x == y && same_name xs ys

-- the operands of each form
abbrev registers : (ℕ → ℕ → Instr) → Operands → Unit
registers f (two (Register d) (Register r)) = unit.Plain (f d r)
registers f _ = unit.Return

abbrev constant : (ℕ → ℕ → Instr) → Operands → Unit
constant f (two (Register d) (Number n)) = unit.Plain (f d n)
constant f _ = unit.Return

abbrev register : (ℕ → Instr) → Operands → Unit
register f (one (Register d)) = unit.Plain (f d)
register f _ = unit.Return

abbrev flag : (ℕ → Instr) → Operands → Unit
flag f (one (Number n)) = unit.Plain (f n)
flag f _ = unit.Return

abbrev output : Operands → Unit
output (two (Number port) (Register r)) = unit.Plain (instr.Out r port)
output _ = unit.Return

abbrev far_load : Operands → Unit
far_load (two (Register d) (Address k)) = unit.Plain (instr.Lds d k)
far_load _ = unit.Return

abbrev far_store : Operands → Unit
far_store (two (Address k) (Register r)) = unit.Plain (instr.Sts r k)
far_store _ = unit.Return

abbrev load : Operands → Unit
load (two (Register d) (Raised Z)) = unit.Plain (instr.LdZInc d)
load (two (Register d) (Lowered Z)) = unit.Plain (instr.LdZDec d)
load (two (Register d) (Raised Y)) = unit.Plain (instr.LdYInc d)
load (two (Register d) (Lowered Y)) = unit.Plain (instr.LdYDec d)
load (two (Register d) (At X)) = unit.Plain (instr.LdX d)
load (two (Register d) (Raised X)) = unit.Plain (instr.LdXInc d)
load (two (Register d) (Lowered X)) = unit.Plain (instr.LdXDec d)
load _ = unit.Return

abbrev store : Operands → Unit
store (two (Raised Z) (Register r)) = unit.Plain (instr.StZInc r)
store (two (Lowered Z) (Register r)) = unit.Plain (instr.StZDec r)
store (two (Raised Y) (Register r)) = unit.Plain (instr.StYInc r)
store (two (Lowered Y) (Register r)) = unit.Plain (instr.StYDec r)
store (two (At X) (Register r)) = unit.Plain (instr.StX r)
store (two (Raised X) (Register r)) = unit.Plain (instr.StXInc r)
store (two (Lowered X) (Register r)) = unit.Plain (instr.StXDec r)
store _ = unit.Return

abbrev load_behind : Operands → Unit
load_behind (two (Register d) (Behind Z q)) = unit.Plain (instr.LddZ d q)
load_behind (two (Register d) (Behind Y q)) = unit.Plain (instr.LddY d q)
load_behind _ = unit.Return

abbrev store_behind : Operands → Unit
store_behind (two (Behind Z q) (Register r)) = unit.Plain (instr.StdZ r q)
store_behind (two (Behind Y q) (Register r)) = unit.Plain (instr.StdY r q)
store_behind _ = unit.Return

abbrev of_register : (ℕ → Unit) → Operands → Unit
of_register f (one (Register r)) = f r
of_register f _ = unit.Return

abbrev of_number : (ℕ → Unit) → Operands → Unit
of_number f (one (Number n)) = f n
of_number f _ = unit.Return

abbrev to_target : (ℕ → Unit) → Operands → Unit
to_target f (one (Target u)) = f u
to_target f _ = unit.Return

abbrev branch : Bool → Operands → Unit
branch set (two (Number bit) (Target u)) = unit.Branch set bit u
branch set _ = unit.Return

abbrev named_5 : List ℕ → Operands → Unit
named_5 name operands =
    cond (same_name name (codes "icall")) (unit.SlotIndirect)
    (cond (same_name name (codes "ret")) (unit.Return)
    (unit.Return))

abbrev named_4 : List ℕ → Operands → Unit
named_4 name operands =
    cond (same_name name (codes "sbrs")) (constant (λ d n. instr.Sbrs d n) operands)
    (cond (same_name name (codes "push")) (of_register (λ r. unit.Push r) operands)
    (cond (same_name name (codes "pop")) (of_register (λ d. unit.Pop d) operands)
    (cond (same_name name (codes "setsps")) (unit.SpGroup true)
    (cond (same_name name (codes "setsp")) (unit.SpGroup false)
    (cond (same_name name (codes "reserve")) (unit.Reserve)
    (cond (same_name name (codes "brbs")) (branch true operands)
    (cond (same_name name (codes "brbc")) (branch false operands)
    (cond (same_name name (codes "rjmp")) (to_target (λ u. unit.Jump u) operands)
    (cond (same_name name (codes "rcall")) (to_target (λ u. unit.LocalCall u) operands)
    (cond (same_name name (codes "kcall")) (of_number (λ n. unit.KernelCall n) operands)
    (cond (same_name name (codes "scall")) (of_number (λ n. unit.SlotCall n) operands)
    (named_5 name operands))))))))))))

abbrev named_3 : List ℕ → Operands → Unit
named_3 name operands =
    cond (same_name name (codes "dec")) (register (λ d. instr.Dec d) operands)
    (cond (same_name name (codes "bset")) (flag (λ n. instr.Bset n) operands)
    (cond (same_name name (codes "bclr")) (flag (λ n. instr.Bclr n) operands)
    (cond (same_name name (codes "adiw")) (constant (λ d n. instr.Adiw d n) operands)
    (cond (same_name name (codes "sbiw")) (constant (λ d n. instr.Sbiw d n) operands)
    (cond (same_name name (codes "mul")) (registers (λ d r. instr.Mul d r) operands)
    (cond (same_name name (codes "in")) (constant (λ d n. instr.In d n) operands)
    (cond (same_name name (codes "out")) (output operands)
    (cond (same_name name (codes "ldi")) (constant (λ d n. instr.Ldi d n) operands)
    (cond (same_name name (codes "bld")) (constant (λ d n. instr.Bld d n) operands)
    (cond (same_name name (codes "bst")) (constant (λ d n. instr.Bst d n) operands)
    (cond (same_name name (codes "sbrc")) (constant (λ d n. instr.Sbrc d n) operands)
    (named_4 name operands))))))))))))

abbrev named_2 : List ℕ → Operands → Unit
named_2 name operands =
    cond (same_name name (codes "std")) (store_behind operands)
    (cond (same_name name (codes "lds")) (far_load operands)
    (cond (same_name name (codes "ld")) (load operands)
    (cond (same_name name (codes "sts")) (far_store operands)
    (cond (same_name name (codes "st")) (store operands)
    (cond (same_name name (codes "com")) (register (λ d. instr.Com d) operands)
    (cond (same_name name (codes "neg")) (register (λ d. instr.Neg d) operands)
    (cond (same_name name (codes "swap")) (register (λ d. instr.Swap d) operands)
    (cond (same_name name (codes "inc")) (register (λ d. instr.Inc d) operands)
    (cond (same_name name (codes "asr")) (register (λ d. instr.Asr d) operands)
    (cond (same_name name (codes "lsr")) (register (λ d. instr.Lsr d) operands)
    (cond (same_name name (codes "ror")) (register (λ d. instr.Ror d) operands)
    (named_3 name operands))))))))))))

abbrev named_1 : List ℕ → Operands → Unit
named_1 name operands =
    cond (same_name name (codes "sub")) (registers (λ d r. instr.Sub d r) operands)
    (cond (same_name name (codes "adc")) (registers (λ d r. instr.Adc d r) operands)
    (cond (same_name name (codes "and")) (registers (λ d r. instr.And d r) operands)
    (cond (same_name name (codes "eor")) (registers (λ d r. instr.Eor d r) operands)
    (cond (same_name name (codes "or")) (registers (λ d r. instr.Or d r) operands)
    (cond (same_name name (codes "mov")) (registers (λ d r. instr.Mov d r) operands)
    (cond (same_name name (codes "cpi")) (constant (λ d n. instr.Cpi d n) operands)
    (cond (same_name name (codes "sbci")) (constant (λ d n. instr.Sbci d n) operands)
    (cond (same_name name (codes "subi")) (constant (λ d n. instr.Subi d n) operands)
    (cond (same_name name (codes "ori")) (constant (λ d n. instr.Ori d n) operands)
    (cond (same_name name (codes "andi")) (constant (λ d n. instr.Andi d n) operands)
    (cond (same_name name (codes "ldd")) (load_behind operands)
    (named_2 name operands))))))))))))

abbrev named_0 : List ℕ → Operands → Unit
named_0 name operands =
    cond (same_name name (codes "nop")) (unit.Plain instr.Nop)
    (cond (same_name name (codes "movw")) (registers (λ d r. instr.Movw d r) operands)
    (cond (same_name name (codes "muls")) (registers (λ d r. instr.Muls d r) operands)
    (cond (same_name name (codes "mulsu")) (registers (λ d r. instr.Mulsu d r) operands)
    (cond (same_name name (codes "fmul")) (registers (λ d r. instr.Fmul d r) operands)
    (cond (same_name name (codes "fmuls")) (registers (λ d r. instr.Fmuls d r) operands)
    (cond (same_name name (codes "fmulsu")) (registers (λ d r. instr.Fmulsu d r) operands)
    (cond (same_name name (codes "cpc")) (registers (λ d r. instr.Cpc d r) operands)
    (cond (same_name name (codes "sbc")) (registers (λ d r. instr.Sbc d r) operands)
    (cond (same_name name (codes "add")) (registers (λ d r. instr.Add d r) operands)
    (cond (same_name name (codes "cpse")) (registers (λ d r. instr.Cpse d r) operands)
    (cond (same_name name (codes "cp")) (registers (λ d r. instr.Cp d r) operands)
    (named_1 name operands))))))))))))

unfoldable named : Said → Unit
named said = named_0 said.name said.operands

-- what a unit's text tells of it
abbrev told : Unit → Unit
told (unit.Store i) = unit.Plain i
told (unit.Load i) = unit.Plain i
told (unit.Skip i) = unit.Plain i
told u = u

instruction_named : (i : Instr) → HasText i → named (instruction_said i) ≡ unit.Plain i
unfolding named instruction_said instruction_text
instruction_named (instr.LpmZ d) has = absurd (has refl)
instruction_named (instr.LpmZInc d) has = absurd (has refl)
instruction_named (instr.ElpmZ d) has = absurd (has refl)
instruction_named (instr.ElpmZInc d) has = absurd (has refl)
instruction_named (instr.Pop d) has = absurd (has refl)
instruction_named (instr.Push r) has = absurd (has refl)
instruction_named instr.Ijmp has = absurd (has refl)
instruction_named instr.Icall has = absurd (has refl)
instruction_named instr.Ret has = absurd (has refl)
instruction_named instr.Reti has = absurd (has refl)
instruction_named instr.Sleep has = absurd (has refl)
instruction_named instr.Break has = absurd (has refl)
instruction_named instr.Wdr has = absurd (has refl)
instruction_named instr.LpmR0 has = absurd (has refl)
instruction_named instr.ElpmR0 has = absurd (has refl)
instruction_named instr.Spm has = absurd (has refl)
instruction_named (instr.Jmp k) has = absurd (has refl)
instruction_named (instr.Call k) has = absurd (has refl)
instruction_named (instr.Cbi A b) has = absurd (has refl)
instruction_named (instr.Sbic A b) has = absurd (has refl)
instruction_named (instr.Sbi A b) has = absurd (has refl)
instruction_named (instr.Sbis A b) has = absurd (has refl)
instruction_named (instr.Rjmp k) has = absurd (has refl)
instruction_named (instr.Rcall k) has = absurd (has refl)
instruction_named (instr.Brbs s k) has = absurd (has refl)
instruction_named (instr.Brbc s k) has = absurd (has refl)
instruction_named _ has = refl

unit_named : (sealed : Bool) (u : Unit) → MayStand sealed u → named (unit_said u) ≡ told u
unfolding named
unit_named sealed (unit.Plain i) m = instruction_named i (plain_has_text i m.kind.0)
unit_named sealed (unit.Store i) m = instruction_named i (store_has_text i m.kind.0)
unit_named sealed (unit.Load i) m = instruction_named i (plain_has_text i m.kind.0)
unit_named sealed (unit.Skip i) m = instruction_named i (skip_has_text i m.kind.0)
unit_named sealed (unit.Push r) m = refl
unit_named sealed (unit.Pop d) m = refl
unit_named sealed (unit.SpGroup true) m = refl
unit_named sealed (unit.SpGroup false) m = refl
unit_named sealed unit.Reserve m = refl
unit_named sealed (unit.Branch true bit u) m = refl
unit_named sealed (unit.Branch false bit u) m = refl
unit_named sealed (unit.Jump u) m = refl
unit_named sealed (unit.LocalCall u) m = refl
unit_named sealed (unit.KernelCall n) m = refl
unit_named sealed (unit.SlotCall n) m = refl
unit_named sealed unit.SlotIndirect m = refl
unit_named sealed unit.Return m = refl

-- units that hold one instruction and may stand in one list are the same
held : (u v : Unit) (i j : Instr) → standing_of i ≡ whole u → standing_of j ≡ whole v → i ≡ j → whole u ≡ whole v
held u v i j here there same = sym here ∙ ap standing_of same ∙ there

guards : (sealed : Bool) (i j : Instr) → (sealed && is_load i) ≡ false → sealed ≡ true → is_load j ≡ true → i ≡ j → ⊥
guards sealed i j plain is_sealed loads same =
    let all : (sealed && is_load i) ≡ true = and_from sealed (is_load i) is_sealed (ap is_load same ∙ loads) in
    let e : true ≡ false = sym all ∙ plain in cc

-- a unit that holds no instruction is told by itself
abbrev IsOther : Unit → Type 0
IsOther (unit.Plain i) = ⊥
IsOther (unit.Store i) = ⊥
IsOther (unit.Load i) = ⊥
IsOther (unit.Skip i) = ⊥
IsOther _ = ⊤

other : (u : Unit) → IsOther u → (v : Unit) → u ≡ told v → u ≡ v
other u is (unit.Plain j) e = absurd (subst IsOther e is)
other u is (unit.Store j) e = absurd (subst IsOther e is)
other u is (unit.Load j) e = absurd (subst IsOther e is)
other u is (unit.Skip j) e = absurd (subst IsOther e is)
other u is _ e = e

same_told : (sealed : Bool) (u v : Unit) → MayStand sealed u → MayStand sealed v → told u ≡ told v → u ≡ v
same_told sealed (unit.Plain i) (unit.Plain j) m n e = let same : i ≡ j = cc in ap unit.Plain same
same_told sealed (unit.Plain i) (unit.Store j) m n e = let same : i ≡ j = cc in let kinds : whole (unit.Plain i) ≡ whole (unit.Store j) = held (unit.Plain i) (unit.Store j) i j m.kind.0 n.kind.0 same in cc
same_told sealed (unit.Plain i) (unit.Load j) m n e = let same : i ≡ j = cc in absurd (guards sealed i j m.load n.load n.kind.1 same)
same_told sealed (unit.Plain i) (unit.Skip j) m n e = let same : i ≡ j = cc in let kinds : whole (unit.Plain i) ≡ whole (unit.Skip j) = held (unit.Plain i) (unit.Skip j) i j m.kind.0 n.kind.0 same in cc
same_told sealed (unit.Store i) (unit.Plain j) m n e = let same : i ≡ j = cc in let kinds : whole (unit.Store i) ≡ whole (unit.Plain j) = held (unit.Store i) (unit.Plain j) i j m.kind.0 n.kind.0 same in cc
same_told sealed (unit.Store i) (unit.Store j) m n e = let same : i ≡ j = cc in ap unit.Store same
same_told sealed (unit.Store i) (unit.Load j) m n e = let same : i ≡ j = cc in let kinds : whole (unit.Store i) ≡ whole (unit.Plain j) = held (unit.Store i) (unit.Plain j) i j m.kind.0 n.kind.0 same in cc
same_told sealed (unit.Store i) (unit.Skip j) m n e = let same : i ≡ j = cc in let kinds : whole (unit.Store i) ≡ whole (unit.Skip j) = held (unit.Store i) (unit.Skip j) i j m.kind.0 n.kind.0 same in cc
same_told sealed (unit.Load i) (unit.Plain j) m n e = let same : i ≡ j = cc in absurd (guards sealed j i n.load m.load m.kind.1 (sym same))
same_told sealed (unit.Load i) (unit.Store j) m n e = let same : i ≡ j = cc in let kinds : whole (unit.Plain i) ≡ whole (unit.Store j) = held (unit.Plain i) (unit.Store j) i j m.kind.0 n.kind.0 same in cc
same_told sealed (unit.Load i) (unit.Load j) m n e = let same : i ≡ j = cc in ap unit.Load same
same_told sealed (unit.Load i) (unit.Skip j) m n e = let same : i ≡ j = cc in let kinds : whole (unit.Plain i) ≡ whole (unit.Skip j) = held (unit.Plain i) (unit.Skip j) i j m.kind.0 n.kind.0 same in cc
same_told sealed (unit.Skip i) (unit.Plain j) m n e = let same : i ≡ j = cc in let kinds : whole (unit.Skip i) ≡ whole (unit.Plain j) = held (unit.Skip i) (unit.Plain j) i j m.kind.0 n.kind.0 same in cc
same_told sealed (unit.Skip i) (unit.Store j) m n e = let same : i ≡ j = cc in let kinds : whole (unit.Skip i) ≡ whole (unit.Store j) = held (unit.Skip i) (unit.Store j) i j m.kind.0 n.kind.0 same in cc
same_told sealed (unit.Skip i) (unit.Load j) m n e = let same : i ≡ j = cc in let kinds : whole (unit.Skip i) ≡ whole (unit.Plain j) = held (unit.Skip i) (unit.Plain j) i j m.kind.0 n.kind.0 same in cc
same_told sealed (unit.Skip i) (unit.Skip j) m n e = let same : i ≡ j = cc in ap unit.Skip same
same_told sealed (unit.Plain i) _ m n e = cc
same_told sealed (unit.Store i) _ m n e = cc
same_told sealed (unit.Load i) _ m n e = cc
same_told sealed (unit.Skip i) _ m n e = cc
same_told sealed u v m n e = other u tt v e

-- what a name and its operands tell
pub said_tells : (sealed : Bool) (u v : Unit) → MayStand sealed u → MayStand sealed v → unit_said u ≡ unit_said v → u ≡ v
said_tells sealed u v m n e = same_told sealed u v m n (sym (unit_named sealed u m) ∙ ap named e ∙ unit_named sealed v n)
