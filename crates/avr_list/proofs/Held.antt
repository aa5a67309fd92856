-- Every instruction that a unit holds has a text.
use Rattle.std.specs.Prelude.{◌≡◌, ℕ, ◌^◌, cond, Bool, true, false, nat_lt, ℤ, pos, zero, Option, Some, None, ⊤}
use Rattle.std.proofs.Common.{rules, subst, sym}
use Rattle.avr_isa.specs.declared.instruction.Instr.{Instr}
use Rattle.avr_isa.specs.declared.instruction.Instr.TheVariants.{Call, Rcall}
use Rattle.unit_code.specs.declared.unit.Unit.TheVariants.{Plain, Store, Skip}
use Rattle.unit_code.specs.declared.kinds.Standing.{Standing}
use Rattle.unit_code.specs.declared.kinds.Standing.TheVariants.{Barred, Part}
use Rattle.unit_code.specs.declared.kinds.Piece.TheVariants.{Whole}
use Rattle.unit_code.specs.Kinds.{standing_of, standing_entry, standing_call, standing_rcall, whole}
use Rattle.avr_list.specs.Instructions.{HasText, instruction_text}

-- what stands there is a unit that holds an instruction
abbrev pub Holds : Standing → Type 0
Holds (Part (Whole (Plain i))) = ⊤
Holds (Part (Whole (Store i))) = ⊤
Holds (Part (Whole (Skip i))) = ⊤
Holds _ = ⊥

by_test : (b : Bool) (s t : Standing) → (Holds s → ⊥) → (Holds t → ⊥) → Holds (cond b s t) → ⊥
by_test true s t then_none else_none h = then_none h
by_test false s t then_none else_none h = else_none h

-- Calls make units that hold none. Entries of the page are another crate's, so their type is left to be found.
entry_holds_none : (entry : Option _) → Holds (standing_entry entry) → ⊥
entry_holds_none None h = h
entry_holds_none (Some entry) h = search rules

call_holds_none : (k : ℕ) → Holds (standing_call k) → ⊥
call_holds_none k = by_test (nat_lt k (2 ^ 16)) (standing_entry _) (Barred 7) (entry_holds_none _) (λ h. h)

rcall_holds_none : (k : ℤ) → Holds (standing_rcall k) → ⊥
rcall_holds_none (pos zero) h = h
rcall_holds_none _ h = search rules

-- an instruction that a unit holds has a text
has_text : (i : Instr) → Holds (standing_of i) → HasText i
unfolding standing_of instruction_text
has_text (Call k) h = absurd (call_holds_none k h)
has_text (Rcall k) h = absurd (rcall_holds_none k h)
has_text _ h = search rules

pub plain_has_text : (i : Instr) → standing_of i ≡ whole (Plain i) → HasText i
plain_has_text i e = has_text i (subst Holds (sym e) tt)

pub store_has_text : (i : Instr) → standing_of i ≡ whole (Store i) → HasText i
store_has_text i e = has_text i (subst Holds (sym e) tt)

pub skip_has_text : (i : Instr) → standing_of i ≡ whole (Skip i) → HasText i
skip_has_text i e = has_text i (subst Holds (sym e) tt)
