-- What the instructions of units do to the processor, and of which sort they are.
use Rattle.std.proofs.Common.{◌≡◌, ℕ, ℤ, ◌+◌, ◌-◌, ◌^◌, ◌∙◌, nat_lt, not, inl, inr, ◌==◌, ◌||◌, cond, Bool, true, false, pos, negsuc, zero, suc, rules, refl, sym, ap, subst, IsTrue, Option, Some, None}
use Rattle.std.specs.Prelude.{slice_set}
use Rattle.std.proofs.lemmas.Bool.{cases_Bool, eqb-false, eqb-true, or_parts}
use Rattle.avr_isa.specs.declared.instruction.Instr.{Instr}
use Rattle.avr_isa.specs.declared.instruction.Instr.TheVariants.{Cpse, Sbrc, Sbrs, Rcall, Call, In, Out, LdXInc, LdXDec, LdYInc, LdYDec, LdZInc, LdZDec, StXInc, StXDec, StYInc, StYDec, StZInc, StZDec, Push, Pop}
use Rattle.avr_machine.specs.Conditions.{IsApartFrom, IsSkip, IsStraight}
use Rattle.avr_machine.specs.Effect.{goes_where, popped, writes}
use Rattle.avr_alu.specs.Bits.{is_set}
use Rattle.avr_machine.specs.Processor.{lowered, raised}
use Rattle.avr_machine.specs.Write.{after}
use Rattle.avr_machine.proofs.EffectLaws.{straight_leaves_pc}
use Rattle.mote_layout.specs.Memory.{ram_start, spl_port, sph_port, sreg_port}
use Rattle.mote_layout.specs.Page.{entry_at}
use Rattle.mote_layout.specs.declared.page.Entry.{Entry}
use Rattle.mote_layout.specs.declared.page.Entry.TheVariants.{Kernel, Slot}
use Rattle.unit_code.specs.declared.kinds.Standing.TheVariants.{Barred}
use Rattle.unit_code.specs.declared.unit.Unit.{Unit as CodeUnit}
use Rattle.unit_code.specs.declared.unit.Unit.TheVariants.{Plain, Store, Load, Reserve, Skip, KernelCall, SlotCall}
use Rattle.unit_code.specs.Kinds.{whole, off_pointer, is_spl_or_sph, is_sreg, standing_of, standing_in, standing_out, standing_entry, standing_call, standing_rcall}
use Rattle.unit_code.specs.Proper.{IsOfKind}
use Rattle.domain_model.specs.State.{Processor, at_counter, register}
use Rattle.domain_model.specs.Act.{plain_effect, passes}
use Rattle.domain_model.specs.Laws.{CounterComesBack, UnitsActAsInstructions, UnitsAreOfTheirSorts, SkipsPassAsInstructions, skipped}

-- The counter is all that is forgotten.
pub counter_comes_back : CounterComesBack
counter_comes_back c = refl

pub acts_at_every_counter : UnitsActAsInstructions
acts_at_every_counter i over address p straight = straight_leaves_pc i over address (at_counter p 0) straight

-- Sorts of instructions.

-- a pointer that moves is not the register
off_apart : (pointer d : ℕ) (u v : CodeUnit) → off_pointer pointer d u ≡ whole v → IsApartFrom pointer d
off_apart pointer d u v e =
    elim (cases_Bool (d == pointer || d == pointer + 1)) [
      | inl there ↦ let barred : Barred 6 ≡ whole v = rw there at e in absurd (cc)
      | inr apart ↦
          let parts = or_parts (d == pointer) (d == pointer + 1) apart in
          (eqb-false d pointer parts.0, eqb-false d (pointer + 1) parts.1)
    ]

-- IN reads the ports of SP and SREG, and OUT writes that of SREG
in_ports : (a b c : Bool) (u v : CodeUnit) → cond ((a || b) || c) (whole u) (Barred 4) ≡ whole v → IsTrue (a || (b || c))
in_ports true b c u v e = refl
in_ports false true c u v e = refl
in_ports false false true u v e = refl
in_ports false false false u v e = absurd (cc)

no_port : (b : Bool) (v : CodeUnit) → cond b (Barred 5) (Barred 4) ≡ whole v → ⊥
no_port true v h = cc
no_port false v h = cc

pub out_port : (port : ℕ) (u v : CodeUnit) → standing_out port u ≡ whole v → port ≡ sreg_port
out_port port u v e =
    elim (cases_Bool (is_sreg port)) [
      | inl there ↦ eqb-true port sreg_port there
      | inr other ↦ absurd (no_port (is_spl_or_sph port) v (rw other at e))
    ]

-- a unit of one sort is none of another
pub off_not : (pointer d : ℕ) (u v : CodeUnit) → off_pointer pointer d u ≡ whole v → (whole u ≡ whole v → ⊥) → ⊥
off_not pointer d u v e other =
    elim (cases_Bool (d == pointer || d == pointer + 1)) [
      | inl there ↦ let barred : Barred 6 ≡ whole v = rw there at e in cc
      | inr apart ↦ other (rw apart at e)
    ]

pub in_not : (port : ℕ) (u v : CodeUnit) → standing_in port u ≡ whole v → (whole u ≡ whole v → ⊥) → ⊥
in_not port u v e other =
    elim (cases_Bool (is_spl_or_sph port || is_sreg port)) [
      | inl there ↦ other (rw there at e)
      | inr none ↦ let barred : Barred 4 ≡ whole v = rw none at e in cc
    ]

pub out_not : (port : ℕ) (u v : CodeUnit) → standing_out port u ≡ whole v → (whole u ≡ whole v → ⊥) → ⊥
out_not port u v e other =
    elim (cases_Bool (is_sreg port)) [
      | inl there ↦ other (rw there at e)
      | inr none ↦ no_port (is_spl_or_sph port) v (rw none at e)
    ]

-- a call enters the kernel or a slot, or is refused
abbrev pub IsCall : CodeUnit → Type 0
IsCall (KernelCall n) = Unit {0}
IsCall (SlotCall n) = Unit {0}
IsCall _ = ⊥

entry_is_call : (o : Option Entry) (v : CodeUnit) → standing_entry o ≡ whole v → IsCall v
entry_is_call (Some (Kernel n)) v e = let same : KernelCall n ≡ v = cc in subst IsCall same tt
entry_is_call (Some (Slot n)) v e = let same : SlotCall n ≡ v = cc in subst IsCall same tt
entry_is_call (Some _) v e = absurd (cc)
entry_is_call None v e = absurd (cc)

pub call_is_call : (address : ℕ) (v : CodeUnit) → standing_call address ≡ whole v → IsCall v
call_is_call address v e =
    elim (cases_Bool (nat_lt address (2 ^ 16))) [
      | inl near ↦ entry_is_call (entry_at address) v (rw near at e)
      | inr far ↦ let barred : Barred 7 ≡ whole v = rw far at e in absurd (cc)
    ]

pub rcall_is_reserve : (offset : ℤ) (v : CodeUnit) → standing_rcall offset ≡ whole v → Reserve ≡ v
rcall_is_reserve (pos zero) v e = cc
rcall_is_reserve (pos (suc k)) v e = absurd (cc)
rcall_is_reserve (negsuc k) v e = absurd (cc)

-- a plain unit's instruction leads to the next one
pub plain_is_straight : (i : Instr) → IsOfKind (Plain i) → IsStraight i
unfolding standing_of IsStraight
plain_is_straight (In d A) h = in_ports (A == spl_port) (A == sph_port) (A == sreg_port) _ _ h.0
plain_is_straight (Out r A) h = out_port A _ _ h.0
plain_is_straight (LdXInc d) h = off_apart _ d _ _ h.0
plain_is_straight (LdXDec d) h = off_apart _ d _ _ h.0
plain_is_straight (LdYInc d) h = off_apart _ d _ _ h.0
plain_is_straight (LdYDec d) h = off_apart _ d _ _ h.0
plain_is_straight (LdZInc d) h = off_apart _ d _ _ h.0
plain_is_straight (LdZDec d) h = off_apart _ d _ _ h.0
plain_is_straight (StXInc d) h = off_apart _ d _ _ h.0
plain_is_straight (StXDec d) h = off_apart _ d _ _ h.0
plain_is_straight (StYInc d) h = off_apart _ d _ _ h.0
plain_is_straight (StYDec d) h = off_apart _ d _ _ h.0
plain_is_straight (StZInc d) h = off_apart _ d _ _ h.0
plain_is_straight (StZDec d) h = off_apart _ d _ _ h.0
plain_is_straight (Call k) h = absurd (call_is_call k _ h.0)
plain_is_straight (Rcall k) h = let reserve = rcall_is_reserve k _ h.0 in absurd (cc)
plain_is_straight _ h = search rules

-- so does a store
pub store_is_straight : (i : Instr) → IsOfKind (Store i) → IsStraight i
unfolding standing_of IsStraight
store_is_straight (In d A) h = in_ports (A == spl_port) (A == sph_port) (A == sreg_port) _ _ h.0
store_is_straight (Out r A) h = out_port A _ _ h.0
store_is_straight (LdXInc d) h = off_apart _ d _ _ h.0
store_is_straight (LdXDec d) h = off_apart _ d _ _ h.0
store_is_straight (LdYInc d) h = off_apart _ d _ _ h.0
store_is_straight (LdYDec d) h = off_apart _ d _ _ h.0
store_is_straight (LdZInc d) h = off_apart _ d _ _ h.0
store_is_straight (LdZDec d) h = off_apart _ d _ _ h.0
store_is_straight (StXInc d) h = off_apart _ d _ _ h.0
store_is_straight (StXDec d) h = off_apart _ d _ _ h.0
store_is_straight (StYInc d) h = off_apart _ d _ _ h.0
store_is_straight (StYDec d) h = off_apart _ d _ _ h.0
store_is_straight (StZInc d) h = off_apart _ d _ _ h.0
store_is_straight (StZDec d) h = off_apart _ d _ _ h.0
store_is_straight (Call k) h = absurd (call_is_call k _ h.0)
store_is_straight (Rcall k) h = let reserve = rcall_is_reserve k _ h.0 in absurd (cc)
store_is_straight _ h = search rules

-- and a checked load
pub load_is_straight : (i : Instr) → IsOfKind (Load i) → IsStraight i
load_is_straight i h = plain_is_straight i (h.0, h.2)

-- and that of a skip can pass over the next one
pub skip_is_skip : (i : Instr) → IsOfKind (Skip i) → IsSkip i
unfolding standing_of IsSkip
skip_is_skip (Cpse d r) h = tt
skip_is_skip (Sbrc d r) h = tt
skip_is_skip (Sbrs d r) h = tt
skip_is_skip (In d A) h = absurd (in_not A _ _ h.0 (λ e. cc))
skip_is_skip (Out r A) h = absurd (out_not A _ _ h.0 (λ e. cc))
skip_is_skip (LdXInc d) h = absurd (off_not _ d _ _ h.0 (λ e. cc))
skip_is_skip (LdXDec d) h = absurd (off_not _ d _ _ h.0 (λ e. cc))
skip_is_skip (LdYInc d) h = absurd (off_not _ d _ _ h.0 (λ e. cc))
skip_is_skip (LdYDec d) h = absurd (off_not _ d _ _ h.0 (λ e. cc))
skip_is_skip (LdZInc d) h = absurd (off_not _ d _ _ h.0 (λ e. cc))
skip_is_skip (LdZDec d) h = absurd (off_not _ d _ _ h.0 (λ e. cc))
skip_is_skip (StXInc r) h = absurd (off_not _ r _ _ h.0 (λ e. cc))
skip_is_skip (StXDec r) h = absurd (off_not _ r _ _ h.0 (λ e. cc))
skip_is_skip (StYInc r) h = absurd (off_not _ r _ _ h.0 (λ e. cc))
skip_is_skip (StYDec r) h = absurd (off_not _ r _ _ h.0 (λ e. cc))
skip_is_skip (StZInc r) h = absurd (off_not _ r _ _ h.0 (λ e. cc))
skip_is_skip (StZDec r) h = absurd (off_not _ r _ _ h.0 (λ e. cc))
skip_is_skip (Call k) h = absurd (call_is_call k _ h.0)
skip_is_skip (Rcall k) h = let reserve = rcall_is_reserve k _ h.0 in absurd (cc)
skip_is_skip _ h = search rules

pub units_are_of_their_sorts : UnitsAreOfTheirSorts
units_are_of_their_sorts = record { plain = plain_is_straight; store = store_is_straight; load = load_is_straight; skip = skip_is_skip }

-- Skips.

-- a skip passes where its test holds
passes_where : (b : Bool) (p : Processor) → ((after (goes_where b 1) (at_counter p 0)).pc == 1) ≡ b
passes_where true p = refl
passes_where false p = refl

goes_by : (b : Bool) (over address : ℕ) (p : Processor) → after (goes_where b over) (at_counter p address) ≡ at_counter p (skipped b over address)
goes_by true over address p = refl
goes_by false over address p = refl

pub cpse_passes : (d r : ℕ) (p : Processor) → passes (Cpse d r) p ≡ (register p d == register p r)
unfolding writes
cpse_passes d r p = passes_where (register p d == register p r) p

pub sbrc_passes : (r b : ℕ) (p : Processor) → passes (Sbrc r b) p ≡ not (is_set (register p r) b)
unfolding writes
sbrc_passes r b p = passes_where (not (is_set (register p r) b)) p

pub sbrs_passes : (r b : ℕ) (p : Processor) → passes (Sbrs r b) p ≡ is_set (register p r) b
unfolding writes
sbrs_passes r b p = passes_where (is_set (register p r) b) p

pub ruleset skips_pass = (cpse_passes, sbrc_passes, sbrs_passes)

-- wherever the program counter stands
pub skips_pass_as_instructions : SkipsPassAsInstructions
unfolding writes IsSkip
skips_pass_as_instructions (Cpse d r) over address p skip =
    goes_by (register p d == register p r) over address p ∙ ap (λ (b : Bool). at_counter p (skipped b over address)) (sym (cpse_passes d r p))
skips_pass_as_instructions (Sbrc r b) over address p skip =
    goes_by (not (is_set (register p r) b)) over address p ∙ ap (λ (x : Bool). at_counter p (skipped x over address)) (sym (sbrc_passes r b p))
skips_pass_as_instructions (Sbrs r b) over address p skip =
    goes_by (is_set (register p r) b) over address p ∙ ap (λ (x : Bool). at_counter p (skipped x over address)) (sym (sbrs_passes r b p))
skips_pass_as_instructions _ over address p skip = absurd skip

-- What PUSH and POP do.

pub push_effect : (s : ℕ) (p : Processor) → plain_effect (Push s) p ≡ record p { sp = lowered p.sp; memory = slice_set p.memory (p.sp - ram_start) (register p s) }
unfolding writes
push_effect s p = refl

pub pop_effect : (d : ℕ) (p : Processor) → plain_effect (Pop d) p ≡ record p { sp = raised p.sp; registers = slice_set p.registers d (popped (at_counter p 0)) }
unfolding writes
pop_effect d p = refl
