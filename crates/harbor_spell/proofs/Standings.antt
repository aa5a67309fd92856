-- What an instruction stands for tells the instruction.
use Rattle.std.proofs.Common.{◌≡◌, ℕ, zero, suc, ◌+◌, ◌<◌, ◌^◌, ◌==◌, ◌||◌, Bool, true, false, cond, ltb, ℤ, pos, negsuc, Option, Some, None, refl, sym}
use Rattle.std.specs.Prelude.{⊤, T}
use Rattle.std.proofs.lemmas.Bool.{cond_both}
use Rattle.avr_isa.specs.declared.instruction.Instr.TheVariants as instr
use Rattle.avr_isa.specs.declared.instruction.Instr.{Instr}
use Rattle.avr_isa.specs.Place.{second_word}
use Rattle.mote_layout.specs.declared.page.Entry.TheVariants as entry
use Rattle.mote_layout.specs.declared.page.Entry.{Entry}
use Rattle.mote_layout.specs.Memory.{pointer_x, pointer_y, pointer_z}
use Rattle.mote_layout.specs.Page.{StandsAt, entry_at, kernel_call_count, slot_count}
use Rattle.mote_layout.proofs.EntryPage.{entry_at-some}
use Rattle.unit_code.specs.declared.kinds.Aim.TheVariants as aim
use Rattle.unit_code.specs.declared.kinds.Piece.TheVariants as piece
use Rattle.unit_code.specs.declared.kinds.Standing.TheVariants.{Barred, Part, NoInstruction}
use Rattle.unit_code.specs.declared.kinds.Standing.{Standing}
use Rattle.unit_code.specs.declared.unit.Unit.TheVariants as unit
use Rattle.unit_code.specs.declared.unit.Unit.{Unit}
use Rattle.unit_code.specs.Kinds.{is_spl_or_sph, is_sreg, off_pointer, standing_call, standing_entry, standing_of, standing_rcall, whole}
use Rattle.unit_code.specs.Templates.{address_of, branch}

-- ST, STD and STS
abbrev pub is_store : Instr → Bool
is_store (instr.StX r) = true
is_store (instr.StXInc r) = true
is_store (instr.StXDec r) = true
is_store (instr.StdY r q) = true
is_store (instr.StYInc r) = true
is_store (instr.StYDec r) = true
is_store (instr.StdZ r q) = true
is_store (instr.StZInc r) = true
is_store (instr.StZDec r) = true
is_store (instr.Sts r k) = true
is_store other = false

abbrev pub IsStore : Instr → Type 0
IsStore i = T (is_store i)

-- the instruction that makes a unit, and of another standing the given one
abbrev told_unit : Instr → Unit → Instr
told_unit i (unit.Plain x) = x
told_unit i (unit.Store x) = x
told_unit i (unit.Skip x) = x
told_unit i (unit.Push r) = instr.Push r
told_unit i (unit.Pop d) = instr.Pop d
told_unit i (unit.KernelCall n) = instr.Call (address_of (entry.Kernel n))
told_unit i (unit.SlotCall n) = instr.Call (address_of (entry.Slot n))
told_unit i unit.Reserve = instr.Rcall (pos 0)
told_unit i unit.SlotIndirect = instr.Icall
told_unit i unit.Return = instr.Ret
told_unit i other = i

abbrev told : Instr → Standing → Instr
told i (Part (piece.Whole u)) = told_unit i u
told i (Part (piece.Aimed (aim.Branching set bit) far)) = branch set bit far
told i (Part (piece.Aimed aim.Jumping far)) = instr.Rjmp far
told i (Part (piece.Aimed aim.Calling far)) = instr.Rcall far
told i other = i

-- what is known of the instruction besides; no instruction alone makes one of the last units
abbrev pub Suits : Instr → Standing → Type 0
Suits i NoInstruction = ⊥
Suits i (Part (piece.Whole (unit.Store x))) = IsStore i
Suits i (Part (piece.Whole (unit.Skip x))) = second_word i ≡ None
Suits i (Part (piece.Whole (unit.KernelCall n))) = n < kernel_call_count
Suits i (Part (piece.Whole (unit.SlotCall n))) = n < slot_count
Suits i (Part (piece.Whole (unit.Load x))) = ⊥
Suits i (Part (piece.Whole (unit.SpGroup with_sreg))) = ⊥
Suits i (Part (piece.Whole (unit.Branch set bit t))) = ⊥
Suits i (Part (piece.Whole (unit.Jump t))) = ⊥
Suits i (Part (piece.Whole (unit.LocalCall t))) = ⊥
Suits i other = ⊤

abbrev pub IsTold : Instr → Standing → Type 0
IsTold i st = (told i st ≡ i) × Suits i st

-- A call of an address stands for the call of an entry of two kinds, or is barred.
abbrev pub IsCalled : ℕ → Standing → Type 0
IsCalled address (Barred kind) = ⊤
IsCalled address (Part (piece.Whole (unit.KernelCall n))) = StandsAt (entry.Kernel n) address
IsCalled address (Part (piece.Whole (unit.SlotCall n))) = StandsAt (entry.Slot n) address
IsCalled address other = ⊥

of_entry : (address : ℕ) (e : Option Entry) → entry_at address ≡ e → IsCalled address (standing_entry e)
of_entry address (Some (entry.Kernel n)) at = (entry_at-some address (entry.Kernel n)).0 at
of_entry address (Some (entry.Slot n)) at = (entry_at-some address (entry.Slot n)).0 at
of_entry address other at = tt

pub is_called : (address : ℕ) → IsCalled address (standing_call address)
is_called address = cond_both (ltb address (2 ^ 16)) (standing_entry (entry_at address)) (Barred 7) (IsCalled address) (λ _. of_entry address (entry_at address) refl) (λ _. tt)

call_told : (address : ℕ) (st : Standing) → IsCalled address st → IsTold (instr.Call address) st
call_told address (Barred kind) so = (refl, tt)
call_told address (Part (piece.Whole (unit.KernelCall n))) so = (let at = so.1 in cc, so.0)
call_told address (Part (piece.Whole (unit.SlotCall n))) so = (let at = so.1 in cc, so.0)
call_told address other so = absurd so

-- the standings that hang on an operand
either : (i : Instr) (b : Bool) (s t : Standing) → IsTold i s → IsTold i t → IsTold i (cond b s t)
either i b s t one other = cond_both b s t (IsTold i) (λ _. one) (λ _. other)

off : (i : Instr) (low r : ℕ) (u : Unit) → IsTold i (whole u) → IsTold i (off_pointer low r u)
off i low r u so = either i (r == low || r == low + 1) (Barred 6) (whole u) (refl, tt) so

relative : (far : ℤ) → IsTold (instr.Rcall far) (standing_rcall far)
relative (pos zero) = (refl, tt)
relative (pos (suc k)) = (refl, tt)
relative (negsuc k) = (refl, tt)

pub tells : (i : Instr) → IsTold i (standing_of i)
unfolding standing_of
tells (instr.Call address) = call_told address (standing_call address) (is_called address)
tells (instr.Rcall far) = relative far
tells (instr.In d port) = either _ (is_spl_or_sph port || is_sreg port) _ (Barred 4) (refl, tt) (refl, tt)
tells (instr.Out r port) = either _ (is_sreg port) _ _ (refl, tt) (either _ (is_spl_or_sph port) (Barred 5) (Barred 4) (refl, tt) (refl, tt))
tells (instr.LdXInc d) = off _ pointer_x d _ (refl, tt)
tells (instr.LdXDec d) = off _ pointer_x d _ (refl, tt)
tells (instr.StXInc r) = off _ pointer_x r _ (refl, tt)
tells (instr.StXDec r) = off _ pointer_x r _ (refl, tt)
tells (instr.LdYInc d) = off _ pointer_y d _ (refl, tt)
tells (instr.LdYDec d) = off _ pointer_y d _ (refl, tt)
tells (instr.StYInc r) = off _ pointer_y r _ (refl, tt)
tells (instr.StYDec r) = off _ pointer_y r _ (refl, tt)
tells (instr.LdZInc d) = off _ pointer_z d _ (refl, tt)
tells (instr.LdZDec d) = off _ pointer_z d _ (refl, tt)
tells (instr.StZInc r) = off _ pointer_z r _ (refl, tt)
tells (instr.StZDec r) = off _ pointer_z r _ (refl, tt)
tells (instr.Cpse d r) = (refl, refl)
tells (instr.Sbrc r b) = (refl, refl)
tells (instr.Sbrs r b) = (refl, refl)
tells other = (refl, tt)

-- The same fact, said of each standing.
abbrev pub Back : Instr → Standing → Type 0
Back i (Barred kind) = ⊤
Back i (Part (piece.Whole (unit.Plain x))) = x ≡ i
Back i (Part (piece.Whole (unit.Store x))) = (x ≡ i) × IsStore i
Back i (Part (piece.Whole (unit.Skip x))) = (x ≡ i) × (second_word i ≡ None)
Back i (Part (piece.Whole (unit.KernelCall n))) = (i ≡ instr.Call (address_of (entry.Kernel n))) × (n < kernel_call_count)
Back i (Part (piece.Whole (unit.SlotCall n))) = (i ≡ instr.Call (address_of (entry.Slot n))) × (n < slot_count)
Back i (Part (piece.Whole (unit.Push r))) = i ≡ instr.Push r
Back i (Part (piece.Whole (unit.Pop d))) = i ≡ instr.Pop d
Back i (Part (piece.Whole unit.Reserve)) = i ≡ instr.Rcall (pos 0)
Back i (Part (piece.Whole unit.SlotIndirect)) = i ≡ instr.Icall
Back i (Part (piece.Whole unit.Return)) = i ≡ instr.Ret
Back i (Part (piece.Aimed (aim.Branching true bit) far)) = i ≡ instr.Brbs bit far
Back i (Part (piece.Aimed (aim.Branching false bit) far)) = i ≡ instr.Brbc bit far
Back i (Part (piece.Aimed aim.Jumping far)) = i ≡ instr.Rjmp far
Back i (Part (piece.Aimed aim.Calling far)) = i ≡ instr.Rcall far
Back i other = ⊥

told_back : (i : Instr) (st : Standing) → IsTold i st → Back i st
told_back i (Barred kind) h = tt
told_back i (Part (piece.Whole (unit.Plain x))) h = h.0
told_back i (Part (piece.Whole (unit.Store x))) h = h
told_back i (Part (piece.Whole (unit.Skip x))) h = h
told_back i (Part (piece.Whole (unit.KernelCall n))) h = (sym h.0, h.1)
told_back i (Part (piece.Whole (unit.SlotCall n))) h = (sym h.0, h.1)
told_back i NoInstruction h = h.1
told_back i (Part (piece.Whole (unit.Load x))) h = h.1
told_back i (Part (piece.Whole (unit.SpGroup with_sreg))) h = h.1
told_back i (Part (piece.Whole (unit.Branch set bit t))) h = h.1
told_back i (Part (piece.Whole (unit.Jump t))) h = h.1
told_back i (Part (piece.Whole (unit.LocalCall t))) h = h.1
told_back i (Part (piece.Aimed (aim.Branching true bit) far)) h = sym h.0
told_back i (Part (piece.Aimed (aim.Branching false bit) far)) h = sym h.0
told_back i other h = sym h.0

pub back : (i : Instr) → Back i (standing_of i)
back i = told_back i (standing_of i) (tells i)
