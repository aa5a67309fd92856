-- What is read is of its kind.
use Rattle.std.proofs.Common.{◌≡◌, ℕ, zero, suc, ◌+◌, ◌^◌, ◌==◌, ◌||◌, cond, Bool, true, false, List, [], ◌∷◌, ◌++◌, Option, Some, None, pos, negsuc, ℤ, refl, ap, ltb}
use Rattle.avr_isa.specs.declared.instruction.Instr.{Instr}
use Rattle.avr_isa.specs.declared.instruction.Instr.TheVariants.{Cpse, Sbrc, Sbrs, Push, Pop, StX, StdY, StdZ, Sts, StXInc, StXDec, StYInc, StYDec, StZInc, StZDec, LdXInc, LdXDec, LdYInc, LdYDec, LdZInc, LdZDec, In, Out, Ijmp, Jmp, LpmR0, LpmZ, LpmZInc, ElpmR0, ElpmZ, ElpmZInc, Spm, Reti, Sleep, Wdr, Break, Sbi, Cbi, Sbic, Sbis, Brbs, Brbc, Rjmp, Rcall, Call, Icall, Ret}
use Rattle.avr_isa.specs.Operands.{IsEncodable}
use Rattle.mote_layout.specs.declared.page.Entry.{Entry}
use Rattle.mote_layout.specs.declared.page.Entry.TheVariants.{Kernel, Slot}
use Rattle.mote_layout.specs.Page.{entry_at}
use Rattle.mote_layout.proofs.EntryPage.{entry_at-some}
use Rattle.unit_code.specs.declared.items.Item.{Item}
use Rattle.unit_code.specs.declared.unit.Unit.{Unit}
use Rattle.unit_code.specs.declared.unit.Unit.TheVariants.{Plain, Store}
use Rattle.unit_code.specs.declared.kinds.Standing.{Standing}
use Rattle.unit_code.specs.declared.kinds.Standing.TheVariants.{Barred}
use Rattle.unit_code.specs.Kinds.{is_spl_or_sph, is_sreg, off_pointer, standing_call, standing_entry, standing_in, standing_of, standing_out, standing_rcall, whole}
use Rattle.mote_layout.specs.Memory.{pointer_x, pointer_y, pointer_z}
use Rattle.unit_code.specs.Sound.{AreSound, IsSound}

-- a choice by a test is sound where both sides are
by_test : (b : Bool) (s t : Standing) → (b ≡ true → IsSound s) → (b ≡ false → IsSound t) → IsSound (cond b s t)
by_test true s t holds fails = holds refl
by_test false s t holds fails = fails refl

off_pointer_is_sound : (low r : ℕ) (u : Unit) → (off_pointer low r u ≡ whole u → IsSound (whole u)) → IsSound (off_pointer low r u)
off_pointer_is_sound low r u sound =
    by_test (r == low || r == low + 1) (Barred 6) (whole u) (λ _. tt) (λ fails. sound (ap (λ b. cond b (Barred 6) (whole u)) fails))

in_is_sound : (port : ℕ) (u : Unit) → (standing_in port u ≡ whole u → IsSound (whole u)) → IsSound (standing_in port u)
in_is_sound port u sound =
    by_test (is_spl_or_sph port || is_sreg port) (whole u) (Barred 4) (λ holds. sound (ap (λ b. cond b (whole u) (Barred 4)) holds)) (λ _. tt)

out_is_sound : (port : ℕ) (u : Unit) → (standing_out port u ≡ whole u → IsSound (whole u)) → IsSound (standing_out port u)
out_is_sound port u sound =
    by_test (is_sreg port) (whole u) (cond (is_spl_or_sph port) (Barred 5) (Barred 4)) (λ holds. sound (ap (λ b. cond b (whole u) (cond (is_spl_or_sph port) (Barred 5) (Barred 4))) holds)) (λ _. by_test (is_spl_or_sph port) (Barred 5) (Barred 4) (λ _. tt) (λ _. tt))

rcall_is_sound : (offset : ℤ) → IsSound (standing_rcall offset)
rcall_is_sound (pos zero) = (tt, λ count. tt)
rcall_is_sound (pos (suc k)) = tt
rcall_is_sound (negsuc k) = tt

entry_is_sound : (o : Option Entry) (address : ℕ) → entry_at address ≡ o → IsSound (standing_entry o)
entry_is_sound None address is = tt
entry_is_sound (Some (Kernel n)) address is = (((entry_at-some address (Kernel n)).0 is).0, λ count. tt)
entry_is_sound (Some (Slot n)) address is = (((entry_at-some address (Slot n)).0 is).0, λ count. tt)
entry_is_sound (Some _) address is = tt

call_is_sound : (address : ℕ) → IsSound (standing_call address)
call_is_sound address = by_test (ltb address (2 ^ 16)) (standing_entry (entry_at address)) (Barred 7) (λ _. entry_is_sound (entry_at address) address refl) (λ _. tt)

-- what an instruction stands for, with operands in range
pub standing_is_sound : (i : Instr) → IsEncodable i → IsSound (standing_of i)
unfolding standing_of IsEncodable
standing_is_sound (Brbs bit offset) e = e.0
standing_is_sound (Brbc bit offset) e = e.0
standing_is_sound (Rjmp offset) e = tt
standing_is_sound (Rcall offset) e = rcall_is_sound offset
standing_is_sound (Call address) e = call_is_sound address
standing_is_sound Icall e = (tt, λ count. tt)
standing_is_sound Ret e = (tt, λ count. tt)
standing_is_sound (Cpse d r) e = ((refl, e), λ count. tt)
standing_is_sound (Sbrc r b) e = ((refl, e), λ count. tt)
standing_is_sound (Sbrs r b) e = ((refl, e), λ count. tt)
standing_is_sound (StX r) e = ((refl, e), λ count. tt)
standing_is_sound (StdY r q) e = ((refl, e), λ count. tt)
standing_is_sound (StdZ r q) e = ((refl, e), λ count. tt)
standing_is_sound (Sts r k) e = ((refl, e), λ count. tt)
standing_is_sound (Push r) e = (e, λ count. tt)
standing_is_sound (Pop d) e = (e, λ count. tt)
standing_is_sound (StXInc r) e = off_pointer_is_sound pointer_x r (Store (StXInc r)) (λ is. ((is, e), λ count. tt))
standing_is_sound (StXDec r) e = off_pointer_is_sound pointer_x r (Store (StXDec r)) (λ is. ((is, e), λ count. tt))
standing_is_sound (StYInc r) e = off_pointer_is_sound pointer_y r (Store (StYInc r)) (λ is. ((is, e), λ count. tt))
standing_is_sound (StYDec r) e = off_pointer_is_sound pointer_y r (Store (StYDec r)) (λ is. ((is, e), λ count. tt))
standing_is_sound (StZInc r) e = off_pointer_is_sound pointer_z r (Store (StZInc r)) (λ is. ((is, e), λ count. tt))
standing_is_sound (StZDec r) e = off_pointer_is_sound pointer_z r (Store (StZDec r)) (λ is. ((is, e), λ count. tt))
standing_is_sound (LdXInc r) e = off_pointer_is_sound pointer_x r (Plain (LdXInc r)) (λ is. ((is, e), λ count. tt))
standing_is_sound (LdXDec r) e = off_pointer_is_sound pointer_x r (Plain (LdXDec r)) (λ is. ((is, e), λ count. tt))
standing_is_sound (LdYInc r) e = off_pointer_is_sound pointer_y r (Plain (LdYInc r)) (λ is. ((is, e), λ count. tt))
standing_is_sound (LdYDec r) e = off_pointer_is_sound pointer_y r (Plain (LdYDec r)) (λ is. ((is, e), λ count. tt))
standing_is_sound (LdZInc r) e = off_pointer_is_sound pointer_z r (Plain (LdZInc r)) (λ is. ((is, e), λ count. tt))
standing_is_sound (LdZDec r) e = off_pointer_is_sound pointer_z r (Plain (LdZDec r)) (λ is. ((is, e), λ count. tt))
standing_is_sound (In d port) e = in_is_sound port (Plain (In d port)) (λ is. ((is, e), λ count. tt))
standing_is_sound (Out r port) e = out_is_sound port (Plain (Out r port)) (λ is. ((is, e), λ count. tt))
standing_is_sound Ijmp e = tt
standing_is_sound (Jmp k) e = tt
standing_is_sound LpmR0 e = tt
standing_is_sound (LpmZ d) e = tt
standing_is_sound (LpmZInc d) e = tt
standing_is_sound ElpmR0 e = tt
standing_is_sound (ElpmZ d) e = tt
standing_is_sound (ElpmZInc d) e = tt
standing_is_sound Spm e = tt
standing_is_sound Reti e = tt
standing_is_sound Sleep e = tt
standing_is_sound Wdr e = tt
standing_is_sound Break e = tt
standing_is_sound (Sbi A b) e = tt
standing_is_sound (Cbi A b) e = tt
standing_is_sound (Sbic A b) e = tt
standing_is_sound (Sbis A b) e = tt
standing_is_sound i e = ((refl, e), λ count. tt)

pub AreSound-push : (items : List Item) (item : Item) → AreSound items → IsSound item.standing → AreSound (items ++ item ∷ [])
AreSound-push [] item all here = (here, tt)
AreSound-push (x ∷ xs) item all here = (all.0, AreSound-push xs item all.1 here)
