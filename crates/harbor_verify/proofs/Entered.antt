-- Calls of the entry page, and the guards of instructions.
use Rattle.std.proofs.Common.{◌≡◌, ◌∙◌, ℕ, ◌<◌, ◌^◌, cond, ltb, Bool, true, false, List, Some, None, refl, ap, subst, arith}
use Rattle.std.proofs.lemmas.Bool.{cond-true, lt-ltb}
use Rattle.avr_isa.specs.Operands.{IsEncodable}
use Rattle.avr_isa.specs.declared.instruction.Instr.{Instr}
use Rattle.avr_isa.specs.declared.instruction.Instr.TheVariants as instr
use Rattle.mote_layout.specs.Page.{StandsAt, entry_at}
use Rattle.mote_layout.specs.declared.page.Entry.{Entry}
use Rattle.mote_layout.specs.declared.page.Entry.TheVariants as entry
use Rattle.mote_layout.proofs.EntryPage.{entry_at-some}
use Rattle.unit_code.specs.Kinds.{standing_entry, standing_of, whole}
use Rattle.unit_code.specs.Loads.{is_load}
use Rattle.unit_code.specs.Templates.{IsEntry, address_of, enter, guard_of}
use Rattle.unit_code.specs.declared.kinds.Standing.{Standing}
use Rattle.unit_code.specs.declared.kinds.Standing.TheVariants.{Barred}
use Rattle.unit_code.specs.declared.unit.Unit.TheVariants as unit
use Rattle.unit_code.proofs.Entries.{stands}
use Rattle.harbor_spell.proofs.Standings.{Back, IsStore, back}
use Rattle.harbor_verify.specs.Decoding.{entry_called, may_call}
use Rattle.harbor_verify.specs.Reading.{guarded, several_by, several_entered, single_by, single_entered}

low_address : (e : Entry) → IsEntry e → address_of e < 2 ^ 16
low_address (entry.StoreY q) h = omega (arith, h)
low_address (entry.StoreZ q) h = omega (arith, h)
low_address (entry.LoadY q) h = omega (arith, h)
low_address (entry.LoadZ q) h = omega (arith, h)
low_address (entry.Kernel n) h = omega (arith, h)
low_address (entry.Slot i) h = omega (arith, h)
low_address _ h = omega arith

pub called : (e : Entry) → IsEntry e → entry_called (address_of e) ≡ Some e
called e h =
    cond-true (ltb (address_of e) (2 ^ 16)) (entry_at (address_of e)) None (lt-ltb (address_of e) (2 ^ 16) (low_address e h))
    ∙ (entry_at-some (address_of e) e).1 (stands e h)

pub standing_called : (e : Entry) → IsEntry e → standing_of (enter e) ≡ standing_entry (Some e)
unfolding standing_of
standing_called e h =
    cond-true (ltb (address_of e) (2 ^ 16)) (standing_entry (entry_at (address_of e))) (Barred 7) (lt-ltb (address_of e) (2 ^ 16) (low_address e h))
    ∙ ap standing_entry ((entry_at-some (address_of e) e).1 (stands e h))

-- the entry that a call enters stands at the address
pub stands_called : (address : ℕ) (e : Entry) → entry_called address ≡ Some e → StandsAt e address
stands_called address e is =
    elim (ltb address (2 ^ 16)) as (λ b. (cond b (entry_at address) None) ≡ Some e → StandsAt e address) [
      | true ↦ λ there. (entry_at-some address e).0 there
      | false ↦ λ there. cc
    ] is

-- What is known of an instruction that has a guard, which an image may call so.
pub record IsGuarded (i : Instr) (calls : Bool → Bool) : Type 0 where
  pub entry : IsEntry (guard_of i)
  pub barred : standing_entry (Some (guard_of i)) ≡ Barred 7
  pub call : (sealed : Bool) → may_call sealed (Some (guard_of i)) ≡ calls sealed
  pub several : (address : ℕ) (is : List Instr) → several_entered address (Some (guard_of i)) is ≡ guarded address is

pub store_guarded : (i : Instr) → IsEncodable i → IsStore i → IsGuarded i (λ sealed. true)
unfolding IsEncodable
store_guarded (instr.StdY r q) enc store = record { entry = enc.1; barred = refl; call = λ sealed. refl; several = λ address is. refl }
store_guarded (instr.StdZ r q) enc store = record { entry = enc.1; barred = refl; call = λ sealed. refl; several = λ address is. refl }
store_guarded (instr.StX r) enc store = record { entry = tt; barred = refl; call = λ sealed. refl; several = λ address is. refl }
store_guarded (instr.StXInc r) enc store = record { entry = tt; barred = refl; call = λ sealed. refl; several = λ address is. refl }
store_guarded (instr.StXDec r) enc store = record { entry = tt; barred = refl; call = λ sealed. refl; several = λ address is. refl }
store_guarded (instr.StYInc r) enc store = record { entry = tt; barred = refl; call = λ sealed. refl; several = λ address is. refl }
store_guarded (instr.StYDec r) enc store = record { entry = tt; barred = refl; call = λ sealed. refl; several = λ address is. refl }
store_guarded (instr.StZInc r) enc store = record { entry = tt; barred = refl; call = λ sealed. refl; several = λ address is. refl }
store_guarded (instr.StZDec r) enc store = record { entry = tt; barred = refl; call = λ sealed. refl; several = λ address is. refl }
store_guarded (instr.Sts r k) enc store = record { entry = tt; barred = refl; call = λ sealed. refl; several = λ address is. refl }
store_guarded _ enc store = absurd store

pub load_guarded : (i : Instr) → IsEncodable i → is_load i ≡ true → IsGuarded i (λ sealed. sealed)
unfolding IsEncodable is_load
load_guarded (instr.LddY d q) enc load = record { entry = enc.1; barred = refl; call = λ sealed. refl; several = λ address is. refl }
load_guarded (instr.LddZ d q) enc load = record { entry = enc.1; barred = refl; call = λ sealed. refl; several = λ address is. refl }
load_guarded (instr.LdX d) enc load = record { entry = tt; barred = refl; call = λ sealed. refl; several = λ address is. refl }
load_guarded (instr.LdXInc d) enc load = record { entry = tt; barred = refl; call = λ sealed. refl; several = λ address is. refl }
load_guarded (instr.LdXDec d) enc load = record { entry = tt; barred = refl; call = λ sealed. refl; several = λ address is. refl }
load_guarded (instr.LdYInc d) enc load = record { entry = tt; barred = refl; call = λ sealed. refl; several = λ address is. refl }
load_guarded (instr.LdYDec d) enc load = record { entry = tt; barred = refl; call = λ sealed. refl; several = λ address is. refl }
load_guarded (instr.LdZInc d) enc load = record { entry = tt; barred = refl; call = λ sealed. refl; several = λ address is. refl }
load_guarded (instr.LdZDec d) enc load = record { entry = tt; barred = refl; call = λ sealed. refl; several = λ address is. refl }
load_guarded (instr.Lds d k) enc load = record { entry = tt; barred = refl; call = λ sealed. refl; several = λ address is. refl }
load_guarded _ enc load = cc

pub is_store : (i : Instr) → standing_of i ≡ whole (unit.Store i) → IsStore i
is_store i st = let P : Standing → Type 0 = Back i in (subst P st (back i)).1

-- what is read behind the call of an entry that is neither a kernel call nor a slot
pub entered_several : (e : Entry) (is : List Instr) → IsEntry e → standing_entry (Some e) ≡ Barred 7
    → several_by (enter e) (standing_of (enter e)) is ≡ several_entered (address_of e) (Some e) is
entered_several e is h barred =
    ap (λ st. several_by (enter e) st is) (standing_called e h ∙ barred) ∙ ap (λ o. several_entered (address_of e) o is) (called e h)

pub entered_single : (e : Entry) (is : List Instr) → IsEntry e → standing_entry (Some e) ≡ Barred 7
    → single_by (enter e) (standing_of (enter e)) is ≡ single_entered (Some e)
entered_single e is h barred = ap (λ st. single_by (enter e) st is) (standing_called e h ∙ barred) ∙ ap single_entered (called e h)
