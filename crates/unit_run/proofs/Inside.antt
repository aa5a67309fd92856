-- Where the instructions of units store.
use Rattle.std.proofs.Common.{ℕ, rules}
use Rattle.std.specs.Prelude.{unwrap_or}
use Rattle.avr_isa.specs.declared.instruction.Instr.{Instr}
use Rattle.avr_isa.specs.declared.instruction.Instr.TheVariants.{In, Out, LdXInc, LdXDec, LdYInc, LdYDec, LdZInc, LdZDec, StXInc, StXDec, StYInc, StYDec, StZInc, StZDec, Push, Pop, Call, Rcall}
use Rattle.avr_machine.specs.Conditions.{StoresInside}
use Rattle.avr_machine.specs.DataRead.{IsInMemory}
use Rattle.avr_machine.specs.Effect.{writes}
use Rattle.avr_machine.specs.Modes.{store_address as address_by_mode}
use Rattle.avr_machine.specs.Processor.{Processor}
use Rattle.unit_code.specs.declared.unit.Unit.TheVariants.{Plain, Store, Load}
use Rattle.unit_code.specs.Kinds.{standing_of}
use Rattle.unit_code.specs.Proper.{IsOfKind}
use Rattle.domain_model.proofs.InstructionLaws.{off_not, in_not, out_not, call_is_call, rcall_is_reserve}

-- a plain unit's instruction stores nothing
pub plain_inside : (i : Instr) (p : Processor) → IsOfKind (Plain i) → StoresInside i p
unfolding standing_of StoresInside writes
plain_inside (StXInc r) p h = absurd (off_not _ r _ _ h.0 (λ e. cc))
plain_inside (StXDec r) p h = absurd (off_not _ r _ _ h.0 (λ e. cc))
plain_inside (StYInc r) p h = absurd (off_not _ r _ _ h.0 (λ e. cc))
plain_inside (StYDec r) p h = absurd (off_not _ r _ _ h.0 (λ e. cc))
plain_inside (StZInc r) p h = absurd (off_not _ r _ _ h.0 (λ e. cc))
plain_inside (StZDec r) p h = absurd (off_not _ r _ _ h.0 (λ e. cc))
plain_inside (Call k) p h = absurd (call_is_call k _ h.0)
plain_inside (Rcall k) p h = let reserve = rcall_is_reserve k _ h.0 in absurd (cc)
plain_inside _ p h = search rules

-- nor does a load's
pub load_inside : (i : Instr) (p : Processor) → IsOfKind (Load i) → StoresInside i p
load_inside i p h = plain_inside i p (h.0, h.2)

-- that of a store at its address
pub store_inside : (i : Instr) (p : Processor) → IsOfKind (Store i) → IsInMemory (unwrap_or (address_by_mode i p) 0) → StoresInside i p
unfolding standing_of StoresInside writes address_by_mode
store_inside (In d A) p h inside = absurd (in_not A _ _ h.0 (λ e. cc))
store_inside (Out r A) p h inside = absurd (out_not A _ _ h.0 (λ e. cc))
store_inside (LdXInc d) p h inside = absurd (off_not _ d _ _ h.0 (λ e. cc))
store_inside (LdXDec d) p h inside = absurd (off_not _ d _ _ h.0 (λ e. cc))
store_inside (LdYInc d) p h inside = absurd (off_not _ d _ _ h.0 (λ e. cc))
store_inside (LdYDec d) p h inside = absurd (off_not _ d _ _ h.0 (λ e. cc))
store_inside (LdZInc d) p h inside = absurd (off_not _ d _ _ h.0 (λ e. cc))
store_inside (LdZDec d) p h inside = absurd (off_not _ d _ _ h.0 (λ e. cc))
store_inside (Call k) p h inside = absurd (call_is_call k _ h.0)
store_inside (Rcall k) p h inside = let reserve = rcall_is_reserve k _ h.0 in absurd (cc)
store_inside _ p h inside = search rules

-- and a push at SP
pub push_inside : (r : ℕ) (p : Processor) → IsInMemory p.sp → StoresInside (Push r) p
unfolding StoresInside writes
push_inside r p inside = (inside, tt)

-- a pop stores nothing
pub pop_inside : (d : ℕ) (p : Processor) → StoresInside (Pop d) p
unfolding StoresInside writes
pop_inside d p = tt
