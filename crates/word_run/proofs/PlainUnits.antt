-- Units of one instruction that needs nothing, and writes no byte.
use Rattle.std.proofs.Common.{ℕ, ◌+◌, ◌<◌, List, [], ◌∷◌, length, rules}
use Rattle.avr_isa.specs.declared.instruction.Instr.{Instr}
use Rattle.avr_isa.specs.declared.instruction.Instr.TheVariants.{Call, Rcall, StXInc, StXDec, StYInc, StYDec, StZInc, StZDec}
use Rattle.avr_machine.specs.Conditions.{AreInside, StoresInside}
use Rattle.avr_machine.specs.Effect.{writes}
use Rattle.avr_machine.specs.Processor.{Processor as CountingProcessor}
use Rattle.avr_machine.specs.Write.{Write, set_register, set_pair, set_byte, set_port, set_sp, set_sreg, set_pc}
use Rattle.unit_code.specs.Kinds.{standing_of}
use Rattle.unit_code.specs.Proper.{IsOfKind}
use Rattle.unit_code.specs.declared.unit.Unit.TheVariants.{Plain}
use Rattle.domain_model.specs.declared.handler.Running.{Running}
use Rattle.domain_model.specs.Bytes.{AreBytes}
use Rattle.domain_model.specs.State.{KernelState, at_counter, with_processor}
use Rattle.domain_model.specs.Act.{act_unit, plain_effect}
use Rattle.domain_model.proofs.InstructionLaws.{call_is_call, off_not, plain_is_straight, rcall_is_reserve}
use Rattle.word_run.specs.FlashValue.{FlashValue, part, starts_of, entry_point}
use Rattle.word_run.specs.Writing.{Names}
use Rattle.word_run.proofs.Moves.{behind_place, straight_step}
use Rattle.word_run.proofs.Same.{Meets, all_met}
use Rattle.word_run.proofs.Setting.{Setting, laid, lands_next, start}
use Rattle.word_run.proofs.Steps.{ends}

-- no change is of a byte of the memory
abbrev pub NameNone : List Write → Type 0
NameNone [] = Unit {0}
NameNone (set_byte address value ∷ rest) = ⊥
NameNone (set_register d value ∷ rest) = NameNone rest
NameNone (set_pair d word ∷ rest) = NameNone rest
NameNone (set_port port value ∷ rest) = NameNone rest
NameNone (set_sp address ∷ rest) = NameNone rest
NameNone (set_sreg value ∷ rest) = NameNone rest
NameNone (set_pc address ∷ rest) = NameNone rest

pub none_inside : (ws : List Write) → NameNone ws → AreInside ws
none_inside [] h = tt
none_inside (set_byte address value ∷ rest) h = absurd h
none_inside (set_register d value ∷ rest) h = none_inside rest h
none_inside (set_pair d word ∷ rest) h = none_inside rest h
none_inside (set_port port value ∷ rest) h = none_inside rest h
none_inside (set_sp address ∷ rest) h = none_inside rest h
none_inside (set_sreg value ∷ rest) h = none_inside rest h
none_inside (set_pc address ∷ rest) h = none_inside rest h

pub none_named : (a : ℕ) (ws : List Write) → NameNone ws → Names a ws → ⊥
none_named a [] h w = w
none_named a (set_byte address value ∷ rest) h w = h
none_named a (set_register d value ∷ rest) h w = none_named a rest h w
none_named a (set_pair d word ∷ rest) h w = none_named a rest h w
none_named a (set_port port value ∷ rest) h w = none_named a rest h w
none_named a (set_sp address ∷ rest) h w = none_named a rest h w
none_named a (set_sreg value ∷ rest) h w = none_named a rest h w
none_named a (set_pc address ∷ rest) h w = none_named a rest h w

pub plain_names_none : (i : Instr) (over : ℕ) (c : CountingProcessor) → IsOfKind (Plain i) → NameNone (writes i over c)
unfolding standing_of writes
plain_names_none (StXInc r) over c h = absurd (off_not _ r _ _ h.0 (λ e. cc))
plain_names_none (StXDec r) over c h = absurd (off_not _ r _ _ h.0 (λ e. cc))
plain_names_none (StYInc r) over c h = absurd (off_not _ r _ _ h.0 (λ e. cc))
plain_names_none (StYDec r) over c h = absurd (off_not _ r _ _ h.0 (λ e. cc))
plain_names_none (StZInc r) over c h = absurd (off_not _ r _ _ h.0 (λ e. cc))
plain_names_none (StZDec r) over c h = absurd (off_not _ r _ _ h.0 (λ e. cc))
plain_names_none (Call k) over c h = absurd (call_is_call k _ h.0)
plain_names_none (Rcall k) over c h = let reserve = rcall_is_reserve k _ h.0 in absurd (cc)
plain_names_none _ over c h = search rules

pub plain_inside : (i : Instr) (c : CountingProcessor) → IsOfKind (Plain i) → StoresInside i c
unfolding StoresInside
plain_inside i c h = none_inside (writes i 0 c) (plain_names_none i 0 c h)

pub plain_unit : (may : ℕ → Type 0) (v : FlashValue) (run : Running) (k : KernelState) (i : Instr) (s : Setting v run k (Plain i)) → v.unit + 1 < length (starts_of v run.domain)
    → AreBytes (plain_effect i k.processor).memory → Meets may (act_unit (Plain i) run k (part v)) v run k
plain_unit may v run k i s more bytes =
    let l = laid v run k (Plain i) s in
    let next = behind_place run (start v run) i in
    let step = straight_step may v run k (start v run) i l.behind s.in_bank l.stand (plain_is_straight i s.kind) (plain_inside i (at_counter k.processor next) s.kind)
    (λ a over w. absurd (none_named a (writes i over (at_counter k.processor next)) (plain_names_none i over (at_counter k.processor next) s.kind) w)) in
    all_met may (act_unit (Plain i) run k (part v)) v run k bytes
    (ends may 3 v run k (entry_point v run.domain v.unit) run (with_processor k (plain_effect i k.processor)) next [] step s.in_bank.running s.in_bank.below (v.unit + 1)
    (lands_next v run k (Plain i) s more))
