-- What the first instruction of a unit's words writes: only a CALL writes, and a guard that refuses clears nothing.
use Rattle.std.proofs.Common.{◌≡◌, ℕ, ℤ, ◌+◌, Bool, true, false, not, List, ◌∷◌, ◌++◌, Option, None, Some, Result, pos, subst}
use Rattle.std.specs.Prelude.{nat_le}
use Rattle.avr_isa.specs.declared.instruction.Instr.{Instr}
use Rattle.avr_isa.specs.declared.instruction.Instr.TheVariants as instr
use Rattle.avr_isa.specs.declared.instruction.DecodeError.{DecodeError}
use Rattle.avr_machine.specs.Effect.{writes}
use Rattle.avr_machine.specs.Processor.{Processor as CountingProcessor}
use Rattle.avr_machine.specs.Step.{fetched}
use Rattle.mote_layout.specs.Memory.{floor}
use Rattle.mote_layout.specs.Page.{page_start, entry_at}
use Rattle.mote_layout.specs.declared.page.Entry.{Entry}
use Rattle.mote_layout.specs.declared.page.Entry.TheVariants as entry
use Rattle.unit_code.specs.Spelled.{offset_to, out_high, out_low, out_status}
use Rattle.unit_code.specs.Spelling.{form_of, start_of}
use Rattle.unit_code.specs.Templates.{address_of, branch, enter, guard_of, template}
use Rattle.unit_code.specs.declared.unit.Shape.{Shape}
use Rattle.unit_code.specs.declared.unit.Shape.TheVariants.{Long, Short}
use Rattle.unit_code.specs.declared.unit.Unit.{Unit}
use Rattle.unit_code.specs.declared.unit.Unit.TheVariants.{Plain, Store, Load, Push, Pop, SpGroup, Reserve, Skip, Branch, Jump, LocalCall, KernelCall, SlotCall, SlotIndirect, Return}
use Rattle.domain_model.specs.declared.fault.UnitEnd.{UnitEnd}
use Rattle.domain_model.specs.declared.handler.Running.{Running}
use Rattle.domain_model.specs.State.{KernelState, at_counter}
use Rattle.domain_model.specs.Act.{group_sp}
use Rattle.domain_model.proofs.InstructionLaws.{skip_is_skip}
use Rattle.word_run.specs.FlashValue.{FlashValue, words_of, starts_of, entry_point}
use Rattle.word_run.specs.Entries.{Ends, Goes, back_kernel, group_guarded, group_under, returned_from}
use Rattle.word_run.specs.WordRun.{after_one, arrived, at_entry, one_step}
use Rattle.word_run.specs.Writing.{ArrivalWrites, EntryWrites, GuardClears, GuardWrites, InstructionWrites, Names}
use Rattle.word_run.specs.Laws.{BeginsWithCall}
use Rattle.word_run.proofs.Fetched.{Stand, fetches}
use Rattle.word_run.proofs.Jumps.{where_names}
use Rattle.word_run.proofs.PlainUnits.{none_named, plain_names_none}
use Rattle.word_run.proofs.Setting.{Setting, laid, start}
use Rattle.word_run.proofs.Skips.{skip_names}

-- A guard that refuses clears nothing.

never_goes : (back : ℕ) (ending : UnitEnd) → Goes back ≡ Ends ending → ⊥
never_goes back ending e = cc

clears_none_under : (t : Bool) (a : ℕ) (k : KernelState) (back : ℕ) (ending : UnitEnd) → (group_under t k back).way ≡ Ends ending → GuardClears a (group_under t k 0).way k.processor → ⊥
clears_none_under true a k back ending e w = never_goes back ending e
clears_none_under false a k back ending e w = w

clears_none : (t : Bool) (a : ℕ) (run : Running) (k : KernelState) (back : ℕ) (ending : UnitEnd) → (group_guarded t run k back).way ≡ Ends ending → GuardClears a (group_guarded t run k 0).way k.processor → ⊥
clears_none true a run k back ending e w = clears_none_under (nat_le (group_sp k.processor) run.base) a k back ending e w
clears_none false a run k back ending e w = w

entry_clears_none : (o : Option Entry) (a : ℕ) (v : FlashValue) (run : Running) (k : KernelState) (c : CountingProcessor) (ending : UnitEnd) → (at_entry o v run k c).way ≡ Ends ending → EntryWrites a o v run k c → ⊥
entry_clears_none None a v run k c ending e w = w
entry_clears_none (Some entry.SpGuard) a v run k c ending e w =
    clears_none (nat_le floor (group_sp (back_kernel k c).processor)) a run (back_kernel k c) (returned_from c).pc ending e w
entry_clears_none (Some _) a v run k c ending e w = w

arrival_clears_none : (t : Bool) (a : ℕ) (v : FlashValue) (run : Running) (k : KernelState) (c : CountingProcessor) (ending : UnitEnd) → (arrived t v run k c).way ≡ Ends ending → ArrivalWrites a t v run k c → ⊥
arrival_clears_none false a v run k c ending e w = w
arrival_clears_none true a v run k c ending e w = entry_clears_none (entry_at c.pc) a v run k c ending e w

pub guard_clears_none : (a : ℕ) (v : FlashValue) (run : Running) (k : KernelState) (address : ℕ) (ending : UnitEnd) → (one_step v run k address).way ≡ Ends ending
    → GuardWrites a v run k (after_one v.flash (at_counter k.processor address)) → ⊥
guard_clears_none a v run k address ending e w =
    let c = after_one v.flash (at_counter k.processor address) in
    arrival_clears_none (nat_le page_start c.pc) a v run k c ending e w

-- The first instruction is a CALL, or writes nothing.

module _ (v : FlashValue) (run : Running) (k : KernelState) (x : Unit) (s : Setting v run k x) (a : ℕ) where
  by_first : (i : Instr) (is : List Instr) → Stand (words_of v run.domain) (start v run) (i ∷ is) → ((over : ℕ) (c : CountingProcessor) → Names a (writes i over c) → BeginsWithCall v run)
      → InstructionWrites a (fetched v.flash (entry_point v run.domain v.unit)) v.flash (at_counter k.processor (entry_point v run.domain v.unit)) → BeginsWithCall v run
  by_first i is stand told w =
      let found = fetches v.flash run.domain (start v run) i is s.in_bank.below s.in_bank.fits stand in
      let P : Result (Instr × ℕ) DecodeError → Type 0 = λ r. InstructionWrites a r v.flash (at_counter k.processor (entry_point v run.domain v.unit)) in
      told _ _ (subst P found w)

  called : (e : Entry) (is : List Instr) → Stand (words_of v run.domain) (start v run) (enter e ∷ is) → BeginsWithCall v run
  called e is stand = (address_of e, fetches v.flash run.domain (start v run) (enter e) is s.in_bank.below s.in_bank.fits stand)

jump_names_none : (may : ℕ → Type 0) (o : ℤ) (a over : ℕ) (c : CountingProcessor) → Names a (writes (instr.Rjmp o) over c) → may a
unfolding writes
jump_names_none may o a over c w = absurd w

far_names_none : (may : ℕ → Type 0) (to a over : ℕ) (c : CountingProcessor) → Names a (writes (instr.Jmp to) over c) → may a
unfolding writes
far_names_none may to a over c w = absurd w

branch_names_none : (may : ℕ → Type 0) (set : Bool) (bit : ℕ) (o : ℤ) (a over : ℕ) (c : CountingProcessor) → Names a (writes (branch set bit o) over c) → may a
unfolding writes
branch_names_none may true bit o a over c w = where_names may _ _ a w
branch_names_none may false bit o a over c w = where_names may _ _ a w

abbrev First : FlashValue → Running → KernelState → ℕ → Type 0
First v run k a = InstructionWrites a (fetched v.flash (entry_point v run.domain v.unit)) v.flash (at_counter k.processor (entry_point v run.domain v.unit)) → BeginsWithCall v run

skip_first : (shape : Shape) (v : FlashValue) (run : Running) (k : KernelState) (i : Instr) (s : Setting v run k (Skip i)) (a : ℕ) (behind : List Instr)
    → Stand (words_of v run.domain) (start v run) (template (form_of (starts_of v run.domain) v.unit (start v run) (Skip i) shape) ++ behind) → First v run k a
skip_first Long v run k i s a behind stand w =
    by_first v run k (Skip i) s a i (instr.Rjmp (pos 1) ∷ instr.Rjmp (offset_to (start v run + 2) (start_of (starts_of v run.domain) (v.unit + 2))) ∷ behind) stand
    (λ over c named. skip_names (λ y. BeginsWithCall v run) i a over c (skip_is_skip i s.kind) named) w
skip_first Short v run k i s a behind stand w = by_first v run k (Skip i) s a i behind stand (λ over c named. skip_names (λ y. BeginsWithCall v run) i a over c (skip_is_skip i s.kind) named) w

branch_first : (shape : Shape) (v : FlashValue) (run : Running) (k : KernelState) (set : Bool) (bit target : ℕ) (s : Setting v run k (Branch set bit target)) (a : ℕ) (behind : List Instr)
    → Stand (words_of v run.domain) (start v run) (template (form_of (starts_of v run.domain) v.unit (start v run) (Branch set bit target) shape) ++ behind) → First v run k a
branch_first Long v run k set bit target s a behind stand w =
    by_first v run k (Branch set bit target) s a (branch (not set) bit (pos 1)) (instr.Rjmp (offset_to (start v run + 1) (start_of (starts_of v run.domain) target)) ∷ behind) stand
    (λ over c named. branch_names_none (λ y. BeginsWithCall v run) (not set) bit (pos 1) a over c named) w
branch_first Short v run k set bit target s a behind stand w =
    by_first v run k (Branch set bit target) s a (branch set bit (offset_to (start v run) (start_of (starts_of v run.domain) target))) behind stand
    (λ over c named. branch_names_none (λ y. BeginsWithCall v run) set bit _ a over c named) w

pub first_writes : (v : FlashValue) (run : Running) (k : KernelState) (x : Unit) (s : Setting v run k x) (a : ℕ) → First v run k a
first_writes v run k (Plain i) s a w =
    let l = laid v run k (Plain i) s in
    by_first v run k (Plain i) s a i l.behind l.stand (λ over c named. absurd (none_named a (writes i over c) (plain_names_none i over c s.kind) named)) w
first_writes v run k (Store i) s a w = let l = laid v run k (Store i) s in called v run k (Store i) s a (guard_of i) (i ∷ l.behind) l.stand
first_writes v run k (Load i) s a w = let l = laid v run k (Load i) s in called v run k (Load i) s a (guard_of i) (i ∷ l.behind) l.stand
first_writes v run k (Push r) s a w = let l = laid v run k (Push r) s in called v run k (Push r) s a entry.PushGuard (instr.Push r ∷ l.behind) l.stand
first_writes v run k (Pop d) s a w = let l = laid v run k (Pop d) s in called v run k (Pop d) s a entry.PopGuard (instr.Pop d ∷ l.behind) l.stand
first_writes v run k (SpGroup true) s a w = let l = laid v run k (SpGroup true) s in called v run k (SpGroup true) s a entry.SpGuard (out_high ∷ out_status ∷ out_low ∷ l.behind) l.stand
first_writes v run k (SpGroup false) s a w = let l = laid v run k (SpGroup false) s in called v run k (SpGroup false) s a entry.SpGuard (out_high ∷ out_low ∷ l.behind) l.stand
first_writes v run k Reserve s a w = let l = laid v run k Reserve s in called v run k Reserve s a entry.Reserve l.behind l.stand
first_writes v run k (Skip i) s a w = let l = laid v run k (Skip i) s in skip_first s.nth.shape v run k i s a l.behind l.stand w
first_writes v run k (Branch set bit target) s a w = let l = laid v run k (Branch set bit target) s in branch_first s.nth.shape v run k set bit target s a l.behind l.stand w
first_writes v run k (Jump target) s a w =
    let l = laid v run k (Jump target) s in
    by_first v run k (Jump target) s a (instr.Rjmp (offset_to (start v run) (start_of (starts_of v run.domain) target))) l.behind l.stand (λ over c named. jump_names_none (λ y. BeginsWithCall v run) _ a over c named) w
first_writes v run k (LocalCall target) s a w =
    let l = laid v run k (LocalCall target) s in
    called v run k (LocalCall target) s a entry.LocalCall (instr.Rjmp (offset_to (start v run + 2) (start_of (starts_of v run.domain) target)) ∷ l.behind) l.stand
first_writes v run k (KernelCall n) s a w = let l = laid v run k (KernelCall n) s in called v run k (KernelCall n) s a (entry.Kernel n) l.behind l.stand
first_writes v run k (SlotCall i) s a w = let l = laid v run k (SlotCall i) s in called v run k (SlotCall i) s a (entry.Slot i) l.behind l.stand
first_writes v run k SlotIndirect s a w = let l = laid v run k SlotIndirect s in called v run k SlotIndirect s a entry.SlotIndirect l.behind l.stand
first_writes v run k Return s a w =
    let l = laid v run k Return s in
    by_first v run k Return s a (instr.Jmp (address_of entry.Return)) l.behind l.stand (λ over c named. far_names_none (λ y. BeginsWithCall v run) _ a over c named) w
