-- Stores behind their guards.
use Rattle.std.proofs.Common.{◌≡◌, ◌∙◌, ℕ, ◌+◌, ◌-◌, ◌<◌, ◌≤◌, ◌⊎◌, Bool, true, List, ◌∷◌, length, Some, Ok, refl, sym, ap, subst, arith, inl, inr}
use Rattle.std.specs.Prelude.{slice_set}
use Rattle.avr_isa.specs.Operands.{IsEncodable}
use Rattle.avr_isa.specs.declared.instruction.Instr.{Instr}
use Rattle.avr_isa.specs.declared.instruction.Instr.TheVariants.{StX, StXInc, StXDec, StdY, StYInc, StYDec, StdZ, StZInc, StZDec, Sts, LddY, LddZ}
use Rattle.avr_machine.specs.Conditions.{StoresInside}
use Rattle.avr_machine.specs.DataRead.{IsInMemory}
use Rattle.avr_machine.specs.Effect.{writes}
use Rattle.avr_machine.specs.Flash.{word_at}
use Rattle.avr_machine.specs.Modes.{moved_register, store_address as stored_by_mode}
use Rattle.avr_machine.specs.Processor.{raised}
use Rattle.avr_machine.proofs.EffectLaws.{stores_go_by_mode}
use Rattle.mote_layout.specs.Memory.{ram_start, red_zone_start}
use Rattle.mote_layout.specs.declared.page.Entry.TheVariants as entry
use Rattle.unit_code.specs.Lengths.{instruction_length}
use Rattle.unit_code.specs.Proper.{IsOfKind}
use Rattle.unit_code.specs.Templates.{IsEntry, guard_of}
use Rattle.unit_code.specs.declared.unit.Unit.TheVariants.{Store}
use Rattle.harbor_spell.proofs.Standings.{Back, IsStore, back as back_of}
use Rattle.domain_model.specs.declared.fault.Rule.TheVariants as rule
use Rattle.domain_model.specs.declared.handler.Running.{Running}
use Rattle.domain_model.specs.State.{KernelState, Processor, at_counter, register, with_processor}
use Rattle.domain_model.specs.Act.{act_effect, act_unit, may_store, plain_effect, store_address}
use Rattle.domain_model.specs.Free.{SameKernel}
use Rattle.domain_model.specs.Good.{GoodMachine}
use Rattle.domain_model.proofs.ActLaws.{store_in_memory}
use Rattle.domain_model.proofs.ByteLists.{good_bytes}
use Rattle.domain_model.proofs.InstructionLaws.{store_is_straight}
use Rattle.domain_model.proofs.WriteLaws.{store_keeps}
use Rattle.word_run.specs.FlashValue.{FlashValue, part, words_of, starts_of}
use Rattle.word_run.specs.Entries.{guarded, store_guarded}
use Rattle.word_run.specs.CanRun.{IsOnStack}
use Rattle.word_run.specs.Writing.{Names}
use Rattle.word_run.proofs.Fetched.{fetched_address, fetches, stand_behind}
use Rattle.word_run.proofs.Guarded.{back_processor, behind_call, call_but, called_entry, guarded_unit, in_stack}
use Rattle.word_run.proofs.Moves.{Row, pushed_by}
use Rattle.word_run.proofs.Same.{IsBut, Meets, both_set, dead_free, free_of, same_but}
use Rattle.word_run.proofs.SecondWords.{IsAddressed}
use Rattle.word_run.proofs.Setting.{Setting, laid, start}

-- The number of a guard's entry is in its range.
pub guard_entry : (i : Instr) → IsEncodable i → IsEntry (guard_of i)
unfolding IsEncodable
guard_entry (StdY r q) h = h.1
guard_entry (StdZ r q) h = h.1
guard_entry (LddY d q) h = h.1
guard_entry (LddZ d q) h = h.1
guard_entry _ h = tt

kind_is_store : (i : Instr) → IsOfKind (Store i) → IsStore i
kind_is_store i kind = (subst (Back i) kind.0 (back_of i)).1

abbrev with_bytes_of : Processor → List ℕ → Processor
with_bytes_of p m = record p { memory = m }

-- Neither the memory nor the counter moves where a store goes.
mode_is : (i : Instr) (p : Processor) (m : List ℕ) (c : ℕ) → IsStore i → stored_by_mode i (at_counter (with_bytes_of p m) c) ≡ Some (store_address i p)
unfolding stored_by_mode
mode_is (StX r) p m c is = refl
mode_is (StXInc r) p m c is = refl
mode_is (StXDec r) p m c is = refl
mode_is (StdY r q) p m c is = refl
mode_is (StYInc r) p m c is = refl
mode_is (StYDec r) p m c is = refl
mode_is (StdZ r q) p m c is = refl
mode_is (StZInc r) p m c is = refl
mode_is (StZDec r) p m c is = refl
mode_is (Sts r k) p m c is = refl
mode_is _ p m c is = absurd is

-- All but the memory comes out alike.
rest_is : (i : Instr) (p : Processor) (m : List ℕ) → IsStore i → plain_effect i (with_bytes_of p m) ≡ with_bytes_of (plain_effect i p) (plain_effect i (with_bytes_of p m)).memory
unfolding writes
rest_is (StX r) p m is = refl
rest_is (StXInc r) p m is = refl
rest_is (StXDec r) p m is = refl
rest_is (StdY r q) p m is = refl
rest_is (StYInc r) p m is = refl
rest_is (StYDec r) p m is = refl
rest_is (StdZ r q) p m is = refl
rest_is (StZInc r) p m is = refl
rest_is (StZDec r) p m is = refl
rest_is (Sts r k) p m is = refl
rest_is _ p m is = absurd is

only : {A : Type 0} → A ⊎ ⊥ → A
only (inl a) = a
only (inr none) = absurd none

-- A store writes the byte at its address alone.
names_is : (i : Instr) (p : Processor) (m : List ℕ) (a over c : ℕ) → IsStore i → Names a (writes i over (at_counter (with_bytes_of p m) c)) → store_address i p ≡ a
unfolding writes stored_by_mode
names_is (StX r) p m a over c is w = only w
names_is (StXInc r) p m a over c is w = only w
names_is (StXDec r) p m a over c is w = only w
names_is (StdY r q) p m a over c is w = only w
names_is (StYInc r) p m a over c is w = only w
names_is (StYDec r) p m a over c is w = only w
names_is (StdZ r q) p m a over c is w = only w
names_is (StZInc r) p m a over c is w = only w
names_is (StZDec r) p m a over c is w = only w
names_is (Sts r k) p m a over c is w = only w
names_is _ p m a over c is w = absurd is

inside_is : (i : Instr) (p : Processor) (m : List ℕ) (c : ℕ) → IsStore i → IsInMemory (store_address i p) → StoresInside i (at_counter (with_bytes_of p m) c)
unfolding StoresInside
inside_is i p m c is inside = (stores_go_by_mode i 0 (store_address i p) (at_counter (with_bytes_of p m) c) (mode_is i p m c is)).0.1 inside

memory_is : (i : Instr) (p : Processor) (m : List ℕ) → IsStore i → (plain_effect i (with_bytes_of p m)).memory ≡ slice_set m (store_address i p - ram_start) (register p (moved_register i))
memory_is i p m is = (stores_go_by_mode i 0 (store_address i p) (at_counter (with_bytes_of p m) 0) (mode_is i p m 0 is)).1

-- The guard tests the store's address.
store_row : (may : ℕ → Type 0) (i : Instr) (v : FlashValue) (run : Running) (k : KernelState) (back : ℕ) → IsStore i → IsAddressed (word_at v.flash (raised back)) i → IsOnStack run k.processor
    → Row may (guard_of i) v run k back (guarded (may_store k run (store_address i k.processor)) rule.Store (store_address i k.processor) (with_processor k (pushed_by k.processor back)) back)
unfolding stored_by_mode
store_row may (StX r) v run k back is h stack = called_entry may entry.StoreX v run k back _ (λ c. refl) (λ c st can. (st, can)) refl stack tt (λ a c ret w. absurd w)
store_row may (StXInc r) v run k back is h stack = called_entry may entry.StoreXInc v run k back _ (λ c. refl) (λ c st can. (st, can)) refl stack tt (λ a c ret w. absurd w)
store_row may (StXDec r) v run k back is h stack = called_entry may entry.StoreXDec v run k back _ (λ c. refl) (λ c st can. (st, can)) refl stack tt (λ a c ret w. absurd w)
store_row may (StdY r q) v run k back is h stack = called_entry may (entry.StoreY q) v run k back _ (λ c. refl) (λ c st can. (st, can)) refl stack tt (λ a c ret w. absurd w)
store_row may (StYInc r) v run k back is h stack = called_entry may entry.StoreYInc v run k back _ (λ c. refl) (λ c st can. (st, can)) refl stack tt (λ a c ret w. absurd w)
store_row may (StYDec r) v run k back is h stack = called_entry may entry.StoreYDec v run k back _ (λ c. refl) (λ c st can. (st, can)) refl stack tt (λ a c ret w. absurd w)
store_row may (StdZ r q) v run k back is h stack = called_entry may (entry.StoreZ q) v run k back _ (λ c. refl) (λ c st can. (st, can)) refl stack tt (λ a c ret w. absurd w)
store_row may (StZInc r) v run k back is h stack = called_entry may entry.StoreZInc v run k back _ (λ c. refl) (λ c st can. (st, can)) refl stack tt (λ a c ret w. absurd w)
store_row may (StZDec r) v run k back is h stack = called_entry may entry.StoreZDec v run k back _ (λ c. refl) (λ c st can. (st, can)) refl stack tt (λ a c ret w. absurd w)
store_row may (Sts r address) v run k back is h stack =
    called_entry may entry.StoreSts v run k back _ (λ c. refl) (λ c st can. (st, can))
    (ap (λ a. store_guarded a run (with_processor k (pushed_by k.processor back)) back) (sym h)) stack tt (λ a c ret w. absurd w)
store_row may _ v run k back is h stack = absurd is

addressed_by : (n : ℕ) (word : ℕ) (i : Instr) → instruction_length i ≡ n → (n ≡ 2 → IsAddressed word i) → IsStore i → IsAddressed word i
addressed_by n word (Sts r address) long h is = h (sym long)
addressed_by n word (StX r) long h is = tt
addressed_by n word (StXInc r) long h is = tt
addressed_by n word (StXDec r) long h is = tt
addressed_by n word (StdY r q) long h is = tt
addressed_by n word (StYInc r) long h is = tt
addressed_by n word (StYDec r) long h is = tt
addressed_by n word (StdZ r q) long h is = tt
addressed_by n word (StZInc r) long h is = tt
addressed_by n word (StZDec r) long h is = tt
addressed_by n word _ long h is = absurd is

module _ (may : ℕ → Type 0) (v : FlashValue) (run : Running) (k : KernelState) (i : Instr) (s : Setting v run k (Store i)) (good : GoodMachine k (part v)) where
  is : IsStore i
  is = kind_is_store i s.kind

  q : Processor
  q = back_processor v run k

  want_memory : (plain_effect i k.processor).memory ≡ slice_set k.processor.memory (store_address i k.processor - ram_start) (register k.processor (moved_register i))
  want_memory = memory_is i k.processor k.processor.memory is

  same_stored : may_store k run (store_address i k.processor) ≡ true → (enters : Bool)
      → SameKernel (free_of k (act_effect true rule.Store (store_address i k.processor) i k (part v)) enters) (with_processor k (plain_effect i k.processor)) (with_processor k (plain_effect i (back_processor v run k)))
  same_stored met enters =
      let p = k.processor in
      let want = act_effect true rule.Store (store_address i p) i k (part v) in
      let free = free_of k want enters in
      let inside = store_in_memory k (part v) run (store_address i p) good s.in_bank.running met in
      let sp = (store_keeps i p s.kind (good_bytes p s.processor) inside.0).sp in
      let but = call_but v run k (Store i) s free (λ y above below. dead_free k want enters y above (omega (arith, sp, below))) in
      let both : IsBut free (slice_set p.memory (store_address i p - ram_start) (register p (moved_register i))) (slice_set (back_processor v run k).memory (store_address i p - ram_start) (register p (moved_register i)))
      = both_set free p.memory (back_processor v run k).memory (store_address i p - ram_start) (register p (moved_register i)) but (s.processor.register_bytes (moved_register i)) in
      let got_memory : (plain_effect i (back_processor v run k)).memory ≡ slice_set (back_processor v run k).memory (store_address i p - ram_start) (register p (moved_register i))
      = memory_is i p (back_processor v run k).memory is in
      let P : List ℕ → Type 0 = λ m. IsBut free m (plain_effect i (back_processor v run k)).memory in
      let Q : List ℕ → Type 0 = λ m. IsBut free (slice_set p.memory (store_address i p - ram_start) (register p (moved_register i))) m in
      record {
        rest = ap (with_processor k) (rest_is i p (back_processor v run k).memory is);
        memory = same_but free _ _ (subst P (sym want_memory) (subst Q (sym got_memory) both));
      }

  pub store_unit : v.unit + 1 < length (starts_of v run.domain) → ((a : ℕ) → red_zone_start ≤ a → a ≤ k.processor.sp → may a)
      → (may_store k run (store_address i k.processor) ≡ true → may (store_address i k.processor)) → Meets may (act_unit (Store i) run k (part v)) v run k
  store_unit more dead stored =
      let p = k.processor in
      let l = laid v run k (Store i) s in
      let behind = stand_behind (words_of v run.domain) (start v run) _ (i ∷ l.behind) l.stand in
      let found = fetches v.flash run.domain (start v run + 2) i l.behind s.in_bank.below s.in_bank.fits behind in
      guarded_unit may (may_store k run (store_address i p)) rule.Store (store_address i p) v run k (Store i) s i (guard_of i) more (record {
        behind = l.behind;
        stand = l.stand;
        long = refl;
        entry = guard_entry i s.kind.1;
        straight = store_is_straight i s.kind;
        dead = dead;
        row = store_row may i v run k (behind_call v run) is
            (addressed_by (instruction_length i) (word_at v.flash (raised (behind_call v run))) i refl (λ two. fetched_address v.flash (behind_call v run) i (found ∙ ap (λ n. Ok (i, n)) two)) is) (in_stack v run k (Store i) s);
        inside = λ yes c. let inside = store_in_memory k (part v) run (store_address i p) good s.in_bank.running yes in inside_is i p (back_processor v run k).memory c is inside;
        names = λ yes a over c w. subst may (names_is i p (back_processor v run k).memory a over c is w) (stored yes);
        same = same_stored;
      })
