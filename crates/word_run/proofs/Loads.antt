-- Checked loads behind their guards.
use Rattle.std.proofs.Common.{◌≡◌, ◌≢◌, ◌∙◌, ℕ, ◌+◌, ◌-◌, ◌<◌, ◌≤◌, ◌==◌, ◌&&◌, ◌||◌, ◌⊎◌, cond, Bool, true, false, List, [], ◌∷◌, length, Ok, refl, sym, ap, subst, arith, inl, inr}
use Rattle.std.specs.Prelude.{nat_le, nat_lt, slice_index, slice_set}
use Rattle.std.proofs.lemmas.Bool.{and_parts, leb-true, ltb-true, or_cases}
use Rattle.std.proofs.lemmas.List.{get_or-set_other}
use Rattle.avr_isa.specs.declared.instruction.Instr.{Instr}
use Rattle.avr_isa.specs.declared.instruction.Instr.TheVariants.{LdX, LdXInc, LdXDec, LddY, LdYInc, LdYDec, LddZ, LdZInc, LdZDec, Lds}
use Rattle.avr_machine.specs.DataRead.{data_read}
use Rattle.avr_machine.specs.Effect.{writes}
use Rattle.avr_machine.specs.Flash.{word_at}
use Rattle.avr_machine.specs.Laws.{with_pushed}
use Rattle.avr_machine.specs.Modes.{load_address as loaded_by_mode}
use Rattle.avr_machine.specs.Processor.{high, low, lowered, raised}
use Rattle.mote_layout.specs.Blocks.{AreBlocks, AreBlocksFrom, owns}
use Rattle.mote_layout.specs.Load.{IsConstant, is_constant, is_open}
use Rattle.mote_layout.specs.Store.{may_store as permits_store}
use Rattle.mote_layout.specs.Memory.{pointer_x, pointer_y, pointer_z, ram_end, ram_start, red_zone_start, register_count, spl, sph, sreg}
use Rattle.mote_layout.specs.declared.page.Entry.TheVariants as entry
use Rattle.mote_layout.specs.declared.segment.Segment.{Segment}
use Rattle.mote_layout.proofs.Loads.{is_constant-true, is_open-true}
use Rattle.unit_code.specs.Lengths.{instruction_length}
use Rattle.unit_code.specs.Loads.{is_load}
use Rattle.unit_code.specs.Proper.{IsOfKind}
use Rattle.unit_code.specs.Templates.{guard_of}
use Rattle.unit_code.specs.declared.unit.Unit.TheVariants.{Load, Plain}
use Rattle.domain_model.specs.declared.fault.Rule.TheVariants as rule
use Rattle.domain_model.specs.declared.handler.Running.{Running}
use Rattle.domain_model.specs.State.{KernelState, Processor, at_counter, pair, with_processor}
use Rattle.domain_model.specs.Act.{act_effect, act_unit, load_address, may_load, plain_effect, receives}
use Rattle.domain_model.specs.Modules.{constants_at, id_at}
use Rattle.domain_model.specs.Free.{SameKernel}
use Rattle.domain_model.specs.Good.{GoodMachine}
use Rattle.domain_model.proofs.BlockLaws.{owned_in_heap}
use Rattle.domain_model.proofs.ByteLists.{good_bytes}
use Rattle.domain_model.proofs.InstructionLaws.{load_is_straight}
use Rattle.domain_model.proofs.WriteLaws.{plain_keeps}
use Rattle.word_run.specs.FlashValue.{FlashValue, part, words_of, starts_of}
use Rattle.word_run.specs.Entries.{guarded, load_guarded}
use Rattle.word_run.specs.CanRun.{IsOnStack}
use Rattle.word_run.proofs.Fetched.{fetched_address, fetches, stand_behind}
use Rattle.word_run.proofs.Guarded.{back_processor, behind_call, call_but, called_entry, guarded_unit, in_stack}
use Rattle.word_run.proofs.Moves.{Row, pushed_by}
use Rattle.word_run.proofs.PlainUnits.{none_named, plain_inside, plain_names_none}
use Rattle.word_run.proofs.Same.{IsBut, Meets, dead_free, free_of, same_but}
use Rattle.word_run.proofs.SecondWords.{IsAddressed}
use Rattle.word_run.proofs.Setting.{Setting, laid, start}
use Rattle.word_run.proofs.Stores.{guard_entry}

abbrev kind_plain : (i : Instr) → IsOfKind (Load i) → IsOfKind (Plain i)
kind_plain i kind = (kind.0, kind.2)

-- A load reads the same where the byte at its address is the same.

cond_alike : (b : Bool) (x y z : ℕ) → (b ≡ true → x ≡ y) → cond b x z ≡ cond b y z
cond_alike true x y z same = same refl
cond_alike false x y z same = refl

read_alike : (p : Processor) (rs m : List ℕ) (a : ℕ) → (ram_start ≤ a → slice_index m (a - ram_start) ≡ slice_index p.memory (a - ram_start))
    → data_read (at_counter (record p { registers = rs; memory = m }) 0) a ≡ data_read (at_counter (record p { registers = rs }) 0) a
unfolding data_read
read_alike p rs m a same =
    let inner = cond_alike (nat_le ram_start a && nat_le a ram_end) (slice_index m (a - ram_start)) (slice_index p.memory (a - ram_start)) 0
    (λ b. same (leb-true ram_start a (and_parts (nat_le ram_start a) (nat_le a ram_end) b).0)) in
    ap (λ (z : ℕ). cond (nat_lt a register_count) (slice_index rs a) (cond (a == spl) (low p.sp) (cond (a == sph) (high p.sp) (cond (a == sreg) p.sreg z)))) inner

abbrev ReadsAlike : Instr → Processor → List ℕ → Type 0
ReadsAlike i p m = (rs : List ℕ) → data_read (at_counter (record p { registers = rs; memory = m }) 0) (load_address i p) ≡ data_read (at_counter (record p { registers = rs }) 0) (load_address i p)

abbrev with_registers : Processor → List ℕ → List ℕ → Processor
with_registers p m rs = record { registers = rs; sreg = p.sreg; sp = p.sp; memory = m }

-- a pair of registers with another word
abbrev moved_to : ℕ → ℕ → List ℕ → List ℕ
moved_to pointer word rs = slice_set (slice_set rs pointer (low word)) (pointer + 1) (high word)

rest_is : (i : Instr) (p : Processor) (m : List ℕ) → is_load i ≡ true → ReadsAlike i p m → plain_effect i (record p { memory = m }) ≡ record (plain_effect i p) { memory = m }
unfolding writes is_load loaded_by_mode
rest_is (LdX d) p m is reads = ap (λ b. with_registers p m (slice_set p.registers d b)) (reads p.registers)
rest_is (LddY d q) p m is reads = ap (λ b. with_registers p m (slice_set p.registers d b)) (reads p.registers)
rest_is (LddZ d q) p m is reads = ap (λ b. with_registers p m (slice_set p.registers d b)) (reads p.registers)
rest_is (Lds d k) p m is reads = ap (λ b. with_registers p m (slice_set p.registers d b)) (reads p.registers)
rest_is (LdXInc d) p m is reads = ap (λ b. with_registers p m (moved_to pointer_x (raised (pair p pointer_x)) (slice_set p.registers d b))) (reads p.registers)
rest_is (LdYInc d) p m is reads = ap (λ b. with_registers p m (moved_to pointer_y (raised (pair p pointer_y)) (slice_set p.registers d b))) (reads p.registers)
rest_is (LdZInc d) p m is reads = ap (λ b. with_registers p m (moved_to pointer_z (raised (pair p pointer_z)) (slice_set p.registers d b))) (reads p.registers)
rest_is (LdXDec d) p m is reads =
    let rs = moved_to pointer_x (lowered (pair p pointer_x)) p.registers in
    ap (λ b. with_registers p m (slice_set rs d b)) (reads rs)
rest_is (LdYDec d) p m is reads =
    let rs = moved_to pointer_y (lowered (pair p pointer_y)) p.registers in
    ap (λ b. with_registers p m (slice_set rs d b)) (reads rs)
rest_is (LdZDec d) p m is reads =
    let rs = moved_to pointer_z (lowered (pair p pointer_z)) p.registers in
    ap (λ b. with_registers p m (slice_set rs d b)) (reads rs)
rest_is _ p m is reads = absurd (cc)

memory_is : (i : Instr) (p : Processor) → is_load i ≡ true → (plain_effect i p).memory ≡ p.memory
unfolding writes is_load
memory_is (LdX d) p is = refl
memory_is (LddY d q) p is = refl
memory_is (LddZ d q) p is = refl
memory_is (Lds d k) p is = refl
memory_is (LdXInc d) p is = refl
memory_is (LdYInc d) p is = refl
memory_is (LdZInc d) p is = refl
memory_is (LdXDec d) p is = refl
memory_is (LdYDec d) p is = refl
memory_is (LdZDec d) p is = refl
memory_is _ p is = absurd (cc)

-- The guard tests the load's address.
load_row : (may : ℕ → Type 0) (i : Instr) (v : FlashValue) (run : Running) (k : KernelState) (back : ℕ) → is_load i ≡ true → (instruction_length i ≡ 2 → IsAddressed (word_at v.flash (raised back)) i) → IsOnStack run k.processor
    → Row may (guard_of i) v run k back (guarded (may_load k run (load_address i k.processor)) rule.Load (load_address i k.processor) (with_processor k (pushed_by k.processor back)) back)
unfolding loaded_by_mode is_load
load_row may (LdX r) v run k back is h stack = called_entry may entry.LoadX v run k back _ (λ c. refl) (λ c st can. (st, can)) refl stack tt (λ a c ret w. absurd w)
load_row may (LdXInc r) v run k back is h stack = called_entry may entry.LoadXInc v run k back _ (λ c. refl) (λ c st can. (st, can)) refl stack tt (λ a c ret w. absurd w)
load_row may (LdXDec r) v run k back is h stack = called_entry may entry.LoadXDec v run k back _ (λ c. refl) (λ c st can. (st, can)) refl stack tt (λ a c ret w. absurd w)
load_row may (LddY r q) v run k back is h stack = called_entry may (entry.LoadY q) v run k back _ (λ c. refl) (λ c st can. (st, can)) refl stack tt (λ a c ret w. absurd w)
load_row may (LdYInc r) v run k back is h stack = called_entry may entry.LoadYInc v run k back _ (λ c. refl) (λ c st can. (st, can)) refl stack tt (λ a c ret w. absurd w)
load_row may (LdYDec r) v run k back is h stack = called_entry may entry.LoadYDec v run k back _ (λ c. refl) (λ c st can. (st, can)) refl stack tt (λ a c ret w. absurd w)
load_row may (LddZ r q) v run k back is h stack = called_entry may (entry.LoadZ q) v run k back _ (λ c. refl) (λ c st can. (st, can)) refl stack tt (λ a c ret w. absurd w)
load_row may (LdZInc r) v run k back is h stack = called_entry may entry.LoadZInc v run k back _ (λ c. refl) (λ c st can. (st, can)) refl stack tt (λ a c ret w. absurd w)
load_row may (LdZDec r) v run k back is h stack = called_entry may entry.LoadZDec v run k back _ (λ c. refl) (λ c st can. (st, can)) refl stack tt (λ a c ret w. absurd w)
load_row may (Lds r address) v run k back is h stack =
    called_entry may entry.LoadLds v run k back _ (λ c. refl) (λ c st can. (st, can))
    (ap (λ a. load_guarded a run (with_processor k (pushed_by k.processor back)) back) (sym (h refl))) stack tt (λ a c ret w. absurd w)
load_row may _ v run k back is h stack = absurd (cc)

-- A permitted address lies below the red zone, or above SP.

constant_in_heap : (low : ℕ) (blocks : List Segment) (constants a : ℕ) → AreBlocksFrom low blocks → IsConstant blocks constants a → a < red_zone_start
constant_in_heap low [] constants a fit is = absurd is
constant_in_heap low (s ∷ ss) constants a fit is =
    elim is [
      | inl here ↦ omega (arith, here.1.1, fit.0.2)
      | inr later ↦ constant_in_heap (s.first + s.count) ss constants a fit.1 later
    ]

loads_apart : (blocks : List Segment) (domain : ℕ) (frame : Bool) (constants sp bound a : ℕ) → AreBlocks blocks
    → (is_open frame a || (permits_store blocks domain sp bound a || is_constant blocks constants a)) ≡ true → (a < red_zone_start) ⊎ (sp < a)
loads_apart blocks domain frame constants sp bound a fit allowed =
    elim (or_cases (is_open frame a) (permits_store blocks domain sp bound a || is_constant blocks constants a) allowed) [
      | inl opens ↦ elim ((is_open-true frame a).0 opens) [
        | inl low_one ↦ inl (omega (arith, low_one))
        | inr in_frame ↦ inl (omega (arith, in_frame.2))
      ]
      | inr more ↦ elim (or_cases (permits_store blocks domain sp bound a) (is_constant blocks constants a) more) [
        | inl stores ↦ elim (or_cases (owns blocks domain a) (nat_lt sp a && nat_le a bound) stores) [
          | inl owned ↦ let heap = owned_in_heap blocks domain a fit owned in inl heap.1
          | inr stack ↦ inr (ltb-true sp a (and_parts (nat_lt sp a) (nat_le a bound) stack).0)
        ]
        | inr constant ↦ inl (constant_in_heap 0 blocks constants a fit ((is_constant-true blocks constants a).0 constant))
      ]
    ]

-- the other bytes stay where an address is pushed
pub pushed_other : (m : List ℕ) (sp address j : ℕ) → j ≢ sp - ram_start → j ≢ lowered sp - ram_start → slice_index (with_pushed m sp address) j ≡ slice_index m j
pushed_other m sp address j first second =
    get_or-set_other (slice_set m (sp - ram_start) (low address)) (lowered sp - ram_start) j (high address) 0 second
    ∙ get_or-set_other m (sp - ram_start) j (low address) 0 first

module _ (may : ℕ → Type 0) (v : FlashValue) (run : Running) (k : KernelState) (i : Instr) (s : Setting v run k (Load i)) (good : GoodMachine k (part v)) where
  reads : may_load k run (load_address i k.processor) ≡ true → ReadsAlike i k.processor (back_processor v run k).memory
  reads allowed rs =
      let p = k.processor in
      let a = load_address i p in
      let low_enough = s.floor in
      let base = s.base in
      let top = s.top in
      let down : lowered p.sp ≡ p.sp - 1 = omega (arith, low_enough, base, top) in
      let apart = loads_apart k.blocks run.domain (receives k.hand (id_at k.modules run.domain)) (constants_at k.modules run.domain) p.sp run.bound a good.blocks allowed in
      read_alike p rs (back_processor v run k).memory a (λ above.
      elim apart [
        | inl under ↦ pushed_other p.memory p.sp (behind_call v run) (a - ram_start) (omega (arith, under, above, low_enough)) (omega (arith, under, above, low_enough, down))
        | inr past ↦ pushed_other p.memory p.sp (behind_call v run) (a - ram_start) (omega (arith, past, above, low_enough)) (omega (arith, past, above, low_enough, down))
      ])

  same_loaded : may_load k run (load_address i k.processor) ≡ true → (enters : Bool)
      → SameKernel (free_of k (act_effect true rule.Load (load_address i k.processor) i k (part v)) enters) (with_processor k (plain_effect i k.processor)) (with_processor k (plain_effect i (back_processor v run k)))
  same_loaded allowed enters =
      let p = k.processor in
      let q = back_processor v run k in
      let want = act_effect true rule.Load (load_address i p) i k (part v) in
      let free = free_of k want enters in
      let base = s.base in
      let top = s.top in
      let sp = (plain_keeps i p (kind_plain i s.kind) (good_bytes p s.processor) (omega (arith, base, top))).sp in
      let rest : plain_effect i q ≡ record (plain_effect i p) { memory = q.memory } = rest_is i p q.memory s.kind.1 (reads allowed) in
      let got_memory : (plain_effect i q).memory ≡ q.memory = ap (λ (x : Processor). x.memory) rest in
      let but = call_but v run k (Load i) s free (λ y above below. dead_free k want enters y above (omega (arith, sp, below))) in
      let P : List ℕ → Type 0 = λ m. IsBut free m (plain_effect i q).memory in
      let Q : List ℕ → Type 0 = λ m. IsBut free p.memory m in
      record {
        rest = ap (with_processor k) (rest ∙ ap (λ m. record (plain_effect i p) { memory = m }) (sym got_memory));
        memory = same_but free _ _ (subst P (sym (memory_is i p s.kind.1)) (subst Q (sym got_memory) but));
      }

  pub load_unit : v.unit + 1 < length (starts_of v run.domain) → ((a : ℕ) → red_zone_start ≤ a → a ≤ k.processor.sp → may a) → Meets may (act_unit (Load i) run k (part v)) v run k
  load_unit more dead =
      let p = k.processor in
      let q = back_processor v run k in
      let plain = kind_plain i s.kind in
      let l = laid v run k (Load i) s in
      let behind = stand_behind (words_of v run.domain) (start v run) _ (i ∷ l.behind) l.stand in
      let found = fetches v.flash run.domain (start v run + 2) i l.behind s.in_bank.below s.in_bank.fits behind in
      guarded_unit may (may_load k run (load_address i p)) rule.Load (load_address i p) v run k (Load i) s i (guard_of i) more (record {
        behind = l.behind;
        stand = l.stand;
        long = refl;
        entry = guard_entry i s.kind.2;
        straight = load_is_straight i s.kind;
        dead = dead;
        row = load_row may i v run k (behind_call v run) s.kind.1 (λ two. fetched_address v.flash (behind_call v run) i (found ∙ ap (λ n. Ok (i, n)) two)) (in_stack v run k (Load i) s);
        inside = λ met c. plain_inside i (at_counter q c) plain;
        names = λ met a over c w. absurd (none_named a (writes i over (at_counter q c)) (plain_names_none i over (at_counter q c) plain) w);
        same = same_loaded;
      })
