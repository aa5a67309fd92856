-- Pushes and pops behind their guards.
use Rattle.std.proofs.Common.{◌≡◌, ◌≢◌, ◌∙◌, ℕ, ◌+◌, ◌-◌, ◌<◌, ◌≤◌, Bool, true, List, length, refl, sym, ap, subst, arith, inl, inr}
use Rattle.std.specs.Prelude.{slice_index, slice_set, nat_lt}
use Rattle.std.proofs.lemmas.Bool.{ltb-true}
use Rattle.std.proofs.lemmas.List.{get_or-set_other, set-set, set_comm}
use Rattle.avr_isa.specs.declared.instruction.Instr.TheVariants as instr
use Rattle.avr_machine.specs.Conditions.{IsStraight, StoresInside}
use Rattle.avr_machine.specs.DataRead.{IsInMemory}
use Rattle.avr_machine.specs.Effect.{popped, popping, writes}
use Rattle.avr_machine.specs.Laws.{with_pushed}
use Rattle.avr_machine.specs.Processor.{high, low, lowered, raised}
use Rattle.avr_machine.proofs.ReadBack.{memory_read}
use Rattle.mote_layout.specs.Memory.{floor, ram_start, red_zone_start, stack_top}
use Rattle.mote_layout.specs.declared.page.Entry.TheVariants.{PopGuard, PushGuard}
use Rattle.unit_code.specs.declared.unit.Unit.TheVariants.{Pop, Push}
use Rattle.domain_model.specs.declared.fault.Rule.TheVariants as rule
use Rattle.domain_model.specs.declared.handler.Running.{Running}
use Rattle.domain_model.specs.State.{KernelState, Processor, at_counter, with_processor}
use Rattle.domain_model.specs.Act.{act_effect, act_unit, plain_effect}
use Rattle.domain_model.specs.Free.{SameKernel}
use Rattle.domain_model.proofs.ByteLists.{bytes_set, high_byte}
use Rattle.word_run.specs.FlashValue.{FlashValue, part, starts_of}
use Rattle.word_run.specs.Writing.{Names}
use Rattle.word_run.proofs.Guarded.{back_processor, back_small, behind_call, call_but, called_entry, guarded_unit, in_stack}
use Rattle.word_run.proofs.Same.{IsBut, Meets, but_itself, but_set, dead_free, free_of, same_but}
use Rattle.word_run.proofs.Setting.{Setting, laid}

push_straight : (r : ℕ) → IsStraight (instr.Push r)
unfolding IsStraight
push_straight r = tt

pop_straight : (d : ℕ) → IsStraight (instr.Pop d)
unfolding IsStraight
pop_straight d = tt

push_inside : (r : ℕ) (p : Processor) (c : ℕ) → IsInMemory p.sp → StoresInside (instr.Push r) (at_counter p c)
unfolding StoresInside writes
push_inside r p c h = (h, tt)

pop_inside : (d : ℕ) (p : Processor) (c : ℕ) → StoresInside (instr.Pop d) (at_counter p c)
unfolding StoresInside writes
pop_inside d p c = tt

push_names : (may : ℕ → Type 0) (r : ℕ) (p : Processor) (a over c : ℕ) → may p.sp → Names a (writes (instr.Push r) over (at_counter p c)) → may a
unfolding writes
push_names may r p a over c at w = elim w [ inl one ↦ subst may one at | inr none ↦ absurd none ]

pop_names : (may : ℕ → Type 0) (d : ℕ) (p : Processor) (a over c : ℕ) → Names a (writes (instr.Pop d) over (at_counter p c)) → may a
unfolding writes
pop_names may d p a over c w = absurd w

-- the byte at SP is written again
written_again : (m : List ℕ) (j i lo hi b : ℕ) → i ≢ j → slice_set (slice_set (slice_set m j lo) i hi) j b ≡ slice_set (slice_set m j b) i hi
written_again m j i lo hi b apart = set_comm (slice_set m j lo) i j hi b apart ∙ ap (λ xs. slice_set xs i hi) (set-set m j lo b)

module _ (may : ℕ → Type 0) (v : FlashValue) (run : Running) (k : KernelState) where
  push_same : (r : ℕ) (s : Setting v run k (Push r)) → floor < k.processor.sp → (enters : Bool)
      → SameKernel (free_of k (act_effect true rule.StackOver k.processor.sp (instr.Push r) k (part v)) enters) (with_processor k (plain_effect (instr.Push r) k.processor)) (with_processor k (plain_effect (instr.Push r) (back_processor v run k)))
  unfolding writes
  push_same r s above enters =
      let p = k.processor in
      let a = behind_call v run in
      let want = act_effect true rule.StackOver p.sp (instr.Push r) k (part v) in
      let free = free_of k want enters in
      let b = slice_index p.registers r in
      let j = p.sp - ram_start in
      let i = lowered p.sp - ram_start in
      let base = s.base in
      let top = s.top in
      let down : lowered p.sp ≡ p.sp - 1 = omega (arith, above, base, top) in
      let place : i + ram_start ≡ lowered p.sp = omega (arith, down, above) in
      let small = back_small v run k (Push r) s in
      let is_free : free (i + ram_start) ≡ true = ap free place ∙ dead_free k want enters (lowered p.sp) (omega (arith, down, above)) (omega arith) in
      let but : IsBut free (slice_set p.memory j b) (slice_set (slice_set p.memory j b) i (high a))
      = but_set free (slice_set p.memory j b) (slice_set p.memory j b) i (high a)
      (but_itself free (slice_set p.memory j b) (bytes_set p.memory j b (s.processor.register_bytes r) s.processor.memory_bytes)) is_free (high_byte a (omega (arith, small))) in
      let P : List ℕ → Type 0 = λ xs. IsBut free (slice_set p.memory j b) xs in
      record {
        rest = refl;
        memory = same_but free _ _ (subst P (sym (written_again p.memory j i (low a) (high a) b (omega (arith, down, above)))) but);
      }

  pub push_unit : (r : ℕ) (s : Setting v run k (Push r)) → v.unit + 1 < length (starts_of v run.domain) → ((a : ℕ) → red_zone_start ≤ a → a ≤ k.processor.sp → may a) → Meets may (act_unit (Push r) run k (part v)) v run k
  push_unit r s more dead =
      let p = k.processor in
      let l = laid v run k (Push r) s in
      let low = s.floor in
      let base = s.base in
      let top = s.top in
      guarded_unit may (nat_lt floor p.sp) rule.StackOver p.sp v run k (Push r) s (instr.Push r) PushGuard more (record {
        behind = l.behind;
        stand = l.stand;
        long = refl;
        entry = tt;
        straight = push_straight r;
        dead = dead;
        row = called_entry may PushGuard v run k (behind_call v run) _ (λ c. refl) (λ c st can. (st, can)) refl (in_stack v run k (Push r) s) tt (λ a c ret w. absurd w);
        inside = λ yes c. push_inside r (back_processor v run k) c (omega (arith, low), omega (arith, base, top));
        names = λ yes a over c w. push_names may r (back_processor v run k) a over c (dead p.sp (omega (arith, low)) (omega arith)) w;
        same = λ yes enters. push_same r s (ltb-true floor p.sp yes) enters;
      })

  -- a pop reads above what the CALL pushed
  pop_reads : (d : ℕ) (s : Setting v run k (Pop d)) → k.processor.sp < stack_top → popped (at_counter (back_processor v run k) 0) ≡ popped (at_counter k.processor 0)
  pop_reads d s below =
      let p = k.processor in
      let a = behind_call v run in
      let m = with_pushed p.memory p.sp a in
      let low_enough = s.floor in
      let up : raised p.sp ≡ p.sp + 1 = omega (arith, below) in
      let down : lowered p.sp ≡ p.sp - 1 = omega (arith, below, low_enough) in
      let j = raised p.sp - ram_start in
      let inside : IsInMemory (raised p.sp) = (omega (arith, up, low_enough), omega (arith, up, below)) in
      let other : slice_index m j ≡ slice_index p.memory j
      = get_or-set_other (slice_set p.memory (p.sp - ram_start) (low a)) (lowered p.sp - ram_start) j (high a) 0 (omega (arith, up, down, low_enough))
      ∙ get_or-set_other p.memory (p.sp - ram_start) j (low a) 0 (omega (arith, up, low_enough)) in
      memory_read (popping (at_counter (back_processor v run k) 0)) (raised p.sp) inside
      ∙ other
      ∙ sym (memory_read (popping (at_counter p 0)) (raised p.sp) inside)

  pop_same : (d : ℕ) (s : Setting v run k (Pop d)) → k.processor.sp < stack_top → (enters : Bool)
      → SameKernel (free_of k (act_effect true rule.StackUnder k.processor.sp (instr.Pop d) k (part v)) enters) (with_processor k (plain_effect (instr.Pop d) k.processor)) (with_processor k (plain_effect (instr.Pop d) (back_processor v run k)))
  unfolding writes
  pop_same d s below enters =
      let p = k.processor in
      let want = act_effect true rule.StackUnder p.sp (instr.Pop d) k (part v) in
      let free = free_of k want enters in
      let up : raised p.sp ≡ p.sp + 1 = omega (arith, below) in
      record {
        rest = ap (λ b. with_processor k (record { registers = slice_set p.registers d b; sreg = p.sreg; sp = raised p.sp; memory = (back_processor v run k).memory })) (pop_reads d s below);
        memory = same_but free _ _ (call_but v run k (Pop d) s free (λ y above less. dead_free k want enters y above (omega (arith, up, less))));
      }

  pub pop_unit : (d : ℕ) (s : Setting v run k (Pop d)) → v.unit + 1 < length (starts_of v run.domain) → ((a : ℕ) → red_zone_start ≤ a → a ≤ k.processor.sp → may a) → Meets may (act_unit (Pop d) run k (part v)) v run k
  pop_unit d s more dead =
      let p = k.processor in
      let l = laid v run k (Pop d) s in
      let top = s.top in
      guarded_unit may (nat_lt p.sp run.base) rule.StackUnder p.sp v run k (Pop d) s (instr.Pop d) PopGuard more (record {
        behind = l.behind;
        stand = l.stand;
        long = refl;
        entry = tt;
        straight = pop_straight d;
        dead = dead;
        row = called_entry may PopGuard v run k (behind_call v run) _ (λ c. refl) (λ c st can. (st, can)) refl (in_stack v run k (Pop d) s) tt (λ a c ret w. absurd w);
        inside = λ yes c. pop_inside d (back_processor v run k) c;
        names = λ yes a over c w. pop_names may d (back_processor v run k) a over c w;
        same = λ yes enters. let less = ltb-true p.sp run.base yes in pop_same d s (omega (arith, less, top)) enters;
      })
