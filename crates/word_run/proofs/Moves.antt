-- Single instructions of templates: those that lead on, and the CALL of an entry.
use Rattle.std.proofs.Common.{◌≡◌, ◌∙◌, ℕ, ◌+◌, ◌-◌, ◌%◌, ◌≤◌, ◌==◌, ◌||◌, IsTrue, List, ◌∷◌, length, Some, refl, sym, subst, arith, inl, inr}
use Rattle.avr_isa.specs.declared.instruction.Instr.{Instr}
use Rattle.avr_isa.specs.declared.instruction.Instr.TheVariants.{Cpse, Sbrc, Sbrs, Rjmp, Jmp, Rcall, Call, Ret, Brbs, Brbc, Out}
use Rattle.avr_machine.specs.Processor.{Processor as CountingProcessor, lowered}
use Rattle.avr_machine.specs.Conditions.{IsRunnable, IsSkip, IsStraight, StoresInside}
use Rattle.avr_machine.specs.Effect.{effect, writes}
use Rattle.avr_machine.specs.Flash.{Banks}
use Rattle.avr_machine.specs.Laws.{after_call, with_pushed}
use Rattle.avr_machine.specs.Step.{CanRun as CanRunOne}
use Rattle.avr_machine.proofs.EffectLaws.{call_pushes, ret_gives_back, straight_leaves_pc}
use Rattle.mote_layout.specs.Memory.{floor, ram_bytes, red_zone_start, spl_port, sph_port, sreg_port, stack_top}
use Rattle.mote_layout.specs.Page.{StandsAt}
use Rattle.mote_layout.specs.declared.page.Entry.{Entry}
use Rattle.unit_code.specs.Lengths.{instruction_length}
use Rattle.unit_code.specs.Templates.{IsEntry, address_of, enter}
use Rattle.unit_code.proofs.Entries.{stands as entry_stands}
use Rattle.domain_model.specs.declared.handler.Running.{Running}
use Rattle.domain_model.specs.State.{KernelState, Processor, at_counter, with_processor}
use Rattle.domain_model.specs.Act.{plain_effect}
use Rattle.word_run.specs.FlashValue.{FlashValue, words_of, address_in}
use Rattle.word_run.specs.Entries.{Reached, going, entry_row, returned_from}
use Rattle.word_run.specs.CanRun.{CanEnter}
use Rattle.word_run.specs.Writing.{EntryWrites, Names}
use Rattle.word_run.proofs.Fetched.{Stand, stand_within, one_word_at_least}
use Rattle.word_run.proofs.Steps.{InBank, Leads, Steps, goes, enters, page_below, page_from, turned}

-- An instruction that leads on is run, and is no skip.
pub straight_runs : (i : Instr) → IsStraight i → IsRunnable i
unfolding IsStraight IsRunnable
straight_runs (Cpse d r) straight = tt
straight_runs (Sbrc r b) straight = tt
straight_runs (Sbrs r b) straight = tt
straight_runs (Rjmp k) straight = tt
straight_runs (Jmp k) straight = tt
straight_runs (Rcall k) straight = tt
straight_runs (Call k) straight = tt
straight_runs Ret straight = tt
straight_runs (Brbs s k) straight = tt
straight_runs (Brbc s k) straight = tt
straight_runs (Out r A) straight = subst (λ (port : ℕ). IsTrue (port == spl_port || (port == sph_port || port == sreg_port))) (sym straight) refl
straight_runs _ straight = straight

pub straight_skips_not : (i : Instr) → IsStraight i → IsSkip i → ⊥
unfolding IsStraight IsSkip
straight_skips_not (Cpse d r) straight skip = straight
straight_skips_not (Sbrc r b) straight skip = straight
straight_skips_not (Sbrs r b) straight skip = straight
straight_skips_not _ straight skip = skip

-- It leaves the program counter, and does what the machine says.
pub straight_moves : (i : Instr) (over b : ℕ) (p : Processor) → IsStraight i → effect i over (at_counter p b) ≡ at_counter (plain_effect i p) b
straight_moves i over b p straight = straight_leaves_pc i over b (at_counter p 0) straight

abbrev pub behind_place : Running → ℕ → Instr → ℕ
behind_place run place i = address_in run.domain (place + instruction_length i)

pub straight_step : (may : ℕ → Type 0) (v : FlashValue) (run : Running) (k : KernelState) (place : ℕ) (i : Instr) (is : List Instr) → InBank v run k → Stand (words_of v run.domain) place (i ∷ is) → IsStraight i
    → StoresInside i (at_counter k.processor (behind_place run place i))
    → ((a over : ℕ) → Names a (writes i over (at_counter k.processor (behind_place run place i))) → may a)
    → Steps may v run k (address_in run.domain place) (going (with_processor k (plain_effect i k.processor)) (behind_place run place i))
straight_step may v run k place i is b stand straight inside wrote =
    let l : Leads may v run k place i is (at_counter (plain_effect i k.processor) (behind_place run place i)) = record {
      stand = stand;
      leads = straight_moves i _ (behind_place run place i) k.processor straight;
      can = record { runnable = straight_runs i straight; inside = inside; next = λ skip. absurd (straight_skips_not i straight skip) };
      wrote = λ a w. wrote a _ w;
    } in
    let few = one_word_at_least i in
    let within = stand_within (words_of v run.domain) place i is stand in
    let below = b.below in
    let fits = b.fits in
    goes may v run k b place i is (at_counter (plain_effect i k.processor) (behind_place run place i)) l (omega (arith, few, within, below, fits))

-- the processor with an address pushed, and SP as before
abbrev pub pushed_by : Processor → ℕ → Processor
pushed_by p back = record p { memory = with_pushed p.memory p.sp back }

-- What an entry comes to, from a processor that returns from it to a place with these two bytes pushed.
pub record Row (may : ℕ → Type 0) (e : Entry) (v : FlashValue) (run : Running) (k : KernelState) (back : ℕ) (r : Reached) : Type 0 where
  pub is : (c : CountingProcessor) → returned_from c ≡ at_counter (pushed_by k.processor back) back → entry_row e v run k c ≡ r
  pub can : (c : CountingProcessor) → returned_from c ≡ at_counter (pushed_by k.processor back) back → CanEnter e v run k c
  pub wrote : (a : ℕ) (c : CountingProcessor) → returned_from c ≡ at_counter (pushed_by k.processor back) back → EntryWrites a (Some e) v run k c → may a

-- A stack pointer in the stack, and the whole memory.
pub record OnStack (p : Processor) : Type 0 where
  pub floor : floor ≤ p.sp
  pub top : p.sp ≤ stack_top
  pub whole : length p.memory ≡ ram_bytes

call_can : (banks : Banks) (p : Processor) (b n : ℕ) → OnStack p → CanRunOne banks (at_counter p b) (Call n)
unfolding IsRunnable IsSkip StoresInside writes
call_can banks p b n h =
    let low = h.floor in
    let high = h.top in
    let down : lowered p.sp ≡ p.sp - 1 = omega (arith, low, high) in
    record {
      runnable = tt;
      inside = ((omega (arith, low), omega (arith, high)), ((omega (arith, low, down), omega (arith, high, down)), tt));
      next = λ skip. absurd skip;
    }

call_names : (may : ℕ → Type 0) (a n over b : ℕ) (p : Processor) → OnStack p → may p.sp → may (p.sp - 1) → Names a (writes (Call n) over (at_counter p b)) → may a
unfolding writes
call_names may a n over b p h first second w =
    let low = h.floor in
    let high = h.top in
    let down : lowered p.sp ≡ p.sp - 1 = omega (arith, low, high) in
    elim w [
      | inl one ↦ subst may one first
      | inr rest ↦ elim rest [ inl two ↦ subst may (sym down ∙ two) second | inr none ↦ absurd none ]
    ]

-- The CALL of an entry.
pub call_step : (may : ℕ → Type 0) (v : FlashValue) (run : Running) (k : KernelState) (place : ℕ) (e : Entry) (is : List Instr) (r : Reached) → InBank v run k → Stand (words_of v run.domain) place (enter e ∷ is)
    → IsEntry e → OnStack k.processor → ((a : ℕ) → red_zone_start ≤ a → a ≤ k.processor.sp → may a) → Row may e v run k (address_in run.domain (place + 2)) r
    → Steps may v run k (address_in run.domain place) r
call_step may v run k place e is r b stand entry stack dead row =
    let p = k.processor in
    let back = address_in run.domain (place + 2) in
    let low = stack.floor in
    let high = stack.top in
    let at = entry_stands e entry in
    let small = page_below e (address_of e) at in
    let target : address_of e % 65536 ≡ address_of e = omega (arith, small) in
    let n = after_call (at_counter p back) (address_of e % 65536) in
    let within = stand_within (words_of v run.domain) place (enter e) is stand in
    let below = b.below in
    let fits = b.fits in
    let down : lowered p.sp ≡ p.sp - 1 = omega (arith, low, high) in
    let ret : returned_from n ≡ at_counter (pushed_by p back) back
    = ret_gives_back 0 (address_of e % 65536) (at_counter p back) (record { whole = stack.whole; first = (omega (arith, low), omega (arith, high)); second = (omega (arith, low, down), omega (arith, high, down)) })
    (omega (arith, within, below, fits)) in
    let l : Leads may v run k place (enter e) is n = record {
      stand = stand;
      leads = call_pushes (address_of e) _ (at_counter p back);
      can = call_can v.flash p back (address_of e) stack;
      wrote = λ a w. call_names may a (address_of e) _ back p stack (dead p.sp (omega (arith, low)) (omega arith)) (dead (p.sp - 1) (omega (arith, low)) (omega arith)) w;
    } in
    let P : ℕ → Type 0 = λ x. StandsAt e x in
    let from = page_from e (address_of e) at in
    turned
    (enters may v run k b place (enter e) is n l e (omega (arith, target, from)) (subst P (sym target) at) (row.can n ret) (λ a w. row.wrote a n ret w))
    r (row.is n ret)
