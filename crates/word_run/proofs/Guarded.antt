-- Units of one instruction behind a guard.
use Rattle.std.proofs.Common.{◌≡◌, ◌∙◌, ℕ, ◌+◌, ◌<◌, ◌≤◌, Bool, true, false, List, [], ◌∷◌, length, Some, refl, sym, ap, subst, arith}
use Rattle.avr_isa.specs.declared.instruction.Instr.{Instr}
use Rattle.avr_machine.specs.Conditions.{IsStraight, StoresInside}
use Rattle.avr_machine.specs.Effect.{writes}
use Rattle.avr_machine.specs.Processor.{Processor as CountingProcessor}
use Rattle.mote_layout.specs.Memory.{red_zone_start}
use Rattle.mote_layout.specs.declared.page.Entry.{Entry}
use Rattle.unit_code.specs.Lengths.{instruction_length, spelled_length}
use Rattle.unit_code.specs.Templates.{IsEntry, enter}
use Rattle.unit_code.specs.declared.unit.Unit.{Unit}
use Rattle.domain_model.specs.declared.fault.Rule.{Rule}
use Rattle.domain_model.specs.declared.fault.UnitEnd.TheVariants.{Fault}
use Rattle.domain_model.specs.declared.handler.Running.{Running}
use Rattle.domain_model.specs.State.{KernelState, Processor, at_counter, without_counter, with_processor}
use Rattle.domain_model.specs.Act.{act_effect, faults, goes_to, plain_effect}
use Rattle.domain_model.specs.Free.{SameKernel}
use Rattle.word_run.specs.FlashValue.{FlashValue, part, words_of, starts_of, address_in, entry_point}
use Rattle.word_run.specs.Entries.{Reached, back_kernel, called_row, entry_row, going, guarded, refused, returned_from}
use Rattle.word_run.specs.CanRun.{CanCall, CanEnter, IsOnStack}
use Rattle.word_run.specs.Writing.{EntryWrites, Names}
use Rattle.word_run.proofs.Fetched.{Stand, one_word_at_least, stand_behind}
use Rattle.word_run.proofs.Moves.{OnStack, Row, behind_place, call_step, pushed_by, straight_step}
use Rattle.word_run.proofs.Same.{IsBut, Meets, but_itself, but_pushed, dead_free, free_of, like_met, still_met}
use Rattle.word_run.proofs.Setting.{Setting, lands_inside, lands_next, start, start_below}
use Rattle.word_run.proofs.Steps.{InBank, Steps, continues, ends, halts, turned}

-- the address behind the CALL at a template's start
abbrev pub behind_call : FlashValue → Running → ℕ
behind_call v run = address_in run.domain (start v run + 2)

-- processor and kernel that are back there
abbrev pub back_processor : FlashValue → Running → KernelState → Processor
back_processor v run k = pushed_by k.processor (behind_call v run)

abbrev pub back_in : FlashValue → Running → KernelState → KernelState
back_in v run k = with_processor k (back_processor v run k)

-- The row of an entry that is called, where that is its row by its name.
pub called_entry : (may : ℕ → Type 0) (e : Entry) (v : FlashValue) (run : Running) (k : KernelState) (back : ℕ) (r : Reached)
    → ((c : CountingProcessor) → entry_row e v run k c ≡ called_row e v run (back_kernel k c) (returned_from c).pc)
    → ((c : CountingProcessor) → IsOnStack run (back_kernel k c).processor → CanCall e v run (back_kernel k c) → CanEnter e v run k c)
    → called_row e v run (with_processor k (pushed_by k.processor back)) back ≡ r
    → IsOnStack run k.processor → CanCall e v run (with_processor k (pushed_by k.processor back))
    → ((a : ℕ) (c : CountingProcessor) → returned_from c ≡ at_counter (pushed_by k.processor back) back → EntryWrites a (Some e) v run k c → may a)
    → Row may e v run k back r
called_entry may e v run k back r alike enter_by is stack can wrote =
    let q = pushed_by k.processor back in
    let on_stack : IsOnStack run q = record { floor = stack.floor; base = stack.base; top = stack.top } in
    record {
      is = λ c ret. alike c ∙ ap (λ x. called_row e v run (with_processor k (without_counter x)) x.pc) ret ∙ is;
      can = λ c ret.
          let P : CountingProcessor → Type 0 = λ x. IsOnStack run (without_counter x) in
          let Q : CountingProcessor → Type 0 = λ x. CanCall e v run (with_processor k (without_counter x)) in
          enter_by c (subst P (sym ret) on_stack) (subst Q (sym ret) can);
      wrote = wrote;
    }

module _ (v : FlashValue) (run : Running) (k : KernelState) (x : Unit) (s : Setting v run k x) where
  pub on_stack : OnStack k.processor
  on_stack = let base = s.base in let top = s.top in record { floor = s.floor; top = omega (arith, base, top); whole = s.processor.memory }

  pub in_stack : IsOnStack run k.processor
  in_stack = record { floor = s.floor; base = s.base; top = s.top }

  pub back_small : behind_call v run < 65536
  back_small =
      let low = start_below v run k x s v.unit s.here in
      let below = s.in_bank.below in
      omega (arith, low, below)

  -- what the CALL pushed is free where all is up to SP
  pub call_but : (free : ℕ → Bool) → ((y : ℕ) → red_zone_start ≤ y → y ≤ k.processor.sp → free y ≡ true) → IsBut free k.processor.memory (back_processor v run k).memory
  call_but free dead =
      let low = s.floor in
      let base = s.base in
      let top = s.top in
      but_pushed free k.processor.memory k.processor.memory k.processor.sp (behind_call v run) (but_itself free k.processor.memory s.processor.memory_bytes)
      (omega (arith, low)) (omega (arith, base, top)) back_small dead

  -- the kernel runs on where it is back
  pub back_bank : InBank v run (back_in v run k)
  back_bank = record { running = s.in_bank.running; below = s.in_bank.below; fits = s.in_bank.fits }

  -- The unit is refused at its guard.
  pub refused_unit : (may : ℕ → Type 0) (why : Rule) (address : ℕ) → Steps may v run k (entry_point v run.domain v.unit) (refused why address (back_in v run k)) → Meets may (faults why address k (part v)) v run k
  refused_unit may why address step =
      let note = Fault (record { rule = why; address = address }) in
      still_met may (faults why address k (part v)) v run k (back_processor v run k).memory refl refl refl
      (halts may 3 v run k (entry_point v run.domain v.unit) (back_in v run k) [] note step)
      (λ enters. call_but (free_of k (faults why address k (part v)) enters) (λ y above below. dead_free k (faults why address k (part v)) enters y above below))

-- What a guarded unit shows.
pub record IsGuardedBy (may : ℕ → Type 0) (b : Bool) (why : Rule) (address : ℕ) (v : FlashValue) (run : Running) (k : KernelState) (x : Unit) (s : Setting v run k x) (i : Instr) (e : Entry) : Type 0 where
  pub behind : List Instr
  pub stand : Stand (words_of v run.domain) (start v run) (enter e ∷ i ∷ behind)
  pub long : spelled_length x s.nth.shape ≡ 2 + instruction_length i
  pub entry : IsEntry e
  pub straight : IsStraight i
  pub dead : (a : ℕ) → red_zone_start ≤ a → a ≤ k.processor.sp → may a
  pub row : Row may e v run k (behind_call v run) (guarded b why address (back_in v run k) (behind_call v run))
  pub inside : b ≡ true → (c : ℕ) → StoresInside i (at_counter (back_processor v run k) c)
  pub names : b ≡ true → (a over c : ℕ) → Names a (writes i over (at_counter (back_processor v run k) c)) → may a
  pub same : b ≡ true → (enters : Bool) → SameKernel (free_of k (act_effect true why address i k (part v)) enters) (with_processor k (plain_effect i k.processor)) (with_processor k (plain_effect i (back_processor v run k)))

pub guarded_unit : (may : ℕ → Type 0) (b : Bool) (why : Rule) (address : ℕ) (v : FlashValue) (run : Running) (k : KernelState) (x : Unit) (s : Setting v run k x) (i : Instr) (e : Entry)
    → v.unit + 1 < length (starts_of v run.domain) → IsGuardedBy may b why address v run k x s i e → Meets may (act_effect b why address i k (part v)) v run k
guarded_unit may true why address v run k x s i e more g =
    let q = back_processor v run k in
    let long = g.long in
    let some = one_word_at_least i in
    let call = call_step may v run k (start v run) e (i ∷ g.behind) (guarded true why address (back_in v run k) (behind_call v run)) s.in_bank g.stand g.entry (on_stack v run k x s) g.dead g.row in
    let behind = stand_behind (words_of v run.domain) (start v run) (enter e) (i ∷ g.behind) g.stand in
    let step = straight_step may v run (back_in v run k) (start v run + 2) i g.behind (back_bank v run k x s) behind g.straight (g.inside refl (behind_place run (start v run + 2) i))
    (λ a over w. g.names refl a over (behind_place run (start v run + 2) i) w) in
    let finish = start v run + spelled_length x s.nth.shape in
    let at : behind_place run (start v run + 2) i ≡ address_in run.domain finish = omega (arith, long) in
    let k3 = with_processor k (plain_effect i q) in
    let got = goes_to (v.unit + 1) k3 (part v) [] in
    let second = ends may 2 v run (back_in v run k) (behind_call v run) run k3 (address_in run.domain finish) []
    (turned step (going k3 (address_in run.domain finish)) (ap (going k3) at)) s.in_bank.running s.in_bank.below (v.unit + 1) (lands_next v run k x s more) in
    let first = continues may 3 v run k (entry_point v run.domain v.unit) run (back_in v run k) (behind_call v run) [] call s.in_bank.running s.in_bank.below got
    (lands_inside v run k x s (start v run + 2) (omega arith) (omega (arith, long, some))) second refl in
    like_met may (act_effect true why address i k (part v)) v run k got first (λ enters. record { kernel = g.same refl enters; runner = refl; lines = refl; ending = refl })
guarded_unit may false why address v run k x s i e more g =
    refused_unit v run k x s may why address
    (call_step may v run k (start v run) e (i ∷ g.behind) (refused why address (back_in v run k)) s.in_bank g.stand g.entry (on_stack v run k x s) g.dead g.row)
