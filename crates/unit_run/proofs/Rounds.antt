-- One round of the run of words, as the code makes it.
use Rattle.std.proofs.Common.{◌≡◌, ◌≢◌, ◌∙◌, ℕ, suc, ◌<◌, ◌-◌, ◌++◌, Bool, true, false, [], Option, None, Some, refl, sym, ap, subst, arith}
use Rattle.std.specs.Prelude.{nat_le}
use Rattle.avr_machine.specs.Processor.{Processor as CountingProcessor}
use Rattle.mote_layout.specs.Memory.{domain_count}
use Rattle.mote_layout.specs.Page.{page_start, entry_at}
use Rattle.mote_layout.specs.declared.page.Entry.{Entry}
use Rattle.mote_layout.specs.declared.page.Entry.TheVariants.{Return}
use Rattle.domain_model.specs.declared.fault.UnitEnd.{UnitEnd}
use Rattle.domain_model.specs.declared.fault.UnitEnd.TheVariants.{On}
use Rattle.domain_model.specs.declared.handler.Running.{Running}
use Rattle.domain_model.specs.State.{KernelState, at_counter, without_counter, with_processor}
use Rattle.word_run.specs.FlashValue.{FlashValue, unit_at}
use Rattle.word_run.specs.Entries.{Way, Goes, Ends, Reached}
use Rattle.word_run.specs.WordRun.{WordsActed, after_one, arrived, at_entry, begun_lines, behind, goes_by, goes_from, goes_in, led_by, one_step, run_from}
use Rattle.word_run.specs.CanRun.{CanArrive, CanBeLed, CanEnterAt, CanGoBy, CanGoFrom, CanGoIn, CanRun, CanStepAt}

less : (left : ℕ) → left ≢ 0 → left ≡ suc (left - 1)
less left some = omega (arith, some)

-- A kernel with the stepped processor is led as the one that made the step.
entry_again : (o : Option Entry) (v : FlashValue) (run : Running) (k : KernelState) (c : CountingProcessor) → at_entry o v run (with_processor k (without_counter c)) c ≡ at_entry o v run k c
entry_again None v run k c = refl
entry_again (Some Return) v run k c = refl
entry_again (Some _) v run k c = refl

arrived_again : (b : Bool) (v : FlashValue) (run : Running) (k : KernelState) (c : CountingProcessor) → arrived b v run (with_processor k (without_counter c)) c ≡ arrived b v run k c
arrived_again false v run k c = refl
arrived_again true v run k c = entry_again (entry_at c.pc) v run k c

can_enter_again : (o : Option Entry) (v : FlashValue) (run : Running) (k : KernelState) (c : CountingProcessor) → CanEnterAt o v run k c → CanEnterAt o v run (with_processor k (without_counter c)) c
can_enter_again None v run k c can = can
can_enter_again (Some Return) v run k c can = can
can_enter_again (Some _) v run k c can = can

can_arrive_again : (b : Bool) (v : FlashValue) (run : Running) (k : KernelState) (c : CountingProcessor) → CanArrive b v run k c → CanArrive b v run (with_processor k (without_counter c)) c
can_arrive_again false v run k c can = can
can_arrive_again true v run k c can = can_enter_again (entry_at c.pc) v run k c can

module _ (v : FlashValue) (run : Running) (k stepped : KernelState) (a next : ℕ) where
  module _ (counter : next ≡ (after_one v.flash (at_counter k.processor a)).pc) (kernel : stepped ≡ with_processor k (without_counter (after_one v.flash (at_counter k.processor a)))) where
    -- so that a step is done in two parts: the instruction, and where it leads
    pub led : led_by v run stepped (at_counter stepped.processor next) ≡ one_step v run k a
    led =
        let c : CountingProcessor = after_one v.flash (at_counter k.processor a) in
        ap (λ (n : ℕ). led_by v run stepped (at_counter stepped.processor n)) counter
        ∙ ap (λ (s : KernelState). led_by v run s (at_counter s.processor c.pc)) kernel
        ∙ arrived_again (nat_le page_start c.pc) v run k c

    pub can_be_led : CanBeLed v run k (after_one v.flash (at_counter k.processor a)) → CanBeLed v run stepped (at_counter stepped.processor next)
    can_be_led can =
        let c : CountingProcessor = after_one v.flash (at_counter k.processor a) in
        let P : ℕ → Type 0 = λ n. CanBeLed v run stepped (at_counter stepped.processor n) in
        let Q : KernelState → Type 0 = λ s. CanBeLed v run s (at_counter s.processor c.pc) in
        subst P (sym counter) (subst Q (sym kernel) (can_arrive_again (nat_le page_start c.pc) v run k c can))

-- The rounds of a run that may go on.
module _ (left : ℕ) (v : FlashValue) (run : Running) (k : KernelState) (a : ℕ) (some : left ≢ 0) where
  abbrev Step : Reached
  Step = one_step v run k a

  round : run_from left v run k a ≡ behind (begun_lines v k a) (behind Step.lines (goes_by Step.way (run_from (left - 1) v) v Step.kernel))
  round = ap (λ n. run_from n v run k a) (less left some)

  can_round : CanRun left v run k a → CanStepAt v run k a × CanGoBy Step.way (CanRun (left - 1) v) v Step.kernel
  can_round can = subst (λ (n : ℕ). CanRun n v run k a) (less left some) can

  pub can_step : CanRun left v run k a → CanStepAt v run k a
  can_step can = (can_round can).0

  -- the unit ends
  pub round_ended : (ending : UnitEnd) → Step.way ≡ Ends ending → run_from left v run k a ≡ record { kernel = Step.kernel; runner = v; lines = begun_lines v k a ++ (Step.lines ++ []); ending = ending }
  round_ended ending is =
      round ∙ ap (λ (w : Way). behind (begun_lines v k a) (behind Step.lines (goes_by w (run_from (left - 1) v) v Step.kernel))) is

  -- or it goes on at an address, with what runs there
  module _ (new : KernelState) (b : ℕ) (at : Running) (kernel : new ≡ Step.kernel) (way : Step.way ≡ Goes b) (running : new.running ≡ Some at) where
    went : (o : Option ℕ) → unit_at v at.domain b ≡ o → run_from left v run k a ≡ behind (begun_lines v k a) (behind Step.lines (goes_from o (run_from (left - 1) v) v at new b))
    went o found =
        let told : WordsActed → WordsActed = λ x. behind (begun_lines v k a) (behind Step.lines x) in
        round
        ∙ ap (λ (w : Way). told (goes_by w (run_from (left - 1) v) v Step.kernel)) way
        ∙ ap (λ (s : KernelState). told (goes_in s.running (run_from (left - 1) v) v s b)) (sym kernel)
        ∙ ap (λ (r : Option Running). told (goes_in r (run_from (left - 1) v) v new b)) running
        ∙ ap (λ (u : Option ℕ). told (goes_from u (run_from (left - 1) v) v at new b)) found

    can_go : CanRun left v run k a → (at.domain < domain_count) × CanGoFrom (unit_at v at.domain b) (CanRun (left - 1) v) at new b
    can_go can =
        let P : Way → Type 0 = λ w. CanGoBy w (CanRun (left - 1) v) v Step.kernel in
        let Q : KernelState → Type 0 = λ s. CanGoIn s.running (CanRun (left - 1) v) v s b in
        let R : Option Running → Type 0 = λ r. CanGoIn r (CanRun (left - 1) v) v new b in
        subst R running (subst Q (sym kernel) (subst P way (can_round can).1))

    pub domain_there : CanRun left v run k a → at.domain < domain_count
    domain_there can = (can_go can).0

    pub can_go_on : unit_at v at.domain b ≡ None → CanRun left v run k a → CanRun (left - 1) v at new b
    can_go_on none can =
        let P : Option ℕ → Type 0 = λ o. CanGoFrom o (CanRun (left - 1) v) at new b in
        subst P none (can_go can).1

    -- to the end at the start of a template
    pub round_landed : (unit : ℕ) → unit_at v at.domain b ≡ Some unit → run_from left v run k a ≡ record { kernel = new; runner = record v { unit = unit }; lines = begun_lines v k a ++ (Step.lines ++ []); ending = On }
    round_landed unit found = went (Some unit) found

    -- or to the next round
    pub round_more : unit_at v at.domain b ≡ None → run_from left v run k a ≡ behind (begun_lines v k a) (behind Step.lines (run_from (left - 1) v at new b))
    round_more none = went None none

  -- Something runs where it goes on.
  pub one_runs : (new : KernelState) (b : ℕ) → new ≡ Step.kernel → Step.way ≡ Goes b → new.running ≡ None → CanRun left v run k a → ⊥
  one_runs new b kernel way none can =
      let P : Way → Type 0 = λ w. CanGoBy w (CanRun (left - 1) v) v Step.kernel in
      let Q : KernelState → Type 0 = λ s. CanGoIn s.running (CanRun (left - 1) v) v s b in
      let R : Option Running → Type 0 = λ r. CanGoIn r (CanRun (left - 1) v) v new b in
      subst R none (subst Q (sym kernel) (subst P way (can_round can).1))
