-- A run of words, one instruction at a time.
use Rattle.std.proofs.Common.{◌≡◌, ◌∙◌, ℕ, suc, ◌+◌, ◌%◌, ◌<◌, ◌≤◌, Bool, true, false, List, [], ◌∷◌, ◌++◌, length, Option, None, Some, Result, Ok, refl, sym, ap, subst, arith, inl, inr}
use Rattle.std.specs.Prelude.{nat_le}
use Rattle.std.proofs.lemmas.Bool.Decides.{nat_tests}
use Rattle.std.proofs.lemmas.List.Elements.{filter-append}
use Rattle.avr_isa.specs.declared.instruction.Instr.{Instr}
use Rattle.avr_isa.specs.declared.instruction.DecodeError.{DecodeError}
use Rattle.avr_machine.specs.Processor.{Processor as CountingProcessor}
use Rattle.avr_machine.specs.Effect.{effect, writes}
use Rattle.avr_machine.specs.Flash.{Banks}
use Rattle.avr_machine.specs.Step.{advanced, fetched, following, CanRun as CanRunOne, CanStep}
use Rattle.mote_layout.specs.Memory.{bank_words, domain_count}
use Rattle.mote_layout.specs.Page.{page_start, entry_at, StandsAt}
use Rattle.mote_layout.specs.declared.page.Entry.{Entry}
use Rattle.mote_layout.specs.declared.page.Entry.TheVariants.{StoreY, StoreZ, LoadY, LoadZ, Kernel, Slot}
use Rattle.mote_layout.proofs.EntryPage.{entry_at-some}
use Rattle.unit_code.specs.Lengths.{instruction_length}
use Rattle.domain_model.specs.declared.fault.FaultNote.{FaultNote}
use Rattle.domain_model.specs.declared.fault.UnitEnd.{UnitEnd}
use Rattle.domain_model.specs.declared.fault.UnitEnd.TheVariants.{On, Fault}
use Rattle.domain_model.specs.declared.handler.Running.{Running}
use Rattle.domain_model.specs.declared.line.TraceLine.{TraceLine}
use Rattle.domain_model.specs.State.{KernelState, at_counter, without_counter, with_processor}
use Rattle.domain_model.specs.Act.{Acted, goes_to}
use Rattle.domain_model.specs.Runners.{without_ran, unit_by}
use Rattle.word_run.specs.FlashValue.{FlashValue, part, words_of, address_in, unit_at}
use Rattle.word_run.specs.Entries.{Goes, Ends, Reached, going, entry_row}
use Rattle.word_run.specs.WordRun.{WordsActed, after_found, after_one, arrived, at_entry, behind, goes_from, goes_in, goes_on, one_step, ran_lines, run_from}
use Rattle.word_run.specs.CanRun.{CanRun, CanStepAt, CanArrive, CanEnter, CanEnterAt, CanGoBy, CanGoFrom, CanGoIn}
use Rattle.word_run.specs.Writing.{Names, InstructionWrites, EntryWrites, ArrivalWrites, GuardWrites, StepWrites, Writes, WritesBy, WritesFrom, WritesIn}
use Rattle.word_run.proofs.Fetched.{Stand, fetches, stand_within, one_word_at_least}

-- What one step from a program address leads to, that it can be made, and that it writes only bytes that may be written.
pub record Steps (may : ℕ → Type 0) (v : FlashValue) (run : Running) (k : KernelState) (address : ℕ) (r : Reached) : Type 0 where
  pub is : one_step v run k address ≡ r
  pub can : CanStepAt v run k address
  pub wrote : (a : ℕ) → StepWrites a v run k address → may a

pub turned : {may : ℕ → Type 0} {v : FlashValue} {run : Running} {k : KernelState} {address : ℕ} {r : Reached} → Steps may v run k address r → (t : Reached) → r ≡ t → Steps may v run k address t
turned s t e = record { is = s.is ∙ e; can = s.can; wrote = s.wrote }

-- A domain runs, and its bank has room for its words.
pub record InBank (v : FlashValue) (run : Running) (k : KernelState) : Type 0 where
  pub running : k.running ≡ Some run
  pub below : run.domain < domain_count
  pub fits : length (words_of v run.domain) ≤ bank_words

-- An instruction that stands in the bank, and leads from the address behind it to the processor n.
pub record Leads (may : ℕ → Type 0) (v : FlashValue) (run : Running) (k : KernelState) (place : ℕ) (i : Instr) (is : List Instr) (n : CountingProcessor) : Type 0 where
  pub stand : Stand (words_of v run.domain) place (i ∷ is)
  pub leads : effect i (following v.flash (address_in run.domain (place + instruction_length i))) (at_counter k.processor (address_in run.domain (place + instruction_length i))) ≡ n
  pub can : CanRunOne v.flash (at_counter k.processor (address_in run.domain (place + instruction_length i))) i
  pub wrote : (a : ℕ) → Names a (writes i (following v.flash (address_in run.domain (place + instruction_length i))) (at_counter k.processor (address_in run.domain (place + instruction_length i)))) → may a

can_step : (flash : Banks) (c : CountingProcessor) (i : Instr) (m : ℕ) → fetched flash c.pc ≡ Ok (i, m) → CanRunOne flash (advanced c m) i → CanStep flash c
can_step flash c i m is can = rw is can

module _ (may : ℕ → Type 0) (v : FlashValue) (run : Running) (k : KernelState) (b : InBank v run k) (place : ℕ) (i : Instr) (is : List Instr) (n : CountingProcessor) (l : Leads may v run k place i is n) where
  from : CountingProcessor
  from = at_counter k.processor (address_in run.domain place)

  to : ℕ
  to = address_in run.domain (place + instruction_length i)

  found : fetched v.flash (address_in run.domain place) ≡ Ok (i, instruction_length i)
  found = fetches v.flash run.domain place i is b.below b.fits l.stand

  next : (address_in run.domain place + instruction_length i) % 65536 ≡ address_in run.domain (place + instruction_length i)
  next =
      let few = one_word_at_least i in
      let within = stand_within (words_of v run.domain) place i is l.stand in
      let below = b.below in
      let fits = b.fits in
      omega (arith, few, within, below, fits)

  after : after_one v.flash (at_counter k.processor (address_in run.domain place)) ≡ n
  after =
      ap (λ r. after_found r v.flash (at_counter k.processor (address_in run.domain place))) found
      ∙ ap (λ x. effect i (following v.flash x) (at_counter k.processor x)) next
      ∙ l.leads

  stepped : CanStep v.flash (at_counter k.processor (address_in run.domain place))
  stepped =
      can_step v.flash (at_counter k.processor (address_in run.domain place)) i (instruction_length i) found
      (subst (λ (x : ℕ). CanRunOne v.flash (at_counter k.processor x) i) (sym next) l.can)

  instruction_wrote : (a : ℕ) → InstructionWrites a (fetched v.flash (address_in run.domain place)) v.flash (at_counter k.processor (address_in run.domain place)) → may a
  instruction_wrote a w =
      let P : Result (Instr × ℕ) DecodeError → Type 0 = λ r. InstructionWrites a r v.flash (at_counter k.processor (address_in run.domain place)) in
      let Q : ℕ → Type 0 = λ x. Names a (writes i (following v.flash x) (at_counter k.processor x)) in
      l.wrote a (subst Q next (subst P found w))

  -- an instruction that leads to no entry
  pub goes : n.pc < page_start → Steps may v run k (address_in run.domain place) (going (with_processor k (without_counter n)) n.pc)
  goes below =
      let test : nat_le page_start n.pc ≡ false = grind (arith, nat_tests) in
      let P : CountingProcessor → Type 0 = λ x. CanArrive (nat_le page_start x.pc) v run k x in
      let Q : Bool → Type 0 = λ t. CanArrive t v run k n in
      record {
        is = ap (λ x. arrived (nat_le page_start x.pc) v run k x) after ∙ ap (λ t. arrived t v run k n) test;
        can = record { running = b.running; domain = b.below; step = stepped; entry = subst P (sym after) (subst Q (sym test) tt) };
        wrote = λ a w. elim w [
          | inl one ↦ instruction_wrote a one
          | inr guard ↦
              let R : CountingProcessor → Type 0 = λ x. GuardWrites a v run k x in
              let S : Bool → Type 0 = λ t. ArrivalWrites a t v run k n in
              absurd (subst S test (subst R after guard))
        ];
      }

  -- an instruction that leads to an entry
  pub enters : (e : Entry) → page_start ≤ n.pc → StandsAt e n.pc → CanEnter e v run k n → ((a : ℕ) → EntryWrites a (Some e) v run k n → may a)
      → Steps may v run k (address_in run.domain place) (entry_row e v run k n)
  enters e above stands enter clears =
      let test : nat_le page_start n.pc ≡ true = grind (arith, nat_tests) in
      let there : entry_at n.pc ≡ Some e = (entry_at-some n.pc e).1 stands in
      let P : CountingProcessor → Type 0 = λ x. CanArrive (nat_le page_start x.pc) v run k x in
      let Q : Bool → Type 0 = λ t. CanArrive t v run k n in
      let R : Option Entry → Type 0 = λ o. CanEnterAt o v run k n in
      record {
        is = ap (λ x. arrived (nat_le page_start x.pc) v run k x) after ∙ ap (λ t. arrived t v run k n) test ∙ ap (λ o. at_entry o v run k n) there;
        can = record { running = b.running; domain = b.below; step = stepped; entry = subst P (sym after) (subst Q (sym test) (subst R (sym there) enter)) };
        wrote = λ a w. elim w [
          | inl one ↦ instruction_wrote a one
          | inr guard ↦
              let G : CountingProcessor → Type 0 = λ x. GuardWrites a v run k x in
              let S : Bool → Type 0 = λ t. ArrivalWrites a t v run k n in
              let T : Option Entry → Type 0 = λ o. EntryWrites a o v run k n in
              clears a (subst T there (subst S test (subst G after guard)))
        ];
      }

-- The page stands above all code, and its addresses are words.
pub page_from : (e : Entry) (a : ℕ) → StandsAt e a → page_start ≤ a
page_from (StoreY q) a h = omega (arith, h)
page_from (StoreZ q) a h = omega (arith, h)
page_from (LoadY q) a h = omega (arith, h)
page_from (LoadZ q) a h = omega (arith, h)
page_from (Kernel n) a h = omega (arith, h)
page_from (Slot i) a h = omega (arith, h)
page_from _ a h = omega (arith, h)

pub page_below : (e : Entry) (a : ℕ) → StandsAt e a → a < 65536
page_below (StoreY q) a h = omega (arith, h)
page_below (StoreZ q) a h = omega (arith, h)
page_below (LoadY q) a h = omega (arith, h)
page_below (LoadZ q) a h = omega (arith, h)
page_below (Kernel n) a h = omega (arith, h)
page_below (Slot i) a h = omega (arith, h)
page_below _ a h = omega (arith, h)

-- Lines of instructions are left out.

abbrev pub with_lines : List TraceLine → Acted → Acted
with_lines more a = record a { lines = more ++ a.lines }

begun_quiet : (t : Bool) (flash : Banks) (c : CountingProcessor) (a : WordsActed) → unit_by part (behind (ran_lines t flash c) a) ≡ unit_by part a
begun_quiet true flash c a = refl
begun_quiet false flash c a = refl

told : (more : List TraceLine) (a : WordsActed) → unit_by part (behind more a) ≡ with_lines (without_ran more) (unit_by part a)
told more a = ap (λ ls. record (unit_by part a) { lines = ls }) (filter-append _ more a.lines)

-- What the words from a program address come to, that they can be run, that they write only what may be written, and that where the unit
-- is refused it is by the first of them.
pub record RunsTo (may : ℕ → Type 0) (n : ℕ) (v : FlashValue) (run : Running) (k : KernelState) (address : ℕ) (got : Acted) : Type 0 where
  pub is : unit_by part (run_from n v run k address) ≡ got
  pub can : CanRun n v run k address
  pub wrote : (a : ℕ) → Writes a n v run k address → may a
  pub faults : (note : FaultNote) → got.ending ≡ Fault note → (one_step v run k address).way ≡ Ends (Fault note)

pub turned_to : {may : ℕ → Type 0} {n : ℕ} {v : FlashValue} {run : Running} {k : KernelState} {address : ℕ} {got : Acted} → RunsTo may n v run k address got → (other : Acted) → got ≡ other → RunsTo may n v run k address other
turned_to r other e = record { is = r.is ∙ e; can = r.can; wrote = r.wrote; faults = λ note f. r.faults note (ap (λ a. a.ending) e ∙ f) }

goes_on_fault : (note : FaultNote) → On ≡ Fault note → ⊥
goes_on_fault note e = cc

module _ (may : ℕ → Type 0) (n : ℕ) (v : FlashValue) (run : Running) (k : KernelState) (a : ℕ) where
  after_step : (r : Reached) → one_step v run k a ≡ r → unit_by part (run_from (suc n) v run k a) ≡ unit_by part (goes_on r (run_from n v) v)
  after_step r e =
      begun_quiet v.tells v.flash (at_counter k.processor a) (goes_on (one_step v run k a) (run_from n v) v)
      ∙ ap (λ x. unit_by part (goes_on x (run_from n v) v)) e

  module _ (run2 : Running) (k2 : KernelState) (b : ℕ) (more : List TraceLine) (s : Steps may v run k a (record { kernel = k2; lines = more; way = Goes b })) (running : k2.running ≡ Some run2) (below : run2.domain < domain_count) where
    on_from : (o : Option ℕ) → unit_at v run2.domain b ≡ o → unit_by part (run_from (suc n) v run k a) ≡ with_lines (without_ran more) (unit_by part (goes_from o (run_from n v) v run2 k2 b))
    on_from o lands =
        after_step (record { kernel = k2; lines = more; way = Goes b }) s.is
        ∙ ap (λ x. unit_by part (behind more (goes_in x (run_from n v) v k2 b))) running
        ∙ ap (λ x. unit_by part (behind more (goes_from x (run_from n v) v run2 k2 b))) lands
        ∙ told more (goes_from o (run_from n v) v run2 k2 b)

    can_from : (o : Option ℕ) → unit_at v run2.domain b ≡ o → CanGoFrom o (CanRun n v) run2 k2 b → CanRun (suc n) v run k a
    can_from o lands can =
        let P : Reached → Type 0 = λ r. CanGoBy r.way (CanRun n v) v r.kernel in
        let Q : Option Running → Type 0 = λ x. CanGoIn x (CanRun n v) v k2 b in
        let R : Option ℕ → Type 0 = λ x. CanGoFrom x (CanRun n v) run2 k2 b in
        (s.can, subst P (sym s.is) (subst Q (sym running) (below, subst R (sym lands) can)))

    wrote_from : (o : Option ℕ) → unit_at v run2.domain b ≡ o → ((x : ℕ) → WritesFrom o (Writes x n v) run2 k2 b → may x) → (x : ℕ) → Writes x (suc n) v run k a → may x
    wrote_from o lands rest x w =
        elim w [
          | inl first ↦ s.wrote x first
          | inr later ↦
              let P : Reached → Type 0 = λ r. WritesBy r.way (Writes x n v) v r.kernel in
              let Q : Option Running → Type 0 = λ y. WritesIn y (Writes x n v) v k2 b in
              let R : Option ℕ → Type 0 = λ y. WritesFrom y (Writes x n v) run2 k2 b in
              rest x (subst R lands (subst Q running (subst P s.is later)))
        ]

    -- The words run on, inside of a template, and the unit is not refused there.
    pub continues : (got : Acted) → unit_at v run2.domain b ≡ None → RunsTo may n v run2 k2 b got → got.ending ≡ On → RunsTo may (suc n) v run k a (with_lines (without_ran more) got)
    continues got none rest on = record {
      is = on_from None none ∙ ap (with_lines (without_ran more)) rest.is;
      can = can_from None none rest.can;
      wrote = wrote_from None none rest.wrote;
      faults = λ note f. absurd (goes_on_fault note (sym on ∙ f));
    }

    -- The unit ends, at the start of a template.
    pub ends : (u : ℕ) → unit_at v run2.domain b ≡ Some u → RunsTo may (suc n) v run k a (with_lines (without_ran more) (goes_to u k2 (part v) []))
    ends u some = record {
      is = on_from (Some u) some;
      can = can_from (Some u) some tt;
      wrote = wrote_from (Some u) some (λ x none. absurd none);
      faults = λ note f. absurd (goes_on_fault note f);
    }

  -- The unit is refused, or the handler is over.
  pub halts : (k2 : KernelState) (more : List TraceLine) (ending : UnitEnd) → Steps may v run k a (record { kernel = k2; lines = more; way = Ends ending })
      → RunsTo may (suc n) v run k a (with_lines (without_ran more) (record { kernel = k2; runner = part v; lines = []; ending = ending }))
  halts k2 more ending s = record {
    is = after_step (record { kernel = k2; lines = more; way = Ends ending }) s.is ∙ told more (record { kernel = k2; runner = v; lines = []; ending = ending });
    can = let P : Reached → Type 0 = λ r. CanGoBy r.way (CanRun n v) v r.kernel in (s.can, subst P (sym s.is) tt);
    wrote = λ x w. elim w [
      | inl first ↦ s.wrote x first
      | inr later ↦ let P : Reached → Type 0 = λ r. WritesBy r.way (Writes x n v) v r.kernel in absurd (subst P s.is later)
    ];
    faults = λ note f. ap (λ r. r.way) s.is ∙ ap Ends f;
  }
