-- Groups that set the stack pointer.
use Rattle.std.proofs.Common.{◌≡◌, ◌∙◌, ℕ, ◌+◌, ◌-◌, ◌*◌, ◌/◌, ◌%◌, ◌<◌, ◌≤◌, ◌==◌, ◌||◌, Bool, true, false, List, [], ◌∷◌, length, refl, sym, ap, subst, arith, inl, inr}
use Rattle.std.specs.Prelude.{nat_le, slice_index}
use Rattle.std.proofs.lemmas.Bool.{cases_lt, leb-true, true≢false}
use Rattle.avr_isa.specs.declared.instruction.Instr.{Instr}
use Rattle.avr_isa.specs.declared.instruction.Instr.TheVariants as instr
use Rattle.avr_machine.specs.Conditions.{IsRunnable, IsSkip, StoresInside}
use Rattle.avr_machine.specs.Effect.{effect, writes}
use Rattle.avr_machine.specs.Flash.{Banks}
use Rattle.avr_machine.specs.Processor.{Processor as CountingProcessor, high, low, lowered}
use Rattle.avr_machine.specs.Step.{CanRun as CanRunOne}
use Rattle.mote_layout.specs.Memory.{floor, ram_start, red_zone_start, sph_port, spl_port, sreg_port}
use Rattle.mote_layout.specs.declared.page.Entry.TheVariants as entry
use Rattle.unit_code.specs.Lengths.{spelled_length}
use Rattle.unit_code.specs.Spelled.{out_high, out_low, out_status}
use Rattle.unit_code.specs.Templates.{enter}
use Rattle.unit_code.specs.declared.unit.Unit.TheVariants.{SpGroup}
use Rattle.domain_model.specs.declared.fault.Rule.TheVariants as rule
use Rattle.domain_model.specs.declared.handler.Running.{Running}
use Rattle.domain_model.specs.State.{KernelState, Processor, at_counter, without_counter, with_processor}
use Rattle.domain_model.specs.Act.{act_group, act_under, act_unit, goes_to, group_effect, group_sp}
use Rattle.domain_model.proofs.BlockLaws.{zeros_length}
use Rattle.domain_model.proofs.ByteLists.{zeros_bytes}
use Rattle.word_run.specs.FlashValue.{FlashValue, part, words_of, starts_of, address_in, entry_point}
use Rattle.word_run.specs.Entries.{called_row, going, group_guarded, group_under, uncovered}
use Rattle.word_run.specs.Writing.{GuardClears, Names}
use Rattle.word_run.proofs.Fetched.{Stand, stand_behind, stand_within}
use Rattle.word_run.proofs.Guarded.{back_in, back_processor, behind_call, call_but, called_entry, in_stack, on_stack, refused_unit}
use Rattle.word_run.proofs.Loads.{pushed_other}
use Rattle.word_run.proofs.Moves.{Row, call_step}
use Rattle.word_run.proofs.Same.{IsBut, Meets, dead_free, free_of, like_met, same_but}
use Rattle.word_run.proofs.Setting.{Setting, laid, lands_inside, lands_next, start}
use Rattle.word_run.proofs.Steps.{InBank, Leads, RunsTo, Steps, continues, ends, goes, turned}
use Rattle.word_run.proofs.Zeros.{zeros_before, zeros_past, zeros_there}

-- The instructions of a group.

abbrev after_high : Processor → Processor
after_high p = record p { sp = slice_index p.registers 29 * 256 + low p.sp }

abbrev after_status : Processor → Processor
after_status p = record p { sreg = slice_index p.registers 0 }

abbrev after_low : Processor → Processor
after_low p = record p { sp = high p.sp * 256 + slice_index p.registers 28 }

high_moves : (p : Processor) (over b : ℕ) → effect out_high over (at_counter p b) ≡ at_counter (after_high p) b
unfolding writes
high_moves p over b = refl

status_moves : (p : Processor) (over b : ℕ) → effect out_status over (at_counter p b) ≡ at_counter (after_status p) b
unfolding writes
status_moves p over b = refl

low_moves : (p : Processor) (over b : ℕ) → effect out_low over (at_counter p b) ≡ at_counter (after_low p) b
unfolding writes
low_moves p over b = refl

out_can : (banks : Banks) (r port : ℕ) (c : CountingProcessor) → (port == spl_port || (port == sph_port || port == sreg_port)) ≡ true → CanRunOne banks c (instr.Out r port)
unfolding IsRunnable IsSkip StoresInside writes
out_can banks r port c is = record { runnable = is; inside = tt; next = λ skip. absurd skip }

out_names : (may : ℕ → Type 0) (r port a over : ℕ) (c : CountingProcessor) → Names a (writes (instr.Out r port) over c) → may a
unfolding writes
out_names may r port a over c w = absurd w

out_step : (may : ℕ → Type 0) (v : FlashValue) (run : Running) (k : KernelState) (place r port : ℕ) (is : List Instr) (p2 : Processor) → InBank v run k → Stand (words_of v run.domain) place (instr.Out r port ∷ is)
    → (port == spl_port || (port == sph_port || port == sreg_port)) ≡ true → ((over b : ℕ) → effect (instr.Out r port) over (at_counter k.processor b) ≡ at_counter p2 b)
    → Steps may v run k (address_in run.domain place) (going (with_processor k p2) (address_in run.domain (place + 1)))
out_step may v run k place r port is p2 b stand fine moves =
    let l : Leads may v run k place (instr.Out r port) is (at_counter p2 (address_in run.domain (place + 1))) = record {
      stand = stand;
      leads = moves _ (address_in run.domain (place + 1));
      can = out_can v.flash r port _ fine;
      wrote = λ a w. out_names may r port a _ _ w;
    } in
    let below = b.below in
    let fits = b.fits in
    let within = stand_within (words_of v run.domain) place (instr.Out r port) is stand in
    goes may v run k b place (instr.Out r port) is (at_counter p2 (address_in run.domain (place + 1))) l (omega (arith, below, fits, within))

abbrev grouped : Bool → Processor → Processor
grouped true p = after_low (after_status (after_high p))
grouped false p = after_low (after_high p)

grouped_is : (b : Bool) (p : Processor) (m : List ℕ) → grouped b (record p { memory = m }) ≡ record (group_effect b p) { memory = m }
grouped_is true p m =
    let e : (slice_index p.registers 29 * 256 + p.sp % 256) / 256 * 256 + slice_index p.registers 28 ≡ slice_index p.registers 28 + 256 * slice_index p.registers 29 = omega arith in
    ap (λ sp. record { registers = p.registers; sreg = slice_index p.registers 0; sp = sp; memory = m }) e
grouped_is false p m =
    let e : (slice_index p.registers 29 * 256 + p.sp % 256) / 256 * 256 + slice_index p.registers 28 ≡ slice_index p.registers 28 + 256 * slice_index p.registers 29 = omega arith in
    ap (λ sp. record { registers = p.registers; sreg = p.sreg; sp = sp; memory = m }) e

module _ (may : ℕ → Type 0) (v : FlashValue) (run : Running) (k : KernelState) (more : v.unit + 1 < length (starts_of v run.domain)) where
  -- The instructions behind the guard, from whatever processor.
  group_runs : (b : Bool) (s : Setting v run k (SpGroup b)) (p : Processor)
      → RunsTo may 3 v run (with_processor k p) (behind_call v run) (goes_to (v.unit + 1) (with_processor k (grouped b p)) (part v) [])
  group_runs true s p =
      let x = SpGroup true in
      let l = laid v run k x s in
      let words = words_of v run.domain in
      let b : (q : Processor) → InBank v run (with_processor k q) = λ q. record { running = s.in_bank.running; below = s.in_bank.below; fits = s.in_bank.fits } in
      let first : Stand words (start v run + 2) (out_high ∷ out_status ∷ out_low ∷ l.behind) = stand_behind words (start v run) _ (out_high ∷ out_status ∷ out_low ∷ l.behind) l.stand in
      let second : Stand words (start v run + 2 + 1) (out_status ∷ out_low ∷ l.behind) = stand_behind words (start v run + 2) out_high (out_status ∷ out_low ∷ l.behind) first in
      let third : Stand words (start v run + 2 + 1 + 1) (out_low ∷ l.behind) = stand_behind words (start v run + 2 + 1) out_status (out_low ∷ l.behind) second in
      let p1 = after_high p in
      let p2 = after_status p1 in
      let p3 = after_low p2 in
      let got = goes_to (v.unit + 1) (with_processor k p3) (part v) [] in
      let at : address_in run.domain (start v run + 2 + 1 + 1 + 1) ≡ address_in run.domain (start v run + spelled_length x s.nth.shape) = omega arith in
      continues may 2 v run (with_processor k p) (behind_call v run) run (with_processor k p1) (address_in run.domain (start v run + 2 + 1)) []
      (out_step may v run (with_processor k p) (start v run + 2) 29 sph_port (out_status ∷ out_low ∷ l.behind) p1 (b p) first refl (high_moves p)) s.in_bank.running s.in_bank.below got
      (lands_inside v run k x s (start v run + 2 + 1) (omega arith) (omega arith))
      (continues may 1 v run (with_processor k p1) (address_in run.domain (start v run + 2 + 1)) run (with_processor k p2) (address_in run.domain (start v run + 2 + 1 + 1)) []
      (out_step may v run (with_processor k p1) (start v run + 2 + 1) 0 sreg_port (out_low ∷ l.behind) p2 (b p1) second refl (status_moves p1)) s.in_bank.running s.in_bank.below got
      (lands_inside v run k x s (start v run + 2 + 1 + 1) (omega arith) (omega arith))
      (ends may 0 v run (with_processor k p2) (address_in run.domain (start v run + 2 + 1 + 1)) run (with_processor k p3) (address_in run.domain (start v run + spelled_length x s.nth.shape)) []
      (turned (out_step may v run (with_processor k p2) (start v run + 2 + 1 + 1) 28 spl_port l.behind p3 (b p2) third refl (low_moves p2)) _ (ap (going (with_processor k p3)) at))
      s.in_bank.running s.in_bank.below (v.unit + 1) (lands_next v run k x s more)) refl) refl
  group_runs false s p =
      let x = SpGroup false in
      let l = laid v run k x s in
      let words = words_of v run.domain in
      let b : (q : Processor) → InBank v run (with_processor k q) = λ q. record { running = s.in_bank.running; below = s.in_bank.below; fits = s.in_bank.fits } in
      let first : Stand words (start v run + 2) (out_high ∷ out_low ∷ l.behind) = stand_behind words (start v run) _ (out_high ∷ out_low ∷ l.behind) l.stand in
      let second : Stand words (start v run + 2 + 1) (out_low ∷ l.behind) = stand_behind words (start v run + 2) out_high (out_low ∷ l.behind) first in
      let p1 = after_high p in
      let p2 = after_low p1 in
      let got = goes_to (v.unit + 1) (with_processor k p2) (part v) [] in
      let at : address_in run.domain (start v run + 2 + 1 + 1) ≡ address_in run.domain (start v run + spelled_length x s.nth.shape) = omega arith in
      continues may 2 v run (with_processor k p) (behind_call v run) run (with_processor k p1) (address_in run.domain (start v run + 2 + 1)) []
      (out_step may v run (with_processor k p) (start v run + 2) 29 sph_port (out_low ∷ l.behind) p1 (b p) first refl (high_moves p)) s.in_bank.running s.in_bank.below got
      (lands_inside v run k x s (start v run + 2 + 1) (omega arith) (omega arith))
      (ends may 1 v run (with_processor k p1) (address_in run.domain (start v run + 2 + 1)) run (with_processor k p2) (address_in run.domain (start v run + spelled_length x s.nth.shape)) []
      (turned (out_step may v run (with_processor k p1) (start v run + 2 + 1) 28 spl_port l.behind p2 (b p1) second refl (low_moves p1)) _ (ap (going (with_processor k p2)) at))
      s.in_bank.running s.in_bank.below (v.unit + 1) (lands_next v run k x s more)) refl

  -- The CALL of the guard comes first, whatever stands behind it.
  group_first : (b : Bool) (s : Setting v run k (SpGroup b)) → (is : List Instr) × Stand (words_of v run.domain) (start v run) (enter entry.SpGuard ∷ is)
  group_first true s = let l = laid v run k (SpGroup true) s in (out_high ∷ out_status ∷ out_low ∷ l.behind, l.stand)
  group_first false s = let l = laid v run k (SpGroup false) s in (out_high ∷ out_low ∷ l.behind, l.stand)

  inside_group : (b : Bool) (s : Setting v run k (SpGroup b)) → start v run + 2 < start v run + spelled_length (SpGroup b) s.nth.shape
  inside_group true s = omega arith
  inside_group false s = omega arith

  module _ (dead : (a : ℕ) → red_zone_start ≤ a → a ≤ k.processor.sp → may a) (b : Bool) (s : Setting v run k (SpGroup b)) where
    -- What the group uncovers is 0 in both; what it covers is free.
    group_but : (free : ℕ → Bool) → floor ≤ group_sp k.processor → group_sp k.processor ≤ run.base → ((y : ℕ) → red_zone_start ≤ y → y ≤ group_sp k.processor → free y ≡ true)
        → IsBut free (group_effect b k.processor).memory (uncovered (back_processor v run k)).memory
    group_but free least most open_to =
        let p = k.processor in
        let q = back_processor v run k in
        let y = group_sp p in
        let i = y + 1 - ram_start in
        let n = p.sp - y in
        let base = s.base in
        let top = s.top in
        let low_enough = s.floor in
        let whole = s.processor.memory in
        let down : lowered p.sp ≡ p.sp - 1 = omega (arith, base, top, low_enough) in
        let pushed = call_but v run k (SpGroup b) s (λ a. true) (λ a above below. refl) in
        let long = pushed.same_length in
        let fits : i + n ≤ length p.memory = omega (arith, whole, base, top, most, least, low_enough) in
        let got_fits : i + n ≤ length q.memory = omega (arith, fits, long) in
        record {
          same_length = zeros_length q.memory i n got_fits ∙ long ∙ sym (zeros_length p.memory i n fits);
          same = λ j kept. elim (cases_lt j i) [
            | inl under ↦ elim (cases_lt (j + ram_start) red_zone_start) [
              | inl heap ↦
                  zeros_before q.memory i n j (omega (arith, got_fits)) under
                  ∙ pushed_other p.memory p.sp (behind_call v run) j (omega (arith, heap, low_enough)) (omega (arith, heap, low_enough, down))
                  ∙ sym (zeros_before p.memory i n j (omega (arith, fits)) under)
              | inr zone ↦ absurd (true≢false (sym (open_to (j + ram_start) zone (omega (arith, under, least))) ∙ kept))
            ]
            | inr from ↦ elim (cases_lt j (i + n)) [
              | inl within ↦ zeros_there q.memory i n j (omega (arith, got_fits)) from within ∙ sym (zeros_there p.memory i n j (omega (arith, fits)) from within)
              | inr past ↦
                  zeros_past q.memory i n j (omega (arith, got_fits)) past
                  ∙ pushed_other p.memory p.sp (behind_call v run) j (omega (arith, past, from, low_enough, least)) (omega (arith, past, from, low_enough, least, down))
                  ∙ sym (zeros_past p.memory i n j (omega (arith, fits)) past)
            ]
          ];
          bytes = zeros_bytes q.memory i n pushed.bytes;
        }

    under_by : (t : Bool) → nat_le (group_sp k.processor) run.base ≡ t → floor ≤ group_sp k.processor
        → Steps may v run k (entry_point v run.domain v.unit) (group_under t (back_in v run k) (behind_call v run)) → Meets may (act_under t b k (part v)) v run k
    under_by false most least step = refused_unit v run k (SpGroup b) s may rule.StackUnder (group_sp k.processor) step
    under_by true most least step =
        let p = k.processor in
        let q = uncovered (back_processor v run k) in
        let want = act_under true b k (part v) in
        let got = goes_to (v.unit + 1) (with_processor k (grouped b q)) (part v) [] in
        let same : with_processor k (grouped b q) ≡ with_processor k (record (group_effect b p) { memory = q.memory }) = ap (with_processor k) (grouped_is b p q.memory) in
        like_met may want v run k got
        (continues may 3 v run k (entry_point v run.domain v.unit) run (with_processor k q) (behind_call v run) [] step s.in_bank.running s.in_bank.below got
        (lands_inside v run k (SpGroup b) s (start v run + 2) (omega arith) (inside_group b s)) (group_runs b s q) refl)
        (λ enters.
        let free = free_of k want enters in
        let but = group_but free least (leb-true (group_sp p) run.base most) (λ y above below. dead_free k want enters y above below) in
        let memory : (grouped b q).memory ≡ q.memory = ap (λ (z : Processor). z.memory) (grouped_is b p q.memory) in
        let P : List ℕ → Type 0 = λ m. IsBut free (group_effect b p).memory m in
        record {
          kernel = record { rest = same ∙ ap (λ m. with_processor k (record (group_effect b p) { memory = m })) (sym memory); memory = same_but free _ _ (subst P (sym memory) but) };
          runner = refl;
          lines = refl;
          ending = refl;
        })

    group_by : (t : Bool) → nat_le floor (group_sp k.processor) ≡ t
        → Steps may v run k (entry_point v run.domain v.unit) (group_guarded t run (back_in v run k) (behind_call v run)) → Meets may (act_group t b run k (part v)) v run k
    group_by false least step = refused_unit v run k (SpGroup b) s may rule.StackOver (group_sp k.processor) step
    group_by true least step = under_by (nat_le (group_sp k.processor) run.base) refl (leb-true floor (group_sp k.processor) least) step

    -- the guard clears bytes above the floor, up to SP
    clears_under : (t : Bool) (a : ℕ) → floor ≤ group_sp k.processor → GuardClears a (group_under t (back_in v run k) 0).way (back_processor v run k) → may a
    clears_under true a least w = dead a (let above = w.0 in omega (arith, above, least)) w.1
    clears_under false a least w = absurd w

    clears_by : (t : Bool) (a : ℕ) → nat_le floor (group_sp k.processor) ≡ t → GuardClears a (group_guarded t run (back_in v run k) 0).way (back_processor v run k) → may a
    clears_by true a least w = clears_under (nat_le (group_sp k.processor) run.base) a (leb-true floor (group_sp k.processor) least) w
    clears_by false a least w = absurd w

    group_row : Row may entry.SpGuard v run k (behind_call v run) (group_guarded (nat_le floor (group_sp k.processor)) run (back_in v run k) (behind_call v run))
    group_row =
        called_entry may entry.SpGuard v run k (behind_call v run) _ (λ c. refl) (λ c st can. (st, can)) refl (in_stack v run k (SpGroup b) s) tt
        (λ a c ret w.
        let P : CountingProcessor → Type 0 = λ z. GuardClears a (called_row entry.SpGuard v run (with_processor k (without_counter z)) 0).way (without_counter z) in
        clears_by (nat_le floor (group_sp k.processor)) a refl (subst P ret w))

    pub group_unit : Meets may (act_unit (SpGroup b) run k (part v)) v run k
    group_unit =
        let first = group_first b s in
        group_by (nat_le floor (group_sp k.processor)) refl
        (call_step may v run k (start v run) entry.SpGuard first.0 _ s.in_bank first.1 tt (on_stack v run k (SpGroup b) s) dead group_row)
