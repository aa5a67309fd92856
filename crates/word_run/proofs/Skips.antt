-- Skips.
use Rattle.std.proofs.Common.{◌≡◌, ◌∙◌, ℕ, zero, suc, pos, ◌+◌, ◌%◌, ◌<◌, ◌≤◌, Bool, true, false, List, [], ◌∷◌, ◌++◌, drop, length, length-drop, get_or, Ok, refl, sym, ap, subst, arith}
use Rattle.std.specs.Prelude.{slice_get, slice_index}
use Rattle.std.proofs.lemmas.List.{get_or-drop}
use Rattle.avr_isa.specs.declared.instruction.Instr.{Instr}
use Rattle.avr_isa.specs.declared.instruction.Instr.TheVariants as instr
use Rattle.avr_machine.specs.Conditions.{IsRunnable, IsSkip, StoresInside}
use Rattle.avr_machine.specs.Effect.{effect, writes}
use Rattle.avr_machine.specs.Flash.{Banks}
use Rattle.avr_machine.specs.Processor.{Processor as CountingProcessor}
use Rattle.avr_machine.specs.Step.{CanRun as CanRunOne, fetched, following}
use Rattle.mote_layout.specs.Memory.{bank_words}
use Rattle.unit_code.specs.Beside.{form_words, words_in}
use Rattle.unit_code.specs.Lengths.{instruction_length, spelled_length}
use Rattle.unit_code.specs.Proper.{IsOfKind}
use Rattle.unit_code.specs.Spelled.{offset_to}
use Rattle.unit_code.specs.Spelling.{form_of, start_of, starts_after}
use Rattle.unit_code.specs.Templates.{IsForm, template}
use Rattle.unit_code.specs.declared.form.Form.{Form}
use Rattle.unit_code.specs.declared.unit.Shape.{Shape}
use Rattle.unit_code.specs.declared.unit.Shape.TheVariants.{Long, Short}
use Rattle.unit_code.specs.declared.unit.Unit.{Unit}
use Rattle.unit_code.specs.declared.unit.Unit.TheVariants.{Skip}
use Rattle.harbor_spell.proofs.Keys.{template_some}
use Rattle.harbor_spell.proofs.Lengths.{form_length, skip_length}
use Rattle.domain_model.specs.declared.handler.Running.{Running}
use Rattle.domain_model.specs.State.{KernelState, Processor, at_counter}
use Rattle.domain_model.specs.Act.{act_skip, act_unit, bank, goes_to, passes}
use Rattle.domain_model.specs.Laws.{skipped}
use Rattle.domain_model.proofs.InstructionLaws.{skip_is_skip, skips_pass_as_instructions}
use Rattle.domain_model.proofs.Kept.{each_at}
use Rattle.word_run.specs.FlashValue.{FlashValue, part, words_of, starts_of, address_in, entry_point}
use Rattle.word_run.specs.Entries.{going}
use Rattle.word_run.specs.Writing.{Names}
use Rattle.word_run.proofs.Fetched.{Stand, fetches, follows, one_word_at_least, stand_behind, stand_within}
use Rattle.word_run.proofs.Jumps.{jump_step, reaches, reaches_over, where_inside, where_names}
use Rattle.word_run.proofs.Laid.{IsLaid, first_laid, others_laid}
use Rattle.word_run.proofs.Same.{Meets, all_met}
use Rattle.word_run.proofs.Setting.{Setting, laid, lands, lands_inside, lands_next, next_start, start, start_below}
use Rattle.word_run.proofs.Steps.{InBank, Leads, Steps, continues, ends, goes, turned}

skip_inside : (i : Instr) (c : CountingProcessor) → IsSkip i → StoresInside i c
unfolding StoresInside writes IsSkip
skip_inside (instr.Cpse d r) c is = where_inside _ _
skip_inside (instr.Sbrc r b) c is = where_inside _ _
skip_inside (instr.Sbrs r b) c is = where_inside _ _
skip_inside _ c is = absurd is

pub skip_names : (may : ℕ → Type 0) (i : Instr) (a over : ℕ) (c : CountingProcessor) → IsSkip i → Names a (writes i over c) → may a
unfolding writes IsSkip
skip_names may (instr.Cpse d r) a over c is w = where_names may _ _ a w
skip_names may (instr.Sbrc r b) a over c is w = where_names may _ _ a w
skip_names may (instr.Sbrs r b) a over c is w = where_names may _ _ a w
skip_names may _ a over c is w = absurd is

skip_runs : (i : Instr) → IsSkip i → IsRunnable i
unfolding IsSkip IsRunnable
skip_runs (instr.Cpse d r) is = tt
skip_runs (instr.Sbrc r b) is = tt
skip_runs (instr.Sbrs r b) is = tt
skip_runs _ is = absurd is

-- the place to which a skip over an instruction leads
abbrev passed : Bool → ℕ → Instr → ℕ
passed true place j = place + 1 + instruction_length j
passed false place j = place + 1

skip_can : (banks : Banks) (i j : Instr) (p : Processor) (b n : ℕ) → IsSkip i → fetched banks b ≡ Ok (j, n) → CanRunOne banks (at_counter p b) i
skip_can banks i j p b n is found = record {
  runnable = skip_runs i is;
  inside = skip_inside i (at_counter p b) is;
  next = λ skip. rw found refl;
}

skip_lands : (t : Bool) (run : Running) (place : ℕ) (j : Instr) (over : ℕ) → over ≡ address_in run.domain (place + 1 + instruction_length j) → skipped t over (address_in run.domain (place + 1)) ≡ address_in run.domain (passed t place j)
skip_lands true run place j over is = is
skip_lands false run place j over is = refl

passed_low : (t : Bool) (place n : ℕ) (j : Instr) → place + 1 + instruction_length j ≤ n → passed t place j ≤ n
passed_low true place n j low = low
passed_low false place n j low = omega (arith, low)

pub skip_step : (may : ℕ → Type 0) (v : FlashValue) (run : Running) (k : KernelState) (t : Bool) (place : ℕ) (i j : Instr) (is : List Instr) → InBank v run k → Stand (words_of v run.domain) place (i ∷ j ∷ is) → IsSkip i → instruction_length i ≡ 1
    → passes i k.processor ≡ t → Steps may v run k (address_in run.domain place) (going k (address_in run.domain (passed t place j)))
skip_step may v run k t place i j is b stand skip one test =
    let p = k.processor in
    let words = words_of v run.domain in
    let n = at_counter p (address_in run.domain (passed t place j)) in
    let behind : Stand words (place + 1) (j ∷ is) = subst (λ (m : ℕ). Stand words (place + m) (j ∷ is)) one (stand_behind words place i (j ∷ is) stand) in
    let below = b.below in
    let fits = b.fits in
    let within = stand_within words (place + 1) j is behind in
    let few = one_word_at_least j in
    let found = fetches v.flash run.domain (place + 1) j is b.below b.fits behind in
    let over : following v.flash (address_in run.domain (place + 1)) ≡ address_in run.domain (place + 1 + instruction_length j)
    = follows v.flash (address_in run.domain (place + 1)) j (instruction_length j) found ∙ (let sum : (address_in run.domain (place + 1) + instruction_length j) % 65536 ≡ address_in run.domain (place + 1 + instruction_length j) = omega (arith, below, fits, within, few) in sum) in
    let next : address_in run.domain (place + instruction_length i) ≡ address_in run.domain (place + 1) = ap (λ m. address_in run.domain (place + m)) one in
    let small = passed_low t place (bank_words + 2) j (omega (arith, within, fits, few)) in
    let l : Leads may v run k place i (j ∷ is) n = record {
      stand = stand;
      leads = ap (λ x. effect i (following v.flash x) (at_counter p x)) next
          ∙ skips_pass_as_instructions i (following v.flash (address_in run.domain (place + 1))) (address_in run.domain (place + 1)) p skip
          ∙ ap (λ x. at_counter p (skipped x (following v.flash (address_in run.domain (place + 1))) (address_in run.domain (place + 1)))) test
          ∙ ap (at_counter p) (skip_lands t run place j (following v.flash (address_in run.domain (place + 1))) over);
      can = subst (λ (x : ℕ). CanRunOne v.flash (at_counter p x) i) (sym next) (skip_can v.flash i j p (address_in run.domain (place + 1)) (instruction_length j) skip found);
      wrote = λ a w. skip_names may i a _ _ skip w;
    } in
    goes may v run k b place i (j ∷ is) n l (omega (arith, below, small))

-- Behind a unit whose template has one word: the template of the next one, and where the one behind that starts.
second_by : (place behind : ℕ) (u : Unit) (us : List Unit) (s : Shape) (ss : List Shape) → length ss ≡ length us → 0 < length us
    → get_or (place ∷ starts_after behind (u ∷ us) (s ∷ ss)) 2 0 ≡ behind + spelled_length u s
second_by place behind u [] s ss shaped some = absurd (omega (arith, some))
second_by place behind u (y ∷ us) s [] shaped some = absurd (omega (arith, shaped))
second_by place behind u (y ∷ us) s (r ∷ ss) shaped some = refl

record OneBehind (words : List ℕ) (place next : ℕ) (i : Instr) : Type 0 where
  instruction : Instr
  others : List Instr
  stand : Stand words place (i ∷ instruction ∷ others)
  over : next ≡ place + 1 + instruction_length instruction

one_of : (words : List ℕ) (place next : ℕ) (i : Instr) (f : Form) (behind rest is : List Instr) → template f ≡ is → IsForm f → behind ≡ is ++ rest → ((g : Form) (more : List Instr) → IsForm g → 2 ≤ length (template g) → behind ≡ template g ++ more → ⊥)
    → Stand words place (i ∷ behind) → next ≡ place + 1 + form_words f → OneBehind words place next i
one_of words place next i f behind rest [] e form split several stand ends = absurd (let some = template_some f form in let none = ap length e in omega (arith, some, none))
one_of words place next i f behind rest (j ∷ []) e form split several stand ends =
    let long : form_words f ≡ instruction_length j = ap words_in e ∙ omega arith in
    record { instruction = j; others = rest; stand = subst (λ (l : List Instr). Stand words place (i ∷ l)) split stand; over = omega (arith, ends, long) }
one_of words place next i f behind rest (j ∷ h ∷ is) e form split several stand ends =
    let many = ap length e in
    absurd (several f rest form (omega (arith, many)) (split ∙ ap (λ l. l ++ rest) (sym e)))

got_behind : (n : ℕ) (xs : List Unit) → slice_get (drop n xs) 1 ≡ slice_get xs (n + 1)
got_behind zero xs = refl
got_behind (suc n) [] = refl
got_behind (suc n) (x ∷ xs) = let e : suc n + 1 ≡ suc (n + 1) = omega arith in got_behind n xs ∙ ap (slice_get (x ∷ xs)) (sym e)

module _ (may : ℕ → Type 0) (v : FlashValue) (run : Running) (k : KernelState) (i : Instr) (s : Setting v run k (Skip i)) (beyond : v.unit + 2 < length (starts_of v run.domain)) where
  skip : IsSkip i
  skip = skip_is_skip i s.kind

  one : instruction_length i ≡ 1
  one = skip_length i s.kind

  more : v.unit + 1 < length (starts_of v run.domain)
  more = omega (arith, beyond)

  to : ℕ
  to = slice_index (starts_of v run.domain) (v.unit + 2)

  long_by : (t : Bool) (behind : List Instr) → passes i k.processor ≡ t → spelled_length (Skip i) s.nth.shape ≡ 3
      → Stand (words_of v run.domain) (start v run) (i ∷ instr.Rjmp (pos 1) ∷ instr.Rjmp (offset_to (start v run + 2) (slice_index (starts_of v run.domain) (v.unit + 2))) ∷ behind) → Meets may (act_skip t k (part v)) v run k
  long_by true behind test long stand =
      let is = instr.Rjmp (offset_to (start v run + 2) (slice_index (starts_of v run.domain) (v.unit + 2))) ∷ behind in
      let words = words_of v run.domain in
      let next = next_start v run k (Skip i) s more in
      let end_low = start_below v run k (Skip i) s (v.unit + 1) more in
      let low = start_below v run k (Skip i) s (v.unit + 2) beyond in
      let second : Stand words (start v run + 1) (instr.Rjmp (pos 1) ∷ is) = subst (λ (m : ℕ). Stand words (start v run + m) (instr.Rjmp (pos 1) ∷ is)) one (stand_behind words (start v run) i (instr.Rjmp (pos 1) ∷ is) stand) in
      let third : Stand words (start v run + 1 + 1) is = stand_behind words (start v run + 1) (instr.Rjmp (pos 1)) is second in
      let two : start v run + 1 + 1 ≡ start v run + 2 = omega arith in
      let inner : start v run + 2 < bank_words = omega (arith, long, next, end_low) in
      all_met may (act_skip true k (part v)) v run k s.processor.memory_bytes
      (continues may 3 v run k (entry_point v run.domain v.unit) run k (address_in run.domain (start v run + 2)) []
      (turned (skip_step may v run k true (start v run) i (instr.Rjmp (pos 1)) is s.in_bank stand skip one test) _ (ap (λ n. going k (address_in run.domain n)) two))
      s.in_bank.running s.in_bank.below (goes_to (v.unit + 2) k (part v) []) (lands_inside v run k (Skip i) s (start v run + 2) (omega arith) (omega (arith, long)))
      (ends may 2 v run k (address_in run.domain (start v run + 2)) run k (address_in run.domain (slice_index (starts_of v run.domain) (v.unit + 2))) []
      (jump_step may v run k (start v run + 2) (slice_index (starts_of v run.domain) (v.unit + 2)) _ behind s.in_bank (subst (λ (n : ℕ). Stand words n is) two third)
      (reaches run (start v run + 2) (slice_index (starts_of v run.domain) (v.unit + 2)) s.in_bank.below inner low) (omega (arith, low)))
      s.in_bank.running s.in_bank.below (v.unit + 2) (lands v run.domain (v.unit + 2) s.first beyond)) refl)
  long_by false behind test long stand =
      let is = instr.Rjmp (offset_to (start v run + 2) (slice_index (starts_of v run.domain) (v.unit + 2))) ∷ behind in
      let words = words_of v run.domain in
      let next = next_start v run k (Skip i) s more in
      let end_low = start_below v run k (Skip i) s (v.unit + 1) more in
      let second : Stand words (start v run + 1) (instr.Rjmp (pos 1) ∷ is) = subst (λ (m : ℕ). Stand words (start v run + m) (instr.Rjmp (pos 1) ∷ is)) one (stand_behind words (start v run) i (instr.Rjmp (pos 1) ∷ is) stand) in
      let at : address_in run.domain (start v run + 1 + 2) ≡ address_in run.domain (start v run + spelled_length (Skip i) s.nth.shape) = omega (arith, long) in
      let inner : start v run + 1 < bank_words = omega (arith, long, next, end_low) in
      let small : start v run + 1 + 2 ≤ bank_words = omega (arith, long, next, end_low) in
      all_met may (act_skip false k (part v)) v run k s.processor.memory_bytes
      (continues may 3 v run k (entry_point v run.domain v.unit) run k (address_in run.domain (start v run + 1)) []
      (skip_step may v run k false (start v run) i (instr.Rjmp (pos 1)) is s.in_bank stand skip one test)
      s.in_bank.running s.in_bank.below (goes_to (v.unit + 1) k (part v) []) (lands_inside v run k (Skip i) s (start v run + 1) (omega arith) (omega (arith, long)))
      (ends may 2 v run k (address_in run.domain (start v run + 1)) run k (address_in run.domain (start v run + spelled_length (Skip i) s.nth.shape)) []
      (turned (jump_step may v run k (start v run + 1) (start v run + 1 + 2) (pos 1) is s.in_bank second (reaches_over run (start v run + 1) s.in_bank.below inner) small) _ (ap (going k) at))
      s.in_bank.running s.in_bank.below (v.unit + 1) (lands_next v run k (Skip i) s more)) refl)

  short_by : (t : Bool) → passes i k.processor ≡ t → spelled_length (Skip i) s.nth.shape ≡ 1 → OneBehind (words_of v run.domain) (start v run) (slice_index (starts_of v run.domain) (v.unit + 2)) i → Meets may (act_skip t k (part v)) v run k
  short_by true test long b =
      let over = b.over in
      let at : address_in run.domain (start v run + 1 + instruction_length b.instruction) ≡ entry_point v run.domain (v.unit + 2) = omega (arith, over) in
      all_met may (act_skip true k (part v)) v run k s.processor.memory_bytes
      (ends may 3 v run k (entry_point v run.domain v.unit) run k (entry_point v run.domain (v.unit + 2)) []
      (turned (skip_step may v run k true (start v run) i b.instruction b.others s.in_bank b.stand skip one test) _ (ap (going k) at))
      s.in_bank.running s.in_bank.below (v.unit + 2) (lands v run.domain (v.unit + 2) s.first beyond))
  short_by false test long b =
      let at : address_in run.domain (start v run + 1) ≡ address_in run.domain (start v run + spelled_length (Skip i) s.nth.shape) = omega (arith, long) in
      all_met may (act_skip false k (part v)) v run k s.processor.memory_bytes
      (ends may 3 v run k (entry_point v run.domain v.unit) run k (address_in run.domain (start v run + spelled_length (Skip i) s.nth.shape)) []
      (turned (skip_step may v run k false (start v run) i b.instruction b.others s.in_bank b.stand skip one test) _ (ap (going k) at))
      s.in_bank.running s.in_bank.below (v.unit + 1) (lands_next v run k (Skip i) s more))

  -- what stands behind a short skip
  behind_by : (us : List Unit) (shape : Shape) (ss : List Shape) → drop v.unit (bank (part v) run.domain) ≡ Skip i ∷ us → drop v.unit (starts_of v run.domain) ≡ starts_after (start v run) (Skip i ∷ us) (shape ∷ ss) → shape ≡ Short
      → IsLaid (words_of v run.domain) (starts_of v run.domain) s.sealed v.unit (start v run) (Skip i) us shape ss → OneBehind (words_of v run.domain) (start v run) (slice_index (starts_of v run.domain) (v.unit + 2)) i
  behind_by [] shape ss units_are starts_are is l =
      let left = ap length units_are in
      let c = s.counted in
      absurd (omega (arith, left, length-drop v.unit (bank (part v) run.domain), c, beyond))
  behind_by (y ∷ us) shape [] units_are starts_are is l = let shaped = l.shaped in absurd (omega (arith, shaped))
  behind_by (y ∷ us) Long (r ∷ ss) units_are starts_are is l = absurd (cc)
  behind_by (y ∷ us) Short (r ∷ ss) units_are starts_are is l =
      let words = words_of v run.domain in
      let starts = starts_of v run.domain in
      let next = others_laid words starts s.sealed v.unit (start v run) (Skip i) (y ∷ us) Short (r ∷ ss) s.kind l in
      let m = first_laid words starts s.sealed (v.unit + 1) (start v run + 1) y us r ss next in
      let f = form_of starts (v.unit + 1) (start_of starts (v.unit + 1)) y r in
      let left = ap length units_are in
      let c = s.counted in
      let some : 0 < length us = omega (arith, left, length-drop v.unit (bank (part v) run.domain), c, beyond) in
      let kind : IsOfKind y = each_at IsOfKind (bank (part v) run.domain) (v.unit + 1) y s.kinds
      (sym (got_behind v.unit (bank (part v) run.domain)) ∙ ap (λ z. slice_get z 1) units_are) in
      let long : form_words f ≡ spelled_length y r = form_length starts (v.unit + 1) (start_of starts (v.unit + 1)) y r kind in
      let at : slice_index starts (v.unit + 2) ≡ start v run + 1 + spelled_length y r
      = sym (get_or-drop v.unit starts 2 0) ∙ ap (λ z. get_or z 2 0) starts_are ∙ second_by (start v run) (start v run + 1) y us r ss m.shaped some in
      one_of words (start v run) (slice_index starts (v.unit + 2)) i f l.behind l.others.0 (template f) refl m.form.kind l.others.1.words
      (λ g others form many e. l.form.read.1 (g, others, form, many, e)) l.stand (omega (arith, at, long))

  by_shape : (shape : Shape) (behind : List Instr) → s.nth.shape ≡ shape
      → Stand (words_of v run.domain) (start v run) (template (form_of (starts_of v run.domain) v.unit (start v run) (Skip i) shape) ++ behind) → Meets may (act_unit (Skip i) run k (part v)) v run k
  by_shape Long behind is stand = long_by (passes i k.processor) behind refl (ap (spelled_length (Skip i)) is) stand
  by_shape Short behind is stand = short_by (passes i k.processor) refl (ap (spelled_length (Skip i)) is) (behind_by s.nth.us s.nth.shape s.nth.ss s.nth.units_are s.nth.starts_are is (laid v run k (Skip i) s))

  pub skip_unit : Meets may (act_unit (Skip i) run k (part v)) v run k
  skip_unit = let l = laid v run k (Skip i) s in by_shape s.nth.shape l.behind refl l.stand
