-- Jumps and branches.
use Rattle.std.proofs.Common.{◌≡◌, ◌∙◌, ℕ, ℤ, pos, negsuc, ◌+◌, ◌-◌, ◌%◌, ◌<◌, ◌≤◌, Bool, true, false, not, List, [], ◌∷◌, ◌++◌, length, refl, ap, subst, arith}
use Rattle.std.specs.Prelude.{nat_lt, slice_index}
use Rattle.std.specs.Int.{w16, cast_unsigned}
use Rattle.std.proofs.lemmas.Bool.{cond_both, ltb-false, ltb-true}
use Rattle.avr_alu.specs.Bits.{is_set}
use Rattle.avr_isa.specs.declared.instruction.Instr.{Instr}
use Rattle.avr_isa.specs.declared.instruction.Instr.TheVariants as instr
use Rattle.avr_machine.specs.Conditions.{AreInside, IsRunnable, IsSkip, StoresInside}
use Rattle.avr_machine.specs.Effect.{effect, goes_where, moved, writes}
use Rattle.avr_machine.specs.Flash.{Banks}
use Rattle.avr_machine.specs.Processor.{Processor as CountingProcessor}
use Rattle.avr_machine.specs.Step.{CanRun as CanRunOne, following}
use Rattle.avr_machine.specs.Write.{after}
use Rattle.mote_layout.specs.Memory.{bank_words, domain_count}
use Rattle.unit_code.specs.Lengths.{instruction_length, spelled_length}
use Rattle.unit_code.specs.Spelled.{offset_to}
use Rattle.unit_code.specs.Spelling.{form_of}
use Rattle.unit_code.specs.Templates.{branch, template}
use Rattle.unit_code.specs.declared.unit.Shape.{Shape}
use Rattle.unit_code.specs.declared.unit.Shape.TheVariants.{Long, Short}
use Rattle.unit_code.specs.declared.unit.Unit.TheVariants.{Branch, Jump}
use Rattle.domain_model.specs.declared.handler.Running.{Running}
use Rattle.domain_model.specs.State.{KernelState, Processor, at_counter}
use Rattle.domain_model.specs.Act.{act_branch, act_unit, goes_to, taken}
use Rattle.word_run.specs.FlashValue.{FlashValue, part, words_of, starts_of, address_in, entry_point}
use Rattle.word_run.specs.Entries.{going}
use Rattle.word_run.specs.Writing.{Names}
use Rattle.word_run.proofs.Fetched.{Stand, stand_behind, stand_within}
use Rattle.word_run.proofs.Same.{Meets, all_met}
use Rattle.word_run.proofs.Setting.{Setting, laid, lands, lands_inside, lands_next, next_start, start, start_below}
use Rattle.word_run.proofs.Steps.{InBank, Leads, Steps, continues, ends, goes, turned}

-- An offset leads from behind a place where it is counted to.
abbrev pub Reaches : Running → ℕ → ℤ → ℕ → Type 0
Reaches run place o to = (address_in run.domain (place + 1) + cast_unsigned w16 o) % 65536 ≡ address_in run.domain to

pub reaches : (run : Running) (place to : ℕ) → run.domain < domain_count → place < bank_words → to < bank_words → Reaches run place (offset_to place to) to
reaches run place to below within low =
    cond_both (nat_lt place to) (pos (to - place - 1)) (negsuc (place - to)) (λ o. Reaches run place o to)
    (λ ahead. let order = ltb-true place to ahead in omega (arith, order, below, within, low))
    (λ back.
    let order = ltb-false place to back in
    let cast : cast_unsigned w16 (negsuc (place - to)) ≡ 65535 - (place - to) = omega (arith, within) in
    omega (arith, cast, order, below, within, low))

-- over one word
pub reaches_over : (run : Running) (place : ℕ) → run.domain < domain_count → place < bank_words → Reaches run place (pos 1) (place + 2)
reaches_over run place below within = omega (arith, below, within)

-- RJMP.

jump_can : (banks : Banks) (o : ℤ) (c : CountingProcessor) → CanRunOne banks c (instr.Rjmp o)
unfolding IsRunnable IsSkip StoresInside writes
jump_can banks o c = record { runnable = tt; inside = tt; next = λ skip. absurd skip }

jump_names : (may : ℕ → Type 0) (o : ℤ) (a over : ℕ) (c : CountingProcessor) → Names a (writes (instr.Rjmp o) over c) → may a
unfolding writes
jump_names may o a over c w = absurd w

jump_moves : (o : ℤ) (over b : ℕ) (p : Processor) → effect (instr.Rjmp o) over (at_counter p b) ≡ at_counter p ((b + cast_unsigned w16 o) % 65536)
unfolding writes
jump_moves o over b p = refl

pub jump_step : (may : ℕ → Type 0) (v : FlashValue) (run : Running) (k : KernelState) (place to : ℕ) (o : ℤ) (is : List Instr) → InBank v run k → Stand (words_of v run.domain) place (instr.Rjmp o ∷ is)
    → Reaches run place o to → to ≤ bank_words → Steps may v run k (address_in run.domain place) (going k (address_in run.domain to))
jump_step may v run k place to o is b stand reach low =
    let p = k.processor in
    let l : Leads may v run k place (instr.Rjmp o) is (at_counter p (address_in run.domain to)) = record {
      stand = stand;
      leads = jump_moves o _ (address_in run.domain (place + 1)) p ∙ ap (at_counter p) reach;
      can = jump_can v.flash o _;
      wrote = λ a w. jump_names may o a _ _ w;
    } in
    let below = b.below in
    goes may v run k b place (instr.Rjmp o) is (at_counter p (address_in run.domain to)) l (omega (arith, below, low))

-- Branches.

pub where_inside : (b : Bool) (a : ℕ) → AreInside (goes_where b a)
where_inside true a = tt
where_inside false a = tt

pub where_names : (may : ℕ → Type 0) (b : Bool) (address a : ℕ) → Names a (goes_where b address) → may a
where_names may true address a w = absurd w
where_names may false address a w = absurd w

branch_can : (banks : Banks) (set : Bool) (bit : ℕ) (o : ℤ) (c : CountingProcessor) → CanRunOne banks c (branch set bit o)
unfolding IsRunnable IsSkip StoresInside writes
branch_can banks true bit o c = record { runnable = tt; inside = where_inside _ _; next = λ skip. absurd skip }
branch_can banks false bit o c = record { runnable = tt; inside = where_inside _ _; next = λ skip. absurd skip }

branch_names : (may : ℕ → Type 0) (set : Bool) (bit : ℕ) (o : ℤ) (a over : ℕ) (c : CountingProcessor) → Names a (writes (branch set bit o) over c) → may a
unfolding writes
branch_names may true bit o a over c w = where_names may _ _ a w
branch_names may false bit o a over c w = where_names may _ _ a w

branch_moves : (set : Bool) (bit : ℕ) (o : ℤ) (over b : ℕ) (p : Processor) (t : Bool) → taken set bit p ≡ t → effect (branch set bit o) over (at_counter p b) ≡ after (goes_where t (moved (at_counter p b) o)) (at_counter p b)
unfolding writes
branch_moves true bit o over b p t is = ap (λ x. after (goes_where x (moved (at_counter p b) o)) (at_counter p b)) is
branch_moves false bit o over b p t is = ap (λ x. after (goes_where x (moved (at_counter p b) o)) (at_counter p b)) is

pub branch_length : (set : Bool) (bit : ℕ) (o : ℤ) → instruction_length (branch set bit o) ≡ 1
branch_length true bit o = refl
branch_length false bit o = refl

-- the place to which a branch leads
abbrev branched : Bool → ℕ → ℕ → ℕ
branched true to place = to
branched false to place = place + 1

branch_lands : (t : Bool) (run : Running) (p : Processor) (place to : ℕ) (o : ℤ) → Reaches run place o to
    → after (goes_where t (moved (at_counter p (address_in run.domain (place + 1))) o)) (at_counter p (address_in run.domain (place + 1))) ≡ at_counter p (address_in run.domain (branched t to place))
branch_lands true run p place to o reach = ap (at_counter p) reach
branch_lands false run p place to o reach = refl

branched_low : (t : Bool) (to place : ℕ) → to ≤ bank_words → place < bank_words → branched t to place ≤ bank_words
branched_low true to place low within = low
branched_low false to place low within = omega (arith, within)

pub branch_step : (may : ℕ → Type 0) (v : FlashValue) (run : Running) (k : KernelState) (t set : Bool) (bit place to : ℕ) (o : ℤ) (is : List Instr) → InBank v run k → Stand (words_of v run.domain) place (branch set bit o ∷ is)
    → taken set bit k.processor ≡ t → Reaches run place o to → to ≤ bank_words → Steps may v run k (address_in run.domain place) (going k (address_in run.domain (branched t to place)))
branch_step may v run k t set bit place to o is b stand test reach low =
    let p = k.processor in
    let i = branch set bit o in
    let n = at_counter p (address_in run.domain (branched t to place)) in
    let one : address_in run.domain (place + instruction_length i) ≡ address_in run.domain (place + 1) = ap (λ m. address_in run.domain (place + m)) (branch_length set bit o) in
    let below = b.below in
    let fits = b.fits in
    let within = stand_within (words_of v run.domain) place i is stand in
    let small = branched_low t to place low (omega (arith, within, fits)) in
    let l : Leads may v run k place i is n = record {
      stand = stand;
      leads = ap (λ x. effect i (following v.flash x) (at_counter p x)) one ∙ branch_moves set bit o _ (address_in run.domain (place + 1)) p t test ∙ branch_lands t run p place to o reach;
      can = branch_can v.flash set bit o _;
      wrote = λ a w. branch_names may set bit o a _ _ w;
    } in
    goes may v run k b place i is n l (omega (arith, below, small))

-- the branch that is turned round
not_taken : (set : Bool) (bit : ℕ) (p : Processor) → taken (not set) bit p ≡ not (taken set bit p)
not_taken true bit p = refl
not_taken false bit p = double (is_set p.sreg bit)
  where
    double : (b : Bool) → b ≡ not (not b)
    double true = refl
    double false = refl

module _ (may : ℕ → Type 0) (v : FlashValue) (run : Running) (k : KernelState) where
  -- Jumps.
  pub jump_unit : (target : ℕ) (s : Setting v run k (Jump target)) → target < length (starts_of v run.domain) → Meets may (act_unit (Jump target) run k (part v)) v run k
  jump_unit target s there =
      let l = laid v run k (Jump target) s in
      let to = slice_index (starts_of v run.domain) target in
      let low = start_below v run k (Jump target) s target there in
      let within = start_below v run k (Jump target) s v.unit s.here in
      all_met may (act_unit (Jump target) run k (part v)) v run k s.processor.memory_bytes
      (ends may 3 v run k (entry_point v run.domain v.unit) run k (address_in run.domain to) []
      (jump_step may v run k (start v run) to (offset_to (start v run) to) l.behind s.in_bank l.stand (reaches run (start v run) to s.in_bank.below within low) (omega (arith, low)))
      s.in_bank.running s.in_bank.below target (lands v run.domain target s.first there))

  module _ (set : Bool) (bit target : ℕ) (s : Setting v run k (Branch set bit target)) (there : target < length (starts_of v run.domain)) (more : v.unit + 1 < length (starts_of v run.domain)) where
    to_low : slice_index (starts_of v run.domain) target < bank_words
    to_low = start_below v run k (Branch set bit target) s target there

    from_low : start v run < bank_words
    from_low = start_below v run k (Branch set bit target) s v.unit s.here

    short_by : (t : Bool) (behind : List Instr) → taken set bit k.processor ≡ t → spelled_length (Branch set bit target) s.nth.shape ≡ 1
        → Stand (words_of v run.domain) (start v run) (branch set bit (offset_to (start v run) (slice_index (starts_of v run.domain) target)) ∷ behind) → Meets may (act_branch t target k (part v)) v run k
    short_by true behind test long stand =
        all_met may (act_branch true target k (part v)) v run k s.processor.memory_bytes
        (ends may 3 v run k (entry_point v run.domain v.unit) run k (address_in run.domain (slice_index (starts_of v run.domain) target)) []
        (branch_step may v run k true set bit (start v run) (slice_index (starts_of v run.domain) target) _ behind s.in_bank stand test
        (reaches run (start v run) (slice_index (starts_of v run.domain) target) s.in_bank.below from_low to_low) (let low = to_low in omega (arith, low)))
        s.in_bank.running s.in_bank.below target (lands v run.domain target s.first there))
    short_by false behind test long stand =
        let at : address_in run.domain (start v run + 1) ≡ address_in run.domain (start v run + spelled_length (Branch set bit target) s.nth.shape) = omega (arith, long) in
        all_met may (act_branch false target k (part v)) v run k s.processor.memory_bytes
        (ends may 3 v run k (entry_point v run.domain v.unit) run k (address_in run.domain (start v run + spelled_length (Branch set bit target) s.nth.shape)) []
        (turned
        (branch_step may v run k false set bit (start v run) (slice_index (starts_of v run.domain) target) _ behind s.in_bank stand test
        (reaches run (start v run) (slice_index (starts_of v run.domain) target) s.in_bank.below from_low to_low) (let low = to_low in omega (arith, low)))
        _ (ap (going k) at))
        s.in_bank.running s.in_bank.below (v.unit + 1) (lands_next v run k (Branch set bit target) s more))

    long_by : (t : Bool) (behind : List Instr) → taken set bit k.processor ≡ t → spelled_length (Branch set bit target) s.nth.shape ≡ 2
        → Stand (words_of v run.domain) (start v run) (branch (not set) bit (pos 1) ∷ instr.Rjmp (offset_to (start v run + 1) (slice_index (starts_of v run.domain) target)) ∷ behind) → Meets may (act_branch t target k (part v)) v run k
    long_by true behind test long stand =
        let turned_round : taken (not set) bit k.processor ≡ false = not_taken set bit k.processor ∙ ap not test in
        let one = branch_length (not set) bit (pos 1) in
        let low = from_low in
        let next = next_start v run k (Branch set bit target) s more in
        let end_low = start_below v run k (Branch set bit target) s (v.unit + 1) more in
        let small : start v run + 2 ≤ bank_words = omega (arith, long, next, end_low) in
        let inner : start v run + 1 < bank_words = omega (arith, long, next, end_low) in
        let within : start v run + 1 < start v run + spelled_length (Branch set bit target) s.nth.shape = omega (arith, long) in
        let second : Stand (words_of v run.domain) (start v run + 1) (instr.Rjmp (offset_to (start v run + 1) (slice_index (starts_of v run.domain) target)) ∷ behind)
        = subst (λ (n : ℕ). Stand (words_of v run.domain) (start v run + n) (instr.Rjmp (offset_to (start v run + 1) (slice_index (starts_of v run.domain) target)) ∷ behind)) one
        (stand_behind (words_of v run.domain) (start v run) (branch (not set) bit (pos 1)) (instr.Rjmp (offset_to (start v run + 1) (slice_index (starts_of v run.domain) target)) ∷ behind) stand) in
        all_met may (act_branch true target k (part v)) v run k s.processor.memory_bytes
        (continues may 3 v run k (entry_point v run.domain v.unit) run k (address_in run.domain (start v run + 1)) []
        (branch_step may v run k false (not set) bit (start v run) (start v run + 2) (pos 1) (instr.Rjmp (offset_to (start v run + 1) (slice_index (starts_of v run.domain) target)) ∷ behind) s.in_bank stand turned_round (reaches_over run (start v run) s.in_bank.below low) small)
        s.in_bank.running s.in_bank.below (goes_to target k (part v) []) (lands_inside v run k (Branch set bit target) s (start v run + 1) (omega arith) within)
        (ends may 2 v run k (address_in run.domain (start v run + 1)) run k (address_in run.domain (slice_index (starts_of v run.domain) target)) []
        (jump_step may v run k (start v run + 1) (slice_index (starts_of v run.domain) target) _ behind s.in_bank second
        (reaches run (start v run + 1) (slice_index (starts_of v run.domain) target) s.in_bank.below inner to_low) (let t_low = to_low in omega (arith, t_low)))
        s.in_bank.running s.in_bank.below target (lands v run.domain target s.first there)) refl)
    long_by false behind test long stand =
        let turned_round : taken (not set) bit k.processor ≡ true = not_taken set bit k.processor ∙ ap not test in
        let low = from_low in
        let next = next_start v run k (Branch set bit target) s more in
        let end_low = start_below v run k (Branch set bit target) s (v.unit + 1) more in
        let at : address_in run.domain (start v run + 2) ≡ address_in run.domain (start v run + spelled_length (Branch set bit target) s.nth.shape) = omega (arith, long) in
        all_met may (act_branch false target k (part v)) v run k s.processor.memory_bytes
        (ends may 3 v run k (entry_point v run.domain v.unit) run k (address_in run.domain (start v run + spelled_length (Branch set bit target) s.nth.shape)) []
        (turned
        (branch_step may v run k true (not set) bit (start v run) (start v run + 2) (pos 1) (instr.Rjmp (offset_to (start v run + 1) (slice_index (starts_of v run.domain) target)) ∷ behind) s.in_bank stand turned_round (reaches_over run (start v run) s.in_bank.below low) (omega (arith, long, next, end_low)))
        _ (ap (going k) at))
        s.in_bank.running s.in_bank.below (v.unit + 1) (lands_next v run k (Branch set bit target) s more))

    by_shape : (shape : Shape) (behind : List Instr) → s.nth.shape ≡ shape
        → Stand (words_of v run.domain) (start v run) (template (form_of (starts_of v run.domain) v.unit (start v run) (Branch set bit target) shape) ++ behind) → Meets may (act_unit (Branch set bit target) run k (part v)) v run k
    by_shape Long behind is stand = long_by (taken set bit k.processor) behind refl (ap (spelled_length (Branch set bit target)) is) stand
    by_shape Short behind is stand = short_by (taken set bit k.processor) behind refl (ap (spelled_length (Branch set bit target)) is) stand

    pub branch_unit : Meets may (act_unit (Branch set bit target) run k (part v)) v run k
    branch_unit = let l = laid v run k (Branch set bit target) s in by_shape s.nth.shape l.behind refl l.stand
