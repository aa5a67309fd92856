-- Words that spell proper units are read as these units.
use Rattle.std.proofs.Common.{Bool, ◌≡◌, ◌≢◌, ◌∙◌, ℕ, zero, suc, ◌+◌, ◌-◌, ◌^◌, ◌<◌, ◌≤◌, ◌==◌, ℤ, pos, negsuc, cond, ltb, not, true, false, List, [], ◌∷◌, length, get_or, drop, min, Option, Some, None, Result, Ok, is_some, refl, sym, ap, subst, lit<, arith}
use Rattle.std.specs.Prelude.{sum_by, IfSome, option_map}
use Rattle.std.specs.List.{AllByRecursion, cons_option, filter_map}
use Rattle.std.proofs.lemmas.Bool.{and_from, cond-true, cond-false, le-ltb, lt-ltb}
use Rattle.std.proofs.lemmas.Bool.Decides.{nat_tests}
use Rattle.std.proofs.lemmas.Option.{same_Some}
use Rattle.avr_isa.specs.Decoded.{decoded}
use Rattle.avr_isa.specs.declared.instruction.Instr.{Instr}
use Rattle.avr_isa.specs.declared.instruction.Instr.TheVariants as instr
use Rattle.avr_isa.specs.declared.instruction.DecodeError.{DecodeError}
use Rattle.avr_isa.proofs.TableLaws.{decoded_count, row-decoded, words_are_unique}
use Rattle.mote_layout.specs.Memory.{bank_words}
use Rattle.mote_layout.specs.Page.{StandsAt, entry_at}
use Rattle.mote_layout.specs.declared.page.Entry.{Entry}
use Rattle.mote_layout.specs.declared.page.Entry.TheVariants.{Kernel, Slot}
use Rattle.mote_layout.proofs.EntryPage.{entry_at-some}
use Rattle.unit_code.specs.declared.error.CodeError.TheVariants.{Target, FallsOff, Empty, TooLong, Entry as EntryError}
use Rattle.unit_code.specs.declared.items.Item.{Item}
use Rattle.unit_code.specs.declared.refusals.Condition.{Condition}
use Rattle.unit_code.specs.declared.refusals.Condition.TheVariants as condition
use Rattle.unit_code.specs.declared.unit.Unit.{Unit}
use Rattle.unit_code.specs.declared.unit.Unit.TheVariants.{Plain, Store, Load, Push, Pop, SpGroup, Reserve, Skip, Branch, Jump, LocalCall, KernelCall, SlotCall, SlotIndirect, Return}
use Rattle.unit_code.specs.declared.kinds.Standing.{Standing}
use Rattle.unit_code.specs.declared.kinds.Standing.TheVariants.{NoInstruction, Barred, Part}
use Rattle.unit_code.specs.declared.kinds.Aim.TheVariants.{Branching, Jumping, Calling}
use Rattle.unit_code.specs.Ends.{goes_on, long_length}
use Rattle.unit_code.specs.Items.{found, items_from, items_of, next_word, out_sph, out_spl, out_sreg, read, with_item}
use Rattle.unit_code.specs.Kinds.{aimed, standing_call, standing_entry, standing_of, standing_rcall, whole}
use Rattle.unit_code.specs.Lengths.{instruction_length}
use Rattle.unit_code.specs.Listing.{Listing}
use Rattle.unit_code.specs.Loads.{is_load, load_where}
use Rattle.unit_code.specs.Proper.{CanBeSkipped, IsGuardedSo, IsOfKind, LeadsBelow, SkipsAreSound, SkipsTo, is_group_unit}
use Rattle.unit_code.specs.Refusals.{first_refused, is_empty, is_group, leads, least_stray, lesser, may_skip, or_else, refused_at, refused_by, refusal_of_items, refusal_of_units, stray_mark}
use Rattle.unit_code.specs.Spelled.{AreEntered, AreInstructionsOf, BeginWith, IsSpelled, Spell, offset_to, out_high, out_low, out_status}
use Rattle.unit_code.specs.Targets.{AreFirstWords, number_of, number_reached, reached}
use Rattle.unit_code.specs.Units.{listed, places_of, refusal, to_unit, unit_at, unit_of, units_of}
use Rattle.unit_code.proofs.Chain.{by_marks, items_refusal, listed_from, marks_refusal, numbers_from, units_from, units_refusal}
use Rattle.unit_code.proofs.Numbers.{number_of-at}
use Rattle.unit_code.proofs.Offsets.{reached-offset_to}
use Rattle.unit_code.proofs.Places.{places_in, these_are_first_words}
use Rattle.unit_code.proofs.ProperUnits.{AreClean, IsClean}
use Rattle.unit_code.proofs.SpelledBack.{high_word, low_word, small_next, status_word}

-- what stands where a unit does
abbrev standing_for : List ℕ → ℕ → Unit → Standing
standing_for firsts place (Branch set bit u) = aimed (Branching set bit) (offset_to place (get_or firsts u 0))
standing_for firsts place (Jump u) = aimed Jumping (offset_to place (get_or firsts u 0))
standing_for firsts place (LocalCall u) = aimed Calling (offset_to place (get_or firsts u 0))
standing_for firsts place (Load i) = whole (Plain i)
standing_for firsts place u = whole u

abbrev items_for : List ℕ → List ℕ → List Unit → List Item
items_for firsts [] us = []
items_for firsts (p ∷ ps) [] = []
items_for firsts (p ∷ ps) (u ∷ us) = record { place = p; standing = standing_for firsts p u } ∷ items_for firsts ps us

-- What is read where a unit's instructions stand.
record IsFoundAs (standing : Standing) (is : List Instr) (w : ℕ) (ws rest : List ℕ) : Type 0 where
  further : ℕ
  here : found w (next_word ws) (next_word (drop 1 ws)) ≡ (standing, further)
  behind : drop further ws ≡ rest
  count : sum_by instruction_length is ≡ suc further

high_barred : standing_of out_high ≡ Barred 5
unfolding standing_of
high_barred = refl

found_read : (w : ℕ) (second third : Option ℕ) → (w == out_sph) ≡ false → found w second third ≡ read (decoded w second)
unfolding found
found_read w second third e = rw e refl

unequal : (a b : ℕ) → a ≢ b → (a == b) ≡ false
unequal a b h = grind (arith, nat_tests)

-- one instruction that stands for a unit, or for a unit with a target
alone : (standing : Standing) (i : Instr) (w : ℕ) (ws rest : List ℕ) → standing_of i ≡ standing → standing ≢ Barred 5
    → decoded w (next_word ws) ≡ Ok (i, instruction_length i) → drop (instruction_length i) (w ∷ ws) ≡ rest → IsFoundAs standing (i ∷ []) w ws rest
alone standing i w ws rest stands free is behind =
    let one = decoded_count w (next_word ws) i (instruction_length i) is in
    let more : instruction_length i ≡ suc (instruction_length i - 1) = omega (arith, one.0) in
    let other : w ≢ out_sph = λ same.
    let e : ◌≡◌ {A = Result (Instr × ℕ) DecodeError} (Ok (i, instruction_length i)) (Ok (out_high, 1)) = sym is ∙ ap (λ x. decoded x (next_word ws)) same ∙ high_word (next_word ws) in
    let both : ◌≡◌ {A = Instr × ℕ} (i, instruction_length i) (out_high, 1) = cc in
    let high : i ≡ out_high = ap (λ z. z.0) both in
    free (sym stands ∙ ap standing_of high ∙ high_barred) in
    record {
      further = instruction_length i - 1;
      here = found_read w (next_word ws) (next_word (drop 1 ws)) (unequal w out_sph other) ∙ ap read is ∙ ap (λ s. (s, instruction_length i - 1)) stands;
      behind = sym (ap (λ k. drop k (w ∷ ws)) more) ∙ behind;
      count = omega (arith, more);
    }

by_one : (standing : Standing) (i : Instr) (is : List Instr) (w : ℕ) (ws rest : List ℕ) → standing_of i ≡ standing → standing ≢ Barred 5
    → is ≡ i ∷ [] → BeginWith is (w ∷ ws) rest → IsFoundAs standing is w ws rest
by_one standing i is w ws rest stands free e begin =
    let P : List Instr → Type 0 = λ l. BeginWith l (w ∷ ws) rest in
    let Q : List Instr → Type 0 = λ l. IsFoundAs standing l w ws rest in
    let b = subst P e begin in
    subst Q (sym e) (alone standing i w ws rest stands free b.0 b.1)

-- the word of an instruction that is known
word_of : (w e : ℕ) (second : Option ℕ) (i : Instr) (n : ℕ) → w < 2 ^ 16 → IfSome second (λ k. k < 2 ^ 16) → e < 2 ^ 16 → decoded w second ≡ Ok (i, n) → decoded e None ≡ Ok (i, 1) → w ≡ e
word_of w e second i n small small_second small_e is known =
    (words_are_unique w e second None i n 1 (small, small_second) (small_e, tt) (row-decoded w second i n is) (row-decoded e None i 1 known)).0

group_three : found out_sph (Some out_sreg) (Some out_spl) ≡ (whole (SpGroup true), 2)
unfolding found
group_three = refl

group_two : (third : Option ℕ) → found out_sph (Some out_spl) third ≡ (whole (SpGroup false), 1)
unfolding found
group_two third = refl

three : (w : ℕ) (ws rest : List ℕ) → AllByRecursion (λ word. word < 2 ^ 16) (w ∷ ws) → BeginWith (out_high ∷ out_status ∷ out_low ∷ []) (w ∷ ws) rest
    → IsFoundAs (whole (SpGroup true)) (out_high ∷ out_status ∷ out_low ∷ []) w ws rest
three w [] rest small begin = absurd begin.1
three w (v ∷ []) rest small begin = absurd begin.1.1
three w (v ∷ u ∷ ws) rest small begin =
    let w_is : w ≡ out_sph = word_of w out_sph (Some v) out_high 1 small.0 small.1.0 (lit< tt) begin.0 (high_word None) in
    let v_is : v ≡ out_sreg = word_of v out_sreg (Some u) out_status 1 small.1.0 small.1.1.0 (lit< tt) begin.1.0 (status_word None) in
    let u_is : u ≡ out_spl = word_of u out_spl (next_word ws) out_low 1 small.1.1.0 (small_next ws small.1.1.1) (lit< tt) begin.1.1.0 (low_word None) in
    record {
      further = 2;
      here = ap (λ x. found x (Some v) (Some u)) w_is ∙ ap (λ x. found out_sph (Some x) (Some u)) v_is ∙ ap (λ x. found out_sph (Some out_sreg) (Some x)) u_is ∙ group_three;
      behind = begin.1.1.1;
      count = refl;
    }

two : (w : ℕ) (ws rest : List ℕ) → AllByRecursion (λ word. word < 2 ^ 16) (w ∷ ws) → BeginWith (out_high ∷ out_low ∷ []) (w ∷ ws) rest
    → IsFoundAs (whole (SpGroup false)) (out_high ∷ out_low ∷ []) w ws rest
two w [] rest small begin = absurd begin.1
two w (v ∷ ws) rest small begin =
    let w_is : w ≡ out_sph = word_of w out_sph (Some v) out_high 1 small.0 small.1.0 (lit< tt) begin.0 (high_word None) in
    let v_is : v ≡ out_spl = word_of v out_spl (next_word ws) out_low 1 small.1.0 (small_next ws small.1.1) (lit< tt) begin.1.0 (low_word None) in
    record {
      further = 1;
      here = ap (λ x. found x (Some v) (next_word ws)) w_is ∙ ap (λ x. found out_sph (Some x) (next_word ws)) v_is ∙ group_two (next_word ws);
      behind = begin.1.1;
      count = refl;
    }

by_group : (standing : Standing) (group is : List Instr) (w : ℕ) (ws rest : List ℕ) → is ≡ group → BeginWith is (w ∷ ws) rest → (BeginWith group (w ∷ ws) rest → IsFoundAs standing group w ws rest) → IsFoundAs standing is w ws rest
by_group standing group is w ws rest e begin found_so =
    let P : List Instr → Type 0 = λ l. BeginWith l (w ∷ ws) rest in
    let Q : List Instr → Type 0 = λ l. IsFoundAs standing l w ws rest in
    subst Q (sym e) (found_so (subst P e begin))

rcall_aimed : (offset : ℤ) → offset ≢ pos zero → standing_rcall offset ≡ aimed Calling offset
rcall_aimed (pos zero) apart = absurd (apart refl)
rcall_aimed (pos (suc k)) apart = refl
rcall_aimed (negsuc k) apart = refl

offset_apart : (place word : ℕ) → word ≢ place + 1 → offset_to place word ≢ pos zero
unfolding reached
offset_apart place word apart zero_is =
    let e : Some word ≡ reached place (pos zero) = sym (reached-offset_to place word) ∙ ap (reached place) zero_is in
    let same : word ≡ place + 1 + 0 = same_Some word (place + 1 + 0) e in
    apart (omega (arith, same))

call_stands : (address : ℕ) (e : Entry) → address < 2 ^ 16 → StandsAt e address → standing_call address ≡ standing_entry (Some e)
call_stands address e small stands =
    cond-true (ltb address (2 ^ 16)) (standing_entry (entry_at address)) (Barred 7) (lt-ltb address (2 ^ 16) small)
    ∙ ap standing_entry ((entry_at-some address e).1 stands)

unit_found : (firsts : List ℕ) (place : ℕ) (u : Unit) (is : List Instr) (w : ℕ) (ws rest : List ℕ) → AllByRecursion (λ word. word < 2 ^ 16) (w ∷ ws) → IsOfKind u
    → AreInstructionsOf firsts place u is → BeginWith is (w ∷ ws) rest → IsFoundAs (standing_for firsts place u) is w ws rest
unfolding standing_of
unit_found firsts place (Plain i) is w ws rest small kind opened begin = by_one (whole (Plain i)) i is w ws rest kind.0 (λ e. cc) opened begin
unit_found firsts place (Store i) is w ws rest small kind opened begin = by_one (whole (Store i)) i is w ws rest kind.0 (λ e. cc) opened begin
unit_found firsts place (Load i) is w ws rest small kind opened begin = by_one (whole (Plain i)) i is w ws rest kind.0 (λ e. cc) opened begin
unit_found firsts place (Skip i) is w ws rest small kind opened begin = by_one (whole (Skip i)) i is w ws rest kind.0 (λ e. cc) opened begin
unit_found firsts place (Push r) is w ws rest small kind opened begin = by_one (whole (Push r)) (instr.Push r) is w ws rest refl (λ e. cc) opened begin
unit_found firsts place (Pop d) is w ws rest small kind opened begin = by_one (whole (Pop d)) (instr.Pop d) is w ws rest refl (λ e. cc) opened begin
unit_found firsts place (SpGroup true) is w ws rest small kind opened begin =
    by_group (whole (SpGroup true)) (out_high ∷ out_status ∷ out_low ∷ []) is w ws rest opened begin (three w ws rest small)
unit_found firsts place (SpGroup false) is w ws rest small kind opened begin =
    by_group (whole (SpGroup false)) (out_high ∷ out_low ∷ []) is w ws rest opened begin (two w ws rest small)
unit_found firsts place Reserve is w ws rest small kind opened begin = by_one (whole Reserve) (instr.Rcall (pos zero)) is w ws rest refl (λ e. cc) opened begin
unit_found firsts place (Branch true bit u) is w ws rest small kind opened begin =
    by_one (standing_for firsts place (Branch true bit u)) (instr.Brbs bit (offset_to place (get_or firsts u 0))) is w ws rest refl (λ e. cc) opened begin
unit_found firsts place (Branch false bit u) is w ws rest small kind opened begin =
    by_one (standing_for firsts place (Branch false bit u)) (instr.Brbc bit (offset_to place (get_or firsts u 0))) is w ws rest refl (λ e. cc) opened begin
unit_found firsts place (Jump u) is w ws rest small kind opened begin =
    by_one (standing_for firsts place (Jump u)) (instr.Rjmp (offset_to place (get_or firsts u 0))) is w ws rest refl (λ e. cc) opened begin
unit_found firsts place (LocalCall u) is w ws rest small kind opened begin =
    let offset = offset_to place (get_or firsts u 0) in
    by_one (standing_for firsts place (LocalCall u)) (instr.Rcall offset) is w ws rest (rcall_aimed offset (offset_apart place (get_or firsts u 0) opened.1)) (λ e. cc) opened.0 begin
unit_found firsts place (KernelCall n) is w ws rest small kind (address, stands, opened) begin =
    by_one (whole (KernelCall n)) (instr.Call address) is w ws rest (call_stands address (Kernel n) (omega (arith, stands)) stands) (λ e. cc) opened begin
unit_found firsts place (SlotCall n) is w ws rest small kind (address, stands, opened) begin =
    by_one (whole (SlotCall n)) (instr.Call address) is w ws rest (call_stands address (Slot n) (omega (arith, stands)) stands) (λ e. cc) opened begin
unit_found firsts place SlotIndirect is w ws rest small kind opened begin = by_one (whole SlotIndirect) instr.Icall is w ws rest refl (λ e. cc) opened begin
unit_found firsts place Return is w ws rest small kind opened begin = by_one (whole Return) instr.Ret is w ws rest refl (λ e. cc) opened begin

-- a unit has an instruction
some_instruction : (firsts : List ℕ) (place : ℕ) (u : Unit) → AreInstructionsOf firsts place u [] → ⊥
some_instruction firsts place (SpGroup true) opened = cc
some_instruction firsts place (SpGroup false) opened = cc
some_instruction firsts place (Branch true bit u) opened = cc
some_instruction firsts place (Branch false bit u) opened = cc
some_instruction firsts place (LocalCall u) opened = let e = opened.0 in cc
some_instruction firsts place (KernelCall n) (address, stands, opened) = cc
some_instruction firsts place (SlotCall n) (address, stands, opened) = cc
some_instruction firsts place _ opened = cc

no_words : (firsts : List ℕ) (place : ℕ) (u : Unit) (is : List Instr) (rest : List ℕ) → AreInstructionsOf firsts place u is → BeginWith is [] rest → ⊥
no_words firsts place u [] rest opened begin = some_instruction firsts place u opened
no_words firsts place u (i ∷ is) rest opened begin = begin

-- words that belong to an item are passed
passed : (over place : ℕ) (words : List ℕ) → items_from over place words ≡ items_from 0 (place + over) (drop over words)
passed zero place [] = refl
passed (suc over) place [] = refl
passed zero place (w ∷ ws) = let same : place ≡ place + 0 = omega arith in ap (λ p. items_from 0 p (w ∷ ws)) same
passed (suc over) place (w ∷ ws) =
    let same : place + 1 + over ≡ place + suc over = omega arith in
    passed over (place + 1) ws ∙ ap (λ p. items_from 0 p (drop over ws)) same

small_behind : (n : ℕ) (words : List ℕ) → AllByRecursion (λ word. word < 2 ^ 16) words → AllByRecursion (λ word. word < 2 ^ 16) (drop n words)
small_behind zero words small = small
small_behind (suc n) [] small = tt
small_behind (suc n) (w ∷ ws) small = small_behind n ws small.1

items_again : (firsts : List ℕ) (place : ℕ) (ps : List ℕ) (us : List Unit) (words : List ℕ) → AllByRecursion (λ word. word < 2 ^ 16) words → AllByRecursion IsOfKind us
    → Spell firsts place ps us words → items_from 0 place words ≡ items_for firsts ps us
items_again firsts place [] [] words small kinds spelled = ap (items_from 0 place) spelled
items_again firsts place [] (u ∷ us) words small kinds spelled = absurd spelled
items_again firsts place (p ∷ ps) [] words small kinds spelled = absurd spelled
items_again firsts place (p ∷ ps) (u ∷ us) [] small kinds (p_is, is, rest, opened, begin, more) = absurd (no_words firsts place u is rest opened begin)
items_again firsts place (p ∷ ps) (u ∷ us) (w ∷ ws) small kinds (p_is, is, rest, opened, begin, more) =
    let f = unit_found firsts place u is w ws rest small kinds.0 opened begin in
    let P : List ℕ → Type 0 = AllByRecursion (λ word. word < 2 ^ 16) in
    let next : place + 1 + f.further ≡ place + sum_by instruction_length is = omega (arith, f.count) in
    let behind = items_again firsts (place + sum_by instruction_length is) ps us rest (subst P f.behind (small_behind f.further ws small.1)) kinds.1 more in
    ap (λ g. with_item place g (λ over. items_from over (place + 1) ws)) f.here
    ∙ ap (λ l. record { place = place; standing = standing_for firsts place u } ∷ l)
    (passed f.further (place + 1) ws ∙ ap (λ l. items_from 0 (place + 1 + f.further) l) f.behind ∙ ap (λ n. items_from 0 n rest) next ∙ behind)
    ∙ ap (λ n. record { place = n; standing = standing_for firsts n u } ∷ items_for firsts ps us) (sym p_is)

as_many : (firsts : List ℕ) (place : ℕ) (ps : List ℕ) (us : List Unit) (words : List ℕ) → Spell firsts place ps us words → length ps ≡ length us
as_many firsts place [] [] words spelled = refl
as_many firsts place [] (u ∷ us) words spelled = absurd spelled
as_many firsts place (p ∷ ps) [] words spelled = absurd spelled
as_many firsts place (p ∷ ps) (u ∷ us) words (p_is, is, rest, opened, begin, more) = ap suc (as_many firsts (place + sum_by instruction_length is) ps us rest more)

places_again : (firsts ps : List ℕ) (us : List Unit) → length ps ≡ length us → places_in (items_for firsts ps us) ≡ ps
places_again firsts [] us same = refl
places_again firsts (p ∷ ps) [] same = absurd (omega (arith, same))
places_again firsts (p ∷ ps) (u ∷ us) same = ap (λ l. p ∷ l) (places_again firsts ps us (omega (arith, same)))

-- the unit that a target names is found again
found_number : (firsts : List ℕ) (place u : ℕ) → AreFirstWords firsts → u < length firsts → number_reached firsts (reached place (offset_to place (get_or firsts u 0))) ≡ Some u
found_number firsts place u first below =
    ap (number_reached firsts) (reached-offset_to place (get_or firsts u 0)) ∙ number_of-at firsts (get_or firsts u 0) u first below refl

unit_again : (sealed : Bool) (firsts : List ℕ) (place : ℕ) (u : Unit) → AreFirstWords firsts → LeadsBelow (length firsts) u → IsOfKind u → IsGuardedSo sealed u → unit_at sealed firsts place (standing_for firsts place u) ≡ Some u
unit_again sealed firsts place (Plain i) first below kind load = ap (λ b. Some (load_where b i)) load
unit_again sealed firsts place (Load i) first below kind load = ap (λ b. Some (load_where b i)) (and_from sealed (is_load i) load kind.1)
unit_again sealed firsts place (Branch set bit u) first below kind load = ap (option_map (to_unit (Branching set bit))) (found_number firsts place u first below)
unit_again sealed firsts place (Jump u) first below kind load = ap (option_map (to_unit Jumping)) (found_number firsts place u first below)
unit_again sealed firsts place (LocalCall u) first below kind load = ap (option_map (to_unit Calling)) (found_number firsts place u first below)
unit_again sealed firsts place _ first below kind load = refl

units_again : (sealed : Bool) (firsts ps : List ℕ) (us : List Unit) → AreFirstWords firsts → length ps ≡ length us → AllByRecursion (LeadsBelow (length firsts)) us → AllByRecursion IsOfKind us → AllByRecursion (IsGuardedSo sealed) us → us ≡ filter_map (unit_of sealed firsts) (items_for firsts ps us)
units_again sealed firsts [] [] first same below kinds loads = refl
units_again sealed firsts [] (u ∷ us) first same below kinds loads = absurd (omega (arith, same))
units_again sealed firsts (p ∷ ps) [] first same below kinds loads = absurd (omega (arith, same))
units_again sealed firsts (p ∷ ps) (u ∷ us) first same below kinds loads =
    ap (λ l. u ∷ l) (units_again sealed firsts ps us first (omega (arith, same)) below.1 kinds.1 loads.1)
    ∙ sym (ap (λ o. cons_option o (filter_map (unit_of sealed firsts) (items_for firsts ps us))) (unit_again sealed firsts p u first below.0 kinds.0 loads.0))

-- and no condition on single words holds
same_group : (firsts : List ℕ) (place : ℕ) (u : Unit) → is_group (standing_for firsts place u) ≡ is_group_unit u
same_group firsts place (SpGroup with_sreg) = refl
same_group firsts place _ = refl

skipped : (firsts ps : List ℕ) (us : List Unit) → length ps ≡ length us → CanBeSkipped us → may_skip (items_for firsts ps us) ≡ true
skipped firsts [] [] same can = absurd can
skipped firsts [] (u ∷ us) same can = absurd (omega (arith, same))
skipped firsts (p ∷ ps) [] same can = absurd can
skipped firsts (p ∷ []) (u ∷ []) same can = absurd can
skipped firsts (p ∷ []) (u ∷ v ∷ us) same can = absurd (omega (arith, same))
skipped firsts (p ∷ q ∷ ps) (u ∷ []) same can = absurd can
skipped firsts (p ∷ q ∷ ps) (u ∷ v ∷ us) same can = ap not (same_group firsts p u ∙ can)

clean_here : (firsts : List ℕ) (place : ℕ) (u : Unit) (ps : List ℕ) (us : List Unit) → AreFirstWords firsts → length ps ≡ length us → LeadsBelow (length firsts) u → SkipsTo u us
    → IsClean firsts place (standing_for firsts place u) (items_for firsts ps us)
clean_here firsts place (Branch set bit u) ps us first same below skips = ap is_some (found_number firsts place u first below)
clean_here firsts place (Jump u) ps us first same below skips = ap is_some (found_number firsts place u first below)
clean_here firsts place (LocalCall u) ps us first same below skips = ap is_some (found_number firsts place u first below)
clean_here firsts place (Skip i) ps us first same below skips = skipped firsts ps us same skips
clean_here firsts place _ ps us first same below skips = refl

clean_again : (firsts ps : List ℕ) (us : List Unit) → AreFirstWords firsts → length ps ≡ length us → AllByRecursion (LeadsBelow (length firsts)) us → SkipsAreSound us
    → AreClean firsts (items_for firsts ps us)
clean_again firsts [] us first same below skips = tt
clean_again firsts (p ∷ ps) [] first same below skips = tt
clean_again firsts (p ∷ ps) (u ∷ us) first same below skips =
    let rest : length ps ≡ length us = omega (arith, same) in
    (clean_here firsts p u ps us first rest below.0 skips.0, clean_again firsts ps us first rest below.1 skips.1)

none_here : (c : Condition) (places : List ℕ) (place : ℕ) (standing : Standing) (behind : List Item) → IsClean places place standing behind → refused_at c places place standing behind ≡ None
none_here c places place NoInstruction behind clean = absurd clean
none_here c places place (Barred kind) behind clean = absurd clean
none_here condition.NoInstruction places place (Part piece) behind clean = refl
none_here condition.Barred places place (Part piece) behind clean = refl
none_here condition.Misaimed places place (Part piece) behind clean = cond-true (leads piece place places behind) None (Some (Target place)) clean

none_first : (c : Condition) (places : List ℕ) (items : List Item) → AreClean places items → first_refused (refused_by c places) items ≡ None
none_first c places [] clean = refl
none_first c places (item ∷ behind) clean =
    ap (λ o. or_else o (first_refused (refused_by c places) behind)) (none_here c places item.place item.standing behind clean.0) ∙ none_first c places behind clean.1

clean_is_none : (places : List ℕ) (items : List Item) → AreClean places items → refusal_of_items places items ≡ None
unfolding refusal_of_items
clean_is_none places items clean =
    let third = first_refused (refused_by condition.Misaimed places) items in
    ap (λ o. or_else o (or_else (first_refused (refused_by condition.Barred places) items) third)) (none_first condition.NoInstruction places items clean)
    ∙ ap (λ o. or_else o third) (none_first condition.Barred places items clean)
    ∙ none_first condition.Misaimed places items clean

-- nor one on the units
some_word : (firsts : List ℕ) (place : ℕ) (ps : List ℕ) (us : List Unit) (words : List ℕ) → 0 < length us → Spell firsts place ps us words → is_empty words ≡ false
some_word firsts place ps us (w ∷ ws) some spelled = refl
some_word firsts place ps [] [] some spelled = absurd (omega (arith, some))
some_word firsts place [] (u ∷ us) [] some spelled = absurd spelled
some_word firsts place (p ∷ ps) (u ∷ us) [] some (p_is, is, rest, opened, begin, more) = absurd (no_words firsts place u is rest opened begin)

proper_is_none : (words : List ℕ) (us : List Unit) → is_empty words ≡ false → goes_on us ≡ false → long_length us ≤ bank_words → refusal_of_units words us ≡ None
unfolding refusal_of_units
proper_is_none words us some ends fits =
    let long = Some (TooLong (min (long_length us) 65535)) in
    cond-false (goes_on us) (Some FallsOff) (cond (is_empty words) (Some Empty) (cond (ltb bank_words (long_length us)) long None)) ends
    ∙ cond-false (is_empty words) (Some Empty) (cond (ltb bank_words (long_length us)) long None) some
    ∙ cond-false (ltb bank_words (long_length us)) long None (le-ltb bank_words (long_length us) fits)

-- nor one on the marks
none_stray : (firsts numbers marks : List ℕ) → AreFirstWords firsts → AreEntered firsts numbers marks → least_stray firsts marks ≡ None
none_stray firsts [] [] first entered = refl
none_stray firsts [] (mark ∷ marks) first entered = absurd entered
none_stray firsts (number ∷ numbers) [] first entered = absurd entered
none_stray firsts (number ∷ numbers) (mark ∷ marks) first entered =
    ap (λ o. cond (is_some o) (least_stray firsts marks) (lesser (least_stray firsts marks) mark)) (number_of-at firsts mark number first entered.0 entered.1)
    ∙ none_stray firsts numbers marks first entered.2

no_stray : (firsts numbers marks : List ℕ) → AreFirstWords firsts → AreEntered firsts numbers marks → stray_mark firsts marks ≡ None
unfolding stray_mark
no_stray firsts numbers marks first entered = ap (option_map EntryError) (none_stray firsts numbers marks first entered)

numbers_again : (firsts numbers marks : List ℕ) → AreFirstWords firsts → AreEntered firsts numbers marks → numbers ≡ filter_map (number_of firsts) marks
numbers_again firsts [] [] first entered = refl
numbers_again firsts [] (mark ∷ marks) first entered = absurd entered
numbers_again firsts (number ∷ numbers) [] first entered = absurd entered
numbers_again firsts (number ∷ numbers) (mark ∷ marks) first entered =
    ap (λ l. number ∷ l) (numbers_again firsts numbers marks first entered.2)
    ∙ sym (ap (λ o. cons_option o (filter_map (number_of firsts) marks)) (number_of-at firsts mark number first entered.0 entered.1))

pub spelled_are_read : (words marks : List ℕ) (sealed : Bool) (l : Listing) → AllByRecursion (λ word. word < 2 ^ 16) words → length words ≤ 65535 → IsSpelled words marks sealed l
    → (refusal words marks sealed ≡ None) × (listed words marks sealed ≡ l)
spelled_are_read words marks sealed l small few s =
    let firsts = l.places in
    let us = l.units in
    let items = items_for firsts firsts us in
    let same = as_many firsts 0 firsts us words s.spelled in
    let read_items : items ≡ items_of words = sym (items_again firsts 0 firsts us words small s.proper.kinds s.spelled) in
    let told : firsts ≡ places_in items = sym (places_again firsts firsts us same) in
    let read_places : firsts ≡ places_of words = told ∙ ap places_in read_items in
    let first : AreFirstWords firsts = these_are_first_words words firsts items few read_items told in
    let P : ℕ → Type 0 = λ n. AllByRecursion (LeadsBelow n) us in
    let below = subst P (sym same) s.proper.targets in
    let made = units_again sealed firsts firsts us first same below s.proper.kinds s.proper.loads in
    let read_units : us ≡ units_of words sealed = units_from sealed words firsts items us read_items read_places made in
    let read_numbers = numbers_from words firsts marks l.marks read_places (numbers_again firsts l.marks marks first s.entered) in (
      by_marks words marks sealed None
          (items_refusal words firsts items read_items read_places ∙ clean_is_none firsts items (clean_again firsts firsts us first same below s.proper.skips))
          (units_refusal sealed words us read_units ∙ proper_is_none words us (some_word firsts 0 firsts us words s.proper.some s.spelled) s.proper.ends s.proper.fits)
          (marks_refusal words firsts marks read_places ∙ no_stray firsts l.marks marks first s.entered),
      sym (listed_from words marks sealed us firsts l.marks read_units read_places read_numbers),
    )
