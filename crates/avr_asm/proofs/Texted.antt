-- The rows of a text that is written line by line.
use Rattle.std.specs.Prelude.{◌≡◌, ◌⊎◌, ℕ, suc, ◌+◌, ◌^◌, ◌<◌, ◌≤◌, ◌==◌, ◌&&◌, ◌||◌, nat_le, nat_lt, Bool, true, false, List, [], ◌∷◌, ◌++◌, length, Option, Some, None, is_none, codes, decimal, ⊤}
use Rattle.std.specs.Str.{bytes_eq}
use Rattle.std.specs.List.{AllByRecursion}
use Rattle.std.proofs.Common.{refl, sym, ◌∙◌, ap, arith, append_assoc, get_or, inl, inr}
use Rattle.std.proofs.lemmas.Bool.{and_parts, and_from, cases_lt, eq-eqb, ne_eqb, le-leb, lt-ltb, or_left, true≢false, cond-true, cond-false}
use Rattle.std.proofs.lemmas.Fmt.{decimal_digit, first_decimal}
use Rattle.avr_isa.specs.declared.instruction.Instr.{Instr}
use Rattle.avr_isa.specs.declared.instruction.Instr.TheVariants as instr
use Rattle.mote_layout.specs.Limits.{provided_limit, subscribed_limit}
use Rattle.unit_code.specs.declared.unit.Unit.{Unit}
use Rattle.unit_code.specs.declared.unit.Unit.TheVariants as unit
use Rattle.avr_list.specs.Instructions.{HasText, instruction_text}
use Rattle.avr_list.proofs.Held.{plain_has_text, skip_has_text, store_has_text}
use Rattle.module_image.specs.declared.face.Provided.{Provided}
use Rattle.module_image.specs.declared.face.Subscribed.{Subscribed}
use Rattle.module_image.specs.Contents.{AreProvided, second_version}
use Rattle.avr_asm.specs.declared.stage.Step.{Step}
use Rattle.avr_asm.specs.declared.stage.Step.TheVariants.{Named, Sized, Handled, Closed, Providing, Subscribing, Constants, Body}
use Rattle.avr_asm.specs.declared.stage.Stage.{Stage}
use Rattle.avr_asm.specs.Text.{are_digits, are_word, begins_well, has, is_blank, is_goal, is_name, is_number, is_word, lines_in}
use Rattle.avr_asm.specs.Line.{Line, Module, Version, State, Handler, Sealed, Provides, Subscribes, Const, Code, Label, Item, Rules, ended, line_text}
use Rattle.avr_asm.specs.Rows.{Row, allowed, at_step, behind, is_between, kept, place_after, rank, rows, start, unit_after, with_provided, with_subscribed, with_version}
use Rattle.avr_asm.specs.Refusals.{first, is_misplaced, is_sealed, led, resolved, seals, some_goal}
use Rattle.avr_asm.specs.Assembly.{numbers_of, onto_numbers, onto_provided, onto_subscribed, onto_units, pairs_in, pairs_of, provided_of, subscribed_of, units_in}
use Rattle.avr_asm.specs.Source.{constant_lines, provided_lines, seal_lines, subscribed_lines, text_of, unit_lines}
use Rattle.avr_asm.proofs.Cuts.{line_parted}
use Rattle.avr_asm.proofs.Texts.{digits-decimal, value-decimal, word-decimal}
use Rattle.avr_asm.proofs.Whole.{lines_lack, said_own}

abbrev pub all_ended : List Line → List (List ℕ)
all_ended [] = []
all_ended (l ∷ ls) = ended l ∷ all_ended ls

pub lines_of_text : (ls : List Line) → AllByRecursion Rules ls → lines_in (text_of ls) ≡ all_ended ls
lines_of_text [] h = refl
lines_of_text (l ∷ ls) h = ap lines_in (append_assoc (line_text l) (10 ∷ []) (text_of ls)) ∙ line_parted (line_text l) (text_of ls) (lines_lack l h.0) ∙ ap (λ (z : List (List ℕ)). ended l ∷ z) (lines_of_text ls h.1)

held_not_blank : (i : Instr) → HasText i → is_blank (instruction_text i ++ codes "\n") ≡ false
unfolding instruction_text
held_not_blank (instr.LpmZ d) has_text = absurd (has_text refl)
held_not_blank (instr.LpmZInc d) has_text = absurd (has_text refl)
held_not_blank (instr.ElpmZ d) has_text = absurd (has_text refl)
held_not_blank (instr.ElpmZInc d) has_text = absurd (has_text refl)
held_not_blank (instr.Pop d) has_text = absurd (has_text refl)
held_not_blank (instr.Push r) has_text = absurd (has_text refl)
held_not_blank instr.Ijmp has_text = absurd (has_text refl)
held_not_blank instr.Icall has_text = absurd (has_text refl)
held_not_blank instr.Ret has_text = absurd (has_text refl)
held_not_blank instr.Reti has_text = absurd (has_text refl)
held_not_blank instr.Sleep has_text = absurd (has_text refl)
held_not_blank instr.Break has_text = absurd (has_text refl)
held_not_blank instr.Wdr has_text = absurd (has_text refl)
held_not_blank instr.LpmR0 has_text = absurd (has_text refl)
held_not_blank instr.ElpmR0 has_text = absurd (has_text refl)
held_not_blank instr.Spm has_text = absurd (has_text refl)
held_not_blank (instr.Jmp k) has_text = absurd (has_text refl)
held_not_blank (instr.Call k) has_text = absurd (has_text refl)
held_not_blank (instr.Cbi A b) has_text = absurd (has_text refl)
held_not_blank (instr.Sbic A b) has_text = absurd (has_text refl)
held_not_blank (instr.Sbi A b) has_text = absurd (has_text refl)
held_not_blank (instr.Sbis A b) has_text = absurd (has_text refl)
held_not_blank (instr.Rjmp k) has_text = absurd (has_text refl)
held_not_blank (instr.Rcall k) has_text = absurd (has_text refl)
held_not_blank (instr.Brbs s k) has_text = absurd (has_text refl)
held_not_blank (instr.Brbc s k) has_text = absurd (has_text refl)
held_not_blank _ has_text = refl

not_word : (c b : ℕ) → is_word b ≡ false → is_word c ≡ true → (c == b) ≡ false
not_word c b hb hc = ne_eqb c b (λ e. absurd (true≢false (sym hc ∙ ap is_word e ∙ hb)))

name_not_blank : (name t : List ℕ) → is_name name ≡ true → is_blank (name ++ t) ≡ false
name_not_blank [] t h = absurd (true≢false (sym h))
name_not_blank (c ∷ cs) t h =
    let w = (and_parts (is_word c) _ (and_parts (are_word (c ∷ cs)) _ h).0).0 in
    ap (λ (b : Bool). (b && bytes_eq (cs ++ t) []) || ((c == 35) && has 10 (c ∷ (cs ++ t)))) (not_word c 10 refl w) ∙ ap (λ (b : Bool). b && has 10 (c ∷ (cs ++ t))) (not_word c 35 refl w)

not_blank : (l : Line) → Rules l → is_blank (ended l) ≡ false
not_blank (Label name) h = ap is_blank (append_assoc name (58 ∷ []) (10 ∷ [])) ∙ name_not_blank name (58 ∷ 10 ∷ []) h
not_blank (Module id) h = refl
not_blank (Version v) h = refl
not_blank (State size) h = refl
not_blank (Handler goal) h = refl
not_blank Sealed h = refl
not_blank (Provides func proto goal) h = refl
not_blank (Subscribes m func proto) h = refl
not_blank (Const pairs) h = refl
not_blank Code h = refl
not_blank (Item (unit.Plain i) goal) h = held_not_blank i (plain_has_text i h.0.0)
not_blank (Item (unit.Store i) goal) h = held_not_blank i (store_has_text i h.0.0)
not_blank (Item (unit.Skip i) goal) h = held_not_blank i (skip_has_text i h.0.0)
not_blank (Item (unit.Load i) goal) h = absurd (true≢false (sym h.1))
not_blank (Item (unit.Branch true bit t) goal) h = refl
not_blank (Item (unit.Branch false bit t) goal) h = refl
not_blank (Item (unit.SpGroup true) goal) h = refl
not_blank (Item (unit.SpGroup false) goal) h = refl
not_blank (Item _ goal) h = refl

-- the rows of lines
abbrev pub row_list : ℕ → Stage → ℕ → ℕ → List Line → List Row
row_list n s k place [] = []
row_list n s k place (l ∷ ls) = record { line = n; stage = s; unit = k; place = place; says = Some l } ∷ row_list (suc n) (kept s (behind s (Some l))) (unit_after k (Some l)) (place_after place (Some l)) ls

pub rows_are : (n : ℕ) (s : Stage) (k place : ℕ) (ls : List Line) → AllByRecursion Rules ls → rows n s k place (all_ended ls) ≡ row_list n s k place ls
rows_are n s k place [] h = refl
rows_are n s k place (l ∷ ls) h =
    cond-false (is_blank (ended l)) _ _ (not_blank l h.0)
    ∙ ap (λ (o : Option Line). record { line = n; stage = s; unit = k; place = place; says = o } ∷ rows (suc n) (kept s (behind s o)) (unit_after k o) (place_after place o) (all_ended ls)) (said_own l h.0)
    ∙ ap (λ (z : List Row). record { line = n; stage = s; unit = k; place = place; says = Some l } ∷ z) (rows_are (suc n) (kept s (behind s (Some l))) (unit_after k (Some l)) (place_after place (Some l)) ls h.1)

-- A number in decimal is a goal, and names its unit.
begins_from : (ds : List ℕ) → 48 < get_or ds 0 0 → begins_well ds ≡ true
begins_from [] h = absurd (omega (arith, h))
begins_from (c ∷ []) h = refl
begins_from (c ∷ d ∷ ds) h = lt-ltb 48 c h

begins_decimal : (n : ℕ) → n < 2 ^ 64 → begins_well (decimal n) ≡ true
begins_decimal n h = elim (cases_lt 0 n) as (λ z. begins_well (decimal n) ≡ true) [
  | inl p ↦ begins_from (decimal n) (first_decimal n p h)
  | inr p ↦ (let e : n ≡ 0 = omega (arith, p) in ap (λ (m : ℕ). begins_well (decimal m)) e ∙ ap begins_well (decimal_digit 0 (omega arith)))
]

number_decimal : (n : ℕ) → n < 2 ^ 16 → is_number (decimal n) ≡ true
number_decimal n h = and_from (are_digits (decimal n)) _ (digits-decimal n (omega (arith, h))) (begins_decimal n (omega (arith, h)))

pub goal_decimal : (n : ℕ) → n < 2 ^ 16 → is_goal (decimal n) ≡ true
goal_decimal n h = and_from (are_word (decimal n)) _ (word-decimal n (omega (arith, h))) (or_left (is_number (decimal n)) _ (number_decimal n h))

pub resolved_decimal : (all : List Row) (n : ℕ) → n < 2 ^ 16 → resolved all (decimal n) ≡ Some n
resolved_decimal all n h = cond-true (is_number (decimal n)) _ _ (number_decimal n h) ∙ ap Some (value-decimal n h)

pub some_decimal : (g : List ℕ) → is_goal g ≡ true → some_goal g ≡ Some g
some_decimal [] h = absurd (true≢false (sym h))
some_decimal (c ∷ cs) h = refl

pub led_decimal : (all : List Row) (n : ℕ) → n < 2 ^ 16 → led all (some_goal (decimal n)) ≡ Some n
led_decimal all n h = ap (led all) (some_decimal (decimal n) (goal_decimal n h)) ∙ resolved_decimal all n h

-- Each line is in its place, from a stage on.
abbrev pub Walks : Stage → List Line → Type 0
Walks s [] = ⊤
Walks s (l ∷ ls) = (next : Stage) × (behind s (Some l) ≡ Some next) × Walks next ls

pub walks_placed : (n : ℕ) (s : Stage) (k place : ℕ) (ls : List Line) → Walks s ls → first is_misplaced (row_list n s k place ls) ≡ None
walks_placed n s k place [] h = refl
walks_placed n s k place (l ∷ ls) (next, is, more) =
    cond-false (is_none (behind s (Some l))) _ _ (ap is_none is)
    ∙ ap (λ (z : Stage). first is_misplaced (row_list (suc n) z (unit_after k (Some l)) (place_after place (Some l)) ls)) (ap (kept s) is)
    ∙ walks_placed (suc n) next (unit_after k (Some l)) (place_after place (Some l)) ls more

then : (b : Bool) (s : Stage) → b ≡ true → allowed b s ≡ Some s
then b s h = ap (λ (t : Bool). allowed t s) h

step_between : (last step : Step) → 4 ≤ rank step → rank step ≤ rank last → is_between last step ≡ true
step_between last step a b = and_from (nat_le 4 (rank step)) _ (le-leb 4 (rank step) a) (le-leb (rank step) (rank last) b)

units_walk : (s : Stage) (us : List Unit) → Walks (at_step Body s) (unit_lines us)
units_walk s [] = tt
units_walk s (u ∷ us) = (at_step Body s, refl, units_walk s us)

code_walk : (s : Stage) (us : List Unit) → 4 ≤ rank s.step → rank s.step ≤ 8 → Walks s (Code ∷ unit_lines us)
code_walk s us a b = (at_step Body s, then _ (at_step Body s) (step_between Constants s.step a b), units_walk s us)

const_walk : (s : Stage) (cs : List ℕ) (us : List Unit) → 4 ≤ rank s.step → rank s.step ≤ 7 → (s.version ≡ second_version) ⊎ (cs ≡ []) → Walks s (constant_lines cs ++ (Code ∷ unit_lines us))
const_walk s [] us a b v = code_walk s us a (omega (arith, b))
const_walk s (c ∷ cs) us a b (inl v) = (at_step Constants s, then _ (at_step Constants s) (and_from (is_between Subscribing s.step) _ (step_between Subscribing s.step a b) (eq-eqb s.version second_version v)), code_walk (at_step Constants s) us (omega arith) (omega arith))
const_walk s (c ∷ cs) us a b (inr v) = absurd (cc)

subscribed_walk : (s : Stage) (ss : List Subscribed) (cs : List ℕ) (us : List Unit) → 4 ≤ rank s.step → rank s.step ≤ 7 → s.subscribed + length ss ≤ subscribed_limit → (s.version ≡ second_version) ⊎ (cs ≡ []) → Walks s (subscribed_lines ss ++ (constant_lines cs ++ (Code ∷ unit_lines us)))
subscribed_walk s [] cs us a b few v = const_walk s cs us a b v
subscribed_walk s (x ∷ ss) cs us a b few v = (
  with_subscribed s,
  then _ (with_subscribed s) (and_from (is_between Subscribing s.step) _ (step_between Subscribing s.step a b) (lt-ltb s.subscribed subscribed_limit (omega (arith, few)))),
  subscribed_walk (with_subscribed s) ss cs us (omega arith) (omega arith) (omega (arith, few)) v,
)

provided_walk : (s : Stage) (ps : List Provided) (ns : List ℕ) (ss : List Subscribed) (cs : List ℕ) (us : List Unit) → 4 ≤ rank s.step → rank s.step ≤ 6 → s.provided + length ps ≤ provided_limit → AreProvided s.least ps → s.subscribed + length ss ≤ subscribed_limit → (s.version ≡ second_version) ⊎ (cs ≡ []) → Walks s (provided_lines ps ns ++ (subscribed_lines ss ++ (constant_lines cs ++ (Code ∷ unit_lines us))))
provided_walk s [] ns ss cs us a b few rise more v = subscribed_walk s ss cs us a (omega (arith, b)) more v
provided_walk s (p ∷ ps) [] ss cs us a b few rise more v = subscribed_walk s ss cs us a (omega (arith, b)) more v
provided_walk s (p ∷ ps) (n ∷ ns) ss cs us a b few rise more v = (
  with_provided p.func s,
  then _ (with_provided p.func s) (and_from (is_between Providing s.step) _ (step_between Providing s.step a b) (and_from (nat_lt s.provided provided_limit) _ (lt-ltb s.provided provided_limit (omega (arith, few))) (le-leb s.least p.func rise.0))),
  provided_walk (with_provided p.func s) ps ns ss cs us (omega arith) (omega arith) (omega (arith, few)) rise.4 more v,
)

pub seal_walk : (s : Stage) (sealed : Bool) (ps : List Provided) (ns : List ℕ) (ss : List Subscribed) (cs : List ℕ) (us : List Unit) → rank s.step ≡ 4 → s.provided + length ps ≤ provided_limit → AreProvided s.least ps → s.subscribed + length ss ≤ subscribed_limit → (s.version ≡ second_version) ⊎ (cs ≡ []) → (s.version ≡ second_version) ⊎ (sealed ≡ false) → Walks s (seal_lines sealed ++ (provided_lines ps ns ++ (subscribed_lines ss ++ (constant_lines cs ++ (Code ∷ unit_lines us)))))
seal_walk s false ps ns ss cs us r few rise more v w = provided_walk s ps ns ss cs us (omega (arith, r)) (omega (arith, r)) few rise more v
seal_walk s true ps ns ss cs us r few rise more v (inl w) = (at_step Closed s, then _ (at_step Closed s) (and_from (rank s.step == 4) _ (eq-eqb (rank s.step) 4 r) (eq-eqb s.version second_version w)), provided_walk (at_step Closed s) ps ns ss cs us (omega arith) (omega arith) few rise more v)
seal_walk s true ps ns ss cs us r few rise more v (inr w) = absurd (true≢false w)

-- the stage behind the handler's line
abbrev pub handled : ℕ → Stage
handled version = record { step = Handled; version = version; provided = 0; least = 0; subscribed = 0 }

pub opening_walk : (id version size : ℕ) (goal : List ℕ) (ls : List Line) → Walks (handled version) ls → Walks start (Module id ∷ Version version ∷ State size ∷ Handler goal ∷ ls)
opening_walk id version size goal ls h =
    (at_step Named start, refl, (with_version version (at_step Named start), refl, (at_step Sized (with_version version (at_step Named start)), refl, (handled version, refl, h))))

-- What rows hold, whatever their numbers are.
pub record Gathers (all : List Row) (sealed : Bool) (ls : List Line) (seal : Bool) (ps : List Provided) (ns : List ℕ) (ss : List Subscribed) (pairs : List ℕ) (us : List Unit) : Type 0 where
  pub seals : (n : ℕ) (s : Stage) (k place : ℕ) → is_sealed (row_list n s k place ls) ≡ seal
  pub provided : (n : ℕ) (s : Stage) (k place : ℕ) → provided_of all (row_list n s k place ls) ≡ ps
  pub numbers : (n : ℕ) (s : Stage) (k place : ℕ) → numbers_of all (row_list n s k place ls) ≡ ns
  pub subscribed : (n : ℕ) (s : Stage) (k place : ℕ) → subscribed_of (row_list n s k place ls) ≡ ss
  pub pairs_are : (n : ℕ) (s : Stage) (k place : ℕ) → pairs_of (row_list n s k place ls) ≡ pairs
  pub units : (n : ℕ) (s : Stage) (k place : ℕ) → units_in all sealed (row_list n s k place ls) ≡ us

pub gather_step : (all : List Row) (sealed : Bool) (l : Line) (ls : List Line) (seal : Bool) (ps : List Provided) (ns : List ℕ) (ss : List Subscribed) (pairs : List ℕ) (us : List Unit) → Gathers all sealed ls seal ps ns ss pairs us → Gathers all sealed (l ∷ ls) (seals (Some l) || seal) (onto_provided all (Some l) ps) (onto_numbers all (Some l) ns) (onto_subscribed (Some l) ss) (pairs_in (Some l) pairs) (onto_units all sealed (Some l) us)
gather_step all sealed l ls seal ps ns ss pairs us g = record {
  seals = λ n s k place. ap (λ (b : Bool). seals (Some l) || b) (g.seals (suc n) (kept s (behind s (Some l))) (unit_after k (Some l)) (place_after place (Some l)));
  provided = λ n s k place. ap (onto_provided all (Some l)) (g.provided (suc n) (kept s (behind s (Some l))) (unit_after k (Some l)) (place_after place (Some l)));
  numbers = λ n s k place. ap (onto_numbers all (Some l)) (g.numbers (suc n) (kept s (behind s (Some l))) (unit_after k (Some l)) (place_after place (Some l)));
  subscribed = λ n s k place. ap (onto_subscribed (Some l)) (g.subscribed (suc n) (kept s (behind s (Some l))) (unit_after k (Some l)) (place_after place (Some l)));
  pairs_are = λ n s k place. ap (pairs_in (Some l)) (g.pairs_are (suc n) (kept s (behind s (Some l))) (unit_after k (Some l)) (place_after place (Some l)));
  units = λ n s k place. ap (onto_units all sealed (Some l)) (g.units (suc n) (kept s (behind s (Some l))) (unit_after k (Some l)) (place_after place (Some l)));
}
