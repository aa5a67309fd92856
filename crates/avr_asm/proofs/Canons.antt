-- The source of the image of a text is the canonical text of the text.
use Rattle.std.specs.Prelude.{◌≡◌, ℕ, suc, ◌+◌, ◌-◌, ◌*◌, ◌/◌, ◌%◌, ◌<◌, ◌≤◌, ◌&&◌, ◌||◌, ◌⊎◌, nat_le, nat_lt, Bool, true, false, List, [], ◌∷◌, ◌++◌, length, Option, Some, None, Result, Ok, IfSome, decimal, unwrap_or}
use Rattle.std.specs.Char.{digit_char}
use Rattle.std.specs.List.{AllByRecursion}
use Rattle.std.proofs.Common.{refl, sym, ◌∙◌, ap, ap₂, subst, cond, arith, inl, inr}
use Rattle.std.proofs.lemmas.Bool.{and_parts, cases_lt, leb-true, le-leb, lt-leb, le-ltb, lt-ltb, true≢false, cond-true, cond-false}
use Rattle.mote_base.specs.Digits.{pairs_text}
use Rattle.unit_code.specs.declared.unit.Unit.{Unit}
use Rattle.unit_code.specs.declared.unit.Unit.TheVariants as unit
use Rattle.unit_code.specs.Loads.{guarded, is_load, load_where}
use Rattle.unit_code.specs.Units.{listed}
use Rattle.unit_code.specs.Listing.{Listing}
use Rattle.module_image.specs.declared.error.ImageError.{ImageError}
use Rattle.module_image.specs.Reading.{image_of}
use Rattle.module_image.specs.Contents as R
use Rattle.module_image.proofs.Images.{image_read}
use Rattle.avr_asm.specs.Laws.{SourceIsCanonical}
use Rattle.avr_asm.proofs.Clear.{every, led_rows, not_late, passes}
use Rattle.avr_asm.proofs.Passing.{read_units}
use Rattle.avr_isa.specs.declared.instruction.Instr.{Instr}
use Rattle.module_image.specs.declared.face.Provided.{Provided}
use Rattle.module_image.specs.declared.face.Subscribed.{Subscribed}
use Rattle.module_image.specs.Contents.{Contents}
use Rattle.avr_asm.specs.declared.stage.Step.{Step}
use Rattle.avr_asm.specs.declared.stage.Step.TheVariants.{Opening, Named, Versioned, Sized, Handled, Providing, Subscribing, Constants, Body}
use Rattle.avr_asm.specs.declared.stage.Stage.{Stage}
use Rattle.avr_asm.specs.Text.{are_pairs, hex_value, is_blank, is_digit, is_goal, is_hex, lines_in, pair_bytes}
use Rattle.avr_asm.specs.Line.{Line, Module, Version, State, Handler, Sealed, Provides, Subscribes, Const, Code, Label, Item, Rules, ended}
use Rattle.avr_asm.specs.Reading.{said}
use Rattle.avr_asm.specs.Rows.{Row, behind, is_between, kept, place_after, rank, rows, rows_of, start, unit_after}
use Rattle.avr_asm.specs.Refusals.{count, goal_of, is_mislabelled, is_sealed, leads_astray, led, refusal_of, refused, resolved, seals, some_goal}
use Rattle.avr_asm.specs.Assembly.{IsAssembled, aimed, contents_of, listing_of, marks_of, handler_in, handler_of, id_in, id_of, number_of, numbers_of, onto_numbers, onto_provided, onto_subscribed, onto_units, pairs_in, pairs_of, provided_of, size_in, size_of, subscribed_of, units_in, version_in, version_of}
use Rattle.avr_asm.specs.Source.{aim, bare, canon, canon_from, canon_line, constant_lines, lines_from, numbered, provided_lines, seal_lines, source_of, subscribed_lines, text_of, unit_lines}
use Rattle.avr_asm.proofs.Placed.{Placed, Ruled, allowed_is, at, between, placed, rowed, ruled, said_sound}
use Rattle.avr_asm.proofs.Sound.{IsLed, IsLedRow, some_is}

-- the canonical lines of rows
abbrev onto_canon : List Row → Option Line → List Line → List Line
onto_canon all None others = others
onto_canon all (Some (Label name)) others = others
onto_canon all (Some (Handler goal)) others = Handler (numbered (resolved all goal)) ∷ others
onto_canon all (Some (Provides func proto goal)) others = Provides func proto (numbered (resolved all goal)) ∷ others
onto_canon all (Some (Item u goal)) others = Item u (numbered (led all (some_goal goal))) ∷ others
onto_canon all (Some l) others = l ∷ others

abbrev canon_lines : List Row → List Row → List Line
canon_lines all [] = []
canon_lines all (r ∷ rs) = onto_canon all r.says (canon_lines all rs)

item_text_is : (all : List Row) (t : List ℕ) (u : Unit) (goal : List ℕ) → t ≡ ended (Item u goal) → canon_line all t (Some (Item u goal)) ≡ ended (Item u (numbered (led all (some_goal goal))))
item_text_is all t u [] h = h
item_text_is all t u (c ∷ cs) h = refl

canon_step : (all : List Row) (t : List ℕ) (o : Option Line) (text : List ℕ) (ls : List Line) → said t ≡ o → ((o ≡ None) → ⊥) → text ≡ text_of ls → canon_line all t o ++ text ≡ text_of (onto_canon all o ls)
canon_step all t None text ls s some h = absurd (some refl)
canon_step all t (Some (Label name)) text ls s some h = h
canon_step all t (Some (Handler goal)) text ls s some h = ap (λ (z : List ℕ). ended (Handler (numbered (resolved all goal))) ++ z) h
canon_step all t (Some (Provides func proto goal)) text ls s some h = ap (λ (z : List ℕ). ended (Provides func proto (numbered (resolved all goal))) ++ z) h
canon_step all t (Some (Item u goal)) text ls s some h = ap₂ (λ (a b : List ℕ). a ++ b) (item_text_is all t u goal (said_sound t (Item u goal) s).spelled) h
canon_step all t (Some (Module id)) text ls s some h = ap₂ (λ (a b : List ℕ). a ++ b) (said_sound t (Module id) s).spelled h
canon_step all t (Some (Version v)) text ls s some h = ap₂ (λ (a b : List ℕ). a ++ b) (said_sound t (Version v) s).spelled h
canon_step all t (Some (State size)) text ls s some h = ap₂ (λ (a b : List ℕ). a ++ b) (said_sound t (State size) s).spelled h
canon_step all t (Some Sealed) text ls s some h = ap₂ (λ (a b : List ℕ). a ++ b) (said_sound t Sealed s).spelled h
canon_step all t (Some (Subscribes m f p)) text ls s some h = ap₂ (λ (a b : List ℕ). a ++ b) (said_sound t (Subscribes m f p) s).spelled h
canon_step all t (Some (Const pairs)) text ls s some h = ap₂ (λ (a b : List ℕ). a ++ b) (said_sound t (Const pairs) s).spelled h
canon_step all t (Some Code) text ls s some h = ap₂ (λ (a b : List ℕ). a ++ b) (said_sound t Code s).spelled h

says_some : (s : Stage) (o : Option Line) (next : Stage) → behind s o ≡ Some next → o ≡ None → ⊥
says_some s o next h e = let none : None ≡ Some next = ap (behind s) (sym e) ∙ h in cc

canon_is : (all : List Row) (n : ℕ) (s : Stage) (k place : ℕ) (ts : List (List ℕ)) (from : Stage) → Placed from (rows n s k place ts) → canon_from all ts ≡ text_of (canon_lines all (rows n s k place ts))
canon_is all n s k place [] from p = refl
canon_is all n s k place (t ∷ ts) from p = elim (is_blank t) as (λ b. Placed from (cond b (rows (suc n) s k place ts) (rowed n s k place (said t) ts)) → cond b (canon_from all ts) (canon_line all t (said t) ++ canon_from all ts) ≡ text_of (canon_lines all (cond b (rows (suc n) s k place ts) (rowed n s k place (said t) ts)))) [
  | true ↦ canon_is all (suc n) s k place ts from
  | false ↦ λ q. canon_step all t (said t) (canon_from all ts) (canon_lines all (rows (suc n) (kept s (behind s (said t))) (unit_after k (said t)) (place_after place (said t)) ts)) refl (says_some from (said t) q.0 q.1)
      (canon_is all (suc n) (kept s (behind s (said t))) (unit_after k (said t)) (place_after place (said t)) ts q.0 q.2)
] p

-- What rows have no more, by the step that they come behind.
record Late (s : Stage) (sealed : Bool) (ps : List Provided) (ns : List ℕ) (ss : List Subscribed) (pairs : List ℕ) : Type 0 where
  unsealed : 5 ≤ rank s.step → sealed ≡ false
  unprovided : 7 ≤ rank s.step → ps ≡ []
  unsubscribed : 8 ≤ rank s.step → ss ≡ []
  unfixed : 8 ≤ rank s.step → pairs ≡ []

upper : (last step : Step) → is_between last step ≡ true → rank step ≤ rank last
upper last step h = leb-true (rank step) (rank last) (and_parts (nat_le 4 (rank step)) _ h).1

-- the lines behind the handler's
abbrev middle_lines : Bool → List Provided → List ℕ → List Subscribed → List ℕ → List Unit → List Line
middle_lines sealed ps ns ss pairs us = seal_lines sealed ++ (provided_lines ps ns ++ (subscribed_lines ss ++ (constant_lines (pair_bytes pairs) ++ (Code ∷ unit_lines us))))

-- Rows in their places say these lines, by the step that they come behind.
record Ordered (all : List Row) (s : Stage) (total : ℕ) (ls : List Line) (id v size : ℕ) (handler : List ℕ) (sealed : Bool) (ps : List Provided) (ns : List ℕ) (ss : List Subscribed) (pairs : List ℕ) (us : List Unit) : Type 0 where
  late : Late s sealed ps ns ss pairs
  body : 9 ≤ rank s.step → ls ≡ unit_lines us
  middle : 4 ≤ rank s.step → rank s.step ≤ 8 → 0 < total → ls ≡ middle_lines sealed ps ns ss pairs us
  third : rank s.step ≡ 3 → 0 < total → ls ≡ Handler (decimal (number_of all handler)) ∷ middle_lines sealed ps ns ss pairs us
  second : rank s.step ≡ 2 → 0 < total → ls ≡ State size ∷ Handler (decimal (number_of all handler)) ∷ middle_lines sealed ps ns ss pairs us
  first : rank s.step ≡ 1 → 0 < total → ls ≡ Version v ∷ State size ∷ Handler (decimal (number_of all handler)) ∷ middle_lines sealed ps ns ss pairs us
  zeroth : rank s.step ≡ 0 → 0 < total → ls ≡ Module id ∷ Version v ∷ State size ∷ Handler (decimal (number_of all handler)) ∷ middle_lines sealed ps ns ss pairs us

-- a goal that is led is the number of its unit
numbered_is : (all : List Row) (goal : List ℕ) (total k place : ℕ) (says : Option Line) → IsLed all total k place says goal → numbered (resolved all goal) ≡ decimal (number_of all goal)
numbered_is all goal total k place says l = subst (λ (o : Option ℕ). numbered o ≡ decimal (unwrap_or o 0)) (sym l.resolves) refl

-- pairs of digits are those of their bytes
hex_cases : (a b : Bool) → (a || b) ≡ true → (a ≡ true) ⊎ (b ≡ true)
hex_cases true b h = inl refl
hex_cases false b h = inr h

or_none_left : (c : ℕ) → is_hex c ≡ true → c < 97 → (48 ≤ c) × (c ≤ 57)
or_none_left c h low = elim (hex_cases (is_digit c) _ h) as (λ z. (48 ≤ c) × (c ≤ 57)) [
  | inl d ↦ (let p = and_parts (nat_le 48 c) _ d in (leb-true 48 c p.0, leb-true c 57 p.1))
  | inr l ↦ (let p = and_parts (nat_le 97 c) _ l in absurd (let q = leb-true 97 c p.0 in omega (arith, q, low)))
]

hex_top : (c : ℕ) → is_hex c ≡ true → 97 ≤ c → c ≤ 102
hex_top c h high = elim (hex_cases (is_digit c) _ h) as (λ z. c ≤ 102) [
  | inl d ↦ (let p = and_parts (nat_le 48 c) _ d in absurd (let q = leb-true c 57 p.1 in omega (arith, q, high)))
  | inr l ↦ (let p = and_parts (nat_le 97 c) _ l in leb-true c 102 p.1)
]

low_digit : (c : ℕ) → is_hex c ≡ true → c < 97 → (digit_char (hex_value c) ≡ c) × (hex_value c < 16)
low_digit c h low =
    let value : hex_value c ≡ c - 48 = cond-false (nat_le 97 c) _ _ (lt-leb 97 c low) in
    let digit = or_none_left c h low in
    (ap digit_char value ∙ cond-true (nat_lt (c - 48) 10) _ _ (lt-ltb (c - 48) 10 (omega (arith, digit))) ∙ omega (arith, digit), omega (arith, value, digit))

high_digit : (c : ℕ) → is_hex c ≡ true → 97 ≤ c → (digit_char (hex_value c) ≡ c) × (hex_value c < 16)
high_digit c h high =
    let value : hex_value c ≡ c - 87 = cond-true (nat_le 97 c) _ _ (le-leb 97 c high) in
    let top : c ≤ 102 = hex_top c h high in
    (ap digit_char value ∙ cond-false (nat_lt (c - 87) 10) _ _ (le-ltb (c - 87) 10 (omega (arith, high))) ∙ omega (arith, high), omega (arith, value, top, high))

digit_is : (c : ℕ) → is_hex c ≡ true → (digit_char (hex_value c) ≡ c) × (hex_value c < 16)
digit_is c h = elim (cases_lt c 97) as (λ z. (digit_char (hex_value c) ≡ c) × (hex_value c < 16)) [
  | inl low ↦ low_digit c h low
  | inr high ↦ high_digit c h high
]

pairs_back : (pairs : List ℕ) → are_pairs pairs ≡ true → pairs_text (pair_bytes pairs) ≡ pairs
pairs_back [] h = refl
pairs_back (x ∷ []) h = absurd (true≢false (sym h))
pairs_back (x ∷ y ∷ rest) h =
    let p = and_parts (is_hex x) _ h in let q = and_parts (is_hex y) _ p.1 in
    let a = digit_is x p.0 in let b = digit_is y q.0 in
    let small = a.1 in let other = b.1 in
    let front : (16 * hex_value x + hex_value y) / 16 ≡ hex_value x = omega (arith, other) in
    let behind : (16 * hex_value x + hex_value y) % 16 ≡ hex_value y = omega (arith, other) in
    ap₂ (λ (m n : ℕ). digit_char m ∷ digit_char n ∷ pairs_text (pair_bytes rest)) front behind
    ∙ ap₂ (λ (m n : ℕ). m ∷ n ∷ pairs_text (pair_bytes rest)) a.0 b.0 ∙ ap (λ (z : List ℕ). x ∷ y ∷ z) (pairs_back rest q.1)

constant_is : (pairs : List ℕ) → are_pairs pairs ≡ true → 1 ≤ length pairs → constant_lines (pair_bytes pairs) ≡ Const pairs ∷ []
constant_is [] h some = absurd (omega (arith, some))
constant_is (x ∷ []) h some = absurd (true≢false (sym h))
constant_is (x ∷ y ∷ rest) h some = ap (λ (z : List ℕ). Const z ∷ []) (pairs_back (x ∷ y ∷ rest) h)

-- a unit's line
loaded_line : (b : Bool) (i : Instr) → Item (unit.Plain i) [] ≡ Item (bare (load_where b i)) (aim (load_where b i))
loaded_line true i = refl
loaded_line false i = refl

unled : (all : List Row) (sealed : Bool) (u : Unit) (goal : List ℕ) → goal ≡ [] → Item u [] ≡ Item (bare (guarded sealed (aimed u None))) (aim (guarded sealed (aimed u None))) → Item u (numbered (led all (some_goal goal))) ≡ Item (bare (guarded sealed (aimed u (led all (some_goal goal))))) (aim (guarded sealed (aimed u (led all (some_goal goal)))))
unled all sealed u goal e h = subst (λ (o : Option ℕ). Item u (numbered o) ≡ Item (bare (guarded sealed (aimed u o))) (aim (guarded sealed (aimed u o)))) (sym (ap (λ (g : List ℕ). led all (some_goal g)) e)) h

led_line : (all : List Row) (sealed : Bool) (f : ℕ → Unit) (t : ℕ) (goal : List ℕ) (k : ℕ) → led all (some_goal goal) ≡ Some k → t ≡ 0 → Item (f 0) (decimal k) ≡ Item (bare (guarded sealed (aimed (f t) (Some k)))) (aim (guarded sealed (aimed (f t) (Some k)))) → Item (f t) (numbered (led all (some_goal goal))) ≡ Item (bare (guarded sealed (aimed (f t) (led all (some_goal goal))))) (aim (guarded sealed (aimed (f t) (led all (some_goal goal)))))
led_line all sealed f t goal k e z h = subst (λ (o : Option ℕ). Item (f t) (numbered o) ≡ Item (bare (guarded sealed (aimed (f t) o))) (aim (guarded sealed (aimed (f t) o)))) (sym e) (ap (λ (n : ℕ). Item (f n) (decimal k)) z ∙ h)

unit_line : (all : List Row) (sealed : Bool) (total k place : ℕ) (u : Unit) (goal : List ℕ) → Rules (Item u goal) → ((some : is_goal goal ≡ true) → IsLed all total k place (Some (Item u goal)) goal) → Item u (numbered (led all (some_goal goal))) ≡ Item (bare (guarded sealed (aimed u (led all (some_goal goal))))) (aim (guarded sealed (aimed u (led all (some_goal goal)))))
unit_line all sealed total k place (unit.Branch set bit t) goal h is = let l = is h.2.1 in led_line all sealed (λ n. unit.Branch set bit n) t goal l.target (ap (led all) (some_is goal h.2.1) ∙ l.resolves) h.2.0 refl
unit_line all sealed total k place (unit.Jump t) goal h is = let l = is h.2.1 in led_line all sealed (λ n. unit.Jump n) t goal l.target (ap (led all) (some_is goal h.2.1) ∙ l.resolves) h.2.0 refl
unit_line all sealed total k place (unit.LocalCall t) goal h is = let l = is h.2.1 in led_line all sealed (λ n. unit.LocalCall n) t goal l.target (ap (led all) (some_is goal h.2.1) ∙ l.resolves) h.2.0 refl
unit_line all sealed total k place (unit.Plain i) goal h is = unled all sealed (unit.Plain i) goal h.2 (loaded_line (sealed && is_load i) i)
unit_line all sealed total k place (unit.Load i) goal h is = absurd (true≢false (sym h.1))
unit_line all sealed total k place u goal h is = unled all sealed u goal h.2 refl

early : (s : Stage) (sealed : Bool) (ps : List Provided) (ns : List ℕ) (ss : List Subscribed) (pairs : List ℕ) → rank s.step ≤ 4 → Late s sealed ps ns ss pairs
early s sealed ps ns ss pairs h = record { unsealed = λ e. absurd (omega (arith, h, e)); unprovided = λ e. absurd (omega (arith, h, e)); unsubscribed = λ e. absurd (omega (arith, h, e)); unfixed = λ e. absurd (omega (arith, h, e)) }

at_body : (all : List Row) (s : Stage) (total : ℕ) (ls : List Line) (id v size : ℕ) (handler : List ℕ) (sealed : Bool) (ps : List Provided) (ns : List ℕ) (ss : List Subscribed) (pairs : List ℕ) (us : List Unit) → 9 ≤ rank s.step → Late s sealed ps ns ss pairs → ls ≡ unit_lines us → Ordered all s total ls id v size handler sealed ps ns ss pairs us
at_body all s total ls id v size handler sealed ps ns ss pairs us h late is = record { late = late; body = λ e. is; middle = λ e g n. absurd (omega (arith, h, e, g)); third = λ e n. absurd (omega (arith, h, e)); second = λ e n. absurd (omega (arith, h, e)); first = λ e n. absurd (omega (arith, h, e)); zeroth = λ e n. absurd (omega (arith, h, e)) }

at_middle : (all : List Row) (s : Stage) (total : ℕ) (ls : List Line) (id v size : ℕ) (handler : List ℕ) (sealed : Bool) (ps : List Provided) (ns : List ℕ) (ss : List Subscribed) (pairs : List ℕ) (us : List Unit) → (4 ≤ rank s.step) × (rank s.step ≤ 8) → Late s sealed ps ns ss pairs → (0 < total → ls ≡ middle_lines sealed ps ns ss pairs us) → Ordered all s total ls id v size handler sealed ps ns ss pairs us
at_middle all s total ls id v size handler sealed ps ns ss pairs us h late is = record { late = late; body = λ e. absurd (omega (arith, h, e)); middle = λ e g n. is n; third = λ e n. absurd (omega (arith, h, e)); second = λ e n. absurd (omega (arith, h, e)); first = λ e n. absurd (omega (arith, h, e)); zeroth = λ e n. absurd (omega (arith, h, e)) }

at_third : (all : List Row) (s : Stage) (total : ℕ) (ls : List Line) (id v size : ℕ) (handler : List ℕ) (sealed : Bool) (ps : List Provided) (ns : List ℕ) (ss : List Subscribed) (pairs : List ℕ) (us : List Unit) → rank s.step ≡ 3 → (0 < total → ls ≡ Handler (decimal (number_of all handler)) ∷ middle_lines sealed ps ns ss pairs us) → Ordered all s total ls id v size handler sealed ps ns ss pairs us
at_third all s total ls id v size handler sealed ps ns ss pairs us h is = record { late = early s sealed ps ns ss pairs (omega (arith, h)); body = λ e. absurd (omega (arith, h, e)); middle = λ e g n. absurd (omega (arith, h, e, g)); third = λ e n. is n; second = λ e n. absurd (omega (arith, h, e)); first = λ e n. absurd (omega (arith, h, e)); zeroth = λ e n. absurd (omega (arith, h, e)) }

at_second : (all : List Row) (s : Stage) (total : ℕ) (ls : List Line) (id v size : ℕ) (handler : List ℕ) (sealed : Bool) (ps : List Provided) (ns : List ℕ) (ss : List Subscribed) (pairs : List ℕ) (us : List Unit) → rank s.step ≡ 2 → (0 < total → ls ≡ State size ∷ Handler (decimal (number_of all handler)) ∷ middle_lines sealed ps ns ss pairs us) → Ordered all s total ls id v size handler sealed ps ns ss pairs us
at_second all s total ls id v size handler sealed ps ns ss pairs us h is = record { late = early s sealed ps ns ss pairs (omega (arith, h)); body = λ e. absurd (omega (arith, h, e)); middle = λ e g n. absurd (omega (arith, h, e, g)); third = λ e n. absurd (omega (arith, h, e)); second = λ e n. is n; first = λ e n. absurd (omega (arith, h, e)); zeroth = λ e n. absurd (omega (arith, h, e)) }

at_first : (all : List Row) (s : Stage) (total : ℕ) (ls : List Line) (id v size : ℕ) (handler : List ℕ) (sealed : Bool) (ps : List Provided) (ns : List ℕ) (ss : List Subscribed) (pairs : List ℕ) (us : List Unit) → rank s.step ≡ 1 → (0 < total → ls ≡ Version v ∷ State size ∷ Handler (decimal (number_of all handler)) ∷ middle_lines sealed ps ns ss pairs us) → Ordered all s total ls id v size handler sealed ps ns ss pairs us
at_first all s total ls id v size handler sealed ps ns ss pairs us h is = record { late = early s sealed ps ns ss pairs (omega (arith, h)); body = λ e. absurd (omega (arith, h, e)); middle = λ e g n. absurd (omega (arith, h, e, g)); third = λ e n. absurd (omega (arith, h, e)); second = λ e n. absurd (omega (arith, h, e)); first = λ e n. is n; zeroth = λ e n. absurd (omega (arith, h, e)) }

at_zeroth : (all : List Row) (s : Stage) (total : ℕ) (ls : List Line) (id v size : ℕ) (handler : List ℕ) (sealed : Bool) (ps : List Provided) (ns : List ℕ) (ss : List Subscribed) (pairs : List ℕ) (us : List Unit) → rank s.step ≡ 0 → (0 < total → ls ≡ Module id ∷ Version v ∷ State size ∷ Handler (decimal (number_of all handler)) ∷ middle_lines sealed ps ns ss pairs us) → Ordered all s total ls id v size handler sealed ps ns ss pairs us
at_zeroth all s total ls id v size handler sealed ps ns ss pairs us h is = record { late = early s sealed ps ns ss pairs (omega (arith, h)); body = λ e. absurd (omega (arith, h, e)); middle = λ e g n. absurd (omega (arith, h, e, g)); third = λ e n. absurd (omega (arith, h, e)); second = λ e n. absurd (omega (arith, h, e)); first = λ e n. absurd (omega (arith, h, e)); zeroth = λ e n. is n }

ordered_step : (all : List Row) (s next : Stage) (row_total k place : ℕ) (o : Option Line) (total : ℕ) (ls : List Line) (id v size : ℕ) (handler : List ℕ) (sealed : Bool) (ps : List Provided) (ns : List ℕ) (ss : List Subscribed) (pairs : List ℕ) (us : List Unit) → behind s o ≡ Some next → IfSome o Rules → ((goal : List ℕ) → goal_of o ≡ Some goal → IsLed all row_total k place o goal) → Ordered all next total ls id v size handler sealed ps ns ss pairs us → Ordered all s (unit_after total o) (onto_canon all o ls) (id_in o id) (version_in o v) (size_in o size) (handler_in o handler) (seals o || sealed) (onto_provided all o ps) (onto_numbers all o ns) (onto_subscribed o ss) (pairs_in o pairs) (onto_units all (is_sealed all) o us)
ordered_step all s next row_total k place None total ls id v size handler sealed ps ns ss pairs us h rules is f = absurd (cc)
ordered_step all s next row_total k place (Some (Module i)) total ls id v size handler sealed ps ns ss pairs us h rules is f =
    let p = allowed_is _ _ next h in
    let g : Ordered all _ total ls id v size handler sealed ps ns ss pairs us = subst (λ (z : Stage). Ordered all z total ls id v size handler sealed ps ns ss pairs us) (sym p.1) f in
    let r : rank s.step ≡ 0 = at Opening s.step p.0 in
    at_zeroth all s _ _ _ _ _ _ _ _ _ _ _ _ r (λ n. ap (λ (z : List Line). Module i ∷ z) (g.first refl n))
ordered_step all s next row_total k place (Some (Version i)) total ls id v size handler sealed ps ns ss pairs us h rules is f =
    let p = allowed_is _ _ next h in
    let g : Ordered all _ total ls id v size handler sealed ps ns ss pairs us = subst (λ (z : Stage). Ordered all z total ls id v size handler sealed ps ns ss pairs us) (sym p.1) f in
    let r : rank s.step ≡ 1 = at Named s.step p.0 in
    at_first all s _ _ _ _ _ _ _ _ _ _ _ _ r (λ n. ap (λ (z : List Line). Version i ∷ z) (g.second refl n))
ordered_step all s next row_total k place (Some (State i)) total ls id v size handler sealed ps ns ss pairs us h rules is f =
    let p = allowed_is _ _ next h in
    let g : Ordered all _ total ls id v size handler sealed ps ns ss pairs us = subst (λ (z : Stage). Ordered all z total ls id v size handler sealed ps ns ss pairs us) (sym p.1) f in
    let r : rank s.step ≡ 2 = at Versioned s.step p.0 in
    at_second all s _ _ _ _ _ _ _ _ _ _ _ _ r (λ n. ap (λ (z : List Line). State i ∷ z) (g.third refl n))
ordered_step all s next row_total k place (Some (Handler goal)) total ls id v size handler sealed ps ns ss pairs us h rules is f =
    let p = allowed_is _ _ next h in
    let g : Ordered all _ total ls id v size handler sealed ps ns ss pairs us = subst (λ (z : Stage). Ordered all z total ls id v size handler sealed ps ns ss pairs us) (sym p.1) f in
    let r : rank s.step ≡ 3 = at Sized s.step p.0 in
    at_third all s _ _ _ _ _ _ _ _ _ _ _ _ r (λ n. ap₂ (λ (a : List ℕ) (z : List Line). Handler a ∷ z) (numbered_is all goal row_total k place (Some (Handler goal)) (is goal (some_is goal rules))) (g.middle (omega arith) (omega arith) n))
ordered_step all s next row_total k place (Some Sealed) total ls id v size handler sealed ps ns ss pairs us h rules is f =
    let p = allowed_is _ _ next h in
    let g : Ordered all _ total ls id v size handler sealed ps ns ss pairs us = subst (λ (z : Stage). Ordered all z total ls id v size handler sealed ps ns ss pairs us) (sym p.1) f in
    let q = and_parts _ _ p.0 in
    let r : rank s.step ≡ 4 = at Handled s.step q.0 in
    at_middle all s _ _ _ _ _ _ _ _ _ _ _ _ (omega (arith, r), omega (arith, r)) (early s _ _ _ _ _ (omega (arith, r))) (λ n. ap (λ (z : List Line). Sealed ∷ z) (g.middle (omega arith) (omega arith) n ∙ ap (λ (b : Bool). middle_lines b ps ns ss pairs us) (g.late.unsealed (omega arith))))
ordered_step all s next row_total k place (Some (Provides func proto goal)) total ls id v size handler sealed ps ns ss pairs us h rules is f =
    let p = allowed_is _ _ next h in
    let g : Ordered all _ total ls id v size handler sealed ps ns ss pairs us = subst (λ (z : Stage). Ordered all z total ls id v size handler sealed ps ns ss pairs us) (sym p.1) f in
    let q = and_parts _ _ p.0 in
    let low : 4 ≤ rank s.step = between Providing s.step q.0 in
    let high : rank s.step ≤ 6 = upper Providing s.step q.0 in
    let unsealed : sealed ≡ false = g.late.unsealed (omega arith) in
    let late : Late s sealed (onto_provided all (Some (Provides func proto goal)) ps) (onto_numbers all (Some (Provides func proto goal)) ns) ss pairs = record { unsealed = λ e. unsealed; unprovided = λ e. absurd (omega (arith, high, e)); unsubscribed = λ e. absurd (omega (arith, high, e)); unfixed = λ e. absurd (omega (arith, high, e)) } in
    at_middle all s _ _ _ _ _ _ _ _ _ _ _ _ (low, omega (arith, high)) late (λ n. ap₂ (λ (a : List ℕ) (z : List Line). Provides func proto a ∷ z) (numbered_is all goal row_total k place (Some (Provides func proto goal)) (is goal (some_is goal rules.2))) (g.middle (omega arith) (omega arith) n ∙ ap (λ (b : Bool). middle_lines b ps ns ss pairs us) unsealed) ∙ ap (λ (b : Bool). middle_lines b (onto_provided all (Some (Provides func proto goal)) ps) (onto_numbers all (Some (Provides func proto goal)) ns) ss pairs us) (sym unsealed))
ordered_step all s next row_total k place (Some (Subscribes m func proto)) total ls id v size handler sealed ps ns ss pairs us h rules is f =
    let p = allowed_is _ _ next h in
    let g : Ordered all _ total ls id v size handler sealed ps ns ss pairs us = subst (λ (z : Stage). Ordered all z total ls id v size handler sealed ps ns ss pairs us) (sym p.1) f in
    let q = and_parts _ _ p.0 in
    let low : 4 ≤ rank s.step = between Subscribing s.step q.0 in
    let high : rank s.step ≤ 7 = upper Subscribing s.step q.0 in
    let unsealed : sealed ≡ false = g.late.unsealed (omega arith) in
    let given : ps ≡ [] = g.late.unprovided (omega arith) in
    let more : List Subscribed = onto_subscribed (Some (Subscribes m func proto)) ss in
    let late : Late s sealed ps ns more pairs = record { unsealed = λ e. unsealed; unprovided = λ e. given; unsubscribed = λ e. absurd (omega (arith, high, e)); unfixed = λ e. absurd (omega (arith, high, e)) } in
    at_middle all s _ _ _ _ _ _ _ _ _ _ _ _ (low, omega (arith, high)) late (λ n. ap (λ (z : List Line). Subscribes m func proto ∷ z) (g.middle (omega arith) (omega arith) n ∙ ap₂ (λ (b : Bool) (x : List Provided). middle_lines b x ns ss pairs us) unsealed given) ∙ ap₂ (λ (b : Bool) (x : List Provided). middle_lines b x ns more pairs us) (sym unsealed) (sym given))
ordered_step all s next row_total k place (Some (Const digits)) total ls id v size handler sealed ps ns ss pairs us h rules is f =
    let p = allowed_is _ _ next h in
    let g : Ordered all _ total ls id v size handler sealed ps ns ss pairs us = subst (λ (z : Stage). Ordered all z total ls id v size handler sealed ps ns ss pairs us) (sym p.1) f in
    let q = and_parts _ _ p.0 in
    let low : 4 ≤ rank s.step = between Subscribing s.step q.0 in
    let high : rank s.step ≤ 7 = upper Subscribing s.step q.0 in
    let unsealed : sealed ≡ false = g.late.unsealed (omega arith) in
    let given : ps ≡ [] = g.late.unprovided (omega arith) in
    let taken : ss ≡ [] = g.late.unsubscribed (omega arith) in
    let fixed : pairs ≡ [] = g.late.unfixed (omega arith) in
    let late : Late s sealed ps ns ss digits = record { unsealed = λ e. unsealed; unprovided = λ e. given; unsubscribed = λ e. absurd (omega (arith, high, e)); unfixed = λ e. absurd (omega (arith, high, e)) } in
    at_middle all s _ _ _ _ _ _ _ _ _ _ _ _ (low, omega (arith, high)) late (λ n. ap (λ (z : List Line). Const digits ∷ z) (g.middle (omega arith) (omega arith) n ∙ ap₂ (λ (b : Bool) (x : List Provided). middle_lines b x ns ss pairs us) unsealed given ∙ ap₂ (λ (x : List Subscribed) (y : List ℕ). middle_lines false [] ns x y us) taken fixed) ∙ ap (λ (z : List Line). z ++ (Code ∷ unit_lines us)) (sym (constant_is digits rules.0 rules.1)) ∙ ap (λ (x : List Subscribed). middle_lines false [] ns x digits us) (sym taken) ∙ ap₂ (λ (b : Bool) (x : List Provided). middle_lines b x ns ss digits us) (sym unsealed) (sym given))
ordered_step all s next row_total k place (Some Code) total ls id v size handler sealed ps ns ss pairs us h rules is f =
    let p = allowed_is _ _ next h in
    let g : Ordered all _ total ls id v size handler sealed ps ns ss pairs us = subst (λ (z : Stage). Ordered all z total ls id v size handler sealed ps ns ss pairs us) (sym p.1) f in
    let low : 4 ≤ rank s.step = between Constants s.step p.0 in
    let high : rank s.step ≤ 8 = upper Constants s.step p.0 in
    let unsealed : sealed ≡ false = g.late.unsealed (omega arith) in
    let given : ps ≡ [] = g.late.unprovided (omega arith) in
    let taken : ss ≡ [] = g.late.unsubscribed (omega arith) in
    let fixed : pairs ≡ [] = g.late.unfixed (omega arith) in
    let late : Late s sealed ps ns ss pairs = record { unsealed = λ e. unsealed; unprovided = λ e. given; unsubscribed = λ e. taken; unfixed = λ e. fixed } in
    at_middle all s _ _ _ _ _ _ _ _ _ _ _ _ (low, high) late (λ n. ap (λ (z : List Line). Code ∷ z) (g.body (omega arith)) ∙ ap₂ (λ (x : List Subscribed) (y : List ℕ). middle_lines false [] ns x y us) (sym taken) (sym fixed) ∙ ap₂ (λ (b : Bool) (x : List Provided). middle_lines b x ns ss pairs us) (sym unsealed) (sym given))
ordered_step all s next row_total k place (Some (Label name)) total ls id v size handler sealed ps ns ss pairs us h rules is f =
    let p = allowed_is _ _ next h in
    let g : Ordered all _ total ls id v size handler sealed ps ns ss pairs us = subst (λ (z : Stage). Ordered all z total ls id v size handler sealed ps ns ss pairs us) (sym p.1) f in
    let r : rank s.step ≡ 9 = at Body s.step p.0 in
    let late : Late s sealed ps ns ss pairs = record { unsealed = λ e. g.late.unsealed e; unprovided = λ e. g.late.unprovided e; unsubscribed = λ e. g.late.unsubscribed e; unfixed = λ e. g.late.unfixed e } in
    at_body all s _ _ _ _ _ _ _ _ _ _ _ _ (omega (arith, r)) late (g.body (omega (arith, r)))
ordered_step all s next row_total k place (Some (Item u goal)) total ls id v size handler sealed ps ns ss pairs us h rules is f =
    let p = allowed_is _ _ next h in
    let g : Ordered all _ total ls id v size handler sealed ps ns ss pairs us = subst (λ (z : Stage). Ordered all z total ls id v size handler sealed ps ns ss pairs us) (sym p.1) f in
    let r : rank s.step ≡ 9 = at Body s.step p.0 in
    let late : Late s sealed ps ns ss pairs = record { unsealed = λ e. g.late.unsealed e; unprovided = λ e. g.late.unprovided e; unsubscribed = λ e. g.late.unsubscribed e; unfixed = λ e. g.late.unfixed e } in
    at_body all s _ _ _ _ _ _ _ _ _ _ _ _ (omega (arith, r)) late (ap₂ (λ (l : Line) (z : List Line). l ∷ z) (unit_line all (is_sealed all) row_total k place u goal rules (λ g. is goal (some_is goal g))) (g.body (omega (arith, r))))

goal_row : (all : List Row) (total : ℕ) (r : Row) → IsLedRow all total r (goal_of r.says) → (goal : List ℕ) → goal_of r.says ≡ Some goal → IsLed all total r.unit r.place r.says goal
goal_row all total r l goal g = subst (IsLedRow all total r) g l

nothing_yet : (all : List Row) (s : Stage) → Ordered all s 0 [] 0 0 0 [] false [] [] [] [] []
nothing_yet all s = record {
  late = record { unsealed = λ e. refl; unprovided = λ e. refl; unsubscribed = λ e. refl; unfixed = λ e. refl };
  body = λ e. refl;
  middle = λ e g n. absurd (omega (arith, n));
  third = λ e n. absurd (omega (arith, n));
  second = λ e n. absurd (omega (arith, n));
  first = λ e n. absurd (omega (arith, n));
  zeroth = λ e n. absurd (omega (arith, n));
}

ordered : (all : List Row) (total : ℕ) (s : Stage) (rs : List Row) → Placed s rs → Ruled rs → AllByRecursion (λ r. IsLedRow all total r (goal_of r.says)) rs → Ordered all s (count rs) (canon_lines all rs) (id_of rs) (version_of rs) (size_of rs) (handler_of rs) (is_sealed rs) (provided_of all rs) (numbers_of all rs) (subscribed_of rs) (pairs_of rs) (units_in all (is_sealed all) rs)
ordered all total s [] p rules l = nothing_yet all s
ordered all total s (r ∷ rs) (next, is, p) rules l =
    ordered_step all s next total r.unit r.place r.says (count rs) (canon_lines all rs) (id_of rs) (version_of rs) (size_of rs) (handler_of rs) (is_sealed rs) (provided_of all rs) (numbers_of all rs) (subscribed_of rs) (pairs_of rs) (units_in all (is_sealed all) rs) is rules.0 (goal_row all total r l.0) (ordered all total next rs p rules.1 l.1)

ok_same : (a b : Contents) (r : Result Contents ImageError) → r ≡ Ok a → r ≡ Ok b → a ≡ b
ok_same a b r h k = cc

-- the lines of the image of rows are the canonical ones of the rows
lines_are : (end : ℕ) (lines : List (List ℕ)) (code : List ℕ) → refused end (rows_of lines) ≡ None → lines_from (contents_of (rows_of lines) code) (listing_of (rows_of lines)) ≡ canon_lines (rows_of lines) (rows_of lines)
lines_are end lines code h =
    let all : List Row = rows_of lines in
    let p = passes end all h in
    let leads : AllByRecursion (λ r. IsLedRow all (count all) r (goal_of r.says)) all = led_rows all (count all) all (every (λ r. is_mislabelled all (count all) r.line r.unit r.says) all p.named) (every (λ r. leads_astray all (count all) r (goal_of r.says)) all p.led) in
    sym ((ordered all (count all) start all (placed 1 start 0 0 lines p.placed) (ruled 1 start 0 0 lines) leads).zeroth refl (not_late end (count all) p.late))

canon_of : (end : ℕ) (lines : List (List ℕ)) (c : Contents) → refused end (rows_of lines) ≡ None → R.Rules c → IsAssembled (rows_of lines) c → text_of (lines_from c (listed c.code (marks_of c) c.sealed)) ≡ canon_from (rows_of lines) lines
canon_of end lines c h rules a =
    let all : List Row = rows_of lines in
    let p = passes end all h in
    ap (λ (l : Listing). text_of (lines_from c l)) (read_units all c rules a).1
    ∙ ap (λ (d : Contents). text_of (lines_from d (listing_of all))) a.fields
    ∙ ap text_of (lines_are end lines c.code h)
    ∙ sym (canon_is all 1 start 0 0 lines start (placed 1 start 0 0 lines p.placed))

pub source_is_canonical : SourceIsCanonical
unfolding source_of canon refusal_of
source_is_canonical text bytes c none i read =
    let same : i.contents ≡ c = ok_same i.contents c (image_of bytes) (image_read bytes (image_of bytes) i.contents refl i.image) read in
    ap (λ (d : Contents). text_of (lines_from d (listed d.code (marks_of d) d.sealed))) (sym same)
    ∙ canon_of (suc (length (lines_in text))) (lines_in text) i.contents none i.image.rules i.assembled
