-- Rows that nothing is refused of are clear.
use Rattle.std.specs.Prelude.{◌≡◌, ℕ, zero, suc, ◌+◌, ◌^◌, ◌<◌, ◌≤◌, Bool, true, false, List, [], ◌∷◌, length, slice_index, sum_by, Option, Some, None, option_map, unwrap_or, IfSome}
use Rattle.std.specs.Str.{bytes_eq}
use Rattle.std.specs.List.{AllByRecursion}
use Rattle.std.proofs.Common.{refl, sym, ◌∙◌, ap, subst, cond, arith}
use Rattle.std.proofs.lemmas.Bool.{ltb-false, true≢false}
use Rattle.mote_layout.specs.Memory.{bank_words}
use Rattle.unit_code.specs.declared.unit.Unit.{Unit}
use Rattle.unit_code.specs.Ends.{long_length}
use Rattle.unit_code.specs.Proper.{IsGuardedSo, IsOfKind, LeadsBelow}
use Rattle.module_image.specs.declared.face.Provided.{Provided}
use Rattle.avr_asm.specs.declared.error.AsmError.{AsmError}
use Rattle.avr_asm.specs.declared.error.AsmError.TheVariants as error
use Rattle.module_image.specs.Contents.{AreProvided}
use Rattle.avr_asm.specs.Text.{is_name}
use Rattle.avr_asm.specs.Line.{Line, Handler, Provides, Label, Item, Rules}
use Rattle.avr_asm.specs.Rows.{Row, place_after, rows_of, start, unit_after, unit_words}
use Rattle.avr_asm.specs.Refusals.{count, first, goal_of, is_labelled, is_mislabelled, is_sealed, is_too_long, kinds_in, labelled, lacks_label, leads_astray, led, line_in, mislabelled, misled, misplaced, miscoded, place_in, refused, row_of, some_goal, stuck_in, too_early, unit_of, unless}
use Rattle.avr_asm.specs.Assembly.{handler_in, handler_of, number_of, numbers_of, onto_numbers, onto_places, onto_units, places_in, provided_of, units_in, word_of}
use Rattle.avr_asm.specs.Encoding.{AreEncodable, AreLow, AreNear, IsClear, IsNear, places_from}
use Rattle.avr_asm.proofs.Placed.{AreFew, Numbered, Ruled, few, head, numbered, pairs_are, placed, ruled}
use Rattle.avr_asm.proofs.Counts.{counted, low_place, own_words, place_is, places_are}
use Rattle.avr_asm.proofs.Sound.{GoOn, IsLed, IsLedRow, Known, are_alike, few_units, few_words, go_on, led_row, long_alike, low_at, low_places, own_kind, places_length, rising, unit_reaches, some_is}

-- No condition refuses.
pub record Passes (end : ℕ) (all : List Row) : Type 0 where
  pub placed : misplaced all ≡ None
  pub late : too_early end (count all) ≡ None
  pub named : mislabelled all ≡ None
  pub led : misled all ≡ None
  pub held : miscoded all ≡ None

stays : (o : Option ℕ) (kind : ℕ → AsmError) (next : Option AsmError) → unless o kind next ≡ None → (o ≡ None) × (next ≡ None)
stays None kind next h = (refl, h)
stays (Some n) kind next h = absurd (cc)

pub passes : (end : ℕ) (all : List Row) → refused end all ≡ None → Passes end all
unfolding refused
passes end all h =
    let a = stays (misplaced all) error.Line _ h in
    let b = stays (too_early end (count all)) error.Line _ a.1 in
    let c = stays (mislabelled all) error.Label _ b.1 in
    let d = stays (misled all) error.Target _ c.1 in
    let e = stays (miscoded all) error.Code None d.1 in
    record { placed = a.0; late = b.0; named = c.0; led = d.0; held = e.0 }

passed_by : (b : Bool) (n : ℕ) (o : Option ℕ) → cond b (Some n) o ≡ None → (b ≡ false) × (o ≡ None)
passed_by true n o h = absurd (cc)
passed_by false n o h = (refl, h)

pub every : (q : Row → Bool) (rs : List Row) → first (λ r others. q r) rs ≡ None → AllByRecursion (λ r. q r ≡ false) rs
every q [] h = tt
every q (r ∷ rs) h = let p = passed_by (q r) r.line (first (λ x others. q x) rs) h in (p.0, every q rs p.1)

lacks : (all : List Row) (total n k : ℕ) (o : Option Line) → is_mislabelled all total n k o ≡ false → lacks_label all (goal_of o) ≡ false
lacks all total n k (Some (Label name)) h = refl
lacks all total n k None h = h
lacks all total n k (Some _) h = h

-- each row with a goal leads to a unit
pub led_rows : (all : List Row) (total : ℕ) (rs : List Row) → AllByRecursion (λ r. is_mislabelled all total r.line r.unit r.says ≡ false) rs → AllByRecursion (λ r. leads_astray all total r (goal_of r.says) ≡ false) rs → AllByRecursion (λ r. IsLedRow all total r (goal_of r.says)) rs
led_rows all total [] n l = tt
led_rows all total (r ∷ rs) n l = (led_row all total r (goal_of r.says) (lacks all total r.line r.unit r.says n.0) l.0, led_rows all total rs n.1 l.1)

pub not_late : (end total : ℕ) → too_early end total ≡ None → 0 < total
not_late end zero h = absurd (cc)
not_late end (suc n) h = omega arith

not_stuck : (all : List Row) (o : Option ℕ) → option_map (λ k. line_in (row_of all k)) o ≡ None → o ≡ None
not_stuck all None h = refl
not_stuck all (Some k) h = absurd (cc)

-- The units of rows, each with what it needs.
pub record Own (firsts : List ℕ) (sealed : Bool) (place : ℕ) (us : List Unit) : Type 0 where
  pub encodable : AreEncodable firsts place us
  pub kinds : AllByRecursion IsOfKind us
  pub loads : AllByRecursion (IsGuardedSo sealed) us
  pub targets : AllByRecursion (LeadsBelow (length firsts)) us

add_none : (k : ℕ) → k + 0 ≡ k
add_none k = omega arith

own_step : (all : List Row) (firsts : List ℕ) (sealed : Bool) (k place : ℕ) (o : Option Line) (ps : List ℕ) (us : List Unit) → Known all firsts → IfSome o Rules → ((goal : List ℕ) → goal_of o ≡ Some goal → IsLed all (length firsts) k place o goal) → ((j : ℕ) → j < length (onto_places place o ps) → slice_index (onto_places place o ps) j ≡ slice_index firsts (k + j)) → k + length (onto_places place o ps) ≤ length firsts
    → Own firsts sealed (place_after place o) us → Own firsts sealed place (onto_units all sealed o us)
own_step all firsts sealed k place None ps us known rules is own few h = h
own_step all firsts sealed k place (Some (Item u goal)) ps us known rules is own few h =
    let here : slice_index firsts k ≡ place = sym (own 0 (omega arith) ∙ ap (slice_index firsts) (add_none k)) in
    let kind = own_kind sealed u (led all (some_goal goal)) rules.0 in
    let reach = unit_reaches all firsts sealed k place u goal known here (omega (arith, few)) rules.2 (λ g. is goal (some_is goal g)) in
    record {
      encodable = (kind.0, reach.0, subst (λ (n : ℕ). AreEncodable firsts (place + n) us) (sym (own_words sealed u (led all (some_goal goal)))) h.encodable);
      kinds = (kind.0, h.kinds);
      loads = (kind.1, h.loads);
      targets = (reach.1, h.targets);
    }
own_step all firsts sealed k place (Some _) ps us known rules is own few h = h

row_is : (all : List Row) (total k place : ℕ) (r : Row) → IsLedRow all total r (goal_of r.says) → r.unit ≡ k → r.place ≡ place → (goal : List ℕ) → goal_of r.says ≡ Some goal → IsLed all total k place r.says goal
row_is all total k place r h e f goal g =
    subst (λ (n : ℕ). IsLed all total n place r.says goal) e (subst (λ (n : ℕ). IsLed all total r.unit n r.says goal) f (subst (IsLedRow all total r) g h))

later_own : (firsts : List ℕ) (k place : ℕ) (o : Option Line) (ps : List ℕ) → ((j : ℕ) → j < length (onto_places place o ps) → slice_index (onto_places place o ps) j ≡ slice_index firsts (k + j)) → (j : ℕ) → j < length ps → slice_index ps j ≡ slice_index firsts (unit_after k o + j)
later_own firsts k place None ps h j p = h j p
later_own firsts k place (Some (Item u goal)) ps h j p = let e : k + suc j ≡ suc k + j = omega arith in h (suc j) (omega (arith, p)) ∙ ap (slice_index firsts) e
later_own firsts k place (Some _) ps h j p = h j p

later_few : (k place : ℕ) (o : Option Line) (ps : List ℕ) (total : ℕ) → k + length (onto_places place o ps) ≤ total → unit_after k o + length ps ≤ total
later_few k place None ps total h = h
later_few k place (Some (Item u goal)) ps total h = omega (arith, h)
later_few k place (Some _) ps total h = h

own : (all : List Row) (firsts : List ℕ) (sealed : Bool) (k place : ℕ) (rs : List Row) → Known all firsts → Numbered k place rs → Ruled rs → AllByRecursion (λ r. IsLedRow all (length firsts) r (goal_of r.says)) rs → ((j : ℕ) → j < length (places_in rs) → slice_index (places_in rs) j ≡ slice_index firsts (k + j)) → k + length (places_in rs) ≤ length firsts → Own firsts sealed place (units_in all sealed rs)
own all firsts sealed k place [] known n rules l q few = record { encodable = tt; kinds = tt; loads = tt; targets = tt }
own all firsts sealed k place (r ∷ rs) known n rules l q few =
    let q' : (j : ℕ) → j < length (onto_places place r.says (places_in rs)) → slice_index (onto_places place r.says (places_in rs)) j ≡ slice_index firsts (k + j) = subst (λ (p : ℕ). (j : ℕ) → j < length (onto_places p r.says (places_in rs)) → slice_index (onto_places p r.says (places_in rs)) j ≡ slice_index firsts (k + j)) n.1 q in
    let few' : k + length (onto_places place r.says (places_in rs)) ≤ length firsts = subst (λ (p : ℕ). k + length (onto_places p r.says (places_in rs)) ≤ length firsts) n.1 few in
    own_step all firsts sealed k place r.says (places_in rs) (units_in all sealed rs) known rules.0 (row_is all (length firsts) k place r l.0 n.0 n.1) q' few'
    (own all firsts sealed (unit_after k r.says) (place_after place r.says) rs known n.2 rules.1 l.1 (later_own firsts k place r.says (places_in rs) q') (later_few k place r.says (places_in rs) (length firsts) few'))

-- no label is empty
no_name : (name : List ℕ) → is_name name ≡ true → bytes_eq [] name ≡ false
no_name [] h = absurd (true≢false (sym h))
no_name (c ∷ cs) h = refl

no_step : (r : Row) (rs : List Row) (o : Option Line) → r.says ≡ o → IfSome o Rules → labelled [] rs ≡ None → labelled [] (r ∷ rs) ≡ None
no_step r rs (Some (Label name)) s rules h = ap (λ (b : Bool). cond b (Some r) (labelled [] rs)) (ap (is_labelled []) s ∙ no_name name rules) ∙ h
no_step r rs None s rules h = ap (λ (b : Bool). cond b (Some r) (labelled [] rs)) (ap (is_labelled []) s) ∙ h
no_step r rs (Some _) s rules h = ap (λ (b : Bool). cond b (Some r) (labelled [] rs)) (ap (is_labelled []) s) ∙ h

no_label : (rs : List Row) → Ruled rs → labelled [] rs ≡ None
no_label [] rules = refl
no_label (r ∷ rs) rules = no_step r rs r.says refl rules.0 (no_label rs rules.1)

number_is : (all : List Row) (total k place : ℕ) (says : Option Line) (goal : List ℕ) → IsLed all total k place says goal → number_of all goal < total
number_is all total k place says goal l = subst (λ (o : Option ℕ). unwrap_or o 0 < total) (sym l.resolves) l.low

handler_step : (all : List Row) (total : ℕ) (r : Row) (o : Option Line) (other : List ℕ) → r.says ≡ o → IfSome o Rules → IsLedRow all total r (goal_of r.says) → number_of all other < total → number_of all (handler_in o other) < total
handler_step all total r (Some (Handler goal)) other s rules l h = number_is all total r.unit r.place r.says goal (row_is all total r.unit r.place r l refl refl goal (ap goal_of s ∙ some_is goal rules))
handler_step all total r None other s rules l h = h
handler_step all total r (Some _) other s rules l h = h

handler_low : (all : List Row) (total : ℕ) (rs : List Row) → number_of all [] < total → Ruled rs → AllByRecursion (λ r. IsLedRow all total r (goal_of r.says)) rs → number_of all (handler_of rs) < total
handler_low all total [] none rules l = none
handler_low all total (r ∷ rs) none rules l = handler_step all total r r.says (handler_of rs) refl rules.0 l.0 (handler_low all total rs none rules.1 l.1)

numbers_step : (all : List Row) (total : ℕ) (r : Row) (o : Option Line) (ns : List ℕ) → r.says ≡ o → IfSome o Rules → IsLedRow all total r (goal_of r.says) → AllByRecursion (λ n. n < total) ns → AllByRecursion (λ n. n < total) (onto_numbers all o ns)
numbers_step all total r (Some (Provides func proto goal)) ns s rules l h = (number_is all total r.unit r.place r.says goal (row_is all total r.unit r.place r l refl refl goal (ap goal_of s ∙ some_is goal rules.2)), h)
numbers_step all total r None ns s rules l h = h
numbers_step all total r (Some _) ns s rules l h = h

numbers_low : (all : List Row) (total : ℕ) (rs : List Row) → Ruled rs → AllByRecursion (λ r. IsLedRow all total r (goal_of r.says)) rs → AllByRecursion (λ n. n < total) (numbers_of all rs)
numbers_low all total [] rules l = tt
numbers_low all total (r ∷ rs) rules l = numbers_step all total r r.says (numbers_of all rs) refl rules.0 l.0 (numbers_low all total rs rules.1 l.1)

near_row : (all : List Row) (total : ℕ) (r : Row) (o : Option (List ℕ)) → total ≤ bank_words → IsLedRow all total r o → IsNear (led all o)
near_row all total r None few l = tt
near_row all total r (Some goal) few l = let low = l.low in subst IsNear (sym l.resolves) (omega (arith, low, few))

near_rows : (all : List Row) (total : ℕ) (rs : List Row) → total ≤ bank_words → AllByRecursion (λ r. IsLedRow all total r (goal_of r.says)) rs → AreNear all rs
near_rows all total [] few l = tt
near_rows all total (r ∷ rs) few l = (near_row all total r (goal_of r.says) few l.0, near_rows all total rs few l.1)

low_words : (least : ℕ) (ps : List Provided) → AreProvided least ps → AreLow ps
low_words least [] h = tt
low_words least (p ∷ ps) h = (h.3, low_words (p.func + 1) ps h.4)

none_add : (k : ℕ) → 0 + k ≡ k
none_add k = omega arith

pub clear : (end : ℕ) (lines : List (List ℕ)) → refused end (rows_of lines) ≡ None → IsClear (rows_of lines)
clear end lines h =
    let all : List Row = rows_of lines in
    let sealed : Bool = is_sealed all in
    let us : List Unit = units_in all sealed all in
    let firsts : List ℕ = places_from 0 us in
    let p = passes end all h in
    let rules : Ruled all = ruled 1 start 0 0 lines in
    let nums : Numbered 0 0 all = numbered 1 start 0 0 lines in
    let in_place = placed 1 start 0 0 lines p.placed in
    let some : 0 < count all = not_late end (count all) p.late in
    let total : count all ≡ length us = sym (counted all sealed all) in
    let size : length firsts ≡ length us = places_length 0 us in
    let counts : count all ≡ length firsts = total ∙ sym size in
    let go : GoOn (is_too_long (kinds_in sealed all)) us = go_on (is_too_long (kinds_in sealed all)) 0 (kinds_in sealed all) us (are_alike all sealed all) (not_stuck all (stuck_in (kinds_in sealed all)) p.held) in
    let long : long_length us ≤ bank_words = subst (λ (n : ℕ). n ≤ bank_words) (long_alike (kinds_in sealed all) us (are_alike all sealed all)) (ltb-false bank_words (long_length (kinds_in sealed all)) (go.short (omega (arith, some, total)))) in
    let words : sum_by unit_words us ≤ bank_words = (let f = few_words us in omega (arith, f, long)) in
    let low : AllByRecursion (λ n. n < bank_words) firsts = low_places bank_words 0 us (omega (arith, words)) in
    let places : places_in all ≡ firsts = places_are all sealed 0 0 all nums in
    let place_at : (k : ℕ) → k < length us → slice_index (places_in all) k ≡ place_in (row_of all k) =
    λ k q. sym (subst (λ (n : ℕ). place_in (row_of all n) ≡ slice_index (places_in all) k) (none_add k) (place_is 0 0 all nums k (subst (λ (n : ℕ). k < n) (sym (ap length places ∙ size)) q))) in
    let known : Known all firsts = record {
      places = λ t q. sym (place_at t (subst (λ (n : ℕ). t < n) size q)) ∙ ap (λ (z : List ℕ). slice_index z t) places;
      low = λ t q. low_at bank_words firsts t low q;
      rise = λ i j a b. rising 0 us i j a (subst (λ (n : ℕ). j < n) size b);
    } in
    let leads : AllByRecursion (λ r. IsLedRow all (count all) r (goal_of r.says)) all = led_rows all (count all) all (every (λ r. is_mislabelled all (count all) r.line r.unit r.says) all p.named) (every (λ r. leads_astray all (count all) r (goal_of r.says)) all p.led) in
    let leads' : AllByRecursion (λ r. IsLedRow all (length firsts) r (goal_of r.says)) all = subst (λ (n : ℕ). AllByRecursion (λ r. IsLedRow all n r (goal_of r.says)) all) counts leads in
    let mine : Own firsts sealed 0 us = own all firsts sealed 0 0 all known nums rules leads'
    (λ j q. ap (λ (z : List ℕ). slice_index z j) places ∙ ap (slice_index firsts) (sym (none_add j))) (subst (λ (z : List ℕ). 0 + length z ≤ length firsts) (sym places) (omega arith)) in
    let units_few : length us ≤ bank_words = (let f = few_units us in omega (arith, f, words)) in
    let none : number_of all [] < length us = subst (λ (o : Option Row). unwrap_or (unit_of o) 0 < length us) (sym (no_label all rules)) (omega (arith, some, total)) in
    let leads_us : AllByRecursion (λ r. IsLedRow all (length us) r (goal_of r.says)) all = subst (λ (n : ℕ). AllByRecursion (λ r. IsLedRow all n r (goal_of r.says)) all) total leads in
    let word : (goal : List ℕ) → word_of all goal < 2 ^ 16 = λ goal. (let w = low_place bank_words (number_of all goal) all (omega arith) (subst (λ (z : List ℕ). AllByRecursion (λ n. n < bank_words) z) (sym places) low) in omega (arith, w)) in
    let face : AreFew start (provided_of all all) _ = few all start all word (omega arith) (omega arith) in_place rules in
    let top = head start all in_place rules in
    let digits = pairs_are all rules in
    record {
      near = near_rows all (length us) all units_few leads_us;
      few = words;
      low = low;
      encodable = mine.encodable;
      places = places;
      proper = record {
        some = omega (arith, some, total);
        kinds = mine.kinds;
        loads = mine.loads;
        targets = subst (λ (n : ℕ). AllByRecursion (LeadsBelow n) us) size mine.targets;
        skips = go.skips;
        ends = go.ends;
        fits = long;
      };
      handler = handler_low all (length us) all none rules leads_us;
      provided = numbers_low all (length us) all rules leads_us;
      words = place_at;
      id = top.own_id refl some;
      version = top.own_version (omega arith) some;
      plain = top.early (omega arith);
      pairs = digits.even;
      constants_few = digits.few;
      provided_low = low_words 0 (provided_of all all) face.rise;
      handler_low = word (handler_of all);
      provided_few = (let f = face.provided in omega (arith, f));
      subscribed_few = (let f = face.subscribed in omega (arith, f));
      provided_rise = face.rise;
      subscribed_own = face.own;
    }
