-- The source of an original image is assembled to that image.
use Rattle.std.specs.Prelude.{◌≡◌, ◌⊎◌, ℕ, ◌+◌, ◌==◌, ◌^◌, ◌<◌, ◌≤◌, Bool, false, List, [], ◌∷◌, ◌++◌, length, map, slice_index, Option, Some, None, option_map, unwrap_or, decimal}
use Rattle.std.specs.List.{AllByRecursion, flat_map}
use Rattle.std.proofs.Common.{refl, sym, ◌∙◌, ap, ap₂, subst, arith, inl, inr}
use Rattle.std.proofs.lemmas.Bool.{le-ltb, ne_eqb, cond-false}
use Rattle.mote_base.specs.Digits.{pairs_text}
use Rattle.mote_layout.specs.Memory.{bank_words}
use Rattle.unit_code.specs.declared.unit.Unit.{Unit}
use Rattle.unit_code.specs.Ends.{long_length}
use Rattle.unit_code.specs.Listing.{Listing}
use Rattle.unit_code.specs.Proper.{IsProper}
use Rattle.unit_code.specs.Spelled.{AreEntered, IsSpelled, Spell}
use Rattle.unit_code.specs.Units.{listed}
use Rattle.unit_code.proofs.SpelledBack.{accepted_are_spelled}
use Rattle.module_image.specs.declared.face.Provided.{Provided}
use Rattle.module_image.specs.declared.face.Subscribed.{Subscribed}
use Rattle.module_image.specs.Contents.{Contents, second_version}
use Rattle.module_image.specs.Contents as image
use Rattle.module_image.specs.Spelling.{Image, constant_count, counts, flags, opening, provided_entry, settings, subscribed_entry, word}
use Rattle.avr_asm.specs.declared.error.AsmError.{AsmError}
use Rattle.avr_asm.specs.declared.error.AsmError.TheVariants as error
use Rattle.avr_asm.specs.Text.{lines_in, pair_bytes}
use Rattle.avr_asm.specs.Line.{Line, Code, Rules}
use Rattle.avr_asm.specs.Rows.{Row, rows_of, start}
use Rattle.avr_asm.specs.Refusals.{count, first, goal_of, is_mislabelled, is_misplaced, is_sealed, is_too_long, kinds_in, leads_astray, line_in, mislabelled, miscoded, misled, misplaced, place_in, refusal_of, refused, row_of, too_early, unless}
use Rattle.avr_asm.specs.Assembly.{IsAssembled, IsImageOf, contents_of, handler_of, id_of, marks_of, number_of, numbers_of, pairs_of, places_in, provided_of, size_of, subscribed_of, units_in, version_of, word_of}
use Rattle.avr_asm.specs.Encoding.{places_from}
use Rattle.avr_asm.specs.Source.{constant_lines, lines_behind, lines_with, provided_lines, source_of, subscribed_lines, text_of, unit_lines}
use Rattle.avr_asm.specs.Laws.{ImageIsAssembled}
use Rattle.avr_asm.proofs.Counts.{counted, place_is, places_are}
use Rattle.avr_asm.proofs.Placed.{Numbered, numbered}
use Rattle.avr_asm.proofs.Sound.{are_alike, few_units, few_words, long_alike, places_length}
use Rattle.avr_asm.proofs.Texted.{Gathers, Walks, goal_decimal, handled, lines_of_text, opening_walk, resolved_decimal, row_list, rows_are, seal_walk, walks_placed}
use Rattle.avr_asm.proofs.Again.{AllGood, Spelt, none_led, none_named, not_stuck, spelt, units_gather, units_rules}
use Rattle.avr_asm.proofs.Reread.{AreBytes, again_numbers, again_provided, all_good, constant_rules, pairs_again, provided_rules, seal_rules, subscribed_rules, units_good, whole_gather}

-- Rows that are the lines' of an image, and what they hold.
record Read (all : List Row) (c : Contents) (h : ℕ) (ns : List ℕ) (us : List Unit) : Type 0 where
  rows : row_list 1 start 0 0 (lines_with c (h ∷ ns) us) ≡ all
  numbers_own : Numbered 0 0 all
  sealed : is_sealed all ≡ c.sealed
  provided : provided_of all all ≡ again_provided all c.face.provided.items ns
  numbers : numbers_of all all ≡ again_numbers all c.face.provided.items ns
  subscribed : subscribed_of all ≡ c.face.subscribed.items
  pairs : pairs_of all ≡ pairs_text c.constants
  units : units_in all c.sealed all ≡ us
  id : id_of all ≡ c.face.id
  version : version_of all ≡ c.version
  size : size_of all ≡ c.state_size
  handler : handler_of all ≡ decimal h

read : (all : List Row) (c : Contents) (h : ℕ) (ns : List ℕ) (us : List Unit) → row_list 1 start 0 0 (lines_with c (h ∷ ns) us) ≡ all → Numbered 0 0 all → Gathers all c.sealed (unit_lines us) false [] [] [] [] us → Read all c h ns us
read all c h ns us e n g =
    let w = whole_gather all c h ns us g in
    record {
      rows = e;
      numbers_own = n;
      sealed = subst (λ (z : List Row). is_sealed z ≡ c.sealed) e (w.seals 1 start 0 0);
      provided = subst (λ (z : List Row). provided_of all z ≡ again_provided all c.face.provided.items ns) e (w.provided 1 start 0 0);
      numbers = subst (λ (z : List Row). numbers_of all z ≡ again_numbers all c.face.provided.items ns) e (w.numbers 1 start 0 0);
      subscribed = subst (λ (z : List Row). subscribed_of z ≡ c.face.subscribed.items) e (w.subscribed 1 start 0 0);
      pairs = subst (λ (z : List Row). pairs_of z ≡ pairs_text c.constants) e (w.pairs_are 1 start 0 0);
      units = subst (λ (z : List Row). units_in all c.sealed z ≡ us) e (w.units 1 start 0 0);
      id = subst (λ (z : List Row). id_of z ≡ c.face.id) e refl;
      version = subst (λ (z : List Row). version_of z ≡ c.version) e refl;
      size = subst (λ (z : List Row). size_of z ≡ c.state_size) e refl;
      handler = subst (λ (z : List Row). handler_of z ≡ decimal h) e refl;
    }

-- a number in decimal is the unit's, and so is its first word
number_again : (all : List Row) (n : ℕ) → n < 2 ^ 16 → number_of all (decimal n) ≡ n
number_again all n h = ap (λ (o : Option ℕ). unwrap_or o 0) (resolved_decimal all n h)

word_again : (all : List Row) (firsts : List ℕ) (total n : ℕ) → total ≤ bank_words → n < total → ((t : ℕ) → t < total → place_in (row_of all t) ≡ slice_index firsts t) → word_of all (decimal n) ≡ slice_index firsts n
word_again all firsts total n few low at = ap (λ (m : ℕ). place_in (row_of all m)) (number_again all n (omega (arith, low, few))) ∙ at n low

entered_low : (firsts ns ms : List ℕ) → AreEntered firsts ns ms → AllByRecursion (λ n. n < length firsts) ns
entered_low firsts [] ms e = tt
entered_low firsts (n ∷ ns) [] e = absurd e
entered_low firsts (n ∷ ns) (m ∷ ms) e = (e.0, entered_low firsts ns ms e.2)

numbers_again : (all : List Row) (firsts : List ℕ) (ps : List Provided) (ns : List ℕ) → length firsts ≤ bank_words → AreEntered firsts ns (map (λ (p : Provided). p.word) ps) → again_numbers all ps ns ≡ ns
numbers_again all firsts [] [] few e = refl
numbers_again all firsts [] (n ∷ ns) few e = absurd e
numbers_again all firsts (p ∷ ps) [] few e = absurd e
numbers_again all firsts (p ∷ ps) (n ∷ ns) few e = ap₂ (λ (x : ℕ) (xs : List ℕ). x ∷ xs) (number_again all n (omega (arith, e.0, few))) (numbers_again all firsts ps ns few e.2)

provided_again : (all : List Row) (firsts : List ℕ) (ps : List Provided) (ns : List ℕ) → length firsts ≤ bank_words → ((t : ℕ) → t < length firsts → place_in (row_of all t) ≡ slice_index firsts t) → AreEntered firsts ns (map (λ (p : Provided). p.word) ps) → again_provided all ps ns ≡ ps
provided_again all firsts [] [] few at e = refl
provided_again all firsts [] (n ∷ ns) few at e = absurd e
provided_again all firsts (p ∷ ps) [] few at e = absurd e
provided_again all firsts (p ∷ ps) (n ∷ ns) few at e =
    ap₂ (λ (w : ℕ) (xs : List Provided). record { func = p.func; proto = p.proto; word = w } ∷ xs) (word_again all firsts (length firsts) n few e.0 at ∙ e.1) (provided_again all firsts ps ns few at e.2)

none_add : (k : ℕ) → 0 + k ≡ k
none_add k = omega arith

-- The units of the rows stand where those of the image do, and are entered so.
record Stands (all : List Row) (c : Contents) (h : ℕ) (ns : List ℕ) (us : List Unit) (firsts : List ℕ) : Type 0 where
  places : places_in all ≡ firsts
  total : count all ≡ length us
  at : (t : ℕ) → t < length us → place_in (row_of all t) ≡ slice_index firsts t
  units : units_in all (is_sealed all) all ≡ us
  provided : provided_of all all ≡ c.face.provided.items
  numbers : numbers_of all all ≡ ns
  number : number_of all (handler_of all) ≡ h
  word : word_of all (handler_of all) ≡ c.handler

stands : (all : List Row) (c : Contents) (h : ℕ) (ns : List ℕ) (us : List Unit) (firsts : List ℕ) → Read all c h ns us → firsts ≡ places_from 0 us → length us ≤ bank_words → AreEntered firsts (h ∷ ns) (marks_of c) → Stands all c h ns us firsts
stands all c h ns us firsts r is few e =
    let places : places_in all ≡ firsts = places_are all c.sealed 0 0 all r.numbers_own ∙ ap (places_from 0) r.units ∙ sym is in
    let size : length firsts ≡ length us = ap length is ∙ places_length 0 us in
    let at : (t : ℕ) → t < length us → place_in (row_of all t) ≡ slice_index firsts t =
    λ t p. subst (λ (n : ℕ). place_in (row_of all n) ≡ slice_index (places_in all) t) (none_add t) (place_is 0 0 all r.numbers_own t (subst (λ (n : ℕ). t < n) (sym (ap length places ∙ size)) p)) ∙ ap (λ (z : List ℕ). slice_index z t) places in
    let at_first : (t : ℕ) → t < length firsts → place_in (row_of all t) ≡ slice_index firsts t = λ t p. at t (subst (λ (n : ℕ). t < n) size p) in
    let few_first : length firsts ≤ bank_words = omega (arith, size, few) in
    record {
      places = places;
      total = sym (counted all c.sealed all) ∙ ap length r.units;
      at = at;
      units = ap (λ (b : Bool). units_in all b all) r.sealed ∙ r.units;
      provided = r.provided ∙ provided_again all firsts c.face.provided.items ns few_first at_first e.2;
      numbers = r.numbers ∙ numbers_again all firsts c.face.provided.items ns few_first e.2;
      number = ap (number_of all) r.handler ∙ number_again all h (omega (arith, e.0, few_first));
      word = ap (word_of all) r.handler ∙ word_again all firsts (length firsts) h few_first e.0 at_first ∙ e.1;
    }

-- contents by their fields
abbrev made : ℕ → List Provided → List Subscribed → ℕ → Bool → Bool → ℕ → ℕ → List ℕ → List ℕ → Contents
made id ps ss version rewritten sealed size handler code constants = record {
  face = record { id = id; provided = record { items = ps }; subscribed = record { items = ss } };
  version = version;
  rewritten = rewritten;
  sealed = sealed;
  state_size = size;
  handler = handler;
  code = code;
  constants = constants;
}

fields_are : (all : List Row) (c : Contents) (h : ℕ) (ns : List ℕ) (us : List Unit) (firsts : List ℕ) → Read all c h ns us → Stands all c h ns us firsts → c.rewritten ≡ false → AreBytes c.constants → contents_of all c.code ≡ c
fields_are all c h ns us firsts r s original low =
    let constants : pair_bytes (pairs_of all) ≡ c.constants = ap pair_bytes r.pairs ∙ pairs_again c.constants low in
    ap₂ (λ (x : ℕ) (y : ℕ). made x (provided_of all all) (subscribed_of all) y false (is_sealed all) (size_of all) (word_of all (handler_of all)) c.code (pair_bytes (pairs_of all))) r.id r.version
    ∙ ap₂ (λ (x : List Provided) (y : List Subscribed). made c.face.id x y c.version false (is_sealed all) (size_of all) (word_of all (handler_of all)) c.code (pair_bytes (pairs_of all))) s.provided r.subscribed
    ∙ ap₂ (λ (x y : Bool). made c.face.id c.face.provided.items c.face.subscribed.items c.version x y (size_of all) (word_of all (handler_of all)) c.code (pair_bytes (pairs_of all))) (sym original) r.sealed
    ∙ ap₂ (λ (x y : ℕ). made c.face.id c.face.provided.items c.face.subscribed.items c.version c.rewritten c.sealed x y c.code (pair_bytes (pairs_of all))) r.size s.word
    ∙ ap (made c.face.id c.face.provided.items c.face.subscribed.items c.version c.rewritten c.sealed c.state_size c.handler c.code) constants

assembled : (all : List Row) (c : Contents) (h : ℕ) (ns : List ℕ) (us : List Unit) (firsts : List ℕ) → Read all c h ns us → Stands all c h ns us firsts → c.rewritten ≡ false → AreBytes c.constants → Spell firsts 0 firsts us c.code → AreEntered firsts (h ∷ ns) (marks_of c) → IsProper us c.sealed → IsAssembled all c
assembled all c h ns us firsts r s original low spelled entered proper =
    let entered' : AreEntered firsts (number_of all (handler_of all) ∷ numbers_of all all) (marks_of c) = subst (λ (z : List ℕ). AreEntered firsts z (marks_of c)) (sym (ap₂ (λ (x : ℕ) (xs : List ℕ). x ∷ xs) s.number s.numbers)) entered in
    record {
      fields = sym (fields_are all c h ns us firsts r s original low);
      code = record {
        spelled = subst (λ (z : List ℕ). Spell z 0 z (units_in all (is_sealed all) all) c.code) (sym s.places) (subst (λ (z : List Unit). Spell firsts 0 firsts z c.code) (sym s.units) spelled);
        entered = subst (λ (z : List ℕ). AreEntered z (number_of all (handler_of all) ∷ numbers_of all all) (marks_of c)) (sym s.places) entered';
        proper = subst (λ (z : List Unit). IsProper z c.sealed) (sym s.units) proper;
      };
    }

-- No condition refuses.
pass : (o : Option ℕ) (kind : ℕ → AsmError) (next : Option AsmError) → o ≡ None → unless o kind next ≡ next
pass o kind next h = ap (λ (z : Option ℕ). unless z kind next) h

not_early : (end total some : ℕ) → total ≡ some → 0 < some → too_early end total ≡ None
not_early end total some e h = cond-false (total == 0) (Some end) None (ne_eqb total 0 (λ z. omega (arith, e, h, z)))

well_coded : (all : List Row) → IsProper (units_in all (is_sealed all) all) (is_sealed all) → miscoded all ≡ None
well_coded all p =
    let sealed : Bool = is_sealed all in
    let ks : List Unit = kinds_in sealed all in
    let us : List Unit = units_in all sealed all in
    let length_is : long_length ks ≡ long_length us = long_alike ks us (are_alike all sealed all) in
    let fits : long_length us ≤ bank_words = p.fits in
    let short : is_too_long ks ≡ false = le-ltb bank_words (long_length ks) (omega (arith, length_is, fits)) in
    ap (option_map (λ k. line_in (row_of all k))) (not_stuck (is_too_long ks) 0 ks us (are_alike all sealed all) p.skips p.ends short)

unrefused : (end : ℕ) (all : List Row) (c : Contents) (h : ℕ) (ns : List ℕ) (us : List Unit) (firsts : List ℕ) → Read all c h ns us → Stands all c h ns us firsts → Walks start (lines_with c (h ∷ ns) us) → AllGood all (length us) 0 0 (lines_with c (h ∷ ns) us) → IsProper us c.sealed → refused end all ≡ None
unfolding refused
unrefused end all c h ns us firsts r s walks good proper =
    let ls : List Line = lines_with c (h ∷ ns) us in
    let total : length us ≡ count all = sym s.total in
    let placed : misplaced all ≡ None = subst (λ (z : List Row). first is_misplaced z ≡ None) r.rows (walks_placed 1 start 0 0 ls walks) in
    let named : mislabelled all ≡ None = subst (λ (n : ℕ). first (λ r rs. is_mislabelled all n r.line r.unit r.says) all ≡ None) total
    (subst (λ (z : List Row). first (λ r rs. is_mislabelled all (length us) r.line r.unit r.says) z ≡ None) r.rows (none_named all (length us) 1 start 0 0 ls good)) in
    let led : misled all ≡ None = subst (λ (n : ℕ). first (λ r rs. leads_astray all n r (goal_of r.says)) all ≡ None) total
    (subst (λ (z : List Row). first (λ r rs. leads_astray all (length us) r (goal_of r.says)) z ≡ None) r.rows (none_led all (length us) 1 start 0 0 ls good)) in
    let own : IsProper (units_in all (is_sealed all) all) (is_sealed all) = subst (λ (b : Bool). IsProper (units_in all (is_sealed all) all) b) (sym r.sealed) (subst (λ (z : List Unit). IsProper z c.sealed) (sym s.units) proper) in
    pass (misplaced all) error.Line _ placed
    ∙ pass (too_early end (count all)) error.Line _ (not_early end (count all) (length us) s.total proper.some)
    ∙ pass (mislabelled all) error.Label _ named
    ∙ pass (misled all) error.Target _ led
    ∙ pass (miscoded all) error.Code None (well_coded all own)

-- the lines keep their rules and their places
wide : (total : ℕ) (ns : List ℕ) → total ≤ bank_words → AllByRecursion (λ n. n < total) ns → AllByRecursion (λ n. n < 2 ^ 16) ns
wide total [] few h = tt
wide total (n ∷ ns) few h = (omega (arith, h.0, few), wide total ns few h.1)

rules_are : (c : Contents) (h : ℕ) (ns : List ℕ) (us : List Unit) → image.Rules c → AreBytes c.constants → h < 2 ^ 16 → AllByRecursion (λ n. n < 2 ^ 16) ns → AllByRecursion Rules (unit_lines us) → AllByRecursion Rules (lines_with c (h ∷ ns) us)
rules_are c h ns us rules low number numbers r =
    let body : List Line = Code ∷ unit_lines us in
    let fixed : List Line = constant_lines c.constants ++ body in
    let taken : List Line = subscribed_lines c.face.subscribed.items ++ fixed in
    let given : List Line = provided_lines c.face.provided.items ns ++ taken in
    let fixed_rules : AllByRecursion Rules fixed = constant_rules c.constants body low rules.constants_count (tt, r) in
    let taken_rules : AllByRecursion Rules taken = subscribed_rules c.face.subscribed.items fixed rules.face.subscribed fixed_rules in
    let given_rules : AllByRecursion Rules given = provided_rules 0 c.face.provided.items ns taken rules.face.provided numbers taken_rules in
    (rules.face.id, (rules.version, (rules.state_size, (goal_decimal h number, seal_rules c.sealed given given_rules))))

none_left : (cs : List ℕ) → length cs ≡ 0 → cs ≡ []
none_left [] h = refl
none_left (c ∷ cs) h = absurd (omega (arith, h))

versions : (c : Contents) → image.Rules c → ((c.version ≡ second_version) ⊎ (c.constants ≡ [])) × ((c.version ≡ second_version) ⊎ (c.sealed ≡ false))
versions c rules = elim rules.version as (λ z. ((c.version ≡ second_version) ⊎ (c.constants ≡ [])) × ((c.version ≡ second_version) ⊎ (c.sealed ≡ false))) [
  | inl early ↦ (let p = rules.plain early in (inr (none_left c.constants p.1), inr p.0))
  | inr late ↦ (inl late, inl late)
]

walks_are : (c : Contents) (h : ℕ) (ns : List ℕ) (us : List Unit) → image.Rules c → Walks start (lines_with c (h ∷ ns) us)
walks_are c h ns us rules =
    let v = versions c rules in
    let few = rules.face.provided_count in
    let more = rules.face.subscribed_count in
    opening_walk c.face.id c.version c.state_size (decimal h) (lines_behind c ns us)
    (seal_walk (handled c.version) c.sealed c.face.provided.items ns c.face.subscribed.items c.constants us refl (omega (arith, few)) rules.face.provided (omega (arith, more)) v.0 v.1)

-- the constants are the last of the bytes
bytes_behind : (xs ys : List ℕ) → AreBytes (xs ++ ys) → AreBytes ys
bytes_behind [] ys h = h
bytes_behind (x ∷ xs) ys h = bytes_behind xs ys h.1

constants_low : (bytes : List ℕ) (c : Contents) → AreBytes bytes → Image bytes c → AreBytes c.constants
constants_low bytes c h i =
    let words : List ℕ = flat_map word c.code ++ c.constants in
    let taken : List ℕ = flat_map subscribed_entry c.face.subscribed.items ++ words in
    let given : List ℕ = flat_map provided_entry c.face.provided.items ++ taken in
    let counted : List ℕ = constant_count c.version (length c.constants) ++ given in
    let sizes : List ℕ = counts (length c.face.provided.items) (length c.face.subscribed.items) (length c.code) ++ counted in
    let set : List ℕ = settings c.face.id (flags c.rewritten c.sealed) c.state_size c.handler ++ sizes in
    bytes_behind (flat_map word c.code) c.constants
    (bytes_behind (flat_map subscribed_entry c.face.subscribed.items) words
    (bytes_behind (flat_map provided_entry c.face.provided.items) taken
    (bytes_behind (constant_count c.version (length c.constants)) given
    (bytes_behind (counts (length c.face.provided.items) (length c.face.subscribed.items) (length c.code)) counted
    (bytes_behind (settings c.face.id (flags c.rewritten c.sealed) c.state_size c.handler) sizes
    (bytes_behind (opening c.version) set (subst AreBytes i.spelled h)))))))

-- The text of these lines is assembled to the bytes.
abbrev IsAgain : List ℕ → List Line → Type 0
IsAgain bytes ls = (refusal_of (text_of ls) ≡ None) × IsImageOf (text_of ls) bytes

again : (bytes : List ℕ) (c : Contents) (h : ℕ) (ns : List ℕ) (us : List Unit) (firsts : List ℕ) → AreBytes bytes → Image bytes c → c.rewritten ≡ false → Spell firsts 0 firsts us c.code → AreEntered firsts (h ∷ ns) (marks_of c) → IsProper us c.sealed → IsAgain bytes (lines_with c (h ∷ ns) us)
unfolding refusal_of
again bytes c h ns us firsts small i original spelled entered proper =
    let low : AreBytes c.constants = constants_low bytes c small i in
    let sp : Spelt firsts 0 firsts us = spelt firsts 0 firsts us c.code i.rules.code spelled in
    let size : length firsts ≡ length us = ap length sp.places ∙ places_length 0 us in
    let fits : long_length us ≤ bank_words = proper.fits in
    let few : length us ≤ bank_words = (let f = few_units us in let w = few_words us in omega (arith, f, w, fits)) in
    let number : h < length us = subst (λ (n : ℕ). h < n) size entered.0 in
    let numbers : AllByRecursion (λ n. n < length us) ns = subst (λ (m : ℕ). AllByRecursion (λ n. n < m) ns) size (entered_low firsts ns (map (λ (p : Provided). p.word) c.face.provided.items) entered.2) in
    let ls : List Line = lines_with c (h ∷ ns) us in
    let rules : AllByRecursion Rules ls = rules_are c h ns us i.rules low (omega (arith, number, few)) (wide (length us) ns few numbers) (units_rules c.sealed (length us) us few proper.kinds proper.loads proper.targets) in
    let all : List Row = rows_of (lines_in (text_of ls)) in
    let rows : all ≡ row_list 1 start 0 0 ls = ap rows_of (lines_of_text ls rules) ∙ rows_are 1 start 0 0 ls rules in
    let r : Read all c h ns us = read all c h ns us (sym rows) (numbered 1 start 0 0 (lines_in (text_of ls))) (units_gather all c.sealed (length us) us few proper.kinds proper.loads proper.targets) in
    let s : Stands all c h ns us firsts = stands all c h ns us firsts r sp.places few entered in
    let good : AllGood all (length us) 0 0 ls = all_good all (length us) c h ns us few number numbers
    (units_good all firsts (length us) 0 0 us few (omega arith) proper.targets sp.near s.at (λ j p. ap (λ (z : List ℕ). slice_index z j) (sym sp.places) ∙ ap (slice_index firsts) (sym (none_add j)))) in (
      unrefused _ all c h ns us firsts r s (walks_are c h ns us i.rules) good proper,
      record { contents = c; image = i; assembled = assembled all c h ns us firsts r s original low spelled entered proper },
    )

by_marks : (bytes : List ℕ) (c : Contents) (us : List Unit) (firsts marks : List ℕ) → AreBytes bytes → Image bytes c → c.rewritten ≡ false → Spell firsts 0 firsts us c.code → AreEntered firsts marks (marks_of c) → IsProper us c.sealed → IsAgain bytes (lines_with c marks us)
by_marks bytes c us firsts [] small i original spelled entered proper = absurd entered
by_marks bytes c us firsts (h ∷ ns) small i original spelled entered proper = again bytes c h ns us firsts small i original spelled entered proper

pub image_is_assembled : ImageIsAssembled
unfolding source_of
image_is_assembled bytes c small i original none =
    let l : Listing = listed c.code (marks_of c) c.sealed in
    let s : IsSpelled c.code (marks_of c) c.sealed l = accepted_are_spelled c.code (marks_of c) c.sealed i.rules.code none in
    by_marks bytes c l.units l.places l.marks small i original s.spelled s.entered s.proper
