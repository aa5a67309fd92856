-- The lines of an original image: their rules, what their rows hold, and that nothing is refused of them.
use Rattle.std.specs.Prelude.{◌≡◌, ℕ, suc, ◌+◌, ◌*◌, ◌/◌, ◌%◌, ◌^◌, ◌<◌, ◌≤◌, nat_le, nat_lt, Bool, true, false, List, [], ◌∷◌, ◌++◌, length, slice_index, decimal}
use Rattle.std.specs.Char.{digit_char}
use Rattle.std.specs.List.{AllByRecursion}
use Rattle.std.proofs.Common.{refl, sym, ◌∙◌, ap, ap₂, subst, arith, inl, inr}
use Rattle.std.proofs.lemmas.Bool.{and_from, cases_lt, le-leb, le-ltb, lt-leb, lt-ltb, or_left, or_right, cond-true, cond-false}
use Rattle.mote_base.specs.Digits.{pairs_text}
use Rattle.mote_layout.specs.Memory.{bank_words}
use Rattle.unit_code.specs.declared.unit.Unit.{Unit}
use Rattle.unit_code.specs.declared.unit.Unit.TheVariants as unit
use Rattle.unit_code.specs.Proper.{LeadsBelow}
use Rattle.module_image.specs.declared.face.Provided.{Provided}
use Rattle.module_image.specs.declared.face.Subscribed.{Subscribed}
use Rattle.module_image.specs.Contents.{AreProvided, Contents, IsPrintable, IsPrototype, IsSubscribed, constants_limit}
use Rattle.avr_asm.specs.Text.{are_pairs, hex_value, is_digit, is_hex, is_printable, is_prototype, pair_bytes}
use Rattle.avr_asm.specs.Line.{Line, Module, Version, State, Handler, Sealed, Provides, Subscribes, Const, Code, Rules}
use Rattle.avr_asm.specs.Rows.{Row, unit_words}
use Rattle.avr_asm.specs.Refusals.{place_in, row_of}
use Rattle.avr_asm.specs.Assembly.{number_of, word_of}
use Rattle.avr_asm.specs.Encoding.{places_from}
use Rattle.avr_asm.specs.Source.{bare, constant_lines, lines_behind, lines_with, provided_lines, seal_lines, subscribed_lines, unit_lines}
use Rattle.avr_asm.proofs.Texted.{Gathers, gather_step, goal_decimal}
use Rattle.avr_asm.proofs.Again.{AllGood, AllNear, handler_good, provided_good, unit_good}

-- digits of bytes
digit_low : (n : ℕ) → n < 10 → digit_char n ≡ 48 + n
digit_low n h = cond-true (nat_lt n 10) _ _ (lt-ltb n 10 h)

digit_high : (n : ℕ) → 10 ≤ n → digit_char n ≡ 87 + n
digit_high n h = cond-false (nat_lt n 10) _ _ (le-ltb n 10 h)

hex_low : (n : ℕ) → n < 10 → (is_hex (48 + n) ≡ true) × (hex_value (48 + n) ≡ n)
hex_low n h = (
  or_left (is_digit (48 + n)) _ (and_from (nat_le 48 (48 + n)) _ (le-leb 48 (48 + n) (omega arith)) (le-leb (48 + n) 57 (omega (arith, h)))),
  cond-false (nat_le 97 (48 + n)) _ _ (lt-leb 97 (48 + n) (omega (arith, h))) ∙ omega arith,
)

hex_high : (n : ℕ) → 10 ≤ n → n < 16 → (is_hex (87 + n) ≡ true) × (hex_value (87 + n) ≡ n)
hex_high n h k = (
  or_right (is_digit (87 + n)) _ (and_from (nat_le 97 (87 + n)) _ (le-leb 97 (87 + n) (omega (arith, h))) (le-leb (87 + n) 102 (omega (arith, k)))),
  cond-true (nat_le 97 (87 + n)) _ _ (le-leb 97 (87 + n) (omega (arith, h))) ∙ omega arith,
)

hex_digit : (n : ℕ) → n < 16 → (is_hex (digit_char n) ≡ true) × (hex_value (digit_char n) ≡ n)
hex_digit n h = elim (cases_lt n 10) as (λ z. (is_hex (digit_char n) ≡ true) × (hex_value (digit_char n) ≡ n)) [
  | inl low ↦ subst (λ (d : ℕ). (is_hex d ≡ true) × (hex_value d ≡ n)) (sym (digit_low n low)) (hex_low n low)
  | inr high ↦ subst (λ (d : ℕ). (is_hex d ≡ true) × (hex_value d ≡ n)) (sym (digit_high n high)) (hex_high n high h)
]

abbrev pub AreBytes : List ℕ → Type 0
AreBytes bytes = AllByRecursion (λ byte. byte < 256) bytes

pairs_even : (bytes : List ℕ) → AreBytes bytes → are_pairs (pairs_text bytes) ≡ true
pairs_even [] h = refl
pairs_even (b ∷ bytes) h =
    and_from (is_hex (digit_char (b / 16))) _ (hex_digit (b / 16) (omega (arith, h.0))).0 (and_from (is_hex (digit_char (b % 16))) _ (hex_digit (b % 16) (omega (arith, h.0))).0 (pairs_even bytes h.1))

pub pairs_again : (bytes : List ℕ) → AreBytes bytes → pair_bytes (pairs_text bytes) ≡ bytes
pairs_again [] h = refl
pairs_again (b ∷ bytes) h =
    let value : 16 * (b / 16) + b % 16 ≡ b = omega arith in
    ap₂ (λ (m n : ℕ). (16 * m + n) ∷ pair_bytes (pairs_text bytes)) (hex_digit (b / 16) (omega (arith, h.0))).1 (hex_digit (b % 16) (omega (arith, h.0))).1
    ∙ ap₂ (λ (x : ℕ) (xs : List ℕ). x ∷ xs) value (pairs_again bytes h.1)

pairs_length : (bytes : List ℕ) → length (pairs_text bytes) ≡ 2 * length bytes
pairs_length [] = refl
pairs_length (b ∷ bytes) = let h = pairs_length bytes in omega (arith, h)

-- the rules of the lines
printable_from : (c : ℕ) → IsPrintable c → is_printable c ≡ true
printable_from c h = and_from (nat_le 33 c) _ (le-leb 33 c h.0) (le-leb c 126 h.1)

prototype_from : (proto : List ℕ) → IsPrototype proto → is_prototype proto ≡ true
prototype_from (a ∷ b ∷ c ∷ d ∷ []) h = and_from (is_printable a) _ (printable_from a h.0) (and_from (is_printable b) _ (printable_from b h.1) (and_from (is_printable c) _ (printable_from c h.2) (printable_from d h.3)))
prototype_from _ h = absurd h

pub seal_rules : (sealed : Bool) (ls : List Line) → AllByRecursion Rules ls → AllByRecursion Rules (seal_lines sealed ++ ls)
seal_rules true ls h = (tt, h)
seal_rules false ls h = h

pub provided_rules : (least : ℕ) (ps : List Provided) (ns : List ℕ) (ls : List Line) → AreProvided least ps → AllByRecursion (λ n. n < 2 ^ 16) ns → AllByRecursion Rules ls → AllByRecursion Rules (provided_lines ps ns ++ ls)
provided_rules least [] ns ls h low r = r
provided_rules least (p ∷ ps) [] ls h low r = r
provided_rules least (p ∷ ps) (n ∷ ns) ls h low r = ((omega (arith, h.1), prototype_from p.proto h.2, goal_decimal n low.0), provided_rules (p.func + 1) ps ns ls h.4 low.1 r)

pub subscribed_rules : (ss : List Subscribed) (ls : List Line) → AllByRecursion IsSubscribed ss → AllByRecursion Rules ls → AllByRecursion Rules (subscribed_lines ss ++ ls)
subscribed_rules [] ls h r = r
subscribed_rules (s ∷ ss) ls h r = ((h.0.0, omega (arith, h.0.1), prototype_from s.proto h.0.2), subscribed_rules ss ls h.1 r)

pub constant_rules : (cs : List ℕ) (ls : List Line) → AreBytes cs → length cs ≤ constants_limit → AllByRecursion Rules ls → AllByRecursion Rules (constant_lines cs ++ ls)
constant_rules [] ls h few r = r
constant_rules (c ∷ cs) ls h few r = let size = pairs_length (c ∷ cs) in ((pairs_even (c ∷ cs) h, omega (arith, size), omega (arith, size, few)), r)

-- What the rows of these lines hold. The provided functions are told again from their lines.
abbrev pub again_provided : List Row → List Provided → List ℕ → List Provided
again_provided all [] numbers = []
again_provided all (p ∷ ps) [] = []
again_provided all (p ∷ ps) (number ∷ numbers) = record { func = p.func; proto = p.proto; word = word_of all (decimal number) } ∷ again_provided all ps numbers

abbrev pub again_numbers : List Row → List Provided → List ℕ → List ℕ
again_numbers all [] numbers = []
again_numbers all (p ∷ ps) [] = []
again_numbers all (p ∷ ps) (number ∷ numbers) = number_of all (decimal number) ∷ again_numbers all ps numbers

seal_gather : (all : List Row) (sealed : Bool) (seal : Bool) (ls : List Line) (ps : List Provided) (ns : List ℕ) (ss : List Subscribed) (pairs : List ℕ) (us : List Unit) → Gathers all sealed ls false ps ns ss pairs us → Gathers all sealed (seal_lines seal ++ ls) seal ps ns ss pairs us
seal_gather all sealed true ls ps ns ss pairs us g = gather_step all sealed Sealed ls false ps ns ss pairs us g
seal_gather all sealed false ls ps ns ss pairs us g = g

provided_gather : (all : List Row) (sealed : Bool) (ps : List Provided) (ns : List ℕ) (ls : List Line) (ss : List Subscribed) (pairs : List ℕ) (us : List Unit) → Gathers all sealed ls false [] [] ss pairs us → Gathers all sealed (provided_lines ps ns ++ ls) false (again_provided all ps ns) (again_numbers all ps ns) ss pairs us
provided_gather all sealed [] ns ls ss pairs us g = g
provided_gather all sealed (p ∷ ps) [] ls ss pairs us g = g
provided_gather all sealed (p ∷ ps) (n ∷ ns) ls ss pairs us g =
    gather_step all sealed (Provides p.func p.proto (decimal n)) (provided_lines ps ns ++ ls) false (again_provided all ps ns) (again_numbers all ps ns) ss pairs us (provided_gather all sealed ps ns ls ss pairs us g)

subscribed_gather : (all : List Row) (sealed : Bool) (ss : List Subscribed) (ls : List Line) (pairs : List ℕ) (us : List Unit) → Gathers all sealed ls false [] [] [] pairs us → Gathers all sealed (subscribed_lines ss ++ ls) false [] [] ss pairs us
subscribed_gather all sealed [] ls pairs us g = g
subscribed_gather all sealed (s ∷ ss) ls pairs us g = gather_step all sealed (Subscribes s.module s.func s.proto) (subscribed_lines ss ++ ls) false [] [] ss pairs us (subscribed_gather all sealed ss ls pairs us g)

constant_gather : (all : List Row) (sealed : Bool) (cs : List ℕ) (ls : List Line) (us : List Unit) → Gathers all sealed ls false [] [] [] [] us → Gathers all sealed (constant_lines cs ++ ls) false [] [] [] (pairs_text cs) us
constant_gather all sealed [] ls us g = g
constant_gather all sealed (c ∷ cs) ls us g = gather_step all sealed (Const (pairs_text (c ∷ cs))) ls false [] [] [] [] us g

behind_gather : (all : List Row) (c : Contents) (ns : List ℕ) (us : List Unit) → Gathers all c.sealed (unit_lines us) false [] [] [] [] us
    → Gathers all c.sealed (lines_behind c ns us) c.sealed (again_provided all c.face.provided.items ns) (again_numbers all c.face.provided.items ns) c.face.subscribed.items (pairs_text c.constants) us
behind_gather all c ns us g =
    let ps : List Provided = c.face.provided.items in
    let ss : List Subscribed = c.face.subscribed.items in
    let cs : List ℕ = c.constants in
    let body : List Line = Code ∷ unit_lines us in
    let a = gather_step all c.sealed Code (unit_lines us) false [] [] [] [] us g in
    let b = constant_gather all c.sealed cs body us a in
    let d = subscribed_gather all c.sealed ss (constant_lines cs ++ body) (pairs_text cs) us b in
    let e = provided_gather all c.sealed ps ns (subscribed_lines ss ++ (constant_lines cs ++ body)) ss (pairs_text cs) us d in
    seal_gather all c.sealed c.sealed (provided_lines ps ns ++ (subscribed_lines ss ++ (constant_lines cs ++ body))) (again_provided all ps ns) (again_numbers all ps ns) ss (pairs_text cs) us e

pub whole_gather : (all : List Row) (c : Contents) (h : ℕ) (ns : List ℕ) (us : List Unit) → Gathers all c.sealed (unit_lines us) false [] [] [] [] us
    → Gathers all c.sealed (lines_with c (h ∷ ns) us) c.sealed (again_provided all c.face.provided.items ns) (again_numbers all c.face.provided.items ns) c.face.subscribed.items (pairs_text c.constants) us
whole_gather all c h ns us g =
    let ps : List Provided = again_provided all c.face.provided.items ns in
    let ms : List ℕ = again_numbers all c.face.provided.items ns in
    let ss : List Subscribed = c.face.subscribed.items in
    let pairs : List ℕ = pairs_text c.constants in
    let rest : List Line = lines_behind c ns us in
    let last : List Line = Handler (decimal h) ∷ rest in
    let third : List Line = State c.state_size ∷ last in
    gather_step all c.sealed (Module c.face.id) (Version c.version ∷ third) c.sealed ps ms ss pairs us
    (gather_step all c.sealed (Version c.version) third c.sealed ps ms ss pairs us
    (gather_step all c.sealed (State c.state_size) last c.sealed ps ms ss pairs us
    (gather_step all c.sealed (Handler (decimal h)) rest c.sealed ps ms ss pairs us (behind_gather all c ns us g))))

-- nothing is refused of the lines
bare_words : (u : Unit) → unit_words (bare u) ≡ unit_words u
bare_words (unit.Load i) = refl
bare_words (unit.Branch set bit t) = refl
bare_words (unit.Jump t) = refl
bare_words (unit.LocalCall t) = refl
bare_words _ = refl

pub units_good : (all : List Row) (firsts : List ℕ) (total k place : ℕ) (us : List Unit) → total ≤ bank_words → total ≡ k + length us → AllByRecursion (LeadsBelow total) us → AllNear firsts place us
    → ((t : ℕ) → t < total → place_in (row_of all t) ≡ slice_index firsts t) → ((j : ℕ) → j < length us → slice_index (places_from place us) j ≡ slice_index firsts (k + j)) → AllGood all total k place (unit_lines us)
units_good all firsts total k place [] few size l n at own = tt
units_good all firsts total k place (u ∷ us) few size l n at own =
    let own' : (j : ℕ) → j < length us → slice_index (places_from (place + unit_words u) us) j ≡ slice_index firsts (suc k + j) =
    λ j p. (let e : k + suc j ≡ suc k + j = omega arith in own (suc j) (omega (arith, p)) ∙ ap (slice_index firsts) e) in (
      unit_good all firsts total k place u us few size l.0 n.0 at own,
      subst (λ (m : ℕ). AllGood all total (suc k) (place + m) (unit_lines us)) (sym (bare_words u)) (units_good all firsts total (suc k) (place + unit_words u) us few (omega (arith, size)) l.1 n.1 at own'),
    )

seal_all_good : (all : List Row) (total k place : ℕ) (sealed : Bool) (ls : List Line) → AllGood all total k place ls → AllGood all total k place (seal_lines sealed ++ ls)
seal_all_good all total k place true ls h = (record { named = λ n. refl; led_so = λ n s. refl }, h)
seal_all_good all total k place false ls h = h

provided_all_good : (all : List Row) (total k place : ℕ) (ps : List Provided) (ns : List ℕ) (ls : List Line) → total ≤ bank_words → AllByRecursion (λ n. n < total) ns → AllGood all total k place ls → AllGood all total k place (provided_lines ps ns ++ ls)
provided_all_good all total k place [] ns ls few low h = h
provided_all_good all total k place (p ∷ ps) [] ls few low h = h
provided_all_good all total k place (p ∷ ps) (n ∷ ns) ls few low h = (provided_good all total k place p.func p.proto n (omega (arith, low.0, few)) low.0, provided_all_good all total k place ps ns ls few low.1 h)

subscribed_all_good : (all : List Row) (total k place : ℕ) (ss : List Subscribed) (ls : List Line) → AllGood all total k place ls → AllGood all total k place (subscribed_lines ss ++ ls)
subscribed_all_good all total k place [] ls h = h
subscribed_all_good all total k place (s ∷ ss) ls h = (record { named = λ n. refl; led_so = λ n t. refl }, subscribed_all_good all total k place ss ls h)

constant_all_good : (all : List Row) (total k place : ℕ) (cs : List ℕ) (ls : List Line) → AllGood all total k place ls → AllGood all total k place (constant_lines cs ++ ls)
constant_all_good all total k place [] ls h = h
constant_all_good all total k place (c ∷ cs) ls h = (record { named = λ n. refl; led_so = λ n s. refl }, h)

pub all_good : (all : List Row) (total : ℕ) (c : Contents) (h : ℕ) (ns : List ℕ) (us : List Unit) → total ≤ bank_words → h < total → AllByRecursion (λ n. n < total) ns → AllGood all total 0 0 (unit_lines us) → AllGood all total 0 0 (lines_with c (h ∷ ns) us)
all_good all total c h ns us few low lows g =
    let ps : List Provided = c.face.provided.items in
    let ss : List Subscribed = c.face.subscribed.items in
    let cs : List ℕ = c.constants in
    let body : List Line = Code ∷ unit_lines us in
    let rest : AllGood all total 0 0 (lines_behind c ns us) =
    seal_all_good all total 0 0 c.sealed (provided_lines ps ns ++ (subscribed_lines ss ++ (constant_lines cs ++ body)))
    (provided_all_good all total 0 0 ps ns (subscribed_lines ss ++ (constant_lines cs ++ body)) few lows
    (subscribed_all_good all total 0 0 ss (constant_lines cs ++ body)
    (constant_all_good all total 0 0 cs body (record { named = λ n. refl; led_so = λ n s. refl }, g)))) in (
      record { named = λ n. refl; led_so = λ n s. refl },
      (
        record { named = λ n. refl; led_so = λ n s. refl },
        (
          record { named = λ n. refl; led_so = λ n s. refl },
          (handler_good all total 0 0 h (omega (arith, low, few)) low, rest),
        ),
      ),
    )
