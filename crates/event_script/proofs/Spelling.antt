-- Events that are spelled are read as themselves.
use Rattle.std.specs.Prelude.{ℕ, ◌≡◌, ◌≢◌, ◌<◌, ◌≤◌, ◌+◌, ◌-◌, ◌*◌, ◌/◌, ◌%◌, ◌^◌, ◌++◌, ◌==◌, ◌&&◌, ◌||◌, Bool, not, fold, nat_lt, nat_le, true, false, List, [], ◌∷◌, length, slice_index, Option, Some, None, codes, decimal}
use Rattle.std.specs.List.{AllByRecursion, list_all}
use Rattle.std.specs.Str.{bytes_eq}
use Rattle.std.specs.Str.Parse.{AllDigits}
use Rattle.std.proofs.Common.{refl, ap, ◌∙◌, sym, subst, arith, cond, zero, suc, append_assoc, append-nil, length-append}
use Rattle.std.proofs.lemmas.Bool.Decides.{nat_tests}
use Rattle.std.proofs.lemmas.Fmt.{decimal_is_IsNumeral, length-decimal-le, first_decimal, decimal_digit, digits_value-decimal}
use Rattle.std.proofs.lemmas.Str.Parse.{FoldsDigits, numerals_by_fold, tells_digits, digit_from_value}
use Rattle.std.proofs.lemmas.List.Folds.{list_any-append, list_all-append}
use Rattle.std.specs.Char.{digit_char}
use Rattle.mote_base.specs.Digits.{pairs_text, bytes_text}
use Rattle.mote_base.specs.Spaced.{spaced}
use Rattle.mote_layout.specs.Limits.{event_limit, payload_limit}
use Rattle.domain_model.specs.declared.script.Event.{Event}
use Rattle.domain_model.specs.declared.script.What.{What}
use Rattle.domain_model.specs.declared.script.What.TheVariants as what
use Rattle.event_script.specs.Cut.{Lacks}
use Rattle.event_script.specs.Lines.{TextLine, lines_of}
use Rattle.mote_base.specs.Spaced.{words_of}
use Rattle.mote_base.specs.Numbers.{is_digit, is_number, value_of, number_in, most_digits}
use Rattle.event_script.specs.Numbers.{last_time, last_image, first_id, last_id, last_type}
use Rattle.event_script.specs.Bytes.{digit_of, onto_bytes, pairs_of, few_bytes, bytes_of}
use Rattle.event_script.specs.Events.{Nothing, An, said, said_event, is_blank, event_of, event_with, asked_by, load_with, unload_with, radio_with, events_in, onto_events}
use Rattle.event_script.specs.Refusals.{against, against_event, asks_beyond, comes_late, is_too_much, first_against, or_later}
use Rattle.event_script.specs.Spelled.{what_words, event_words, event_text, script_text, AreInOrder, AsksInRange, IsInRange, SpelledEventsAreRead}
use Rattle.event_script.proofs.Cuts.{lines_of-front, words_of-front, one_word_alone}

or_true : (b : Bool) → (b || true) ≡ true
or_true true = refl
or_true false = refl

and_false : (b : Bool) → (b && false) ≡ false
and_false true = refl
and_false false = refl

and_true : {a b : Bool} → a ≡ true → b ≡ true → (a && b) ≡ true
and_true p q = rw (p, q) refl

all_cons : (c : ℕ) (cs : List ℕ) → is_digit c ≡ true → list_all is_digit cs ≡ true → list_all is_digit (c ∷ cs) ≡ true
all_cons c cs p q = list_all-append is_digit (c ∷ []) cs ∙ and_true (one_digit c p) q
  where
    one_digit : (c : ℕ) → is_digit c ≡ true → list_all is_digit (c ∷ []) ≡ true
    one_digit c p = rw p refl

or_false : (b : Bool) → (b || false) ≡ b
or_false true = refl
or_false false = refl

and_second : (a b : Bool) → (a && b) ≡ true → b ≡ true
and_second true b h = h
and_second false b h = absurd (cc)

-- A byte of a word: no line feed and no space.
abbrev IsOfWord : ℕ → Type 0
IsOfWord b = (b ≢ 10) × (b ≢ 32)

abbrev IsWord : List ℕ → Type 0
IsWord text = AllByRecursion IsOfWord text

lacks_where : (byte : ℕ) (text : List ℕ) → AllByRecursion (λ b. b ≢ byte) text → Lacks byte text
lacks_where byte [] all k p = absurd (omega arith)
lacks_where byte (x ∷ xs) all zero p = all.0
lacks_where byte (x ∷ xs) all (suc k) p = lacks_where byte xs all.1 k (omega arith)

no_line : (text : List ℕ) → IsWord text → AllByRecursion (λ b. b ≢ 10) text
no_line [] all = tt
no_line (x ∷ xs) all = (all.0.0, no_line xs all.1)

no_space : (text : List ℕ) → IsWord text → AllByRecursion (λ b. b ≢ 32) text
no_space [] all = tt
no_space (x ∷ xs) all = (all.0.1, no_space xs all.1)

all_append : {A : Type 0} (P : A → Type 0) (xs ys : List A) → AllByRecursion P xs → AllByRecursion P ys → AllByRecursion P (xs ++ ys)
all_append P [] ys all more = more
all_append P (x ∷ xs) ys all more = (all.0, all_append P xs ys all.1 more)

-- a text that is known: tested
abbrev word_test : List ℕ → Bool
word_test [] = true
word_test (x ∷ xs) = (not (x == 10) && not (x == 32)) && word_test xs

literal_where : (x : ℕ) (b : Bool) → ((not (x == 10) && not (x == 32)) && b) ≡ true → IsOfWord x × (b ≡ true)
literal_where x b h = (((λ p. grind (arith, p, h)), (λ p. grind (arith, p, h))), and_second (not (x == 10) && not (x == 32)) b h)

literal : (text : List ℕ) → word_test text ≡ true → IsWord text
literal [] h = tt
literal (x ∷ xs) h = let parts = literal_where x (word_test xs) h in (parts.0, literal xs parts.1)

-- The words of words with spaces between them are these words.
spaced_words : (word : List ℕ) (words : List (List ℕ)) → AllByRecursion IsWord (word ∷ words) → words_of (spaced (word ∷ words)) ≡ word ∷ words
spaced_words word [] all = one_word_alone word (lacks_where 32 word (no_space word all.0))
spaced_words word (next ∷ words) all =
    words_of-front word (spaced (next ∷ words)) (lacks_where 32 word (no_space word all.0))
    ∙ ap (λ ws. word ∷ ws) (spaced_words next words all.1)

spaced_no_line : (words : List (List ℕ)) → AllByRecursion IsWord words → AllByRecursion (λ b. b ≢ 10) (spaced words)
spaced_no_line [] all = tt
spaced_no_line (word ∷ []) all = no_line word all.0
spaced_no_line (word ∷ next ∷ words) all =
    all_append (λ b. b ≢ 10) word (32 ∷ spaced (next ∷ words)) (no_line word all.0) ((λ h. omega (arith, h)), spaced_no_line (next ∷ words) all.1)

-- Decimal numbers.
digits_are_word : (ds : List ℕ) → AllDigits 10 ds → IsWord ds
digits_are_word [] d = tt
digits_are_word (c ∷ cs) d =
    let k = digit_from_value c d.0 in
    (((λ h. omega (arith, h, k)), (λ h. omega (arith, h, k))), digits_are_word cs d.1)

decimal_word : (n : ℕ) → n < 2 ^ 64 → IsWord (decimal n)
decimal_word n h = digits_are_word (decimal n) (decimal_is_IsNumeral n h).0.1

all_digits : (ds : List ℕ) → AllDigits 10 ds → list_all is_digit ds ≡ true
all_digits [] d = refl
all_digits (c ∷ cs) d =
    let k = digit_from_value c d.0 in
    let one : is_digit c ≡ true = grind (arith, nat_tests, k) in
    all_cons c cs one (all_digits cs d.1)

folds : FoldsDigits (λ n text. fold (λ k digit. 10 * k + (digit - 48)) n text)
folds = record { empty = λ n. refl; more = λ n c cs r. ap (λ k. fold (λ m digit. 10 * m + (digit - 48)) k cs) (omega arith) }

value_is : (n : ℕ) → n < 2 ^ 64 → value_of (decimal n) ≡ n
value_is n h = digits_value-decimal (numerals_by_fold (AllDigits 10) tells_digits (λ n text. fold (λ k digit. 10 * k + (digit - 48)) n text) folds) n h

starts_well : (n : ℕ) → n < 2 ^ 64 → (b : Bool) → nat_lt 0 n ≡ b → (length (decimal n) == 1 || not (slice_index (decimal n) 0 == 48)) ≡ true
starts_well n h true is =
    let first : 48 < slice_index (decimal n) 0 = first_decimal n (grind (arith, nat_tests)) h in
    let differs : (slice_index (decimal n) 0 == 48) ≡ false = grind (arith, nat_tests) in
    rw differs (or_true (length (decimal n) == 1))
starts_well n h false is =
    let none : n ≡ 0 = grind (arith, nat_tests) in
    let bare : decimal n ≡ 48 ∷ [] = ap decimal none ∙ decimal_digit 0 (omega arith) in
    rw bare refl

number_is : (n : ℕ) → n < 2 ^ 32 → is_number (decimal n) ≡ true
number_is n h =
    let numeral = (decimal_is_IsNumeral n (omega (arith, h))).0 in
    let some : nat_lt 0 (length (decimal n)) ≡ true = grind (arith, nat_tests, numeral.0) in
    let few : length (decimal n) ≤ most_digits = length-decimal-le 10 n (omega arith) (omega (arith, h)) (omega (arith, h)) in
    let few_test : nat_le (length (decimal n)) most_digits ≡ true = grind (arith, nat_tests, few) in
    and_true some (and_true few_test (and_true (all_digits (decimal n) numeral.1) (starts_well n (omega (arith, h)) (nat_lt 0 n) refl)))

pub read_number : (least most n : ℕ) → least ≤ n → n ≤ most → most < 2 ^ 32 → number_in least most (decimal n) ≡ Some n
read_number least most n p q r =
    let value = value_is n (omega (arith, q, r)) in
    let low : nat_le least (value_of (decimal n)) ≡ true = rw value (grind (arith, nat_tests, p)) in
    let high : nat_le (value_of (decimal n)) most ≡ true = rw value (grind (arith, nat_tests, q)) in
    ap (λ b. cond b (Some (value_of (decimal n))) None) (and_true (number_is n (omega (arith, q, r))) (and_true low high)) ∙ ap Some value

-- Bytes as pairs of digits.
low_digit : (d : ℕ) → d < 16 → (b : Bool) → nat_lt d 10 ≡ b → digit_of (cond b (48 + d) (87 + d)) ≡ Some d
low_digit d p true is =
    let range : (nat_le 48 (48 + d) && nat_le (48 + d) 57) ≡ true = grind (arith, nat_tests) in
    let back : 48 + d - 48 ≡ d = omega arith in
    ap (λ b. cond b (Some (48 + d - 48)) (cond (nat_le 97 (48 + d) && nat_le (48 + d) 102) (Some (48 + d - 87)) None)) range ∙ ap Some back
low_digit d p false is =
    let range : (nat_le 48 (87 + d) && nat_le (87 + d) 57) ≡ false = grind (arith, nat_tests) in
    let range_2 : (nat_le 97 (87 + d) && nat_le (87 + d) 102) ≡ true = grind (arith, nat_tests) in
    let back : 87 + d - 87 ≡ d = omega arith in
    ap (λ b. cond b (Some (87 + d - 48)) (cond (nat_le 97 (87 + d) && nat_le (87 + d) 102) (Some (87 + d - 87)) None)) range
    ∙ ap (λ b. cond b (Some (87 + d - 87)) None) range_2 ∙ ap Some back

read_digit : (d : ℕ) → d < 16 → digit_of (digit_char d) ≡ Some d
read_digit d p = low_digit d p (nat_lt d 10) refl

read_byte : (b : ℕ) (rest : Option (List ℕ)) (bytes : List ℕ) → b < 256 → rest ≡ Some bytes → onto_bytes (digit_of (digit_char (b / 16))) (digit_of (digit_char (b % 16))) rest ≡ Some (b ∷ bytes)
read_byte b rest bytes p is =
    let high = read_digit (b / 16) (omega (arith, p)) in
    let low = read_digit (b % 16) (omega arith) in
    let whole : 16 * (b / 16) + b % 16 ≡ b = omega arith in
    ap (λ o. onto_bytes o (digit_of (digit_char (b % 16))) rest) high
    ∙ ap (λ o. onto_bytes (Some (b / 16)) o rest) low
    ∙ ap (onto_bytes (Some (b / 16)) (Some (b % 16))) is
    ∙ ap (λ n. Some (n ∷ bytes)) whole

read_pairs : (bytes : List ℕ) → AllByRecursion (λ b. b < 256) bytes → pairs_of (pairs_text bytes) ≡ Some bytes
read_pairs [] all = refl
read_pairs (b ∷ bytes) all = read_byte b (pairs_of (pairs_text bytes)) bytes all.0 (read_pairs bytes all.1)

not_bare : (x y : ℕ) (rest : List ℕ) → bytes_eq (x ∷ y ∷ rest) (codes "-") ≡ false
not_bare x y rest = and_false (x == 45)

pub read_bytes : (bytes : List ℕ) → length bytes ≤ payload_limit → AllByRecursion (λ b. b < 256) bytes → bytes_of (bytes_text bytes) ≡ Some bytes
read_bytes [] few all = refl
read_bytes (b ∷ bytes) few all =
    let test : (nat_lt 0 (length (b ∷ bytes)) && nat_le (length (b ∷ bytes)) payload_limit) ≡ true = grind (arith, nat_tests) in
    ap (λ t. cond t (Some []) (few_bytes (pairs_of (pairs_text (b ∷ bytes))))) (not_bare (digit_char (b / 16)) (digit_char (b % 16)) (pairs_text bytes))
    ∙ ap few_bytes (read_pairs (b ∷ bytes) all)
    ∙ ap (λ t. cond t (Some (b ∷ bytes)) None) test

hex_word_where : (d : ℕ) → d < 16 → (b : Bool) → nat_lt d 10 ≡ b → IsOfWord (cond b (48 + d) (87 + d))
hex_word_where d p true is = ((λ h. omega (arith, h)), (λ h. omega (arith, h)))
hex_word_where d p false is = ((λ h. omega (arith, h)), (λ h. omega (arith, h)))

hex_word : (d : ℕ) → d < 16 → IsOfWord (digit_char d)
hex_word d p = hex_word_where d p (nat_lt d 10) refl

pairs_word : (bytes : List ℕ) → AllByRecursion (λ b. b < 256) bytes → IsWord (pairs_text bytes)
pairs_word [] all = tt
pairs_word (b ∷ bytes) all = (hex_word (b / 16) (omega (arith, all.0)), (hex_word (b % 16) (omega arith), pairs_word bytes all.1))

bytes_word : (bytes : List ℕ) → AllByRecursion (λ b. b < 256) bytes → IsWord (bytes_text bytes)
bytes_word [] all = (((λ h. omega (arith, h)), (λ h. omega (arith, h))), tt)
bytes_word (b ∷ bytes) all = pairs_word (b ∷ bytes) all

-- The words of an event are read as the event.
load_word : (t : Unit {0}) → IsWord (codes "load") × IsWord (codes "unload") × IsWord (codes "radio") × IsWord (codes "dump")
load_word t = (literal (codes "load") refl, literal (codes "unload") refl, literal (codes "radio") refl, literal (codes "dump") refl)

words_are_words : (images : ℕ) (w : What) → AsksInRange images w → AllByRecursion IsWord (what_words w)
words_are_words images (what.Load image) range = ((load_word tt).0, (decimal_word image (omega (arith, range.1)), tt))
words_are_words images (what.Unload id) range = ((load_word tt).1, (decimal_word id (omega (arith, range.1)), tt))
words_are_words images (what.Radio to sort bytes) range =
    ((load_word tt).2, (decimal_word to (omega (arith, range.0.1)), (decimal_word sort (omega (arith, range.1)), (bytes_word bytes range.3, tt))))
words_are_words images what.Dump range = ((load_word tt).3, tt)

asked_is : (images : ℕ) (w : What) → AsksInRange images w → asked_by (what_words w) ≡ Some w
asked_is images (what.Load image) range = ap load_with (read_number 0 last_image image (omega arith) range.1 (omega arith))
asked_is images (what.Unload id) range = ap unload_with (read_number first_id last_id id range.0 range.1 (omega arith))
asked_is images (what.Radio to sort bytes) range =
    ap (λ o. radio_with o (number_in 0 last_type (decimal sort)) (bytes_of (bytes_text bytes))) (read_number first_id last_id to range.0.0 range.0.1 (omega arith))
    ∙ ap (λ o. radio_with (Some to) o (bytes_of (bytes_text bytes))) (read_number 0 last_type sort (omega arith) range.1 (omega arith))
    ∙ ap (radio_with (Some to) (Some sort)) (read_bytes bytes range.2 range.3)
asked_is images what.Dump range = refl

event_is : (images : ℕ) (e : Event) → IsInRange images e → event_of (event_words e) ≡ Some e
event_is images e range =
    ap (λ o. event_with o (asked_by (what_words e.what))) (read_number 0 last_time e.time (omega arith) range.0 (omega arith))
    ∙ ap (event_with (Some e.time)) (asked_is images e.what range.1)

-- Its line is no blank one.
full_digits : (ds rest : List ℕ) → 0 < length ds → AllDigits 10 ds → is_blank (ds ++ rest) ≡ false
full_digits [] rest some d = absurd (omega arith)
full_digits (c ∷ cs) rest some d =
    let k = digit_from_value c d.0 in
    let empty : (length (c ∷ cs ++ rest) == 0) ≡ false = grind arith in
    let remark : (c == 35) ≡ false = grind (arith, nat_tests, k) in
    rw (empty, remark) refl

full_where : (t : ℕ) (words : List (List ℕ)) → t < 2 ^ 64 → is_blank (spaced (decimal t ∷ words)) ≡ false
full_where t [] h =
    let numeral = (decimal_is_IsNumeral t h).0 in
    ap is_blank (sym (append-nil (decimal t))) ∙ full_digits (decimal t) [] numeral.0 numeral.1
full_where t (next ∷ words) h =
    let numeral = (decimal_is_IsNumeral t h).0 in
    full_digits (decimal t) (32 ∷ spaced (next ∷ words)) numeral.0 numeral.1

abbrev line_of : Event → TextLine
line_of e = record { bytes = spaced (event_words e); ended = true }

event_is_word : (images : ℕ) (e : Event) → IsInRange images e → AllByRecursion IsWord (event_words e)
event_is_word images e range = (decimal_word e.time (omega (arith, range.0)), words_are_words images e.what range.1)

said_is : (images : ℕ) (e : Event) → IsInRange images e → said (line_of e) ≡ An e
said_is images e range =
    ap (λ b. cond b Nothing (said_event (event_of (words_of (spaced (event_words e)))))) (full_where e.time (what_words e.what) (omega (arith, range.0)))
    ∙ ap (λ ws. said_event (event_of ws)) (spaced_words (decimal e.time) (what_words e.what) (event_is_word images e range))
    ∙ ap said_event (event_is images e range)

-- The lines of spelled events are theirs.
lines_are : (images : ℕ) (e : Event) (rest : List ℕ) → IsInRange images e → lines_of (event_text e ++ rest) ≡ line_of e ∷ lines_of rest
lines_are images e rest range =
    ap lines_of (append_assoc (spaced (event_words e)) (10 ∷ []) rest)
    ∙ lines_of-front (spaced (event_words e)) rest (lacks_where 10 (spaced (event_words e)) (spaced_no_line (event_words e) (event_is_word images e range)))

told_is : (images : ℕ) (events : List Event) → AllByRecursion (IsInRange images) events → events_in (lines_of (script_text events)) ≡ events
told_is images [] all = refl
told_is images (e ∷ es) all =
    ap events_in (lines_are images e (script_text es) all.0)
    ∙ ap (λ w. onto_events w (events_in (lines_of (script_text es)))) (said_is images e all.0)
    ∙ ap (λ xs. e ∷ xs) (told_is images es all.1)

-- Nothing stands against them.
late_cons : (x : Event) (xs : List Event) (e : Event) → comes_late (x ∷ xs) e ≡ (nat_lt e.time x.time || comes_late xs e)
late_cons x xs e = list_any-append (λ (y : Event). nat_lt e.time y.time) (x ∷ []) xs ∙ ap (λ b. b || comes_late xs e) (or_false (nat_lt e.time x.time))

all_last : {A : Type 0} (P : A → Type 0) (xs : List A) (x : A) (ys : List A) → AllByRecursion P (xs ++ (x ∷ ys)) → P x
all_last P [] x ys all = all.0
all_last P (y ∷ xs) x ys all = all_last P xs x ys all.1

in_time : (told : List Event) (e : Event) (es : List Event) → AreInOrder (told ++ (e ∷ es)) → comes_late told e ≡ false
in_time [] e es order = refl
in_time (x ∷ xs) e es order =
    let here : nat_lt e.time x.time ≡ false = grind (arith, nat_tests, all_last (λ (y : Event). x.time ≤ y.time) xs e es order.0) in
    late_cons x xs e ∙ rw (here, in_time xs e es order.1) refl

given_where : (images : ℕ) (w : What) → AsksInRange images w → asks_beyond images w ≡ false
given_where images (what.Load image) range = grind (arith, nat_tests, range.0)
given_where images (what.Unload id) range = refl
given_where images (what.Radio to sort bytes) range = refl
given_where images what.Dump range = refl

nothing_against : (images : ℕ) (told : List Event) (n : ℕ) (e : Event) (es : List Event) → AreInOrder (told ++ (e ∷ es)) → IsInRange images e → length told < event_limit → against_event images told n e ≡ None
nothing_against images told n e es order range few =
    let much : is_too_much told ≡ false = grind (arith, nat_tests, few) in
    rw (in_time told e es order, given_where images e.what range.1, much) refl

none_refused : (images : ℕ) (told : List Event) (n : ℕ) (events : List Event) → AreInOrder (told ++ events) → AllByRecursion (IsInRange images) events → length told + length events ≤ event_limit → first_against images told n (lines_of (script_text events)) ≡ None
none_refused images told n [] order all few = refl
none_refused images told n (e ∷ es) order all few =
    ap (first_against images told n) (lines_are images e (script_text es) all.0)
    ∙ ap (λ w. or_later (against images told n w) (first_against images (told ++ onto_events w []) (n + 1) (lines_of (script_text es)))) (said_is images e all.0)
    ∙ ap (λ o. or_later o (first_against images (told ++ (e ∷ [])) (n + 1) (lines_of (script_text es)))) (nothing_against images told n e es order all.0 (omega (arith, few)))
    ∙ none_refused images (told ++ (e ∷ [])) (n + 1) es (subst AreInOrder (sym (append_assoc told (e ∷ []) es)) order) all.1 (omega (arith, few, length-append told (e ∷ [])))

pub spelled_events_are_read : SpelledEventsAreRead
spelled_events_are_read images events h = (none_refused images [] 1 events h.order h.ranges (omega (arith, h.few)), told_is images events h.ranges)
