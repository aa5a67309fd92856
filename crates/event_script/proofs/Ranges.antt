-- The events of a script are in order and in range.
use Rattle.std.specs.Prelude.{ℕ, ◌≡◌, ◌<◌, ◌≤◌, ◌+◌, ◌-◌, ◌*◌, ◌++◌, ◌&&◌, ◌||◌, Bool, nat_lt, nat_le, true, false, if◌then◌else◌, List, [], ◌∷◌, length, Option, Some, None, codes}
use Rattle.std.specs.List.{AllByRecursion}
use Rattle.std.specs.Str.{bytes_eq}
use Rattle.std.proofs.Common.{refl, ap, ◌∙◌, sym, subst, arith, append_assoc, append-nil, length-append}
use Rattle.std.proofs.lemmas.Bool.Decides.{nat_tests}
use Rattle.std.proofs.lemmas.List.Folds.{list_any-append}
use Rattle.mote_layout.specs.Limits.{event_limit, payload_limit}
use Rattle.domain_model.specs.declared.script.Event.{Event}
use Rattle.domain_model.specs.declared.script.What.{What}
use Rattle.domain_model.specs.declared.script.What.TheVariants as what
use Rattle.event_script.specs.declared.error.ScriptError.{ScriptError}
use Rattle.event_script.specs.declared.error.ScriptError.TheVariants.{Order, ImageIndex, TooMany}
use Rattle.event_script.specs.Lines.{TextLine, lines_of}
use Rattle.mote_base.specs.Spaced.{words_of}
use Rattle.mote_base.specs.Numbers.{is_number, value_of, number_in}
use Rattle.event_script.specs.Numbers.{last_time, last_image, first_id, last_id, last_type}
use Rattle.event_script.specs.Bytes.{digit_of, onto_bytes, pairs_of, few_bytes, bytes_of}
use Rattle.event_script.specs.Events.{Said, Nothing, An, Wrong, said, said_event, is_blank, event_of, event_with, asked_by, load_of, load_with, unload_of, unload_with, radio_of, radio_with, dump_of, events_in, onto_events}
use Rattle.event_script.specs.Refusals.{against, against_event, asks_beyond, comes_late, is_too_much, first_against, or_later}
use Rattle.event_script.specs.Spelled.{AreInOrder, AsksInRange, IsInRange, AreEvents, ScriptsHaveEvents}

same_some : (m n : ℕ) → Some m ≡ Some n → m ≡ n
same_some m n h = cc

same_some_list : (xs ys : List ℕ) → Some xs ≡ Some ys → xs ≡ ys
same_some_list xs ys h = cc

same_what : (v w : What) → Some v ≡ Some w → v ≡ w
same_what v w h = cc

same_event : (d e : Event) → Some d ≡ Some e → d ≡ e
same_event d e h = cc

neither : (a b : Bool) → (a || b) ≡ false → (a ≡ false) × (b ≡ false)
neither true b h = absurd (cc)
neither false b h = (refl, h)

or_false : (b : Bool) → (b || false) ≡ b
or_false true = refl
or_false false = refl

late_cons : (x : Event) (xs : List Event) (e : Event) → comes_late (x ∷ xs) e ≡ (nat_lt e.time x.time || comes_late xs e)
late_cons x xs e =
    list_any-append (λ (y : Event). nat_lt e.time y.time) (x ∷ []) xs
    ∙ ap (λ b. b || comes_late xs e) (or_false (nat_lt e.time x.time))

pub all_push : {A : Type 0} (P : A → Type 0) (xs : List A) (x : A) → AllByRecursion P xs → P x → AllByRecursion P (xs ++ (x ∷ []))
all_push P [] x all p = (p, tt)
all_push P (y ∷ ys) x all p = (all.0, all_push P ys x all.1 p)

-- a number that was read is in its range
in_range_where : (a b c : Bool) (n m : ℕ) → (if a && (b && c) then Some n else None) ≡ Some m → (b ≡ true) × (c ≡ true) × (n ≡ m)
in_range_where true true true n m is = (refl, refl, cc)
in_range_where true true false n m is = absurd (cc)
in_range_where true false c n m is = absurd (cc)
in_range_where false b c n m is = absurd (cc)

pub in_range : (least most : ℕ) (text : List ℕ) (n : ℕ) → number_in least most text ≡ Some n → (least ≤ n) × (n ≤ most)
in_range least most text n is =
    let parts = in_range_where (is_number text) (nat_le least (value_of text)) (nat_le (value_of text) most) (value_of text) n is in
    (grind (arith, nat_tests, parts.0, parts.2), grind (arith, nat_tests, parts.1, parts.2))

-- the bytes of a packet are bytes, and few
digit_where : (a b : Bool) (m n d : ℕ) → (if a then Some m else (if b then Some n else None)) ≡ Some d → (a ≡ true → m < 16) → (b ≡ true → n < 16) → d < 16
digit_where true b m n d is p q = subst (λ x. x < 16) (same_some m d is) (p refl)
digit_where false true m n d is p q = subst (λ x. x < 16) (same_some n d is) (q refl)
digit_where false false m n d is p q = absurd (cc)

digit_below : (byte d : ℕ) → digit_of byte ≡ Some d → d < 16
digit_below byte d is = digit_where (nat_le 48 byte && nat_le byte 57) (nat_le 97 byte && nat_le byte 102) (byte - 48) (byte - 87) d is (λ h. grind (arith, nat_tests)) (λ h. grind (arith, nat_tests))

onto_below : (o p : Option ℕ) (q : Option (List ℕ)) (bytes : List ℕ) → ((d : ℕ) → o ≡ Some d → d < 16) → ((d : ℕ) → p ≡ Some d → d < 16) → ((bs : List ℕ) → q ≡ Some bs → AllByRecursion (λ b. b < 256) bs) → onto_bytes o p q ≡ Some bytes → AllByRecursion (λ b. b < 256) bytes
onto_below None p q bytes f g h is = absurd (cc)
onto_below (Some x) None q bytes f g h is = absurd (cc)
onto_below (Some x) (Some y) None bytes f g h is = absurd (cc)
onto_below (Some x) (Some y) (Some bs) bytes f g h is =
    let all : AllByRecursion (λ b. b < 256) ((16 * x + y) ∷ bs) = (omega (arith, f x refl, g y refl), h bs refl) in
    subst (AllByRecursion (λ b. b < 256)) (same_some_list ((16 * x + y) ∷ bs) bytes is) all

pairs_below : (text bytes : List ℕ) → pairs_of text ≡ Some bytes → AllByRecursion (λ b. b < 256) bytes
pairs_below [] bytes is = subst (AllByRecursion (λ b. b < 256)) (same_some_list [] bytes is) tt
pairs_below (x ∷ []) bytes is = absurd (cc)
pairs_below (high ∷ low ∷ rest) bytes is = onto_below (digit_of high) (digit_of low) (pairs_of rest) bytes (digit_below high) (digit_below low) (λ bs so. pairs_below rest bs so) is

few_test : (a b : Bool) (bs bytes : List ℕ) → nat_le (length bs) payload_limit ≡ b → (if a && b then Some bs else None) ≡ Some bytes → (Some bs ≡ Some bytes) × (length bytes ≤ payload_limit)
few_test true true bs bytes test is =
    let small : length bs ≤ payload_limit = grind (arith, nat_tests) in
    (is, subst (λ xs. length xs ≤ payload_limit) (same_some_list bs bytes is) small)
few_test true false bs bytes test is = absurd (cc)
few_test false b bs bytes test is = absurd (cc)

few_where : (o : Option (List ℕ)) (bytes : List ℕ) → few_bytes o ≡ Some bytes → (o ≡ Some bytes) × (length bytes ≤ payload_limit)
few_where None bytes is = absurd (cc)
few_where (Some bs) bytes is = few_test (nat_lt 0 (length bs)) (nat_le (length bs) payload_limit) bs bytes refl is

bytes_where : (b : Bool) (text bytes : List ℕ) → (if b then Some [] else few_bytes (pairs_of text)) ≡ Some bytes → (length bytes ≤ payload_limit) × AllByRecursion (λ x. x < 256) bytes
bytes_where true text bytes is = subst (λ bs. (length bs ≤ payload_limit) × AllByRecursion (λ x. x < 256) bs) (same_some_list [] bytes is) (omega arith, tt)
bytes_where false text bytes is = let few = few_where (pairs_of text) bytes is in (few.1, pairs_below text bytes few.0)

pub bytes_in_range : (text bytes : List ℕ) → bytes_of text ≡ Some bytes → (length bytes ≤ payload_limit) × AllByRecursion (λ x. x < 256) bytes
bytes_in_range text bytes is = bytes_where (bytes_eq text (codes "-")) text bytes is

-- what an event asks for is in range, where the image that it loads is given
load_in_range : (images : ℕ) (o : Option ℕ) (w : What) → ((n : ℕ) → o ≡ Some n → n ≤ last_image) → load_with o ≡ Some w → asks_beyond images w ≡ false → AsksInRange images w
load_in_range images None w small is given = absurd (cc)
load_in_range images (Some n) w small is given =
    let same : what.Load n ≡ w = same_what (what.Load n) w is in
    let below : asks_beyond images (what.Load n) ≡ false = subst (λ x. asks_beyond images x ≡ false) (sym same) given in
    let less : n < images = grind (arith, nat_tests, below) in
    subst (AsksInRange images) same (less, small n refl)

unload_in_range : (images : ℕ) (o : Option ℕ) (w : What) → ((n : ℕ) → o ≡ Some n → (first_id ≤ n) × (n ≤ last_id)) → unload_with o ≡ Some w → AsksInRange images w
unload_in_range images None w small is = absurd (cc)
unload_in_range images (Some n) w small is = subst (AsksInRange images) (same_what (what.Unload n) w is) (small n refl)

radio_in_range : (images : ℕ) (o p : Option ℕ) (q : Option (List ℕ)) (w : What) → ((n : ℕ) → o ≡ Some n → (first_id ≤ n) × (n ≤ last_id)) → ((n : ℕ) → p ≡ Some n → n ≤ last_type) → ((bs : List ℕ) → q ≡ Some bs → (length bs ≤ payload_limit) × AllByRecursion (λ b. b < 256) bs) → radio_with o p q ≡ Some w → AsksInRange images w
radio_in_range images None p q w f g h is = absurd (cc)
radio_in_range images (Some to) None q w f g h is = absurd (cc)
radio_in_range images (Some to) (Some sort) None w f g h is = absurd (cc)
radio_in_range images (Some to) (Some sort) (Some bytes) w f g h is =
    subst (AsksInRange images) (same_what (what.Radio to sort bytes) w is) (f to refl, g sort refl, (h bytes refl).0, (h bytes refl).1)

load_of_in_range : (images : ℕ) (words : List (List ℕ)) (w : What) → load_of words ≡ Some w → asks_beyond images w ≡ false → AsksInRange images w
load_of_in_range images [] w is given = absurd (cc)
load_of_in_range images (a ∷ []) w is given = load_in_range images (number_in 0 last_image a) w (λ n so. (in_range 0 last_image a n so).1) is given
load_of_in_range images (a ∷ b ∷ words) w is given = absurd (cc)

unload_of_in_range : (images : ℕ) (words : List (List ℕ)) (w : What) → unload_of words ≡ Some w → AsksInRange images w
unload_of_in_range images [] w is = absurd (cc)
unload_of_in_range images (a ∷ []) w is = unload_in_range images (number_in first_id last_id a) w (λ n so. in_range first_id last_id a n so) is
unload_of_in_range images (a ∷ b ∷ words) w is = absurd (cc)

radio_of_in_range : (images : ℕ) (words : List (List ℕ)) (w : What) → radio_of words ≡ Some w → AsksInRange images w
radio_of_in_range images [] w is = absurd (cc)
radio_of_in_range images (a ∷ []) w is = absurd (cc)
radio_of_in_range images (a ∷ b ∷ []) w is = absurd (cc)
radio_of_in_range images (a ∷ b ∷ c ∷ []) w is =
    radio_in_range images (number_in first_id last_id a) (number_in 0 last_type b) (bytes_of c) w
    (λ n so. in_range first_id last_id a n so) (λ n so. (in_range 0 last_type b n so).1) (λ bs so. bytes_in_range c bs so) is
radio_of_in_range images (a ∷ b ∷ c ∷ d ∷ words) w is = absurd (cc)

dump_of_in_range : (images : ℕ) (words : List (List ℕ)) (w : What) → dump_of words ≡ Some w → AsksInRange images w
dump_of_in_range images [] w is = subst (AsksInRange images) (same_what what.Dump w is) tt
dump_of_in_range images (a ∷ words) w is = absurd (cc)

abbrev what_where : Bool → Bool → Bool → Bool → List (List ℕ) → Option What
what_where a b c d words = if a then load_of words else (if b then unload_of words else (if c then radio_of words else (if d then dump_of words else None)))

what_in_range_where : (images : ℕ) (a b c d : Bool) (words : List (List ℕ)) (w : What) → what_where a b c d words ≡ Some w → asks_beyond images w ≡ false → AsksInRange images w
what_in_range_where images true b c d words w is given = load_of_in_range images words w is given
what_in_range_where images false true c d words w is given = unload_of_in_range images words w is
what_in_range_where images false false true d words w is given = radio_of_in_range images words w is
what_in_range_where images false false false true words w is given = dump_of_in_range images words w is
what_in_range_where images false false false false words w is given = absurd (cc)

asked_in_range : (images : ℕ) (words : List (List ℕ)) (w : What) → asked_by words ≡ Some w → asks_beyond images w ≡ false → AsksInRange images w
asked_in_range images [] w is given = absurd (cc)
asked_in_range images (verb ∷ words) w is given =
    what_in_range_where images (bytes_eq verb (codes "load")) (bytes_eq verb (codes "unload")) (bytes_eq verb (codes "radio")) (bytes_eq verb (codes "dump")) words w is given

event_where : (images : ℕ) (o : Option ℕ) (p : Option What) (e : Event) → ((n : ℕ) → o ≡ Some n → n ≤ last_time) → ((w : What) → p ≡ Some w → asks_beyond images w ≡ false → AsksInRange images w) → event_with o p ≡ Some e → asks_beyond images e.what ≡ false → IsInRange images e
event_where images None p e f g is given = absurd (cc)
event_where images (Some t) None e f g is given = absurd (cc)
event_where images (Some t) (Some w) e f g is given =
    let same : record { time = t; what = w } ≡ e = same_event (record { time = t; what = w }) e is in
    let asks : asks_beyond images w ≡ false = subst (λ (x : Event). asks_beyond images x.what ≡ false) (sym same) given in
    subst (IsInRange images) same (f t refl, g w refl asks)

event_in_range : (images : ℕ) (words : List (List ℕ)) (e : Event) → event_of words ≡ Some e → asks_beyond images e.what ≡ false → IsInRange images e
event_in_range images [] e is given = absurd (cc)
event_in_range images (time ∷ words) e is given =
    event_where images (number_in 0 last_time time) (asked_by words) e (λ n so. (in_range 0 last_time time n so).1) (λ w so asks. asked_in_range images words w so asks) is given

-- what a line says is in range
said_where : (images : ℕ) (o : Option Event) (e : Event) → ((x : Event) → o ≡ Some x → asks_beyond images x.what ≡ false → IsInRange images x) → said_event o ≡ An e → asks_beyond images e.what ≡ false → IsInRange images e
said_where images None e f is given = absurd (cc)
said_where images (Some x) e f is given = f e (cc) given

line_where : (images : ℕ) (a b : Bool) (words : List (List ℕ)) (e : Event) → (if a then (if b then Nothing else said_event (event_of words)) else Wrong) ≡ An e → asks_beyond images e.what ≡ false → IsInRange images e
line_where images true true words e is given = absurd (cc)
line_where images true false words e is given = said_where images (event_of words) e (λ x so asks. event_in_range images words x so asks) is given
line_where images false b words e is given = absurd (cc)

said_in_range : (images : ℕ) (line : TextLine) (e : Event) → said line ≡ An e → asks_beyond images e.what ≡ false → IsInRange images e
said_in_range images line e is given = line_where images line.ended (is_blank line.bytes) (words_of line.bytes) e is given

-- where nothing stands against an event
record Passes (images : ℕ) (told : List Event) (e : Event) : Type 0 where
  late : comes_late told e ≡ false
  given : asks_beyond images e.what ≡ false
  few : is_too_much told ≡ false

passes_where : (a b c : Bool) (n : ℕ) → (if a then Some (Order n) else (if b then Some (ImageIndex n) else (if c then Some (TooMany n) else None))) ≡ None → (a ≡ false) × (b ≡ false) × (c ≡ false)
passes_where true b c n is = absurd (cc)
passes_where false true c n is = absurd (cc)
passes_where false false true n is = absurd (cc)
passes_where false false false n is = (refl, refl, refl)

passes : (images : ℕ) (told : List Event) (n : ℕ) (e : Event) → against_event images told n e ≡ None → Passes images told e
passes images told n e is =
    let parts = passes_where (comes_late told e) (asks_beyond images e.what) (is_too_much told) n is in
    record { late = parts.0; given = parts.1; few = parts.2 }

-- none of the earlier events is later
not_late : (told : List Event) (e : Event) → comes_late told e ≡ false → AllByRecursion (λ (x : Event). x.time ≤ e.time) told
not_late [] e h = tt
not_late (x ∷ xs) e h =
    let parts = neither (nat_lt e.time x.time) (comes_late xs e) (sym (late_cons x xs e) ∙ h) in
    (grind (arith, nat_tests, parts.0), not_late xs e parts.1)

order_push : (told : List Event) (e : Event) → AreInOrder told → AllByRecursion (λ (x : Event). x.time ≤ e.time) told → AreInOrder (told ++ (e ∷ []))
order_push [] e order all = (tt, tt)
order_push (x ∷ xs) e order all = (all_push (λ (y : Event). x.time ≤ y.time) xs e order.0 all.0, order_push xs e order.1 all.1)

-- One more event keeps them such.
push : (images : ℕ) (told : List Event) (e : Event) → AreEvents images told → Passes images told e → IsInRange images e → AreEvents images (told ++ (e ∷ []))
push images told e h p range = record {
  order = order_push told e h.order (not_late told e p.late);
  ranges = all_push (IsInRange images) told e h.ranges range;
  few = let less : length told < event_limit = grind (arith, nat_tests, p.few) in omega (arith, less, length-append told (e ∷ []));
}

none_of_both : (o p : Option ScriptError) → or_later o p ≡ None → (o ≡ None) × (p ≡ None)
none_of_both None p is = (refl, is)
none_of_both (Some e) p is = absurd (cc)

more_events : (images : ℕ) (told : List Event) (n : ℕ) (line : TextLine) (what : Said) → said line ≡ what → AreEvents images told → against images told n what ≡ None → AreEvents images (told ++ onto_events what [])
more_events images told n line Nothing says h is = subst (AreEvents images) (sym (append-nil told)) h
more_events images told n line (An e) says h is =
    let p = passes images told n e is in
    push images told e h p (said_in_range images line e says p.given)
more_events images told n line Wrong says h is = absurd (cc)

onto_is : (told : List Event) (what : Said) (events : List Event) → (told ++ onto_events what []) ++ events ≡ told ++ onto_events what events
onto_is told Nothing events = ap (λ es. es ++ events) (append-nil told)
onto_is told (An e) events = append_assoc told (e ∷ []) events
onto_is told Wrong events = ap (λ es. es ++ events) (append-nil told)

events_from : (images : ℕ) (told : List Event) (n : ℕ) (lines : List TextLine) → AreEvents images told → first_against images told n lines ≡ None → AreEvents images (told ++ events_in lines)
events_from images told n [] h is = subst (AreEvents images) (sym (append-nil told)) h
events_from images told n (line ∷ lines) h is =
    let parts = none_of_both (against images told n (said line)) (first_against images (told ++ onto_events (said line) []) (n + 1) lines) is in
    subst (AreEvents images) (onto_is told (said line) (events_in lines))
    (events_from images (told ++ onto_events (said line) []) (n + 1) lines (more_events images told n line (said line) refl h parts.0) parts.1)

pub scripts_have_events : ScriptsHaveEvents
scripts_have_events images text none = events_from images [] 1 (lines_of text) (record { order = tt; ranges = tt; few = omega arith }) none
