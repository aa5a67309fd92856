-- How the events of a script follow line by line.
use Rattle.std.specs.Prelude.{ℕ, ◌≡◌, ◌<◌, ◌≤◌, ◌+◌, ◌++◌, Bool, ◌||◌, nat_le, nat_lt, true, false, if◌then◌else◌, List, [], ◌∷◌, length, Option, Some, None, Result, Ok, Err}
use Rattle.std.specs.List.{list_any}
use Rattle.std.proofs.Common.{refl, ap, ◌∙◌, sym, arith, cond, subst, append_assoc, append-nil}
use Rattle.std.proofs.lemmas.Bool.Decides.{nat_tests}
use Rattle.std.proofs.lemmas.List.Folds.{list_any-append}
use Rattle.mote_layout.specs.Limits.{event_limit}
use Rattle.domain_model.specs.declared.script.Event.{Event}
use Rattle.event_script.specs.declared.error.ScriptError.{ScriptError}
use Rattle.event_script.specs.declared.error.ScriptError.TheVariants.{Line, Order, ImageIndex, TooMany}
use Rattle.event_script.specs.Cut.{Lacks, IsCut}
use Rattle.event_script.specs.Lines.{lines_of}
use Rattle.mote_base.specs.Spaced.{words_of}
use Rattle.event_script.specs.Events.{Said, Nothing, An, Wrong, said, said_event, is_blank, event_of, events_in, onto_events}
use Rattle.event_script.specs.Refusals.{against, asks_beyond, against_event, comes_late, first_against, or_later, refusal_of, events_of}
use Rattle.event_script.specs.Admitted.{admitted}
use Rattle.event_script.proofs.Cuts.{lines_of-cut, lines_of-unended, back_is_shorter}

-- The time is the latest of the events': another comes before one of them exactly where it comes before that time.
pub Latest : List Event → ℕ → Type 0
Latest events latest = (time : ℕ) → list_any (λ (e : Event). nat_lt time e.time) events ≡ nat_lt time latest

none_earlier : (time : ℕ) → nat_lt time 0 ≡ false
none_earlier time = grind arith

latest_start : Latest [] 0
unfolding Latest
latest_start time = sym (none_earlier time)

or_later_time : (time latest now : ℕ) → latest ≤ now → (nat_lt time latest || nat_lt time now) ≡ nat_lt time now
or_later_time time latest now p = grind (arith, nat_tests)

or_false : (b : Bool) → (b || false) ≡ b
or_false true = refl
or_false false = refl

latest_push : (events : List Event) (latest : ℕ) (e : Event) → Latest events latest → latest ≤ e.time → Latest (events ++ (e ∷ [])) e.time
unfolding Latest
latest_push events latest e h p time =
    list_any-append (λ (x : Event). nat_lt time x.time) events (e ∷ [])
    ∙ ap (λ b. b || list_any (λ (x : Event). nat_lt time x.time) (e ∷ [])) (h time)
    ∙ ap (λ b. nat_lt time latest || b) (or_false (nat_lt time e.time))
    ∙ or_later_time time latest e.time p

-- What was read and what is left make up the script.
pub record IsSoFar (images : ℕ) (text rest : List ℕ) (latest line : ℕ) (events : List Event) : Type 0 where
  pub refused : first_against images events (line + 1) (lines_of rest) ≡ refusal_of images text
  pub told : events ++ events_in (lines_of rest) ≡ events_of text
  pub late : Latest events latest
  pub counted : line + length rest ≤ length text

pub so_far-start : (images : ℕ) (text : List ℕ) → IsSoFar images text text 0 0 []
so_far-start images text = record { refused = refl; told = refl; late = latest_start; counted = omega arith }

-- What stands against an event, told by the latest time and by the count, is what stands against it.
abbrev judged : Bool → Bool → Bool → ℕ → Result (Unit {0}) ScriptError
judged a b c n = if a then Err (Order n) else (if b then Err (ImageIndex n) else (if c then Err (TooMany n) else Ok tt))

abbrev standing : Bool → Bool → Bool → ℕ → Option ScriptError
standing a b c n = if a then Some (Order n) else (if b then Some (ImageIndex n) else (if c then Some (TooMany n) else None))

tied : (a b c : Bool) (n : ℕ) (e : ScriptError) → judged a b c n ≡ Err e → standing a b c n ≡ Some e
tied true b c n e h = (cc)
tied false true c n e h = (cc)
tied false false true n e h = (cc)
tied false false false n e h = absurd (cc)

free : (a b c : Bool) (n : ℕ) → judged a b c n ≡ Ok tt → standing a b c n ≡ None
free true b c n h = absurd (cc)
free false true c n h = absurd (cc)
free false false true n h = absurd (cc)
free false false false n h = refl

late_is : (events : List Event) (latest : ℕ) (e : Event) → Latest events latest → comes_late events e ≡ nat_lt e.time latest
unfolding Latest
late_is events latest e h = h e.time

-- the test that an event comes early, in place of that of the events before it
test_late : (images n : ℕ) (events : List Event) (latest : ℕ) (e : Event) → Latest events latest → against_event images events n e ≡ standing (nat_lt e.time latest) (asks_beyond images e.what) (nat_le event_limit (length events)) n
test_late images n events latest e h = ap (λ b. standing b (asks_beyond images e.what) (nat_le event_limit (length events)) n) (late_is events latest e h)

against_err : (images n : ℕ) (events : List Event) (latest : ℕ) (e : Event) (error : ScriptError) → Latest events latest → admitted latest (length events) images n e ≡ Err error → against_event images events n e ≡ Some error
against_err images n events latest e error h is = test_late images n events latest e h ∙ tied (nat_lt e.time latest) (asks_beyond images e.what) (nat_le event_limit (length events)) n error is

against_ok : (images n : ℕ) (events : List Event) (latest : ℕ) (e : Event) → Latest events latest → admitted latest (length events) images n e ≡ Ok tt → against_event images events n e ≡ None
against_ok images n events latest e h is = test_late images n events latest e h ∙ free (nat_lt e.time latest) (asks_beyond images e.what) (nat_le event_limit (length events)) n is

in_time : (a b c : Bool) (n : ℕ) → judged a b c n ≡ Ok tt → a ≡ false
in_time true b c n h = absurd (cc)
in_time false b c n h = refl

not_before : (latest time : ℕ) → nat_lt time latest ≡ false → latest ≤ time
not_before latest time h = grind (arith, nat_tests)

-- What a line that ends says.
said_blank : (line : List ℕ) → is_blank line ≡ true → said (record { bytes = line; ended = true }) ≡ Nothing
said_blank line blank = ap (λ b. cond b Nothing (said_event (event_of (words_of line)))) blank

said_full : (line : List ℕ) (o : Option Event) → is_blank line ≡ false → event_of (words_of line) ≡ o → said (record { bytes = line; ended = true }) ≡ said_event o
said_full line o full is = ap (λ b. cond b Nothing (said_event (event_of (words_of line)))) full ∙ ap said_event is

-- What the next line adds.
next_refused : (images n : ℕ) (events : List Event) (rest line back : List ℕ) (what : Said) → IsCut 10 rest line back → said (record { bytes = line; ended = true }) ≡ what → first_against images events n (lines_of rest) ≡ or_later (against images events n what) (first_against images (events ++ onto_events what []) (n + 1) (lines_of back))
next_refused images n events rest line back what cut is =
    ap (first_against images events n) (lines_of-cut rest line back cut)
    ∙ ap (λ w. or_later (against images events n w) (first_against images (events ++ onto_events w []) (n + 1) (lines_of back))) is

next_told : (rest line back : List ℕ) (what : Said) → IsCut 10 rest line back → said (record { bytes = line; ended = true }) ≡ what → events_in (lines_of rest) ≡ onto_events what (events_in (lines_of back))
next_told rest line back what cut is = ap events_in (lines_of-cut rest line back cut) ∙ ap (λ w. onto_events w (events_in (lines_of back))) is

fewer : (text rest line back : List ℕ) (n : ℕ) → n + length rest ≤ length text → IsCut 10 rest line back → n + 1 + length back ≤ length text
fewer text rest line back n h cut = omega (arith, h, back_is_shorter 10 rest line back cut)

pub so_far-blank : (images : ℕ) (text rest line back : List ℕ) (latest n : ℕ) (events : List Event) → IsSoFar images text rest latest n events → IsCut 10 rest line back → is_blank line ≡ true → IsSoFar images text back latest (n + 1) events
so_far-blank images text rest line back latest n events h cut blank = record {
  refused = ap (λ es. first_against images es (n + 1 + 1) (lines_of back)) (sym (append-nil events)) ∙ sym (next_refused images (n + 1) events rest line back Nothing cut (said_blank line blank)) ∙ h.refused;
  told = ap (λ es. events ++ es) (sym (next_told rest line back Nothing cut (said_blank line blank))) ∙ h.told;
  late = h.late;
  counted = fewer text rest line back n h.counted cut;
}

pub so_far-event : (images : ℕ) (text rest line back : List ℕ) (latest n : ℕ) (events : List Event) (e : Event) → IsSoFar images text rest latest n events → IsCut 10 rest line back → is_blank line ≡ false → event_of (words_of line) ≡ Some e → (count : ℕ) → count ≡ length events → admitted latest count images (n + 1) e ≡ Ok tt → IsSoFar images text back e.time (n + 1) (events ++ (e ∷ []))
so_far-event images text rest line back latest n events e h cut full is count counted passes =
    let ok : admitted latest (length events) images (n + 1) e ≡ Ok tt = subst (λ k. admitted latest k images (n + 1) e ≡ Ok tt) counted passes in
    let says = said_full line (Some e) full is in
    let none = against_ok images (n + 1) events latest e h.late ok in
    let early = in_time (nat_lt e.time latest) (asks_beyond images e.what) (nat_le event_limit (length events)) (n + 1) ok in
    record {
      refused = ap (λ o. or_later o (first_against images (events ++ (e ∷ [])) (n + 1 + 1) (lines_of back))) (sym none) ∙ sym (next_refused images (n + 1) events rest line back (An e) cut says) ∙ h.refused;
      told = append_assoc events (e ∷ []) (events_in (lines_of back)) ∙ ap (λ es. events ++ es) (sym (next_told rest line back (An e) cut says)) ∙ h.told;
      late = latest_push events latest e h.late (not_before latest e.time early);
      counted = fewer text rest line back n h.counted cut;
    }

-- The lines at which a script is refused: one without its end, one that is none, and one that something stands against.
pub refused-unended : (images : ℕ) (text rest : List ℕ) (latest n : ℕ) (events : List Event) → IsSoFar images text rest latest n events → Lacks 10 rest → 0 < length rest → refusal_of images text ≡ Some (Line (n + 1))
refused-unended images text rest latest n events h lacks p = sym h.refused ∙ ap (first_against images events (n + 1)) (lines_of-unended rest lacks p)

pub refused-line : (images : ℕ) (text rest line back : List ℕ) (latest n : ℕ) (events : List Event) → IsSoFar images text rest latest n events → IsCut 10 rest line back → is_blank line ≡ false → event_of (words_of line) ≡ None → refusal_of images text ≡ Some (Line (n + 1))
refused-line images text rest line back latest n events h cut full is = sym h.refused ∙ next_refused images (n + 1) events rest line back Wrong cut (said_full line None full is)

pub refused-event : (images : ℕ) (text rest line back : List ℕ) (latest n : ℕ) (events : List Event) (e : Event) (error : ScriptError) → IsSoFar images text rest latest n events → IsCut 10 rest line back → is_blank line ≡ false → event_of (words_of line) ≡ Some e → (count : ℕ) → count ≡ length events → admitted latest count images (n + 1) e ≡ Err error → refusal_of images text ≡ Some error
refused-event images text rest line back latest n events e error h cut full is count counted fails =
    let err : admitted latest (length events) images (n + 1) e ≡ Err error = subst (λ k. admitted latest k images (n + 1) e ≡ Err error) counted fails in
    sym h.refused
    ∙ next_refused images (n + 1) events rest line back (An e) cut (said_full line (Some e) full is)
    ∙ ap (λ o. or_later o (first_against images (events ++ (e ∷ [])) (n + 1 + 1) (lines_of back))) (against_err images (n + 1) events latest e error h.late err)

-- Behind the last line all events were read.
pub at_end : (images : ℕ) (text rest : List ℕ) (latest n : ℕ) (events : List Event) → IsSoFar images text rest latest n events → length rest ≡ 0 → (refusal_of images text ≡ None) × (events ≡ events_of text)
at_end images text [] latest n events h none = (sym h.refused, sym (append-nil events) ∙ h.told)
at_end images text (x ∷ xs) latest n events h none = absurd (omega arith)
