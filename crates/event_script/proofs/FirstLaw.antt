-- The refusal of a script is the first condition that holds of its lines.
use Rattle.std.specs.Prelude.{ℕ, ◌≡◌, ◌<◌, ◌≤◌, ◌+◌, ◌-◌, ◌++◌, ◌⊎◌, Bool, nat_lt, true, false, if◌then◌else◌, List, [], ◌∷◌, length, take, slice_get, Option, Some, None}
use Rattle.std.proofs.Common.{refl, ap, ◌∙◌, sym, subst, inl, inr, arith, append_assoc, length-append}
use Rattle.std.proofs.lemmas.Bool.Decides.{nat_tests}
use Rattle.std.proofs.lemmas.Option.{slice_get_read, slice_get_within}
use Rattle.std.proofs.Math.Seq.{get_or-append_seam, take-append_seam}
use Rattle.domain_model.specs.declared.script.Event.{Event}
use Rattle.event_script.specs.declared.error.ScriptError.{ScriptError}
use Rattle.event_script.specs.declared.error.ScriptError.TheVariants.{Line, Order, ImageIndex, TooMany, NoMemory}
use Rattle.event_script.specs.Lines.{TextLine, lines_of}
use Rattle.event_script.specs.Events.{Said, Nothing, An, Wrong, said, events_in, onto_events}
use Rattle.event_script.specs.Refusals.{against, against_event, asks_beyond, comes_late, is_too_much, first_against, or_later, refusal_of}
use Rattle.event_script.specs.Law.{Says, before, Holds, line_number, kind_number, IsRefusal, RefusalIsFirst, NoneIsRefused}

-- A refusal comes before another, or is of the same line and no later kind.
abbrev Precedes : ScriptError → ScriptError → Type 0
Precedes e other = (line_number e < line_number other) ⊎ ((line_number e ≡ line_number other) × (kind_number e ≤ kind_number other))

-- A line of the list with what stands before and behind it, its number, and the events of the lines before it.
record IsAt (all passed : List TextLine) (line : TextLine) (rest : List TextLine) (n : ℕ) (told : List Event) : Type 0 where
  number : n ≡ length passed + 1
  whole : all ≡ passed ++ (line ∷ rest)
  events : told ≡ events_in passed

there_where : (passed : List TextLine) (line : TextLine) (rest : List TextLine) → slice_get (passed ++ (line ∷ rest)) (length passed) ≡ Some line
there_where passed line rest =
    slice_get_read (passed ++ (line ∷ rest)) (length (passed ++ (line ∷ rest))) (length passed) line refl (omega (arith, length-append passed (line ∷ rest))) (sym (get_or-append_seam passed line rest line))

place : {all passed : List TextLine} {line : TextLine} {rest : List TextLine} {n : ℕ} {told : List Event} → IsAt all passed line rest n told → n - 1 ≡ length passed
place at = omega (arith, at.number)

there : {all passed : List TextLine} {line : TextLine} {rest : List TextLine} {n : ℕ} {told : List Event} → IsAt all passed line rest n told → slice_get all (n - 1) ≡ Some line
there {passed = passed} {line = line} {rest = rest} {n = n} at =
    ap (λ xs. slice_get xs (n - 1)) at.whole ∙ ap (slice_get (passed ++ (line ∷ rest))) (place at) ∙ there_where passed line rest

before_is : {all passed : List TextLine} {line : TextLine} {rest : List TextLine} {n : ℕ} {told : List Event} → IsAt all passed line rest n told → before all n ≡ told
before_is {passed = passed} {line = line} {rest = rest} {n = n} at =
    ap (λ xs. events_in (take (n - 1) xs)) at.whole
    ∙ ap (λ k. events_in (take k (passed ++ (line ∷ rest)))) (place at)
    ∙ ap events_in (take-append_seam passed (line ∷ rest))
    ∙ sym at.events

same_error : (a b : ScriptError) → Some a ≡ Some b → a ≡ b
same_error a b h = cc

none_is_some : {e : ScriptError} → None ≡ Some e → ⊥
none_is_some h = cc

same_line : (a b : TextLine) → Some a ≡ Some b → a ≡ b
same_line a b h = cc

-- What the line with that number says.
says_so : {all passed : List TextLine} {line : TextLine} {rest : List TextLine} {n : ℕ} {told : List Event} (what : Said) → IsAt all passed line rest n told → Says all n what → said line ≡ what
says_so {line = line} what at s = ap said (same_line line s.line (sym (there at) ∙ s.there)) ∙ s.says

says_here : {all passed : List TextLine} {line : TextLine} {rest : List TextLine} {n : ℕ} {told : List Event} (what : Said) → IsAt all passed line rest n told → said line ≡ what → Says all n what
says_here {line = line} what at is = record { line = line; counted = omega (arith, at.number); there = there at; says = is }

-- What stands against an event, by the three tests.
abbrev standing : Bool → Bool → Bool → ℕ → Option ScriptError
standing a b c n = if a then Some (Order n) else (if b then Some (ImageIndex n) else (if c then Some (TooMany n) else None))

-- Something stands against it, of no later kind.
record Stands (o : Option ScriptError) (kind : ℕ) : Type 0 where
  error : ScriptError
  is : o ≡ Some error
  early : kind_number error ≤ kind

if_late : (a b c : Bool) (n : ℕ) → a ≡ true → Stands (standing a b c n) 2
if_late true b c n h = record { error = Order n; is = refl; early = omega arith }
if_late false b c n h = absurd (cc)

if_beyond : (a b c : Bool) (n : ℕ) → b ≡ true → Stands (standing a b c n) 3
if_beyond true b c n h = record { error = Order n; is = refl; early = omega arith }
if_beyond false true c n h = record { error = ImageIndex n; is = refl; early = omega arith }
if_beyond false false c n h = absurd (cc)

if_too_much : (a b c : Bool) (n : ℕ) → c ≡ true → Stands (standing a b c n) 4
if_too_much true b c n h = record { error = Order n; is = refl; early = omega arith }
if_too_much false true c n h = record { error = ImageIndex n; is = refl; early = omega arith }
if_too_much false false true n h = record { error = TooMany n; is = refl; early = omega arith }
if_too_much false false false n h = absurd (cc)

an_event : (images : ℕ) (told : List Event) (n : ℕ) (e : Event) (what : Said) (kind : ℕ) → what ≡ An e → Stands (against_event images told n e) kind → Stands (against images told n what) kind
an_event images told n e what kind is s = record { error = s.error; is = ap (against images told n) is ∙ s.is; early = s.early }

-- Where a condition holds of this line, something stands against it.
module _ {all passed : List TextLine} {line : TextLine} {rest : List TextLine} {n : ℕ} {told : List Event} (images : ℕ) (at : IsAt all passed line rest n told) where
  stands_at : (e : ScriptError) → Holds images all e → line_number e ≡ n → Stands (against images told n (said line)) (kind_number e)
  stands_at (Line m) says same =
      let wrong : said line ≡ Wrong = says_so Wrong at (subst (λ k. Says all k Wrong) same says) in
      record { error = Line n; is = ap (against images told n) wrong; early = omega arith }
  stands_at (Order m) (e, says, late) same =
      let an : said line ≡ An e = says_so (An e) at (subst (λ k. Says all k (An e)) same says) in
      let is : comes_late told e ≡ true = subst (λ es. comes_late es e ≡ true) (before_is at) (subst (λ k. comes_late (before all k) e ≡ true) same late) in
      an_event images told n e (said line) 2 an (if_late (comes_late told e) (asks_beyond images e.what) (is_too_much told) n is)
  stands_at (ImageIndex m) (e, says, beyond) same =
      let an : said line ≡ An e = says_so (An e) at (subst (λ k. Says all k (An e)) same says) in
      an_event images told n e (said line) 3 an (if_beyond (comes_late told e) (asks_beyond images e.what) (is_too_much told) n beyond)
  stands_at (TooMany m) (e, says, many) same =
      let an : said line ≡ An e = says_so (An e) at (subst (λ k. Says all k (An e)) same says) in
      let is : is_too_much told ≡ true = subst (λ es. is_too_much es ≡ true) (before_is at) (subst (λ k. is_too_much (before all k) ≡ true) same many) in
      an_event images told n e (said line) 4 an (if_too_much (comes_late told e) (asks_beyond images e.what) (is_too_much told) n is)
  stands_at NoMemory holds same = absurd holds

  -- Where something stands against it, that condition holds of this line.
  event_holds : (e : Event) (a b c : Bool) (error : ScriptError) → said line ≡ An e → comes_late told e ≡ a → asks_beyond images e.what ≡ b → is_too_much told ≡ c → standing a b c n ≡ Some error → Holds images all error × (line_number error ≡ n)
  event_holds e true b c error an late beyond many is =
      let back : comes_late (before all n) e ≡ true = ap (λ es. comes_late es e) (before_is at) ∙ late in
      subst (λ x. Holds images all x × (line_number x ≡ n)) (same_error (Order n) error is) ((e, says_here (An e) at an, back), refl)
  event_holds e false true c error an late beyond many is =
      subst (λ x. Holds images all x × (line_number x ≡ n)) (same_error (ImageIndex n) error is) ((e, says_here (An e) at an, beyond), refl)
  event_holds e false false true error an late beyond many is =
      let back : is_too_much (before all n) ≡ true = ap is_too_much (before_is at) ∙ many in
      subst (λ x. Holds images all x × (line_number x ≡ n)) (same_error (TooMany n) error is) ((e, says_here (An e) at an, back), refl)
  event_holds e false false false error an late beyond many is = absurd (cc)

  holds_by : (what : Said) (error : ScriptError) → said line ≡ what → against images told n what ≡ Some error → Holds images all error × (line_number error ≡ n)
  holds_by Nothing error says is = absurd (cc)
  holds_by (An e) error says is = event_holds e (comes_late told e) (asks_beyond images e.what) (is_too_much told) error says refl refl refl is
  holds_by Wrong error says is = subst (λ x. Holds images all x × (line_number x ≡ n)) (same_error (Line n) error is) (says_here Wrong at says, refl)

  holds_at : (error : ScriptError) → against images told n (said line) ≡ Some error → Holds images all error × (line_number error ≡ n)
  holds_at error is = holds_by (said line) error refl is

-- A condition that holds is of a line of the list.
says_within : (all : List TextLine) (n : ℕ) (what : Said) → Says all n what → (1 ≤ n) × (n ≤ length all)
says_within all n what s = (s.counted, omega (arith, s.counted, slice_get_within all (n - 1) s.line s.there))

holds_within : (images : ℕ) (all : List TextLine) (e : ScriptError) → Holds images all e → (1 ≤ line_number e) × (line_number e ≤ length all)
holds_within images all (Line m) says = says_within all m Wrong says
holds_within images all (Order m) (e, says, late) = says_within all m (An e) says
holds_within images all (ImageIndex m) (e, says, beyond) = says_within all m (An e) says
holds_within images all (TooMany m) (e, says, many) = says_within all m (An e) says
holds_within images all NoMemory holds = absurd holds

-- A number that isn't less is the same or greater.
from_on : (n m : ℕ) (b : Bool) → nat_lt n m ≡ b → n ≤ m → (n < m) ⊎ (m ≡ n)
from_on n m true is p = inl (grind (arith, nat_tests))
from_on n m false is p = inr (grind (arith, nat_tests))

-- The events of lines that stand one behind the other.
onto_more : (what : Said) (es more : List Event) → onto_events what (es ++ more) ≡ onto_events what es ++ more
onto_more Nothing es more = refl
onto_more (An e) es more = refl
onto_more Wrong es more = refl

events_in-append : (xs ys : List TextLine) → events_in (xs ++ ys) ≡ events_in xs ++ events_in ys
events_in-append [] ys = refl
events_in-append (x ∷ xs) ys = ap (onto_events (said x)) (events_in-append xs ys) ∙ onto_more (said x) (events_in xs) (events_in ys)

-- the next line
onward : {all passed : List TextLine} {line next : TextLine} {rest : List TextLine} {n : ℕ} {told : List Event} → IsAt all passed line (next ∷ rest) n told → IsAt all (passed ++ (line ∷ [])) next rest (n + 1) (told ++ onto_events (said line) [])
onward {passed = passed} {line = line} {next = next} {rest = rest} at = record {
  number = omega (arith, at.number, length-append passed (line ∷ []));
  whole = at.whole ∙ sym (append_assoc passed (line ∷ []) (next ∷ rest));
  events = ap (λ es. es ++ onto_events (said line) []) at.events ∙ sym (events_in-append passed (line ∷ []));
}

-- What the refusal of a list says, from a line on.
record Found (images : ℕ) (all : List TextLine) (n : ℕ) (error : ScriptError) : Type 0 where
  holds : Holds images all error
  from : n ≤ line_number error
  first : (other : ScriptError) → Holds images all other → n ≤ line_number other → Precedes error other

none_of_both : (o p : Option ScriptError) → or_later o p ≡ None → (o ≡ None) × (p ≡ None)
none_of_both None p is = (refl, is)
none_of_both (Some e) p is = absurd (cc)

-- the last line alone, and one with others behind it
abbrev AsFound : ℕ → List TextLine → ℕ → Option ScriptError → Type 0
AsFound images all n None = (other : ScriptError) → Holds images all other → line_number other < n
AsFound images all n (Some error) = Found images all n error

found_here : {all passed : List TextLine} {line : TextLine} {rest : List TextLine} {n : ℕ} {told : List Event} (images : ℕ) (error : ScriptError) → IsAt all passed line rest n told → against images told n (said line) ≡ Some error → Found images all n error
found_here {all = all} {line = line} {n = n} {told = told} images error at is =
    let held = holds_at images at error is in
    record {
      holds = held.0;
      from = omega (arith, held.1);
      first = λ other h p. precedes other h (from_on n (line_number other) (nat_lt n (line_number other)) refl p);
    }
  where
    precedes : (other : ScriptError) → Holds images all other → (n < line_number other) ⊎ (line_number other ≡ n) → Precedes error other
    precedes other h (inl less) = inl (omega (arith, less, (holds_at images at error is).1))
    precedes other h (inr same) =
        let s = stands_at images at other h same in
        let one : s.error ≡ error = same_error s.error error (sym s.is ∙ is) in
        inr (omega (arith, same, (holds_at images at error is).1), subst (λ x. kind_number x ≤ kind_number other) one s.early)

-- Where nothing stands against a line, no condition holds of it.
later : {all passed : List TextLine} {line : TextLine} {rest : List TextLine} {n : ℕ} {told : List Event} (images : ℕ) (other : ScriptError) → IsAt all passed line rest n told → against images told n (said line) ≡ None → Holds images all other → n ≤ line_number other → n + 1 ≤ line_number other
later {n = n} images other at none h p = past (from_on n (line_number other) (nat_lt n (line_number other)) refl p)
  where
    past : (n < line_number other) ⊎ (line_number other ≡ n) → n + 1 ≤ line_number other
    past (inl less) = omega (arith, less)
    past (inr same) = let s = stands_at images at other h same in absurd (none_is_some (sym none ∙ s.is))

-- From a line on: what stands against it, or else what stands against the lines behind it.
module _ {all passed : List TextLine} {line : TextLine} {rest : List TextLine} {n : ℕ} {told : List Event} (images : ℕ) (at : IsAt all passed line rest n told) where
  less_than : (b : Bool) (other : ScriptError) → nat_lt (line_number other) n ≡ b → against images told n (said line) ≡ None → Holds images all other → line_number other < n + 1 → line_number other < n
  less_than true other test none h p = grind (arith, nat_tests)
  less_than false other test none h p =
      let from : n ≤ line_number other = grind (arith, nat_tests) in
      absurd (omega (arith, p, later images other at none h from))

  joined : (o p : Option ScriptError) → against images told n (said line) ≡ o → AsFound images all (n + 1) p → AsFound images all n (or_later o p)
  joined (Some error) p is found = found_here images error at is
  joined None None is found = λ other h. less_than (nat_lt (line_number other) n) other refl is h (found other h)
  joined None (Some error) is found = record {
    holds = found.holds;
    from = omega (arith, found.from);
    first = λ other h p. found.first other h (later images other at is h p);
  }

  at_last : rest ≡ [] → AsFound images all (n + 1) None
  at_last is other h =
      omega (arith, at.number, (holds_within images all other h).1, ap length at.whole, length-append passed (line ∷ rest), ap length is)

as_found : (images : ℕ) (all passed : List TextLine) (line : TextLine) (rest : List TextLine) (n : ℕ) (told : List Event) → IsAt all passed line rest n told → AsFound images all n (first_against images told n (line ∷ rest))
as_found images all passed line [] n told at = joined images at (against images told n (said line)) None refl (at_last images at refl)
as_found images all passed line (next ∷ rest) n told at =
    joined images at (against images told n (said line)) (first_against images (told ++ onto_events (said line) []) (n + 1) (next ∷ rest)) refl
    (as_found images all (passed ++ (line ∷ [])) next rest (n + 1) (told ++ onto_events (said line) []) (onward at))

no_lines : (images : ℕ) (other : ScriptError) → Holds images [] other → line_number other < 1
no_lines images other h = absurd (omega (arith, (holds_within images [] other h).0, (holds_within images [] other h).1))

of_lines : (images : ℕ) (lines : List TextLine) → AsFound images lines 1 (first_against images [] 1 lines)
of_lines images [] = no_lines images
of_lines images (line ∷ rest) = as_found images (line ∷ rest) [] line rest 1 [] (record { number = refl; whole = refl; events = refl })

refusal_found : (images : ℕ) (lines : List TextLine) (o : Option ScriptError) (error : ScriptError) → AsFound images lines 1 o → o ≡ Some error → IsRefusal images lines error
refusal_found images lines None error found is = absurd (none_is_some is)
refusal_found images lines (Some e) error found is =
    subst (IsRefusal images lines) (same_error e error is) (record {
      holds = found.holds;
      first = λ other h. found.first other h (holds_within images lines other h).0;
    })

-- Two refusals that come first are one.
same_kind : (images : ℕ) (all : List TextLine) (a b : ScriptError) → Holds images all a → Holds images all b → line_number a ≡ line_number b → kind_number a ≡ kind_number b → a ≡ b
same_kind images all (Line m) (Line n) h g line kind = ap Line line
same_kind images all (Order m) (Order n) h g line kind = ap Order line
same_kind images all (ImageIndex m) (ImageIndex n) h g line kind = ap ImageIndex line
same_kind images all (TooMany m) (TooMany n) h g line kind = ap TooMany line
same_kind images all NoMemory b h g line kind = absurd h
same_kind images all a NoMemory h g line kind = absurd g
same_kind images all (Line m) (Order n) h g line kind = absurd (omega (arith, kind))
same_kind images all (Line m) (ImageIndex n) h g line kind = absurd (omega (arith, kind))
same_kind images all (Line m) (TooMany n) h g line kind = absurd (omega (arith, kind))
same_kind images all (Order m) (Line n) h g line kind = absurd (omega (arith, kind))
same_kind images all (Order m) (ImageIndex n) h g line kind = absurd (omega (arith, kind))
same_kind images all (Order m) (TooMany n) h g line kind = absurd (omega (arith, kind))
same_kind images all (ImageIndex m) (Line n) h g line kind = absurd (omega (arith, kind))
same_kind images all (ImageIndex m) (Order n) h g line kind = absurd (omega (arith, kind))
same_kind images all (ImageIndex m) (TooMany n) h g line kind = absurd (omega (arith, kind))
same_kind images all (TooMany m) (Line n) h g line kind = absurd (omega (arith, kind))
same_kind images all (TooMany m) (Order n) h g line kind = absurd (omega (arith, kind))
same_kind images all (TooMany m) (ImageIndex n) h g line kind = absurd (omega (arith, kind))

both_first : (a b : ScriptError) → Precedes a b → Precedes b a → (line_number a ≡ line_number b) × (kind_number a ≡ kind_number b)
both_first a b (inl p) (inl q) = absurd (omega (arith, p, q))
both_first a b (inl p) (inr q) = absurd (omega (arith, p, q.0))
both_first a b (inr p) (inl q) = absurd (omega (arith, p.0, q))
both_first a b (inr p) (inr q) = (p.0, omega (arith, p.1, q.1))

one_refusal : (images : ℕ) (all : List TextLine) (a b : ScriptError) → IsRefusal images all a → IsRefusal images all b → a ≡ b
one_refusal images all a b r q =
    let same = both_first a b (r.first b q.holds) (q.first a r.holds) in
    same_kind images all a b r.holds q.holds same.0 same.1

found_refusal : (images : ℕ) (lines : List TextLine) (o : Option ScriptError) (error : ScriptError) → AsFound images lines 1 o → IsRefusal images lines error → o ≡ Some error
found_refusal images lines None error found r = absurd (omega (arith, found error r.holds, (holds_within images lines error r.holds).0))
found_refusal images lines (Some e) error found r = ap Some (one_refusal images lines e error (refusal_found images lines (Some e) e found refl) r)

pub refusal_is_first : RefusalIsFirst
refusal_is_first images text error = (
  λ is. refusal_found images (lines_of text) (refusal_of images text) error (of_lines images (lines_of text)) is,
  λ r. found_refusal images (lines_of text) (refusal_of images text) error (of_lines images (lines_of text)) r,
)

none_found : (images : ℕ) (lines : List TextLine) (o : Option ScriptError) → AsFound images lines 1 o → o ≡ None → (error : ScriptError) → ¬ Holds images lines error
none_found images lines None found is error h = omega (arith, found error h, (holds_within images lines error h).0)
none_found images lines (Some e) found is error h = absurd (none_is_some (sym is))

none_holds : (images : ℕ) (lines : List TextLine) (o : Option ScriptError) → AsFound images lines 1 o → ((error : ScriptError) → ¬ Holds images lines error) → o ≡ None
none_holds images lines None found none = refl
none_holds images lines (Some e) found none = absurd (none e found.holds)

pub none_is_refused : NoneIsRefused
none_is_refused images text = (
  none_found images (lines_of text) (refusal_of images text) (of_lines images (lines_of text)),
  none_holds images (lines_of text) (refusal_of images text) (of_lines images (lines_of text)),
)
