-- The order in which timers fire, and lists that stand in it.
use Rattle.std.proofs.Common.{◌≡◌, ◌↔◌, ℕ, nat_le, Option, Some, None, suc, ◌+◌, ◌<◌, ◌≤◌, ◌||◌, eqb, nat_lt, Bool, true, false, not, List, [], ◌∷◌, length, filter, insert, inl, inr, refl, sym, ap, ◌∙◌, arith, option_map}
use Rattle.std.specs.List.{list_any, prefix_len}
use Rattle.std.proofs.lemmas.Bool.{cases_Bool, false≢true}
use Rattle.std.proofs.lemmas.Bool.Decides.{nat_tests}
use Rattle.mote_base.specs.declared.timer.Timer.{Timer}
use Rattle.mote_base.specs.Timers.{fires_before, NoneBefore, InOrder, inserted, is_of, without, firing, AreToCome, timer_limit}

-- of two timers, not each fires before the other
asymmetric : (s t : Timer) → fires_before s t ≡ true → fires_before t s ≡ false
asymmetric s t before = grind (arith, nat_tests)

-- what fires after another fires after what that one fires after
transitive : (s t u : Timer) → fires_before u s ≡ false → fires_before s t ≡ false → fires_before u t ≡ false
transitive s t u us st = grind (arith, nat_tests)

-- none fires before a timer that fires before all of them
none-before-all : (s t : Timer) (us : List Timer) → fires_before s t ≡ false → NoneBefore s us → NoneBefore t us
none-before-all s t [] st none = tt
none-before-all s t (u ∷ us) st none = (transitive s t u none.0 st, none-before-all s t us st none.1)

none-before-filter : (s : Timer) (test : Timer → Bool) (ts : List Timer) → NoneBefore s ts → NoneBefore s (filter test ts)
none-before-filter s test [] none = tt
none-before-filter s test (t ∷ ts) none =
    elim (cases_Bool (test t)) [
      | inl passes ↦ rw passes (none.0, none-before-filter s test ts none.1)
      | inr fails ↦ rw fails (none-before-filter s test ts none.1)
    ]

none-before-inserted : (s t : Timer) (ts : List Timer) → fires_before t s ≡ false → NoneBefore s ts → NoneBefore s (inserted t ts)
none-before-inserted s t [] here none = (here, tt)
none-before-inserted s t (u ∷ us) here none =
    elim (cases_Bool (fires_before u t)) [
      | inl before ↦ rw before (none.0, none-before-inserted s t us here none.1)
      | inr after ↦ rw after (here, none)
    ]

-- a part of the timers stands in order
pub order-filter : (test : Timer → Bool) (ts : List Timer) → InOrder ts → InOrder (filter test ts)
order-filter test [] order = tt
order-filter test (t ∷ ts) order =
    elim (cases_Bool (test t)) [
      | inl passes ↦ rw passes (none-before-filter t test ts order.0, order-filter test ts order.1)
      | inr fails ↦ rw fails (order-filter test ts order.1)
    ]

-- with one more in its place the timers stand in order
pub order-inserted : (t : Timer) (ts : List Timer) → InOrder ts → InOrder (inserted t ts)
order-inserted t [] order = (tt, tt)
order-inserted t (s ∷ ss) order =
    elim (cases_Bool (fires_before s t)) [
      | inl before ↦ rw before (none-before-inserted s t ss (asymmetric s t before) order.0, order-inserted t ss order.1)
      | inr after ↦ rw after ((after, none-before-all s t ss after order.0), order)
    ]

-- one more
pub length-inserted : (t : Timer) (ts : List Timer) → length (inserted t ts) ≡ length ts + 1
length-inserted t [] = refl
length-inserted t (s ∷ ss) =
    elim (cases_Bool (fires_before s t)) [
      | inl before ↦ rw before (omega (arith, length-inserted t ss))
      | inr after ↦ rw after (omega arith)
    ]

-- no more than there were
pub length-filtered : (test : Timer → Bool) (ts : List Timer) → length (filter test ts) ≤ length ts
length-filtered test [] = omega arith
length-filtered test (t ∷ ts) =
    elim (cases_Bool (test t)) [
      | inl passes ↦ rw passes (omega (arith, length-filtered test ts))
      | inr fails ↦ rw fails (omega (arith, length-filtered test ts))
    ]

-- where none is of a kind, those that are not are all
pub filter-none : (test : Timer → Bool) (ts : List Timer) → list_any test ts ≡ false → filter (λ t. not (test t)) ts ≡ ts
filter-none test [] none = refl
filter-none test (t ∷ ts) none =
    elim (cases_Bool (test t)) [
      | inl passes ↦ let none' = rw passes at none in absurd (false≢true (sym none'))
      | inr fails ↦ let none' = rw fails at none in rw fails (ap (λ us. t ∷ us) (filter-none test ts none'))
    ]

-- where one is of a kind, those that are not are fewer
pub filter-some : (test : Timer → Bool) (ts : List Timer) → list_any test ts ≡ true → length (filter (λ t. not (test t)) ts) < length ts
filter-some test [] some = absurd (false≢true some)
filter-some test (t ∷ ts) some =
    elim (cases_Bool (test t)) [
      | inl passes ↦ rw passes (omega (arith, length-filtered (λ u. not (test u)) ts))
      | inr fails ↦ let some' = rw fails at some in rw fails (omega (arith, filter-some test ts some'))
    ]

-- an insert behind the head
insert-tail : (n : ℕ) (s t : Timer) (ts : List Timer) → insert (s ∷ ts) (1 + n) t ≡ s ∷ insert ts n t
insert-tail n s t ts = let e : 1 + n ≡ suc n = omega arith in rw e refl

-- an insert behind those that fire before a timer
pub insert-inserted : (t : Timer) (ts : List Timer) → insert ts (prefix_len (λ s. fires_before s t) ts) t ≡ inserted t ts
insert-inserted t [] = refl
insert-inserted t (s ∷ ss) =
    elim (cases_Bool (fires_before s t)) [
      | inl before ↦ rw before (insert-tail (prefix_len (λ u. fires_before u t) ss) s t ss ∙ ap (λ us. s ∷ us) (insert-inserted t ss))
      | inr after ↦ rw after refl
    ]

-- there is room beside the others exactly where not as many run as may, or the one itself runs
pub room : («module» id : ℕ) (ts : List Timer) (full one : Bool) → length ts ≤ timer_limit → full ≡ eqb (length ts) timer_limit → one ≡ list_any (is_of «module» id) ts → (not full || one) ≡ nat_lt (length (without «module» id ts)) timer_limit
room «module» id ts full one limit is_full is_one =
    elim (cases_Bool one) [
      | inl some ↦
          let fewer = filter-some (is_of «module» id) ts (sym is_one ∙ some) in
          let less : length (without «module» id ts) < timer_limit = omega (arith, fewer, limit) in
          grind (arith, nat_tests)
      | inr none ↦
          let same = ap length (filter-none (is_of «module» id) ts (sym is_one ∙ none)) in
          rw same (grind (arith, nat_tests))
    ]

-- what doesn't fire before a timer is due no earlier
later : (s t : Timer) → fires_before s t ≡ false → t.due ≤ s.due
later s t after = grind (arith, nat_tests)

all-to-come : (now : ℕ) (t : Timer) (ts : List Timer) → now < t.due → NoneBefore t ts → AreToCome now ts
all-to-come now t [] less none = tt
all-to-come now t (s ∷ ss) less none = (omega (arith, less, later s t none.0), all-to-come now t ss less none.1)

-- no timer fires exactly where the moment of none has come
pub firing-none : (now : ℕ) (ts : List Timer) → InOrder ts → (firing now ts ≡ None) ↔ AreToCome now ts
firing-none now [] order = (λ _. tt, λ _. refl)
firing-none now (t ∷ ts) order =
    elim (cases_Bool (nat_le t.due now)) [
      | inl come ↦
          let past : t.due ≤ now = grind (arith, nat_tests) in
          (λ e. let some : Some t ≡ None = rw come at e in absurd cc, λ all. absurd (omega (arith, past, all.0)))
      | inr ahead ↦
          let less : now < t.due = grind (arith, nat_tests) in
          (λ _. (less, all-to-come now t ts less order.0), λ _. rw ahead refl)
    ]

-- an option whose value was changed holds one exactly where it did
pub map-none : {A B : Type 0} (f : A → B) (o : Option A) (r : Option B) → r ≡ option_map f o → (r ≡ None) ↔ (o ≡ None)
map-none f None r is = (λ _. refl, λ _. is)
map-none f (Some x) r is = (λ e. let some : Some (f x) ≡ None = sym is ∙ e in absurd cc, λ e. absurd cc)
