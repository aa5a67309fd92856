-- The running timers stay as they should be: few, in order, each of another module or with another id, and of loaded modules.
use Rattle.std.proofs.Common.{◌≡◌, ◌≢◌, inl, inr, ℕ, ◌+◌, ◌<◌, ◌≤◌, ◌==◌, ◌&&◌, nat_lt, nat_le, not, List, [], ◌∷◌, length, filter, if◌then◌else◌, Bool, true, false, refl, ap, ◌∙◌, arith, sym, subst, Some, slice_get}
use Rattle.std.specs.List.{AllByRecursion, Contains}
use Rattle.std.proofs.lemmas.Bool.{cases_Bool, cond_both, cond-true, and_parts, eq-eqb, eqb-false, le-leb, not-true, true≢false}
use Rattle.std.proofs.lemmas.Option.{same_Some}
use Rattle.std.proofs.lemmas.Bool.Decides.{nat_tests}
use Rattle.mote_base.specs.declared.timer.Timer.{Timer}
use Rattle.mote_base.specs.Timers.{timer_limit, fires_before, NoneBefore, InOrder, is_of, without, without_module, inserted, started, after_firing}
use Rattle.domain_model.specs.State.{Loaded}
use Rattle.domain_model.specs.Modules.{is_loaded, without_domain}
use Rattle.domain_model.specs.Good.{AreDistinct, GoodTimer, AreApart, GoodTimers}
use Rattle.domain_model.proofs.Kept.{each_weaker, each_filter, each_where, filter_shorter}
use Rattle.domain_model.proofs.ModuleLaws.{is_loaded_without}

-- The order.

turned : (s t : Timer) → fires_before s t ≡ true → fires_before t s ≡ false
turned s t before = grind (arith, nat_tests)

passed_on : (s t u : Timer) → fires_before s t ≡ false → fires_before u s ≡ false → fires_before u t ≡ false
passed_on s t u st us = grind (arith, nat_tests)

none_before_later : (s t : Timer) (us : List Timer) → fires_before s t ≡ false → NoneBefore s us → NoneBefore t us
none_before_later s t [] after none = tt
none_before_later s t (u ∷ us) after none = (passed_on s t u after none.0, none_before_later s t us after none.1)

none_before_some : (t : Timer) (test : Timer → Bool) (us : List Timer) → NoneBefore t us → NoneBefore t (filter test us)
none_before_some t test [] none = tt
none_before_some t test (u ∷ us) none =
    cond_both (test u) (u ∷ filter test us) (filter test us) (NoneBefore t) (λ stays. (none.0, none_before_some t test us none.1))
    (λ goes. none_before_some t test us none.1)

none_before_more : (s t : Timer) (us : List Timer) → fires_before t s ≡ false → NoneBefore s us → NoneBefore s (inserted t us)
none_before_more s t [] after none = (after, tt)
none_before_more s t (u ∷ us) after none =
    cond_both (fires_before u t) (u ∷ inserted t us) (t ∷ u ∷ us) (NoneBefore s) (λ first. (none.0, none_before_more s t us after none.1))
    (λ behind. (after, none))

-- some of the timers, in the same order
pub some_in_order : (test : Timer → Bool) (ts : List Timer) → InOrder ts → InOrder (filter test ts)
some_in_order test [] order = tt
some_in_order test (t ∷ ts) order =
    cond_both (test t) (t ∷ filter test ts) (filter test ts) InOrder (λ stays. (none_before_some t test ts order.0, some_in_order test ts order.1))
    (λ goes. some_in_order test ts order.1)

-- one more, in its place
pub more_in_order : (t : Timer) (ts : List Timer) → InOrder ts → InOrder (inserted t ts)
more_in_order t [] order = (tt, tt)
more_in_order t (s ∷ ss) order =
    cond_both (fires_before s t) (s ∷ inserted t ss) (t ∷ s ∷ ss) InOrder
    (λ first. (none_before_more s t ss (turned s t first) order.0, more_in_order t ss order.1))
    (λ behind. ((behind, none_before_later s t ss behind order.0), order))

pub one_longer : (t : Timer) (ts : List Timer) → length (inserted t ts) ≡ length ts + 1
one_longer t [] = refl
one_longer t (s ∷ ss) =
    let rest = one_longer t ss in
    cond_both (fires_before s t) (s ∷ inserted t ss) (t ∷ s ∷ ss) (λ (us : List Timer). length us ≡ length (s ∷ ss) + 1) (λ first. omega (arith, rest))
    (λ behind. omega arith)

-- what holds of each, and of the new one
pub each_more : (P : Timer → Type 0) (t : Timer) (ts : List Timer) → P t → AllByRecursion P ts → AllByRecursion P (inserted t ts)
each_more P t [] new h = (new, tt)
each_more P t (s ∷ ss) new h =
    cond_both (fires_before s t) (s ∷ inserted t ss) (t ∷ s ∷ ss) (AllByRecursion P) (λ first. (h.0, each_more P t ss new h.1)) (λ behind. (new, h))

-- No two are of one module and have one id.

differs_turned : (s t : Timer) → is_of t.«module» t.id s ≡ false → is_of s.«module» s.id t ≡ false
differs_turned s t apart = grind (arith, nat_tests)

pub some_apart : (test : Timer → Bool) (ts : List Timer) → AreApart ts → AreApart (filter test ts)
some_apart test [] apart = tt
some_apart test (t ∷ ts) apart =
    cond_both (test t) (t ∷ filter test ts) (filter test ts) AreApart
    (λ stays. (each_filter (λ s. is_of t.«module» t.id s ≡ false) (λ s. is_of t.«module» t.id s ≡ false) test (λ s kept h. h) ts apart.0, some_apart test ts apart.1))
    (λ goes. some_apart test ts apart.1)

more_apart : (t : Timer) (ts : List Timer) → AllByRecursion (λ s. is_of t.«module» t.id s ≡ false) ts → AreApart ts → AreApart (inserted t ts)
more_apart t [] new apart = (tt, tt)
more_apart t (s ∷ ss) new apart =
    cond_both (fires_before s t) (s ∷ inserted t ss) (t ∷ s ∷ ss) AreApart
    (λ first. (each_more (λ u. is_of s.«module» s.id u ≡ false) t ss (differs_turned s t new.0) apart.0, more_apart t ss new.1 apart.1))
    (λ behind. (new, apart))

-- without the one of a module with an id, none is
none_of : («module» id : ℕ) (ts : List Timer) → AllByRecursion (λ s. is_of «module» id s ≡ false) (without «module» id ts)
none_of «module» id [] = tt
none_of «module» id (t ∷ ts) =
    each_where (λ s. is_of «module» id s ≡ false) (not (is_of «module» id t)) t (without «module» id ts) (λ e. not-true (is_of «module» id t) e) (none_of «module» id ts)

-- What stays of the other modules' timers.

pub others_stopped : («module» id : ℕ) (ts : List Timer) → without_module «module» (without «module» id ts) ≡ without_module «module» ts
others_stopped «module» id [] = refl
others_stopped «module» id (t ∷ ts) =
    let rest = others_stopped «module» id ts in
    let both : (is_of «module» id t ≡ true) → (t.«module» == «module») ≡ true = λ its. (and_parts (t.«module» == «module») (t.id == id) its).0 in
    elim (cases_Bool (is_of «module» id t)) [
      | inl its ↦ rw (its, both its) rest
      | inr other ↦
          elim (cases_Bool (t.«module» == «module»)) [
            | inl mine ↦ rw (other, mine) rest
            | inr others ↦ rw (other, others) (ap (λ (us : List Timer). t ∷ us) rest)
          ]
    ]

inserted_alike : (t : Timer) (ts : List Timer) → without_module t.«module» (inserted t ts) ≡ without_module t.«module» ts
inserted_alike t [] = let own : (t.«module» == t.«module») ≡ true = eq-eqb t.«module» t.«module» refl in rw own refl
inserted_alike t (s ∷ ss) =
    let own : (t.«module» == t.«module») ≡ true = eq-eqb t.«module» t.«module» refl in
    let rest = inserted_alike t ss in
    cond_both (fires_before s t) (s ∷ inserted t ss) (t ∷ s ∷ ss) (λ (us : List Timer). without_module t.«module» us ≡ without_module t.«module» (s ∷ ss))
    (λ first.
    elim (cases_Bool (s.«module» == t.«module»)) [
      | inl mine ↦ rw mine rest
      | inr others ↦ rw others (ap (λ (us : List Timer). s ∷ us) rest)
    ]) (λ behind. rw own refl)

pub others_started : (t : Timer) (ts : List Timer) → without_module t.«module» (started t ts) ≡ without_module t.«module» ts
others_started t ts =
    cond_both (not (t.ticks == 0) && nat_lt (length (without t.«module» t.id ts)) timer_limit) (inserted t (without t.«module» t.id ts)) ts
    (λ (us : List Timer). without_module t.«module» us ≡ without_module t.«module» ts)
    (λ starts. inserted_alike t (without t.«module» t.id ts) ∙ others_stopped t.«module» t.id ts) (λ stays. refl)

-- The record of all this.

-- the clock may rise, and more modules may be loaded
pub timers_later : (modules more : List Loaded) (now later : ℕ) (ts : List Timer) → ((id : ℕ) → is_loaded modules id ≡ true → is_loaded more id ≡ true) → now ≤ later → GoodTimers modules now ts → GoodTimers more later ts
timers_later modules more now later ts f up h = record {
  few = h.few;
  order = h.order;
  apart = h.apart;
  each =
      each_weaker (GoodTimer modules now) (GoodTimer more later)
      (λ t good. record { owner = f t.«module» good.owner; id = good.id; ticks = good.ticks; due = omega (arith, good.due, up) }) ts h.each;
}

-- some of them
some_good : (modules more : List Loaded) (now : ℕ) (test : Timer → Bool) (ts : List Timer) → ((t : Timer) → test t ≡ true → GoodTimer modules now t → GoodTimer more now t) → GoodTimers modules now ts → GoodTimers more now (filter test ts)
some_good modules more now test ts f h = record {
  few = omega (arith, h.few, filter_shorter test ts);
  order = some_in_order test ts h.order;
  apart = some_apart test ts h.apart;
  each = each_filter (GoodTimer modules now) (GoodTimer more now) test f ts h.each;
}

-- where a timer stops
pub timers_stopped : (modules : List Loaded) (now «module» id : ℕ) (ts : List Timer) → GoodTimers modules now ts → GoodTimers modules now (without «module» id ts)
timers_stopped modules now «module» id ts h =
    some_good modules modules now (λ t. not (is_of «module» id t)) ts (λ t kept good. good) h

-- where a module goes out
pub timers_without : (modules : List Loaded) (row : Loaded) (now : ℕ) (ts : List Timer) → AreDistinct modules → Contains modules row → GoodTimers modules now ts → GoodTimers (without_domain row.domain modules) now (without_module row.face.id ts)
timers_without modules row now ts distinct c h =
    some_good modules (without_domain row.domain modules) now (λ (t : Timer). not (t.«module» == row.face.id)) ts
    (λ t kept good. record {
      owner = is_loaded_without modules row t.«module» distinct c (eqb-false t.«module» row.face.id (not-true (t.«module» == row.face.id) kept)) good.owner;
      id = good.id;
      ticks = good.ticks;
      due = good.due;
    }) h

-- one more, where no other is of its module with its id, and there is room
timers_more : (modules : List Loaded) (now : ℕ) (t : Timer) (ts : List Timer) → GoodTimer modules now t → length ts < timer_limit → AllByRecursion (λ s. is_of t.«module» t.id s ≡ false) ts → GoodTimers modules now ts → GoodTimers modules now (inserted t ts)
timers_more modules now t ts new room apart h = record {
  few = omega (arith, one_longer t ts, room);
  order = more_in_order t ts h.order;
  apart = more_apart t ts apart h.apart;
  each = each_more (GoodTimer modules now) t ts new h.each;
}

-- where a timer starts
pub timers_started : (modules : List Loaded) (now : ℕ) (t : Timer) (ts : List Timer) → (t.ticks ≢ 0 → GoodTimer modules now t) → GoodTimers modules now ts → GoodTimers modules now (started t ts)
timers_started modules now t ts new h =
    cond_both (not (t.ticks == 0) && nat_lt (length (without t.«module» t.id ts)) timer_limit) (inserted t (without t.«module» t.id ts)) ts (GoodTimers modules now)
    (λ starts.
    let parts : (t.ticks ≢ 0) × (length (without t.«module» t.id ts) < timer_limit) = grind (arith, nat_tests) in
    timers_more modules now t (without t.«module» t.id ts) (new parts.0) parts.1 (none_of t.«module» t.id ts) (timers_stopped modules now t.«module» t.id ts h))
    (λ stays. h)

-- where the first one fires
pub timers_fired : (modules : List Loaded) (now : ℕ) (ts : List Timer) → GoodTimers modules now ts → GoodTimers modules now (after_firing now ts)
timers_fired modules now [] h = h
timers_fired modules now (t ∷ ts) h =
    let rest : GoodTimers modules now ts = record { few = omega (arith, h.few); order = h.order.1; apart = h.apart.1; each = h.each.1 } in
    cond_both (nat_le t.due now) (if t.again then inserted (record t { due = now + t.ticks }) ts else ts) (t ∷ ts) (GoodTimers modules now)
    (λ due.
    cond_both t.again (inserted (record t { due = now + t.ticks }) ts) ts (GoodTimers modules now)
    (λ again.
    timers_more modules now (record t { due = now + t.ticks }) ts
    (record { owner = h.each.0.owner; id = h.each.0.id; ticks = h.each.0.ticks; due = omega (arith, h.each.0.ticks.1) }) (omega (arith, h.few)) h.apart.0 rest)
    (λ once. rest))
    (λ waits. h)

-- The timer that fires.

-- None fires before the first.
all_behind : (t : Timer) (ts : List Timer) → NoneBefore t ts → AllByRecursion (λ (s : Timer). fires_before s t ≡ false) ts
all_behind t [] none = tt
all_behind t (s ∷ ss) none = (none.0, all_behind t ss none.1)

not_itself : (t : Timer) → fires_before t t ≡ false
not_itself t = grind (arith, nat_tests)

pub first_least : (ts : List Timer) (t : Timer) → slice_get ts 0 ≡ Some t → InOrder ts → AllByRecursion (λ (s : Timer). fires_before s t ≡ false) ts
first_least [] t first order = tt
first_least (x ∷ xs) t first order =
    subst (λ (u : Timer). AllByRecursion (λ (s : Timer). fires_before s u ≡ false) (x ∷ xs)) (same_Some x t first) (not_itself x, all_behind x xs order.0)

-- Once it fired, it is due later.
once_by : (now : ℕ) (x : Timer) (xs : List Timer) → x.due ≤ now → 1 ≤ x.ticks → AllByRecursion (λ s. is_of x.«module» x.id s ≡ false) xs → AllByRecursion (λ (s : Timer). is_of x.«module» x.id s ≡ true → now < s.due) (after_firing now (x ∷ xs))
once_by now x xs due ticks apart =
    let others : AllByRecursion (λ (s : Timer). is_of x.«module» x.id s ≡ true → now < s.due) xs
    = each_weaker (λ s. is_of x.«module» x.id s ≡ false) (λ (s : Timer). is_of x.«module» x.id s ≡ true → now < s.due) (λ s not_it it. absurd (true≢false (sym it ∙ not_it))) xs apart in
    let again : Timer = record x { due = now + x.ticks } in
    subst (AllByRecursion (λ (s : Timer). is_of x.«module» x.id s ≡ true → now < s.due))
    (sym (cond-true (nat_le x.due now) (if x.again then inserted again xs else xs) (x ∷ xs) (le-leb x.due now due)))
    (cond_both x.again (inserted again xs) xs (AllByRecursion (λ (s : Timer). is_of x.«module» x.id s ≡ true → now < s.due))
    (λ repeats. each_more (λ (s : Timer). is_of x.«module» x.id s ≡ true → now < s.due) again xs (λ it. omega (arith, ticks)) others) (λ ends. others))

pub fires_once : (now : ℕ) (ts : List Timer) (t : Timer) → slice_get ts 0 ≡ Some t → t.due ≤ now → 1 ≤ t.ticks → AreApart ts → AllByRecursion (λ (s : Timer). is_of t.«module» t.id s ≡ true → now < s.due) (after_firing now ts)
fires_once now [] t first due ticks apart = tt
fires_once now (x ∷ xs) t first due ticks apart =
    let same = same_Some x t first in
    subst (λ (u : Timer). AllByRecursion (λ (s : Timer). is_of u.«module» u.id s ≡ true → now < s.due) (after_firing now (x ∷ xs))) same
    (once_by now x xs (subst (λ (u : Timer). u.due ≤ now) (sym same) due) (subst (λ (u : Timer). 1 ≤ u.ticks) (sym same) ticks) apart.0)
