-- How many timers are due.
use Rattle.std.proofs.Common.{◌≡◌, inl, inr, ℕ, ◌+◌, ◌<◌, ◌≤◌, nat_le, List, [], ◌∷◌, length, filter, if◌then◌else◌, Bool, true, false, refl, sym, ap, ◌∙◌, subst, arith, Some, None, slice_get}
use Rattle.std.proofs.lemmas.Bool.{cases_Bool, cond_both, cond-true, le-leb, lt-leb}
use Rattle.std.proofs.lemmas.Option.{none-some, same_Some}
use Rattle.mote_base.specs.declared.timer.Timer.{Timer}
use Rattle.mote_base.specs.Timers.{fires_before, inserted, firing, after_firing}
use Rattle.domain_model.specs.Remaining.{due_count}
use Rattle.domain_model.proofs.Kept.{filter_shorter}

pub due_few : (now : ℕ) (ts : List Timer) → due_count now ts ≤ length ts
due_few now ts = filter_shorter (λ (t : Timer). nat_le t.due now) ts

-- one more, by whether it is due
counted : Bool → ℕ → ℕ
counted true n = n + 1
counted false n = n

due_first : (now : ℕ) (t : Timer) (ts : List Timer) → due_count now (t ∷ ts) ≡ counted (nat_le t.due now) (due_count now ts)
unfolding counted
due_first now t ts =
    elim (cases_Bool (nat_le t.due now)) [
      | inl due ↦ rw due (omega arith)
      | inr later ↦ rw later refl
    ]

counted_less : (b : Bool) (m n : ℕ) → m ≤ n → counted b m ≤ counted b n
unfolding counted
counted_less true m n h = omega (arith, h)
counted_less false m n h = h

counted_more : (b : Bool) (n : ℕ) → n ≤ counted b n
unfolding counted
counted_more true n = omega arith
counted_more false n = omega arith

-- some of them
pub due_some : (now : ℕ) (test : Timer → Bool) (ts : List Timer) → due_count now (filter test ts) ≤ due_count now ts
due_some now test [] = omega arith
due_some now test (t ∷ ts) =
    let rest = due_some now test ts in
    cond_both (test t) (t ∷ filter test ts) (filter test ts) (λ (us : List Timer). due_count now us ≤ due_count now (t ∷ ts))
    (λ stays. omega (arith, due_first now t ts, due_first now t (filter test ts), counted_less (nat_le t.due now) (due_count now (filter test ts)) (due_count now ts) rest))
    (λ goes. omega (arith, due_first now t ts, counted_more (nat_le t.due now) (due_count now ts), rest))

-- one more that isn't due
due_inserted : (now : ℕ) (t : Timer) (ts : List Timer) → now < t.due → due_count now (inserted t ts) ≡ due_count now ts
unfolding counted
due_inserted now t [] later = due_first now t [] ∙ ap (λ (b : Bool). counted b 0) (lt-leb t.due now later)
due_inserted now t (s ∷ ss) later =
    cond_both (fires_before s t) (s ∷ inserted t ss) (t ∷ s ∷ ss) (λ (us : List Timer). due_count now us ≡ due_count now (s ∷ ss))
    (λ first. due_first now s (inserted t ss) ∙ ap (λ (n : ℕ). counted (nat_le s.due now) n) (due_inserted now t ss later) ∙ sym (due_first now s ss))
    (λ behind. due_first now t (s ∷ ss) ∙ ap (λ (b : Bool). counted b (due_count now (s ∷ ss))) (lt-leb t.due now later))

-- The first timer fires where it is due.

pub firing_is : (now : ℕ) (ts : List Timer) (t : Timer) → slice_get ts 0 ≡ Some t → t.due ≤ now → firing now ts ≡ Some t
firing_is now [] t first due = absurd (none-some t first)
firing_is now (x ∷ xs) t first due =
    let same = same_Some x t first in
    cond-true (nat_le x.due now) (Some x) None (le-leb x.due now (subst (λ (y : Timer). y.due ≤ now) (sym same) due)) ∙ first

-- and one fewer is due
pub fired_counted : (now : ℕ) (ts : List Timer) (t : Timer) → slice_get ts 0 ≡ Some t → t.due ≤ now → 1 ≤ t.ticks → due_count now (after_firing now ts) + 1 ≡ due_count now ts
unfolding counted
fired_counted now [] t first due ticks = absurd (none-some t first)
fired_counted now (x ∷ xs) t first due ticks =
    let same = same_Some x t first in
    let is_due : nat_le x.due now ≡ true = le-leb x.due now (subst (λ (y : Timer). y.due ≤ now) (sym same) due) in
    let some : 1 ≤ x.ticks = subst (λ (y : Timer). 1 ≤ y.ticks) (sym same) ticks in
    let before : due_count now (x ∷ xs) ≡ due_count now xs + 1 = due_first now x xs ∙ ap (λ (b : Bool). counted b (due_count now xs)) is_due in
    let after : due_count now (if x.again then inserted (record x { due = now + x.ticks }) xs else xs) ≡ due_count now xs
    = cond_both x.again (inserted (record x { due = now + x.ticks }) xs) xs (λ (us : List Timer). due_count now us ≡ due_count now xs)
    (λ again. due_inserted now (record x { due = now + x.ticks }) xs (omega (arith, some))) (λ once. refl) in
    ap (λ (us : List Timer). due_count now us + 1) (cond-true (nat_le x.due now) (if x.again then inserted (record x { due = now + x.ticks }) xs else xs) (x ∷ xs) is_due)
    ∙ ap (λ (n : ℕ). n + 1) after ∙ sym before
