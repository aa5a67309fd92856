-- The timers that are running, in the order in which they fire.
use Rattle.std.specs.Prelude.{◌≡◌, ℕ, ◌+◌, ◌<◌, ◌==◌, ◌&&◌, ◌||◌, ⊤, Bool, not, false, nat_le, nat_lt, List, [], ◌∷◌, length, filter, Option, Some, None, if◌then◌else◌}
use Rattle.std.specs.List.{AllByRecursion}
use Rattle.mote_base.specs.declared.timer.Timer.{Timer}

-- how many may run at once
abbrev pub timer_limit : ℕ
timer_limit = 16

-- The order in which timers fire: by their due moment, then by their module, then by their id.
abbrev pub fires_before : Timer → Timer → Bool
fires_before s t =
    nat_lt s.due t.due || s.due == t.due && (nat_lt s.«module» t.«module» || s.«module» == t.«module» && nat_lt s.id t.id)

-- None of the timers fires before this one.
abbrev pub NoneBefore : Timer → List Timer → Type 0
NoneBefore t [] = ⊤
NoneBefore t (s ∷ ss) = (fires_before s t ≡ false) × NoneBefore t ss

-- The timers stand in that order: none fires before one that stands ahead of it.
abbrev pub InOrder : List Timer → Type 0
InOrder [] = ⊤
InOrder (t ∷ ts) = NoneBefore t ts × InOrder ts

-- A timer is the one of a module with an id.
abbrev pub is_of : ℕ → ℕ → Timer → Bool
is_of «module» id t = t.«module» == «module» && t.id == id

-- the timers without that one
abbrev pub without : ℕ → ℕ → List Timer → List Timer
without «module» id ts = filter (λ t. not (is_of «module» id t)) ts

-- the timers without those of a module
abbrev pub without_module : ℕ → List Timer → List Timer
without_module «module» ts = filter (λ t. not (t.«module» == «module»)) ts

-- the timers with one more, behind those that fire before it
abbrev pub inserted : Timer → List Timer → List Timer
inserted t [] = t ∷ []
inserted t (s ∷ ss) = if fires_before s t then s ∷ inserted t ss else t ∷ s ∷ ss

-- Starting a timer: it stands in the place of the one with its module and id, and nothing changes where its ticks
-- are 0 or as many others run as may.
abbrev pub started : Timer → List Timer → List Timer
started t ts =
    if not (t.ticks == 0) && nat_lt (length (without t.«module» t.id ts)) timer_limit
    then inserted t (without t.«module» t.id ts)
    else ts

-- the timer that fires now: the first one, where its due moment has come
abbrev pub firing : ℕ → List Timer → Option Timer
firing now [] = None
firing now (t ∷ ts) = if nat_le t.due now then Some t else None

-- The moment of none of them has come.
abbrev pub AreToCome : ℕ → List Timer → Type 0
AreToCome now ts = AllByRecursion (λ (t : Timer). now < t.due) ts

-- the timers after that: one that repeats starts anew, any other is gone
abbrev pub after_firing : ℕ → List Timer → List Timer
after_firing now [] = []
after_firing now (t ∷ ts) =
    if nat_le t.due now
    then (if t.again then inserted (record t { due = now + t.ticks }) ts else ts)
    else t ∷ ts
