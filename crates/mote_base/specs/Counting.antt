-- Numbers of calls, from 0.
use Rattle.std.specs.Prelude.{ℕ, ◌+◌, ◌-◌, ◌^◌, min, Bool, ◌==◌, List}
use Rattle.std.specs.List.{list_any}

-- One of the numbers is this one.
abbrev pub lists : List ℕ → ℕ → Bool
lists numbers number = list_any (λ n. n == number) numbers

-- The number behind this one, in a count that stops at the last value of a u64.
abbrev pub next_count : ℕ → ℕ
next_count n = min (n + 1) (2 ^ 64 - 1)
