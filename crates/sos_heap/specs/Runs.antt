-- The runs of free blocks in a stretch of neighbouring blocks, over any test of which blocks are free.
use Rattle.std.specs.Prelude.{◌≡◌, ℕ, ◌+◌, ◌-◌, ◌^◌, ◌≤◌, ◌<◌, min, max, Bool, true, false, nat_lt, if◌then◌else◌}
use Rattle.sos_heap.specs.declared.runs.Runs.{Runs}

-- The `count` blocks from `first` on are free.
abbrev pub AllFree : (ℕ → Bool) → ℕ → ℕ → Type 0
AllFree free first count = (k : ℕ) → first ≤ k → k < first + count → free k ≡ true

-- Of the `width` blocks from `low` on, the first `run` are free, and the next one is not.
pub record IsLeftRun (free : ℕ → Bool) (low width run : ℕ) : Type 0 where
  pub within : run ≤ width
  pub all : AllFree free low run
  pub end : (k : ℕ) → k ≡ low + run → k < low + width → free k ≡ false

-- Of the `width` blocks from `low` on, the last `run` are free, and the one before them is not.
pub record IsRightRun (free : ℕ → Bool) (low width run : ℕ) : Type 0 where
  pub within : run ≤ width
  pub all : (first : ℕ) → first + run ≡ low + width → AllFree free first run
  pub end : (k : ℕ) → k + 1 + run ≡ low + width → low ≤ k → free k ≡ false

-- Among the `width` blocks from `low` on stand `run` free ones side by side, and nowhere more.
pub record IsLongestRun (free : ℕ → Bool) (low width run : ℕ) : Type 0 where
  pub place : ℕ
  pub from : low ≤ place
  pub to : place + run ≤ low + width
  pub all : AllFree free place run
  pub most : (first count : ℕ) → low ≤ first → first + count ≤ low + width → AllFree free first count → count ≤ run

-- The three runs are those of the stretch from `low` on.
pub record AreRuns (free : ℕ → Bool) (low : ℕ) (n : Runs) : Type 0 where
  pub left : IsLeftRun free low n.width n.left
  pub right : IsRightRun free low n.width n.right
  pub longest : IsLongestRun free low n.width n.longest

-- the sum of two runs, which stops at the last value of a u16; no runs of a heap come near it
abbrev pub run_sum : ℕ → ℕ → ℕ
run_sum a b = min (a + b) (2 ^ 16 - 1)

-- the runs of two neighbouring stretches, as those of both
abbrev pub joined : Runs → Runs → Runs
joined a b =
    record {
      width = run_sum a.width b.width;
      left = if nat_lt a.left a.width then a.left else run_sum a.width b.left;
      right = if nat_lt b.right b.width then b.right else run_sum a.right b.width;
      longest = max (max a.longest b.longest) (run_sum a.right b.left);
    }

-- the runs of one block
abbrev pub one_if : Bool → ℕ
one_if free = if free then 1 else 0

abbrev pub leaf : Bool → Runs
leaf free = record { width = 1; left = one_if free; right = one_if free; longest = one_if free }
