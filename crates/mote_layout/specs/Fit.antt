-- Where a request for blocks is placed: the lowest run of free blocks that is long enough.
use Rattle.std.specs.Prelude.{ℕ, zero, suc, ◌+◌, ◌/◌, ◌-◌, ◌<◌, ◌||◌, ◌&&◌, Bool, cond, nat_le, List, Option, Some, None}
use Rattle.std.specs.List.{list_all}
use Rattle.mote_layout.specs.Memory.{block_count, block_bytes}
use Rattle.mote_layout.specs.Blocks.{Fits}
use Rattle.mote_layout.specs.declared.segment.Segment.{Segment}

-- how many blocks a request of so many bytes asks for: as many as hold them
abbrev pub blocks_for : ℕ → ℕ
blocks_for bytes = (bytes + (block_bytes - 1)) / block_bytes

-- The blocks from `first` on are the lowest that a request for `count` blocks can have.
pub record IsLeastFit (ss : List Segment) (count first : ℕ) : Type 0 where
  pub fits : Fits ss first count
  pub least : (lower : ℕ) → lower < first → ¬ Fits ss lower count

-- `Fits` as a test
abbrev pub fits : List Segment → ℕ → ℕ → Bool
fits ss first count =
    nat_le (first + count) block_count && list_all (λ s. nat_le (s.first + s.count) first || nat_le (first + count) s.first) ss

-- the least of the `count` numbers from `low` on that passes a test
abbrev pub least_of : (ℕ → Bool) → ℕ → ℕ → Option ℕ
least_of test low zero = None
least_of test low (suc count) = cond (test low) (Some low) (least_of test (suc low) count)

-- *Least fit*: the first block of a request for `count` blocks, or none where no run is long enough
unfoldable pub fit : List Segment → ℕ → Option ℕ
fit ss count = least_of (λ first. fits ss first count) 0 block_count
