-- How a map keeps its segments: one byte a block, with its owner in the lowest four bits, a bit that says that a
-- segment starts with it, and a bit that says that it is used. The byte of a free block is 0.
use Rattle.std.specs.Prelude.{◌≡◌, ℕ, suc, ◌+◌, ◌%◌, ◌≤◌, ◌<◌, ◌⊎◌, ◌==◌, ◌&&◌, Bool, true, false, nat_le, nat_lt, List, [], ◌∷◌, length, get_or, Option, None, Some, if◌then◌else◌}
use Rattle.mote_layout.specs.Memory.{block_count, heap_start, heap_end, kernel}
use Rattle.mote_layout.specs.Blocks.{AreBlocks, block_of}
use Rattle.mote_layout.specs.declared.segment.Segment.{Segment}

-- the weights of the two bits above the owner
abbrev pub start_bit : ℕ
start_bit = 16

abbrev pub used_bit : ℕ
used_bit = 32

-- the byte of a segment's first block, and of its further ones
abbrev pub first_mark : ℕ → ℕ
first_mark owner = used_bit + start_bit + owner

abbrev pub further_mark : ℕ → ℕ
further_mark owner = used_bit + owner

-- A segment starts with the block of this byte.
abbrev pub starts : ℕ → Bool
starts byte = nat_le (used_bit + start_bit) byte

-- The block of this byte is a further one of its segment.
abbrev pub goes_on : ℕ → Bool
goes_on byte = nat_le used_bit byte && nat_lt byte (used_bit + start_bit)

-- how many of the bytes, from the first on, are of further blocks
abbrev pub further : List ℕ → ℕ
further [] = 0
further (x ∷ xs) = if goes_on x then suc (further xs) else 0

-- the segments that bytes tell, where the first byte is that of a given block
abbrev pub segments_from : ℕ → List ℕ → List Segment
segments_from block [] = []
segments_from block (x ∷ xs) =
    if starts x
    then record { first = block; count = suc (further xs); owner = x % start_bit } ∷ segments_from (suc block) xs
    else segments_from (suc block) xs

-- A segment has a block.
abbrev pub has_block : Segment → ℕ → Bool
has_block s block = nat_le s.first block && nat_lt block (s.first + s.count)

-- the byte of a block of a segment
abbrev pub mark_in : Segment → ℕ → ℕ
mark_in s block = if s.first == block then first_mark s.owner else further_mark s.owner

-- the byte of a block
abbrev pub mark_at : List Segment → ℕ → ℕ
mark_at [] block = 0
mark_at (s ∷ ss) block = if has_block s block then mark_in s block else mark_at ss block

-- Bytes stand for segments: they are *Blocks*, and each block has its byte.
pub record StandFor (ss : List Segment) (bytes : List ℕ) : Type 0 where
  pub size : length bytes ≡ block_count
  pub blocks : AreBlocks ss
  pub each : (block : ℕ) → block < block_count → get_or bytes block 0 ≡ mark_at ss block

-- the byte of a block once a segment is written over others
abbrev pub painted : Segment → List ℕ → ℕ → ℕ
painted s bytes block = if has_block s block then mark_in s block else get_or bytes block 0

-- the byte of a block once those from `first` on, below `end`, are freed
abbrev pub wiped : ℕ → ℕ → List ℕ → ℕ → ℕ
wiped first end bytes block = if nat_le first block && nat_lt block end then 0 else get_or bytes block 0

-- The segment that starts with the block `first` ends before the block `end`.
pub record EndsBefore (bytes : List ℕ) (first end : ℕ) : Type 0 where
  pub some : first < end
  pub within : end ≤ block_count
  pub inside : (b : ℕ) → first < b → b < end → goes_on (get_or bytes b 0) ≡ true
  pub behind : end < block_count → goes_on (get_or bytes end 0) ≡ false

-- A segment stands in the bytes: its blocks have their bytes, and no further one follows them.
pub record StandsIn (bytes : List ℕ) (s : Segment) : Type 0 where
  pub ends : EndsBefore bytes s.first (s.first + s.count)
  pub owner : s.owner ≤ kernel
  pub start : get_or bytes s.first 0 ≡ first_mark s.owner
  pub further : (b : ℕ) → s.first < b → b < s.first + s.count → get_or bytes b 0 ≡ further_mark s.owner

-- What bytes tell of an address: that it is outside the heap or its block is free, or the segment in which it lies.
abbrev pub Tells : List ℕ → ℕ → Option Segment → Type 0
Tells bytes address None = (address < heap_start) ⊎ ((heap_end < address) ⊎ (get_or bytes (block_of address) 0 ≡ 0))
Tells bytes address (Some s) =
    (heap_start ≤ address) × (address ≤ heap_end)
    × (s.first ≤ block_of address) × (block_of address < s.first + s.count) × StandsIn bytes s
