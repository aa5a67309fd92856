-- Requests for bytes of the heap, and the blocks that the calls name by an address. What is given out as one is
-- one segment of the list, of as many blocks as hold the bytes asked for.
use Rattle.std.specs.Prelude.{◌≡◌, ℕ, ◌==◌, ◌+◌, ◌*◌, ◌≤◌, ◌⊎◌, Bool, false, List, Option, None, find, option_map, IsSomeAnd, if◌then◌else◌}
use Rattle.std.specs.Option.{option_map_or}
use Rattle.mote_layout.specs.Memory.{block_bytes, heap_start, heap_end}
use Rattle.mote_layout.specs.Blocks.{block_address, Fits, inserted}
use Rattle.mote_layout.specs.Fit.{blocks_for, fit}
use Rattle.mote_layout.specs.Parcels.{Payload}
use Rattle.mote_layout.specs.declared.segment.Segment.{Segment}

-- the first block of a request for so many bytes: the least fit for its blocks; none for a request of 0 bytes
abbrev pub place_for : List Segment → ℕ → Option ℕ
place_for ss size = if size == 0 then None else fit ss (blocks_for size)

-- There is no place for so many bytes: they are none, or no run of free blocks is long enough.
abbrev pub HasNoPlace : List Segment → ℕ → Type 0
HasNoPlace ss size = (size ≡ 0) ⊎ ((block : ℕ) → ¬ Fits ss block (blocks_for size))

-- the address of a request for so many bytes
abbrev pub address_for : List Segment → ℕ → Option ℕ
address_for ss size = option_map (λ block. block_address block) (place_for ss size)

-- The blocks of a request for so many bytes that is placed at an address are blocks of the heap.
abbrev pub LiesInHeap : ℕ → ℕ → Type 0
LiesInHeap size address = (heap_start ≤ address) × (address + block_bytes * blocks_for size ≤ heap_end + 1)

-- the payload of a request for so many bytes
abbrev pub payload_for : List Segment → ℕ → Option Payload
payload_for ss size = option_map (λ (block : ℕ). record { block = block; len = size }) (place_for ss size)

-- the segment of a request for so many bytes that begins with a block
abbrev pub segment_for : ℕ → ℕ → ℕ → Segment
segment_for owner size block = record { first = block; count = blocks_for size; owner = owner }

-- the segments once an owner's request was met, or the same ones where there is no place for it
abbrev pub served : ℕ → ℕ → List Segment → List Segment
served owner size ss = option_map_or (λ block. inserted (segment_for owner size block) ss) (place_for ss size) ss

-- the segment that begins at an address, if there is one
abbrev pub beginning_at : List Segment → ℕ → Option Segment
beginning_at ss address = find (λ s. block_address s.first == address) ss

-- An address is the start of what this owner was given.
abbrev pub Holds : List Segment → ℕ → ℕ → Type 0
Holds ss owner address = IsSomeAnd (beginning_at ss address) (λ s. s.owner ≡ owner)

-- `Holds` as a test
abbrev pub holds : List Segment → ℕ → ℕ → Bool
holds ss owner address = option_map_or (λ (s : Segment). s.owner == owner) (beginning_at ss address) false

-- An address is the start of what this owner was given, and that has so many bytes at least.
abbrev pub HoldsBytes : List Segment → ℕ → ℕ → ℕ → Type 0
HoldsBytes ss owner address bytes =
    IsSomeAnd (beginning_at ss address) (λ s. (s.owner ≡ owner) × (bytes ≤ block_bytes * s.count))
