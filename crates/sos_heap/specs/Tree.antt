-- The index of holes: a tree over the blocks, as an array. The root is node 1, the halves of node i are the nodes
-- 2 * i and 2 * i + 1, and each block has a leaf. There are more leaves than blocks, and the blocks beyond the heap
-- are not free.
use Rattle.std.specs.Prelude.{◌≡◌, ℕ, ◌+◌, ◌*◌, ◌≤◌, ◌<◌, ◌⊎◌, ◌&&◌, Bool, nat_le, nat_lt, if◌then◌else◌, List, length, get_or, Option, None, Some}
use Rattle.mote_layout.specs.Blocks.{AreBlocks}
use Rattle.mote_layout.specs.Fit.{fits}
use Rattle.mote_layout.specs.declared.segment.Segment.{Segment}
use Rattle.sos_heap.specs.declared.runs.Runs.{Runs}
use Rattle.sos_heap.specs.Runs.{AllFree, joined, leaf}

-- how many leaves the tree has, and how many nodes with the one before the root that is not used
abbrev pub leaf_count : ℕ
leaf_count = 512

abbrev pub node_count : ℕ
node_count = 1024

-- the node with a number
abbrev pub node : List Runs → ℕ → Runs
node nodes i = get_or nodes i (record { width = 0; left = 0; right = 0; longest = 0 })

-- The nodes are a tree over a test of free blocks: each leaf is that of its block, and each inner node is the join of
-- its halves, but for the open nodes, those from `low` on, below `end`.
pub record IsTree (free : ℕ → Bool) (nodes : List Runs) (low end : ℕ) : Type 0 where
  pub size : length nodes ≡ node_count
  pub leaves : (block : ℕ) → block < leaf_count → node nodes (leaf_count + block) ≡ leaf (free block)
  pub joins : (i : ℕ) → 1 ≤ i → i < leaf_count → (i < low) ⊎ (end ≤ i)
      → node nodes i ≡ joined (node nodes (2 * i)) (node nodes (2 * i + 1))

-- the test of free blocks that the leaves give
abbrev pub free_at : List Runs → ℕ → Bool
free_at nodes block = nat_lt 0 (node nodes (leaf_count + block)).longest

-- a test of blocks where those from `first` on, below `end`, have one answer
abbrev pub changed : (ℕ → Bool) → ℕ → ℕ → Bool → ℕ → Bool
changed free first end answer block = if nat_le first block && nat_lt block end then answer else free block

-- The `count` blocks from `first` on are the lowest that are free.
pub record IsLowest (free : ℕ → Bool) (count first : ℕ) : Type 0 where
  pub to : first + count ≤ leaf_count
  pub all : AllFree free first count
  pub least : (lower : ℕ) → lower < first → ¬ AllFree free lower count

-- the answer to a request for `count` blocks: the lowest that are free, or none where no run is long enough
abbrev pub IsAnswer : (ℕ → Bool) → ℕ → Option ℕ → Type 0
IsAnswer free count None = (first : ℕ) → first + count ≤ leaf_count → ¬ AllFree free first count
IsAnswer free count (Some first) = IsLowest free count first

-- A block is one of the heap's and in no segment.
abbrev pub free_in : List Segment → ℕ → Bool
free_in ss block = fits ss block 1

-- The tree is that of the segments' free blocks.
pub record IsIndexed (ss : List Segment) (nodes : List Runs) : Type 0 where
  pub blocks : AreBlocks ss
  pub tree : IsTree (free_in ss) nodes 0 0
