-- Blocks of the kernel's that are on their way: where their bytes are, and how the kernel's entries change. Who holds
-- them has to know that they are exactly the kernel's entries, each once. So the entries are counted by their first
-- block: a list of payloads is all of them, each once, where as many payloads begin with a block as entries do, for
-- every block.
use Rattle.std.specs.Prelude.{◌≡◌, ◌≢◌, ℕ, ◌+◌, ◌*◌, ◌≤◌, ◌==◌, ◌&&◌, List, length, filter, IsSomeAnd, if◌then◌else◌}
use Rattle.mote_layout.specs.Memory.{block_bytes, kernel}
use Rattle.mote_layout.specs.Blocks.{starting_at}
use Rattle.mote_layout.specs.declared.segment.Segment.{Segment}

-- The bytes of a parcel: they begin with a block, and there are `len` of them.
pub record Payload : Type 0 where
  pub block : ℕ
  pub len : ℕ

-- A payload is a parcel of the heap with these segments: what begins with its block is the kernel's and has its bytes.
abbrev pub IsParcelOf : List Segment → Payload → Type 0
IsParcelOf ss p = IsSomeAnd (starting_at ss p.block) (λ s. (s.owner ≡ kernel) × (p.len ≤ block_bytes * s.count))

-- how many entries of the kernel begin with a block
abbrev pub kernel_entries : ℕ → List Segment → ℕ
kernel_entries block ss = length (filter (λ s. s.first == block && s.owner == kernel) ss)

-- how often a payload names a block
abbrev pub naming : ℕ → Payload → ℕ
naming block p = if p.block == block then 1 else 0

-- The kernel has the entries that it had, and what was a parcel is one.
pub record KernelStays (old new : List Segment) : Type 0 where
  pub entries : (block : ℕ) → kernel_entries block new ≡ kernel_entries block old
  pub parcels : (q : Payload) → IsParcelOf old q → IsParcelOf new q

-- The kernel has one entry more, the payload's, which is a parcel now. No entry of the kernel began there.
pub record KernelGains (p : Payload) (old new : List Segment) : Type 0 where
  pub entries : (block : ℕ) → kernel_entries block new ≡ kernel_entries block old + naming block p
  pub parcels : (q : Payload) → IsParcelOf old q → IsParcelOf new q
  pub gained : IsParcelOf new p
  pub alone : kernel_entries p.block old ≡ 0

-- The kernel has one entry fewer, the payload's. No entry of the kernel begins there now.
pub record KernelLoses (p : Payload) (old new : List Segment) : Type 0 where
  pub entries : (block : ℕ) → kernel_entries block new + naming block p ≡ kernel_entries block old
  pub parcels : (q : Payload) → q.block ≢ p.block → IsParcelOf old q → IsParcelOf new q
  pub alone : kernel_entries p.block new ≡ 0
