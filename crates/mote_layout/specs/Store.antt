-- Where a domain may store.
use Rattle.std.specs.Prelude.{ℕ, ◌<◌, ◌≤◌, ◌⊎◌, ◌&&◌, ◌||◌, Bool, nat_lt, nat_le, List}
use Rattle.mote_layout.specs.Blocks.{Owns, owns}
use Rattle.mote_layout.specs.declared.segment.Segment.{Segment}

-- *Permitted store*: the address lies in a block of the domain, or on the stack above the stack pointer
-- and not above the bound that the domain was entered with.
abbrev pub MayStore : List Segment → ℕ → ℕ → ℕ → ℕ → Type 0
MayStore ss domain sp bound address = Owns ss domain address ⊎ ((sp < address) × (address ≤ bound))

-- `MayStore` as a test
abbrev pub may_store : List Segment → ℕ → ℕ → ℕ → ℕ → Bool
may_store ss domain sp bound address = owns ss domain address || (nat_lt sp address && nat_le address bound)
