-- Where a module of a sealed image may load.
use Rattle.std.specs.Prelude.{◌≡◌, ℕ, ◌+◌, ◌<◌, ◌≤◌, ◌⊎◌, ◌==◌, ◌&&◌, ◌||◌, Bool, true, nat_lt, nat_le, List, [], ◌∷◌}
use Rattle.std.specs.List.{list_any}
use Rattle.mote_layout.specs.Memory.{ram_start, message_frame, message_frame_bytes, kernel}
use Rattle.mote_layout.specs.Blocks.{block_address, Covers, covers}
use Rattle.mote_layout.specs.Store.{MayStore, may_store}
use Rattle.mote_layout.specs.declared.segment.Segment.{Segment}

-- The address is one of the processor's own below the SRAM, or in the message frame where that is the module's to read.
abbrev pub IsOpen : Bool → ℕ → Type 0
IsOpen frame address =
    (address < ram_start)
    ⊎ ((frame ≡ true) × (message_frame ≤ address) × (address < message_frame + message_frame_bytes))

-- `IsOpen` as a test
abbrev pub is_open : Bool → ℕ → Bool
is_open frame address =
    nat_lt address ram_start
    || (frame && (nat_le message_frame address && nat_lt address (message_frame + message_frame_bytes)))

-- A segment is the block of constants that begins at an address: it is the kernel's and begins there.
abbrev pub AreConstants : ℕ → Segment → Type 0
AreConstants constants s = (s.owner ≡ kernel) × (block_address s.first ≡ constants)

-- `AreConstants` as a test
abbrev pub are_constants : ℕ → Segment → Bool
are_constants constants s = s.owner == kernel && block_address s.first == constants

-- An address lies in the block of constants. No segment begins at 0, so a module whose constants address is 0 has none.
abbrev pub IsConstant : List Segment → ℕ → ℕ → Type 0
IsConstant [] constants address = ⊥
IsConstant (s ∷ ss) constants address = (AreConstants constants s × Covers s address) ⊎ IsConstant ss constants address

-- `IsConstant` as a test
abbrev pub is_constant : List Segment → ℕ → ℕ → Bool
is_constant ss constants address = list_any (λ s. are_constants constants s && covers s address) ss

-- *Permitted load*: the address is open, or the domain may store there, or it lies in the module's block of constants.
abbrev pub MayLoad : List Segment → ℕ → Bool → ℕ → ℕ → ℕ → ℕ → Type 0
MayLoad ss domain frame constants sp bound address =
    IsOpen frame address ⊎ (MayStore ss domain sp bound address ⊎ IsConstant ss constants address)

-- `MayLoad` as a test
abbrev pub may_load : List Segment → ℕ → Bool → ℕ → ℕ → ℕ → ℕ → Bool
may_load ss domain frame constants sp bound address =
    is_open frame address || (may_store ss domain sp bound address || is_constant ss constants address)
