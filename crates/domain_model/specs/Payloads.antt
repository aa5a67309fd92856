-- The payloads of messages and the constants of modules, and the blocks of the heap that hold them.
use Rattle.std.specs.Prelude.{⊤, ◌≡◌, ℕ, ◌+◌, ◌==◌, ◌*◌, ◌&&◌, nat_le, Bool, false, List, [], ◌∷◌, map, Option, None, Some, if◌then◌else◌}
use Rattle.std.specs.List.{AllByRecursion}
use Rattle.std.specs.Option.{option_map_or}
use Rattle.mote_base.specs.Messages.{Lists, names}
use Rattle.mote_layout.specs.Memory.{block_bytes}
use Rattle.mote_layout.specs.Blocks.{block_of, without}
use Rattle.mote_layout.specs.Parcels.{Payload, IsParcelOf, kernel_entries, naming}
use Rattle.mote_layout.specs.Requests.{beginning_at}
use Rattle.mote_layout.specs.declared.segment.Segment.{Segment}
use Rattle.domain_model.specs.State.{Message, Loaded}

-- `HoldsBytes` as a test: an address is the start of what this owner was given, and that has so many bytes at least.
abbrev pub holds_bytes : List Segment → ℕ → ℕ → ℕ → Bool
holds_bytes ss owner address bytes =
    option_map_or (λ (s : Segment). s.owner == owner && nat_le bytes (block_bytes * s.count)) (beginning_at ss address) false

-- the payload of the message in hand, if there is a message and it has one that was not taken
abbrev pub load_of : Option Message → Option Payload
load_of None = None
load_of (Some m) = m.load

-- the blocks without that of a payload
abbrev pub without_load : Option Payload → List Segment → List Segment
without_load None ss = ss
without_load (Some p) ss = without p.block ss

-- the blocks without those of the payloads of the messages that name an id
abbrev pub without_payloads : ℕ → List Message → List Segment → List Segment
without_payloads id [] ss = ss
without_payloads id (m ∷ ms) ss = without_payloads id ms (if names id m then without_load m.load ss else ss)

-- how often a block is named: by a payload, by those of messages, and by all messages that wait or are in hand
abbrev pub naming_of : ℕ → Option Payload → ℕ
naming_of block None = 0
naming_of block (Some p) = naming block p

abbrev pub naming_in : ℕ → List Message → ℕ
naming_in block [] = 0
naming_in block (m ∷ ms) = naming_of block m.load + naming_in block ms

abbrev pub namings : ℕ → Lists Message → Option Message → ℕ
namings block queues hand = naming_in block queues.high + naming_in block queues.low + naming_of block (load_of hand)

-- What begins at a module's address of constants, as a parcel; none at 0. How many of its bytes are constants is not
-- kept.
abbrev pub kept_at : ℕ → Option Payload
kept_at address = if address == 0 then None else Some (record { block = block_of address; len = 0 })

-- the constants of all modules, in the order of their loads
abbrev pub constants_kept : List Loaded → List (Option Payload)
constants_kept modules = map (λ (m : Loaded). kept_at m.constants) modules

-- how often a block is named by parcels that no message carries
abbrev pub naming_kept : ℕ → List (Option Payload) → ℕ
naming_kept block [] = 0
naming_kept block (o ∷ os) = naming_of block o + naming_kept block os

-- A payload, where there is one, is a parcel of the heap: its block is the kernel's, and has its bytes.
abbrev pub IsHeld : List Segment → Option Payload → Type 0
IsHeld ss None = ⊤
IsHeld ss (Some p) = IsParcelOf ss p

abbrev pub HasHeld : List Segment → Message → Type 0
HasHeld ss m = IsHeld ss m.load

-- The kernel's blocks are exactly the payloads of the messages that wait and the one in hand that was not taken, and
-- what is kept beside the messages, each once; and a payload is no longer than its block.
pub record HoldsPayloads (ss : List Segment) (queues : Lists Message) (hand : Option Message) (kept : List (Option Payload)) : Type 0 where
  pub once : (block : ℕ) → kernel_entries block ss ≡ namings block queues hand + naming_kept block kept
  pub high : AllByRecursion (HasHeld ss) queues.high
  pub low : AllByRecursion (HasHeld ss) queues.low
  pub in_hand : IsHeld ss (load_of hand)
  pub beside : AllByRecursion (IsHeld ss) kept

-- A payload, where there is one, has as many bytes as its message says.
abbrev pub IsAsLong : ℕ → Option Payload → Type 0
IsAsLong len None = ⊤
IsAsLong len (Some p) = p.len ≡ len
