-- The blocks of the heap, the messages that wait, the message in hand, and the parcels of the modules' constants.
use Rattle.std.specs.Prelude.{ℕ, ◌==◌, Bool, true, false, List, Option, Some, None, replicate, slice_index_or, slice_set}
use Rattle.mote_base.specs.Messages.{Lists, appended, in_order, unnamed}
use Rattle.mote_layout.specs.Memory.{domain_count, kernel}
use Rattle.mote_layout.specs.Blocks.{handed_over, without_owner}
use Rattle.mote_layout.specs.Parcels.{Payload}
use Rattle.mote_layout.specs.Requests.{address_for, payload_for, served}
use Rattle.mote_layout.specs.declared.segment.Segment.{Segment}
use Rattle.domain_model.specs.State.{Message}
use Rattle.domain_model.specs.Calls.{carrying}
use Rattle.domain_model.specs.Payloads.{load_of, without_load, without_payloads}
use Rattle.kernel_call.specs.declared.place.Place.{Place}

-- The parcels of the constants have a place for each domain.
pub record MailState : Type 0 where
  pub blocks : List Segment
  pub queues : Lists Message
  pub hand : Option Message
  pub kept : List (Option Payload)

-- no domain's module has constants
abbrev pub none_kept : List (Option Payload)
none_kept = replicate domain_count None

-- what is kept for a domain
abbrev pub kept_for : List (Option Payload) → ℕ → Option Payload
kept_for kept domain = slice_index_or kept domain None

-- A message waits whose bytes are in a block that became the kernel's, or nothing changed.
abbrev pub sent_in : Bool → Message → ℕ → MailState → MailState
sent_in true m block s =
    record s { blocks = handed_over block kernel s.blocks; queues = appended m.high (carrying m block) s.queues }
sent_in false m block s = s

-- the message in hand, its payload gone
abbrev pub unloaded : Option Message → Option Message
unloaded None = None
unloaded (Some m) = Some (record m { load = None })

-- The payload in hand, if there is one, becomes a domain's.
abbrev pub settled_to : Option Payload → ℕ → MailState → MailState
settled_to None domain s = s
settled_to (Some p) domain s = record s { blocks = handed_over p.block domain s.blocks; hand = unloaded s.hand }

-- No message is in hand any more, and the payload that it still had is free.
abbrev pub laid_down : MailState → MailState
laid_down s = record s { blocks = without_load (load_of s.hand) s.blocks; hand = None }

-- Nothing is left of what is kept for a domain, of the messages that name an id, nor of the domain's blocks.
abbrev pub cleared : ℕ → ℕ → MailState → MailState
cleared id domain s =
    record s {
      blocks = without_owner domain (without_payloads id (in_order s.queues) (without_load (kept_for s.kept domain) s.blocks));
      queues = unnamed id s.queues;
      kept = slice_set s.kept domain None;
    }

-- Where the block for so many bytes begins: 0 where none is asked for, and none where there is no place.
abbrev pub begins_where : Bool → List Segment → ℕ → Option ℕ
begins_where true ss size = Some 0
begins_where false ss size = address_for ss size

abbrev pub begins : List Segment → ℕ → Option ℕ
begins ss size = begins_where (size == 0) ss size

-- Where a module's two blocks begin: the domain's for its state, and then the kernel's for its constants in what is
-- left.
abbrev pub placed_at : Option ℕ → ℕ → Option Place
placed_at None state = None
placed_at (Some constants) state = Some (record { state = state; constants = constants })

abbrev pub placed_in : Option ℕ → List Segment → ℕ → Option Place
placed_in None ss constants = None
placed_in (Some state) ss constants = placed_at (begins ss constants) state

abbrev pub places : List Segment → ℕ → ℕ → ℕ → Option Place
places ss domain state constants = placed_in (begins ss state) (served domain state ss) constants

-- with a parcel that is kept for a domain, if there is one
abbrev pub keeping : Option Payload → ℕ → List (Option Payload) → List (Option Payload)
keeping None domain kept = kept
keeping (Some p) domain kept = slice_set kept domain (Some p)

-- Both blocks are given out.
abbrev pub placed : ℕ → ℕ → ℕ → MailState → MailState
placed domain state constants s =
    record s {
      blocks = served kernel constants (served domain state s.blocks);
      kept = keeping (payload_for (served domain state s.blocks) constants) domain s.kept;
    }
