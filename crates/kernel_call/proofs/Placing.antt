-- A module's two blocks, as the kernel places them and as the machine gives them.
use Rattle.std.proofs.Common.{◌≡◌, ◌∙◌, refl, sym, ap, ℕ, ◌==◌, Bool, true, false, List, [], ◌∷◌, ◌++◌, length, Option, Some, None}
use Rattle.std.specs.Option.{option_map}
use Rattle.std.proofs.lemmas.Option.{none-some, same_Some}
use Rattle.mote_layout.specs.Memory.{kernel}
use Rattle.mote_layout.specs.Blocks.{block_address}
use Rattle.mote_layout.specs.Parcels.{Payload}
use Rattle.mote_layout.specs.Requests.{address_for, payload_for, place_for, served}
use Rattle.mote_layout.specs.declared.segment.Segment.{Segment}
use Rattle.domain_model.specs.State.{KernelState, Processor, payload_address}
use Rattle.domain_model.specs.Modules.{free_domain, is_loaded}
use Rattle.domain_model.specs.Given.{Given, given_at, with_given}
use Rattle.domain_model.specs.Turn.{constants_given, constants_where, state_where}
use Rattle.kernel_call.specs.declared.admitted.Admitted.TheVariants.{Placed, Room}
use Rattle.kernel_call.specs.declared.place.Place.{Place}
use Rattle.kernel_call.specs.Admission.{Admission, Newcomer, admission, admit_beside, admit_given, admit_in, admit_new, seat_of}
use Rattle.kernel_call.specs.Mail.{begins, begins_where, placed_at, placed_in, places}
use Rattle.kernel_call.specs.Values.{readied, with_cleared, with_filled}

served_none : (owner size : ℕ) (ss : List Segment) → (size == 0) ≡ true → served owner size ss ≡ ss
served_none owner size ss none = rw none refl

-- What is given by its address: the block of the state, and that of the constants.
abbrev state_from : Bool → KernelState → ℕ → ℕ → ℕ → Given
state_from none k domain size address =
    record { blocks = served domain size k.blocks; memory = (with_cleared none address size k.processor).memory; address = address }

abbrev constants_from : Bool → KernelState → List ℕ → ℕ → Given
constants_from none k bytes address =
    record { blocks = served kernel (length bytes) k.blocks; memory = (with_filled none address bytes k.processor).memory; address = address }

state_begins : (none : Bool) (k : KernelState) (domain size : ℕ) → (size == 0) ≡ none → state_where none k domain size ≡ option_map (λ (a : ℕ). state_from none k domain size a) (begins_where none k.blocks size)
state_begins true k domain size is =
    ap (λ (ss : List Segment). Some (record { blocks = ss; memory = k.processor.memory; address = 0 })) (sym (served_none domain size k.blocks is))
state_begins false k domain size is = by_address (address_for k.blocks size)
  where
    by_address : (o : Option ℕ) → given_at o k domain size ≡ option_map (λ (a : ℕ). state_from false k domain size a) o
    by_address None = refl
    by_address (Some a) = refl

constants_begin : (none : Bool) (k : KernelState) (bytes : List ℕ) → (length bytes == 0) ≡ none → constants_where none k bytes ≡ option_map (λ (a : ℕ). constants_from none k bytes a) (begins_where none k.blocks (length bytes))
constants_begin true k bytes is =
    ap (λ (ss : List Segment). Some (record { blocks = ss; memory = k.processor.memory; address = 0 })) (sym (served_none kernel (length bytes) k.blocks is))
constants_begin false k bytes is = by_address (address_for k.blocks (length bytes))
  where
    by_address : (o : Option ℕ) → constants_given (given_at o k kernel (length bytes)) bytes ≡ option_map (λ (a : ℕ). constants_from false k bytes a) o
    by_address None = refl
    by_address (Some a) = refl

-- Nothing but the memory changes.
memory_alone : (no_state no_constants : Bool) (state constants size : ℕ) (bytes : List ℕ) (p : Processor) → record p { memory = (with_filled no_constants constants bytes (record p { memory = (with_cleared no_state state size p).memory })).memory } ≡ with_filled no_constants constants bytes (with_cleared no_state state size p)
memory_alone true true state constants size bytes p = refl
memory_alone true false state constants size bytes p = refl
memory_alone false true state constants size bytes p = refl
memory_alone false false state constants size bytes p = refl

-- The module comes in where its blocks have places.
abbrev pub admission_at : Option Place → Newcomer → ℕ → KernelState → Admission
admission_at None m domain k = record { kernel = k; answer = Room }
admission_at (Some place) m domain k =
    record {
      kernel = record k {
        processor = readied place m.state_size m.constants k.processor;
        blocks = served kernel (length m.constants) (served domain m.state_size k.blocks);
        modules = k.modules ++ seat_of m domain place.state place.constants ∷ [];
      };
      answer = Placed domain;
    }

module _ (k : KernelState) (m : Newcomer) (domain : ℕ) where
  abbrev beside : ℕ → KernelState
  beside a = with_given k (state_from (m.state_size == 0) k domain m.state_size a)

  by_constants : (a : ℕ) (o : Option ℕ) → admit_beside (option_map (λ (c : ℕ). constants_from (length m.constants == 0) (beside a) m.constants c) o) a m domain k ≡ admission_at (placed_at o a) m domain k
  by_constants a None = refl
  by_constants a (Some c) =
      ap (λ (p : Processor). record {
        kernel = record k {
          processor = p;
          blocks = served kernel (length m.constants) (served domain m.state_size k.blocks);
          modules = k.modules ++ seat_of m domain a c ∷ [];
        };
        answer = Placed domain;
      }) (memory_alone (m.state_size == 0) (length m.constants == 0) a c m.state_size m.constants k.processor)

  by_state : (o : Option ℕ) → admit_given (option_map (λ (a : ℕ). state_from (m.state_size == 0) k domain m.state_size a) o) m domain k ≡ admission_at (placed_in o (served domain m.state_size k.blocks) (length m.constants)) m domain k
  by_state None = refl
  by_state (Some a) =
      ap (λ (o : Option Given). admit_beside o a m domain k) (constants_begin (length m.constants == 0) (beside a) m.constants refl)
      ∙ by_constants a (begins (served domain m.state_size k.blocks) (length m.constants))

  pub admitted_at : is_loaded k.modules m.face.id ≡ false → free_domain k.modules ≡ Some domain → admission k m ≡ admission_at (places k.blocks domain m.state_size (length m.constants)) m domain k
  admitted_at new free =
      ap (λ (b : Bool). admit_new b m k) new
      ∙ ap (λ (o : Option ℕ). admit_in o m k) free
      ∙ ap (λ (o : Option Given). admit_given o m domain k) (state_begins (m.state_size == 0) k domain m.state_size refl)
      ∙ by_state (begins k.blocks m.state_size)

-- What is kept where a module's blocks have places begins where its constants do.
module _ (ss : List Segment) (domain state constants : ℕ) (place : Place) where
  abbrev now : List Segment
  now = served domain state ss

  abbrev payload_at : ℕ → Payload
  payload_at b = record { block = b; len = constants }

  kept_by : (a : ℕ) (o : Option ℕ) → Some place ≡ placed_at (option_map (λ (b : ℕ). block_address b) o) a → payload_address (option_map (λ (b : ℕ). payload_at b) o) ≡ place.constants
  kept_by a None is = absurd (none-some place (sym is))
  kept_by a (Some b) is = ap (λ (p : Place). p.constants) (sym (same_Some place (record { state = a; constants = block_address b }) is))

  kept_where : (a : ℕ) (none : Bool) → (constants == 0) ≡ none → Some place ≡ placed_at (begins_where none now constants) a → payload_address (payload_for now constants) ≡ place.constants
  kept_where a true e is = rw e (ap (λ (p : Place). p.constants) (sym (same_Some place (record { state = a; constants = 0 }) is)))
  kept_where a false e is = kept_by a (place_for now constants) is

  kept_in : (o : Option ℕ) → Some place ≡ placed_in o now constants → payload_address (payload_for now constants) ≡ place.constants
  kept_in None is = absurd (none-some place (sym is))
  kept_in (Some a) is = kept_where a (constants == 0) refl is

  pub place_kept : Some place ≡ places ss domain state constants → payload_address (payload_for now constants) ≡ place.constants
  place_kept is = kept_in (begins ss state) is
