-- A module comes in.
use Rattle.std.specs.Prelude.{ℕ, List, Bool, true, false, Option, Some, None}
use Rattle.module_image.specs.declared.face.Face.{Face}
use Rattle.domain_model.specs.State.{Loaded, KernelState}
use Rattle.domain_model.specs.Modules.{is_loaded, free_domain}
use Rattle.domain_model.specs.Given.{Given, with_given}
use Rattle.domain_model.specs.Turn.{admitted, constants_block, state_block}
use Rattle.kernel_call.specs.declared.admitted.Admitted.{Admitted}
use Rattle.kernel_call.specs.declared.admitted.Admitted.TheVariants.{Placed, Duplicate, Domain, Room}

-- A module that asks to come in: what it shows to others, the bytes of state that it asks for, the unit at which a
-- dispatch starts, the units at which the functions that it provides begin, its constants, and whether its loads are
-- checked.
pub record Newcomer : Type 0 where
  pub face : Face
  pub state_size : ℕ
  pub handler : ℕ
  pub entries : List ℕ
  pub constants : List ℕ
  pub sealed : Bool

abbrev pub newcomer : Face → ℕ → ℕ → List ℕ → List ℕ → Bool → Newcomer
newcomer face state_size handler entries constants sealed =
    record {
      face = face;
      state_size = state_size;
      handler = handler;
      entries = entries;
      constants = constants;
      sealed = sealed;
    }

-- The kernel after an admission, and the answer.
pub record Admission : Type 0 where
  pub kernel : KernelState
  pub answer : Admitted

-- the module in a domain, with its state and its constants at these addresses
abbrev pub seat_of : Newcomer → ℕ → ℕ → ℕ → Loaded
seat_of m domain state constants =
    record {
      face = m.face;
      domain = domain;
      state = state;
      constants = constants;
      handler = m.handler;
      entries = m.entries;
      sealed = m.sealed;
    }

-- Nothing changes where a module with the id is loaded, else where no domain is free, else where no run of blocks is
-- long enough for the state, or none in what is left for the constants. Else the module is in the lowest free domain.
abbrev pub admit_beside : Option Given → ℕ → Newcomer → ℕ → KernelState → Admission
admit_beside None state m domain k = record { kernel = k; answer = Room }
admit_beside (Some g) state m domain k =
    record { kernel = admitted k (seat_of m domain state g.address) g; answer = Placed domain }

abbrev pub admit_given : Option Given → Newcomer → ℕ → KernelState → Admission
admit_given None m domain k = record { kernel = k; answer = Room }
admit_given (Some g) m domain k = admit_beside (constants_block (with_given k g) m.constants) g.address m domain k

abbrev pub admit_in : Option ℕ → Newcomer → KernelState → Admission
admit_in None m k = record { kernel = k; answer = Domain }
admit_in (Some domain) m k = admit_given (state_block k domain m.state_size) m domain k

abbrev pub admit_new : Bool → Newcomer → KernelState → Admission
admit_new true m k = record { kernel = k; answer = Duplicate }
admit_new false m k = admit_in (free_domain k.modules) m k

abbrev pub admission : KernelState → Newcomer → Admission
admission k m = admit_new (is_loaded k.modules m.face.id) m k
