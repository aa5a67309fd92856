-- A module comes in or goes, and none starts.
use Rattle.std.specs.Prelude.{ℕ, Option, Some, None, Result, Ok, Err, unwrap_or}
use Rattle.unit_code.specs.Errors.{error_number, error_word, error_kind}
use Rattle.harbor_verify.specs.Law.{error_word as verify_word, order}
use Rattle.module_image.specs.Refusal.{number_of, value_of}
use Rattle.domain_model.specs.declared.refusal.Refusal.{Refusal}
use Rattle.domain_model.specs.declared.refusal.Refusal.TheVariants as why
use Rattle.domain_model.specs.Prepared.{Module}
use Rattle.domain_model.specs.State.{Loaded, KernelState}
use Rattle.domain_model.specs.Turn.{purged}
use Rattle.kernel_call.specs.Admission.{Admission, Newcomer, admission, newcomer}
use Rattle.kernel_call.specs.declared.admitted.Admitted.{Admitted}
use Rattle.kernel_call.specs.declared.admitted.Admitted.TheVariants as admitted
use Rattle.mod_loader.specs.declared.refusal.LoadRefusal.{LoadRefusal}
use Rattle.mod_loader.specs.declared.refusal.LoadRefusal.TheVariants.{Image, Code, Verify, Duplicate, Domain, Room}
use Rattle.mod_loader.specs.declared.refusal.NotLoaded.{NotLoaded}
use Rattle.mod_loader.specs.declared.refusal.NotLoaded.TheVariants as absent
use Rattle.mod_loader.specs.Banks.{Readied}

-- What the line of a refused load tells of it: its number; the number of its kind; its word, byte, version or count;
-- and the kind of a refused instruction, each 0 where there is none.
abbrev pub load_number : LoadRefusal → ℕ
load_number (Image e) = 1
load_number (Code e) = 2
load_number (Verify e) = 3
load_number Duplicate = 4
load_number Domain = 5
load_number Room = 6

abbrev pub load_kind : LoadRefusal → ℕ
load_kind (Image e) = number_of e
load_kind (Code e) = unwrap_or (error_number e) 0
load_kind (Verify e) = order e
load_kind _ = 0

abbrev pub load_value : LoadRefusal → ℕ
load_value (Image e) = value_of e
load_value (Code e) = error_word e
load_value (Verify e) = verify_word e
load_value _ = 0

abbrev pub load_detail : LoadRefusal → ℕ
load_detail (Code e) = error_kind e
load_detail _ = 0

-- The file holds no module, and every load of it is refused so.
abbrev pub of_file : Refusal → LoadRefusal
of_file (why.Image e) = Image e
of_file (why.Code e) = Code e
of_file (why.Verify e) = Verify e

-- The kernel behind a load or an unload, and the domain of the module, or why there is none.
pub record Moving (E : Type 0) : Type 0 where
  pub kernel : KernelState
  pub answer : Result ℕ E

abbrev pub answered : Admitted → Result ℕ LoadRefusal
answered (admitted.Placed domain) = Ok domain
answered admitted.Duplicate = Err Duplicate
answered admitted.Domain = Err Domain
answered admitted.Room = Err Room

abbrev pub brought : Admission → Moving LoadRefusal
brought a = record { kernel = a.kernel; answer = answered a.answer }

abbrev pub newcomer_of : Module → Newcomer
newcomer_of m = newcomer m.face m.state_size m.handler m.entries m.constants m.sealed

-- A file without a module is refused. A module comes in by the kernel's admission, which refuses it first where one
-- with its id is loaded, then where no domain is free, then where no run of free blocks is long enough for its state,
-- or none beside it for its constants.
abbrev pub loading : Readied → KernelState → Moving LoadRefusal
loading (Err refusal) k = record { kernel = k; answer = Err (of_file refusal) }
loading (Ok b) k = brought (admission k (newcomer_of b.loadable))

-- The module with an id is purged, where there is one.
abbrev pub unloading : Option Loaded → KernelState → Moving NotLoaded
unloading None k = record { kernel = k; answer = Err absent.NotLoaded }
unloading (Some m) k = record { kernel = purged k m.face.id m.domain; answer = Ok m.domain }
