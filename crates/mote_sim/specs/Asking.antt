-- The calls of the shelf by which a command's files are read, and what came by them.
use Rattle.std.specs.Prelude.{◌≡◌, ◌⊎◌, ℕ, ◌+◌, ◌<◌, ◌≤◌, ⊤, Bool, true, false, List, [], ◌∷◌, ◌++◌, length, map, Option, Some, None, Result, Ok, Err, Vec}
use Rattle.std.specs.List.{AllByRecursion}
use Rattle.std.specs.Option.{option_map}
use Rattle.std.specs.declared.alloc.Global.{Global}
use Rattle.mote_base.specs.Asked.{Asked, Start, Read}
use Rattle.mote_base.specs.Written.{Calls, joined}
use Rattle.mote_base.specs.declared.fault.Status.{Status}
use Rattle.mote_base.specs.declared.fault.Status.TheVariants as status
use Rattle.command_line.specs.declared.command.Kind.{Kind}
use Rattle.command_line.specs.Command.{Command, limit_of}
use Rattle.mote_sim.specs.declared.reading.ReadStop.{ReadStop}
use Rattle.mote_sim.specs.declared.reading.ReadStop.TheVariants.{TooLong, Fault, Memory}
use Rattle.mote_sim.specs.Reading.{Gathered, Whole, Longer, with_first, bytes_of}

-- What came by calls in their order. Each file is started once, in the order of the names, and then read: by reads that
-- give some bytes, to one that gives none, which is its end, or to one with which it has more bytes than its limit.
-- Nothing is asked behind that one. None is for calls behind which there is more to ask. `part` is what came so far of
-- the file with that number, where it is being read, and the names are those of the files behind it.
abbrev pub ComesBy : Kind → ℕ → Option (List ℕ) → List (List ℕ) → List Asked → Option Gathered → Type 0
ComesBy kind number None [] [] came = came ≡ Some (Whole [])
ComesBy kind number None [] (asked ∷ calls) came = ⊥
ComesBy kind number None (name ∷ names) [] came = came ≡ None
ComesBy kind number None (name ∷ names) (Start asked ∷ calls) came =
    (asked ≡ name) × ComesBy kind number (Some []) names calls came
ComesBy kind number None (name ∷ names) (Read bytes ∷ calls) came = ⊥
ComesBy kind number (Some part) names [] came = came ≡ None
ComesBy kind number (Some part) names (Start asked ∷ calls) came = ⊥
ComesBy kind number (Some part) names (Read [] ∷ calls) came =
    (others : Option Gathered) × ComesBy kind (number + 1) None names calls others × (came ≡ option_map (with_first part) others)
ComesBy kind number (Some part) names (Read (byte ∷ bytes) ∷ calls) came =
    ((length (part ++ byte ∷ bytes) ≤ limit_of kind number)
    × ComesBy kind number (Some (part ++ byte ∷ bytes)) names calls came)
    ⊎ ((limit_of kind number < length (part ++ byte ∷ bytes)) × (calls ≡ []) × (came ≡ Some (Longer number)))

-- The calls that were made of the shelf, and what came by them. All were Ok; or the last failed, and none before it.
pub record Asks {F : Type 0} (leads : F → Asked → Bool → F → Type 0) (old new : F) (kind : Kind) (names : List (List ℕ)) (ok : Bool) (came : Option Gathered) : Type 0 where
  pub calls : List Asked
  pub made : Calls leads old calls ok new
  pub comes : ComesBy kind 0 None names calls came

-- By the calls that were made, of which none failed, this came of the command's files.
abbrev pub Came : {F : Type 0} → (F → Asked → Bool → F → Type 0) → F → F → Command → Gathered → Type 0
Came leads old new command files = Asks leads old new command.kind command.files true (Some files)

-- The calls that were made are a front of those that the words ask for, and the last failed or none did. Where the
-- words are no command none was made.
abbrev pub AsksFront : {F : Type 0} → (F → Asked → Bool → F → Type 0) → F → F → Option Command → Bool → Type 0
AsksFront leads old new None ok = new ≡ old
AsksFront leads old new (Some command) ok = (came : Option Gathered) × Asks leads old new command.kind command.files ok came

-- The same by the status. A fault of reading is where the last call failed, and want of memory where none did. (What
-- the other statuses say of the calls stands in their answers.)
abbrev pub AsksBy : {F : Type 0} → (F → Asked → Bool → F → Type 0) → F → F → Option Command → Status → Type 0
AsksBy leads old new command status.Done = ⊤
AsksBy leads old new command status.Usage = ⊤
AsksBy leads old new command status.Refused = ⊤
AsksBy leads old new command status.ReadFault = AsksFront leads old new command false
AsksBy leads old new command status.WriteFault = ⊤
AsksBy leads old new command status.NoMemory = AsksFront leads old new command true

-- What the reading of a command's files has come to.
abbrev pub AsksUpTo : {F : Type 0} → (F → Asked → Bool → F → Type 0) → F → F → Kind → List (List ℕ) → ReadStop → Type 0
AsksUpTo leads old new kind names (TooLong n) = Asks leads old new kind names true (Some (Longer n))
AsksUpTo leads old new kind names Fault = (came : Option Gathered) × Asks leads old new kind names false came
AsksUpTo leads old new kind names Memory = (came : Option Gathered) × Asks leads old new kind names true came

abbrev pub AsksFiles : {F : Type 0} → (F → Asked → Bool → F → Type 0) → F → F → Kind → List (List ℕ) → Result (Vec (Vec ℕ Global) Global) ReadStop → Type 0
AsksFiles leads old new kind names (Ok all) = Asks leads old new kind names true (Some (Whole (bytes_of all.items)))
AsksFiles leads old new kind names (Err stop) = AsksUpTo leads old new kind names stop

-- The calls of one file: its start, reads of pieces that make up a part within the limit, and a tail.
pub record FileCalls {F : Type 0} (leads : F → Asked → Bool → F → Type 0) (old new : F) (name : List ℕ) (limit : ℕ) (part : List ℕ) (tail : List Asked) (ok : Bool) : Type 0 where
  pub pieces : List (List ℕ)
  pub made : Calls leads old (Start name ∷ (map (λ p. Read p) pieces ++ tail)) ok new
  pub some : AllByRecursion (λ (p : List ℕ). 0 < length p) pieces
  pub came : joined pieces ≡ part
  pub fits : length part ≤ limit

-- What the reading of one file has come to.
abbrev pub StopsFile : {F : Type 0} → (F → Asked → Bool → F → Type 0) → F → F → List ℕ → ℕ → ReadStop → Type 0
StopsFile leads old new name limit (TooLong n) =
    (part last : List ℕ) × FileCalls leads old new name limit part (Read last ∷ []) true × (limit < length part + length last)
StopsFile leads old new name limit Fault =
    Calls leads old (Start name ∷ []) false new
    ⊎ ((part : List ℕ) × FileCalls leads old new name limit part (Read [] ∷ []) false)
StopsFile leads old new name limit Memory = (part : List ℕ) × FileCalls leads old new name limit part [] true

abbrev pub AsksFile : {F : Type 0} → (F → Asked → Bool → F → Type 0) → F → F → List ℕ → ℕ → Result (Vec ℕ Global) ReadStop → Type 0
AsksFile leads old new name limit (Ok bytes) = FileCalls leads old new name limit bytes.items (Read [] ∷ []) true
AsksFile leads old new name limit (Err stop) = StopsFile leads old new name limit stop
