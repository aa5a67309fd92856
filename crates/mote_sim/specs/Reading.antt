-- What reading the files of a command comes to.
use Rattle.std.specs.Prelude.{◌≡◌, ℕ, ◌+◌, ◌<◌, ◌≤◌, nat_lt, if◌then◌else◌, List, [], ◌∷◌, ◌++◌, length, map, Option, Some, None, Result, Ok, Err, Vec, Bool, IsTrue, ⊤}
use Rattle.std.specs.List.{AllByRecursion}
use Rattle.std.specs.declared.alloc.Global.{Global}
use Rattle.mote_base.specs.Causes.{Rose}
use Rattle.mote_base.specs.Files.{Named, held, told, Holds}
use Rattle.command_line.specs.declared.command.Kind.{Kind}
use Rattle.command_line.specs.Command.{Command, limit_of}
use Rattle.mote_sim.specs.declared.reading.ReadStop.{ReadStop}
use Rattle.mote_sim.specs.declared.reading.ReadStop.TheVariants.{TooLong, Fault, Memory}

-- The files of a command, each whole and within its limit; or the number of the first that is longer, where
-- all before it are held; or a name comes first that no file has.
pub data Gathered : Type 0 where
  Whole : List (List ℕ) → Gathered
  Longer : ℕ → Gathered
  Missing : Gathered

abbrev pub with_first : List ℕ → Gathered → Gathered
with_first bytes (Whole files) = Whole (bytes ∷ files)
with_first bytes (Longer number) = Longer number
with_first bytes Missing = Missing

abbrev pub gathered_file : ℕ → ℕ → Option (List ℕ) → Gathered → Gathered
gathered_file number limit None others = Missing
gathered_file number limit (Some bytes) others = if nat_lt limit (length bytes) then Longer number else with_first bytes others

-- The files with these names, of which the first is the command's file with that number.
abbrev pub gathered_from : Kind → ℕ → List Named → List (List ℕ) → Gathered
gathered_from kind number files [] = Whole []
gathered_from kind number files (name ∷ names) =
    gathered_file number (limit_of kind number) (held files name) (gathered_from kind (number + 1) files names)

abbrev pub gathered : Command → List Named → Gathered
gathered command files = gathered_from command.kind 0 files command.files

-- Files that were read, and then what the others come to.
abbrev pub with_front : List (List ℕ) → Gathered → Gathered
with_front front (Whole files) = Whole (front ++ files)
with_front front (Longer number) = Longer number
with_front front Missing = Missing

-- One file was read to its end and is within its limit, and no call failed.
pub record IsWhole (files : Option (List Named)) (name : List ℕ) (limit before now : ℕ) (bytes : List ℕ) : Type 0 where
  pub held : Holds files name
  pub all : (b : List ℕ) → told files name ≡ Some b → bytes ≡ b
  pub fits : length bytes ≤ limit
  pub kept : now ≡ before

-- One file gave more bytes than its limit, and no call failed.
pub record IsLonger (files : Option (List Named)) (name : List ℕ) (limit before now : ℕ) : Type 0 where
  pub held : Holds files name
  pub more : (b : List ℕ) → told files name ≡ Some b → limit < length b
  pub kept : now ≡ before

abbrev pub StopsAt : Option (List Named) → List ℕ → ℕ → ℕ → ℕ → ℕ → ReadStop → Type 0
StopsAt files name number limit before now (TooLong n) = (n ≡ number) × IsLonger files name limit before now
StopsAt files name number limit before now Fault = Rose before now
StopsAt files name number limit before now Memory = ⊤

-- What the reading of one file has come to.
abbrev pub Reads : Option (List Named) → List ℕ → ℕ → ℕ → ℕ → ℕ → Result (Vec ℕ Global) ReadStop → Type 0
Reads files name number limit before now (Ok bytes) = IsWhole files name limit before now bytes.items
Reads files name number limit before now (Err stop) = StopsAt files name number limit before now stop

abbrev pub bytes_of : List (Vec ℕ Global) → List (List ℕ)
bytes_of files = map (λ v. v.items) files

-- No call failed, and the files of the shelf, where it tells them, come to this.
pub record ComesTo (files : Option (List Named)) (command : Command) (before now : ℕ) (to : Gathered) : Type 0 where
  pub is : (fs : List Named) → files ≡ Some fs → gathered command fs ≡ to
  pub kept : now ≡ before

abbrev pub GatherStops : Option (List Named) → Command → ℕ → ℕ → ReadStop → Type 0
GatherStops files command before now (TooLong n) = ComesTo files command before now (Longer n)
GatherStops files command before now Fault = Rose before now
GatherStops files command before now Memory = ⊤

-- What the reading of a command's files has come to.
abbrev pub Gathers : Option (List Named) → Command → ℕ → ℕ → Result (Vec (Vec ℕ Global) Global) ReadStop → Type 0
Gathers files command before now (Ok all) = ComesTo files command before now (Whole (bytes_of all.items))
Gathers files command before now (Err stop) = GatherStops files command before now stop

-- The shelf may be asked for each of these names.
abbrev pub AdmitsEach : (List ℕ → Bool) → List (List ℕ) → Type 0
AdmitsEach admits names = AllByRecursion (λ name. IsTrue (admits name)) names

-- It may be asked for each file of the command.
abbrev pub Admits : (List ℕ → Bool) → Option Command → Type 0
Admits admits None = ⊤
Admits admits (Some command) = AdmitsEach admits command.files
