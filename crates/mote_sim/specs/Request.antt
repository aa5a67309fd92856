-- What a request of the code means.
use Rattle.std.specs.Prelude.{◌≡◌, ℕ, Bool, true, false, List, length, IsTrue, Option, Some, None, ⊤}
use Rattle.command_line.specs.declared.command.Kind.{Kind}
use Rattle.command_line.specs.declared.command.Place.{Place}
use Rattle.command_line.specs.declared.command.Place.TheVariants.{Options, Value, Operands}
use Rattle.command_line.specs.Command.{Command, Given, IsWithinLimits, takes}
use Rattle.mote_sim.specs.declared.request.Request.{Request}
use Rattle.mote_sim.specs.declared.request.Request.TheVariants as request

-- A word was taken exactly where it may stand there, and left what it says.
abbrev pub Takes : Option (Unit {0}) → Option Given → Given → Type 0
Takes None said new = said ≡ None
Takes (Some taken) said new = said ≡ Some new

-- Whether an option waits for its value.
abbrev pub waits : Place → Bool
waits Options = false
waits (Value setting) = true
waits Operands = false

-- the command that it is
abbrev pub command_parts : Option (Kind × List (List ℕ)) → Option Command
command_parts None = None
command_parts (Some parts) = Some (record { kind = parts.0; files = parts.1 })

abbrev pub asked : Request → Option Command
asked request.Usage = None
asked (request.Command kind files) = Some (record { kind = kind; files = files })

-- A command has as many files as its kind may take.
abbrev pub HasItsOperands : Request → Type 0
HasItsOperands request.Usage = ⊤
HasItsOperands (request.Command kind files) = IsTrue (takes kind (length files))

-- The limits of a run are in their ranges.
abbrev pub HasItsLimits : Request → Type 0
HasItsLimits request.Usage = ⊤
HasItsLimits (request.Command kind files) = IsWithinLimits kind
