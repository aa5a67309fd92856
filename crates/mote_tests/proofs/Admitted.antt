-- A shelf that admits every name may be asked for each file of each command.
use Rattle.std.proofs.Common.{true, ℕ, refl, List, [], ◌∷◌, Option, Some, None}
use Rattle.command_line.specs.Command.{Command}
use Rattle.mote_sim.specs.Reading.{Admits, AdmitsEach}

each_admitted : (names : List (List ℕ)) → AdmitsEach (λ name. true) names
each_admitted [] = tt
each_admitted (name ∷ names) = (refl, each_admitted names)

pub all_admitted : (command : Option Command) → Admits (λ name. true) command
all_admitted None = tt
all_admitted (Some command) = each_admitted command.files
