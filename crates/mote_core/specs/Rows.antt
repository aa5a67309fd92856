-- The domains of the loaded modules.
use Rattle.std.specs.Prelude.{◌<◌, List}
use Rattle.std.specs.List.{AllByRecursion}
use Rattle.mote_layout.specs.Memory.{domain_count}
use Rattle.domain_model.specs.State.{Loaded}

-- each module is in a domain
abbrev pub AreInDomains : List Loaded → Type 0
AreInDomains modules = AllByRecursion (λ m. m.domain < domain_count) modules
