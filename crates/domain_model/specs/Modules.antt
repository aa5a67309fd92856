-- The modules that are loaded, looked up by their domains and their ids.
use Rattle.std.specs.Prelude.{ℕ, ◌==◌, Bool, not, List, Option, find, filter}
use Rattle.std.specs.List.{list_any}
use Rattle.std.specs.Option.{option_map_or}
use Rattle.mote_layout.specs.Memory.{domain_count}
use Rattle.mote_layout.specs.Fit.{least_of}
use Rattle.domain_model.specs.State.{Loaded}

-- The module that is loaded in a domain.
abbrev pub module_at : List Loaded → ℕ → Option Loaded
module_at modules domain = find (λ m. m.domain == domain) modules

-- its id; 0 where there is none
abbrev pub id_at : List Loaded → ℕ → ℕ
id_at modules domain = option_map_or (λ (m : Loaded). m.face.id) (module_at modules domain) 0

-- the address of its constants; 0 where there is no module, and where it has none
abbrev pub constants_at : List Loaded → ℕ → ℕ
constants_at modules domain = option_map_or (λ (m : Loaded). m.constants) (module_at modules domain) 0

-- A module is loaded in that domain.
abbrev pub in_use : List Loaded → ℕ → Bool
in_use modules domain = list_any (λ m. m.domain == domain) modules

-- the lowest domain that no module is in
abbrev pub free_domain : List Loaded → Option ℕ
free_domain modules = least_of (λ domain. not (in_use modules domain)) 0 domain_count

-- the modules but the one in a domain
abbrev pub without_domain : ℕ → List Loaded → List Loaded
without_domain domain modules = filter (λ m. not (m.domain == domain)) modules

-- the loaded module with that id
abbrev pub module_named : List Loaded → ℕ → Option Loaded
module_named modules id = find (λ m. m.face.id == id) modules

-- A module with that id is loaded.
abbrev pub is_loaded : List Loaded → ℕ → Bool
is_loaded modules id = list_any (λ m. m.face.id == id) modules
