-- What the kernel keeps beside the loaded modules, so that a slot is found by one look: their links and their entries.
use Rattle.std.specs.Prelude.{◌≡◌, ℕ, ◌≤◌, ◌==◌, Bool, true, false, List, Option, Some, None, slice_get}
use Rattle.mote_layout.specs.Memory.{domain_count}
use Rattle.module_image.specs.Links.{Seat}
use Rattle.jump_table.specs.Entries.{Entries, unit_at}
use Rattle.domain_model.specs.State.{Loaded, seats}
use Rattle.domain_model.specs.Modules.{module_at}
use Rattle.kernel_call.specs.Sound.{AreSeated}

-- the unit at which the function at a place of a module's provided list begins, and of that of the module in a domain
abbrev pub entry_in : Option Loaded → ℕ → Option ℕ
entry_in None place = None
entry_in (Some m) place = slice_get m.entries place

abbrev pub entry_at : List Loaded → ℕ → ℕ → Option ℕ
entry_at modules domain place = entry_in (module_at modules domain) place

-- the entries of one domain among those of all
abbrev pub entry_where : Bool → List ℕ → Option ℕ → ℕ → Option ℕ
entry_where true units other place = slice_get units place
entry_where false units other place = other

abbrev pub with_entries : ℕ → List ℕ → Entries → ℕ → ℕ → Option ℕ
with_entries domain units entries d place = entry_where (d == domain) units (unit_at entries d place) place

-- The links are those of the modules' seats, and each entry is the unit of the provided function.
pub record AreTabled (modules : List Loaded) (links : List Seat) (entries : Entries) : Type 0 where
  pub linked : links ≡ seats modules
  pub entered : (domain place : ℕ) → unit_at entries domain place ≡ entry_at modules domain place

-- What the list of the modules keeps: room for one in each domain, that they are seated, and the tables.
pub record IsList (capacity : ℕ) (modules : List Loaded) (links : List Seat) (table : Entries) : Type 0 where
  pub room : domain_count ≤ capacity
  pub seated : AreSeated modules
  pub tabled : AreTabled modules links table
