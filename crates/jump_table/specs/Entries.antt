-- The entries of all domains, as a map from a domain and the number of an entry to a unit.
use Rattle.std.specs.Prelude.{◌≡◌, ℕ, ◌<◌, ◌==◌, ◌&&◌, List, [], length, get_or, Option, Some, None, if◌then◌else◌}
use Rattle.mote_layout.specs.Memory.{domain_count}
use Rattle.mote_layout.specs.Limits.{provided_limit}

-- the entries as the rows of a table, one for each domain
abbrev pub Entries : Type 0
Entries = List (List (Option ℕ))

-- the map: the unit of an entry of a domain, where one is set
abbrev pub unit_at : Entries → ℕ → ℕ → Option ℕ
unit_at entries d i = get_or (get_or entries d []) i None

-- the map with one entry set
abbrev pub with_unit : ℕ → ℕ → ℕ → (ℕ → ℕ → Option ℕ) → ℕ → ℕ → Option ℕ
with_unit d i unit map e j = if e == d && j == i then Some unit else map e j

-- the map without the entries of a domain
abbrev pub without_domain : ℕ → (ℕ → ℕ → Option ℕ) → ℕ → ℕ → Option ℕ
without_domain d map e j = if e == d then None else map e j

-- There is a row for each domain, and a place for each of its entries.
abbrev pub AreRows : Entries → Type 0
AreRows entries =
    (length entries ≡ domain_count) × ((d : ℕ) → d < domain_count → length (get_or entries d []) ≡ provided_limit)
