-- A table with a row for each domain, and in it an entry for each slot.
use Rattle.std.specs.Prelude.{◌≡◌, ℕ, List, [], get_or, Option, None}
use Rattle.module_image.specs.Links.{Seat, bound_slot}
use Rattle.func_link.specs.declared.slots.Slots.{Slots}

-- the entry of a slot of a domain, and None past the table
abbrev pub entry : List (List (Option (ℕ × ℕ))) → ℕ → ℕ → Option (ℕ × ℕ)
entry rows d i = get_or (get_or rows d []) i None

abbrev pub slot_at : Slots → ℕ → ℕ → Option (ℕ × ℕ)
slot_at slots d i = entry slots.rows d i

-- Each entry is what its slot is bound to.
abbrev pub AreSlots : List Seat → Slots → Type 0
AreSlots seats slots = (d i : ℕ) → slot_at slots d i ≡ bound_slot seats d i
