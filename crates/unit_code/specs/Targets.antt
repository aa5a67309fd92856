-- Unit numbers: which unit begins at a word, and where an offset leads.
use Rattle.std.specs.Prelude.{ℕ, ◌+◌, ◌-◌, ◌<◌, ◌≤◌, ◌==◌, nat_le, List, length, slice_index, Option, Some, None, ℤ, pos, negsuc, if◌then◌else◌}
use Rattle.std.specs.List.{position}

-- The word to which an offset leads from a place, counted from the word behind it (AVR Instruction Set Manual, "RJMP").
-- It is not reduced to the size of a memory: none lies before the first word, and one may lie behind the last.
unfoldable pub reached : ℕ → ℤ → Option ℕ
reached place (pos k) = Some (place + 1 + k)
reached place (negsuc k) = if nat_le k place then Some (place - k) else None

-- the number of the unit whose first word this is
unfoldable pub number_of : List ℕ → ℕ → Option ℕ
number_of places word = position (λ place. place == word) places

abbrev pub number_reached : List ℕ → Option ℕ → Option ℕ
number_reached places None = None
number_reached places (Some word) = number_of places word

-- The first words of units: each lies before the next, and there are few enough to be numbered.
pub record AreFirstWords (places : List ℕ) : Type 0 where
  pub rise : (i j : ℕ) → i < j → j < length places → slice_index places i < slice_index places j
  pub few : length places ≤ 65535
