-- The numbers that a seed gives, and what is drawn from them.
use Rattle.std.specs.Prelude.{ℕ, zero, suc, ◌+◌, ◌*◌, ◌/◌, ◌%◌, ◌^◌, List, map, slice_index}
use Rattle.std.specs.List.{range_with_len}

-- The number behind another: a linear congruence modulo 2 ^ 32.
unfoldable pub next : ℕ → ℕ
next number = (1664525 * number + 1013904223) % 2 ^ 32

-- The number at a place behind the seed, which stands at place 0 itself.
unfoldable pub number : ℕ → ℕ → ℕ
number seed zero = seed
number seed (suc place) = next (number seed place)

-- How many modules there are and how many numbers are drawn for each; the same for the packets.
abbrev pub module_count : ℕ
module_count = 7

abbrev pub module_draws : ℕ
module_draws = 2

abbrev pub packet_count : ℕ
packet_count = 10000

abbrev pub packet_draws : ℕ
packet_draws = 10

abbrev pub draw_count : ℕ
draw_count = module_count * module_draws + packet_count * packet_draws

-- As many numbers of a seed as asked for, in their order: the first follows the seed.
unfoldable pub first_numbers : ℕ → ℕ → List ℕ
first_numbers seed count = map (number seed) (range_with_len 1 count)

-- The numbers from which a bundle is drawn, each once.
abbrev pub numbers_of : ℕ → List ℕ
numbers_of seed = first_numbers seed draw_count

-- The numbers of a list from a place on, by their places behind it, counted from 0.
abbrev pub from : List ℕ → ℕ → ℕ → ℕ
from numbers start place = slice_index numbers (start + place)

-- The numbers behind one of them, by their places, counted from 0.
abbrev pub behind : ℕ → ℕ → ℕ
behind last place = number last (place + 1)

-- What is drawn below a bound from the number at a place: the upper half of its 32 bits, reduced to the bound.
abbrev pub draw : (ℕ → ℕ) → ℕ → ℕ → ℕ
draw numbers place bound = numbers place / 2 ^ 16 % bound
