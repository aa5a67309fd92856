-- Numbers in texts: decimal, without leading zeros.
use Rattle.std.specs.Prelude.{ℕ, ◌+◌, ◌-◌, ◌*◌, ◌==◌, ◌&&◌, ◌||◌, not, nat_le, nat_lt, fold, Bool, List, length, slice_index, Option, Some, None, if◌then◌else◌}
use Rattle.std.specs.List.{list_all}

-- No number has more digits: the largest that is taken anywhere is below 10,000,000,000.
abbrev pub most_digits : ℕ
most_digits = 10

abbrev pub is_digit : ℕ → Bool
is_digit byte = nat_le 48 byte && nat_le byte 57

abbrev pub is_number : List ℕ → Bool
is_number text =
    nat_lt 0 (length text) && (nat_le (length text) most_digits
    && (list_all is_digit text && (length text == 1 || not (slice_index text 0 == 48))))

abbrev pub value_of : List ℕ → ℕ
value_of text = fold (λ n digit. 10 * n + (digit - 48)) 0 text

-- the number in a range
abbrev pub number_in : ℕ → ℕ → List ℕ → Option ℕ
number_in least most text =
    if is_number text && (nat_le least (value_of text) && nat_le (value_of text) most) then Some (value_of text) else None
