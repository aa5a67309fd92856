-- One bit of a number, counted from bit 0, the lowest.
use Rattle.std.specs.Prelude.{ℕ, ◌+◌, ◌-◌, ◌*◌, ◌^◌, Bool, nat_eq}
use Rattle.std.specs.Int.{bit_at, from_bool}

-- whether bit k is 1
unfoldable pub is_set : ℕ → ℕ → Bool
is_set n k = nat_eq (bit_at n k) 1

-- the number with bit k put to 1 or 0, and every other bit as it was
unfoldable pub with_bit : ℕ → ℕ → Bool → ℕ
with_bit n k on = n - from_bool (is_set n k) * 2 ^ k + from_bool on * 2 ^ k
