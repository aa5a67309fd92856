-- The bytes of a packet, as pairs of hexadecimal digits.
use Rattle.std.specs.Prelude.{ℕ, ◌+◌, ◌-◌, ◌*◌, ◌&&◌, nat_le, nat_lt, List, [], ◌∷◌, length, codes, Option, Some, None, if◌then◌else◌}
use Rattle.std.specs.Str.{bytes_eq}
use Rattle.mote_layout.specs.Limits.{payload_limit}

-- the value of a digit 0 to 9 or a to f
abbrev pub digit_of : ℕ → Option ℕ
digit_of byte =
    if nat_le 48 byte && nat_le byte 57 then Some (byte - 48)
    else (if nat_le 97 byte && nat_le byte 102 then Some (byte - 87) else None)

abbrev pub onto_bytes : Option ℕ → Option ℕ → Option (List ℕ) → Option (List ℕ)
onto_bytes (Some high) (Some low) (Some bytes) = Some ((16 * high + low) ∷ bytes)
onto_bytes _ _ _ = None

-- the byte of each pair, the digit of the higher half first
abbrev pub pairs_of : List ℕ → Option (List ℕ)
pairs_of [] = Some []
pairs_of (high ∷ []) = None
pairs_of (high ∷ low ∷ rest) = onto_bytes (digit_of high) (digit_of low) (pairs_of rest)

-- A packet has at least one byte behind its digits, and at most 96.
abbrev pub few_bytes : Option (List ℕ) → Option (List ℕ)
few_bytes None = None
few_bytes (Some bytes) = if nat_lt 0 (length bytes) && nat_le (length bytes) payload_limit then Some bytes else None

-- A packet without bytes is `-`.
abbrev pub bytes_of : List ℕ → Option (List ℕ)
bytes_of text = if bytes_eq text (codes "-") then Some [] else few_bytes (pairs_of text)
