-- Bytes and words as signed numbers in two's complement, and the ranges of these.
use Rattle.std.specs.Prelude.{ℕ, ℤ, Bool, pos, negsuc, ◌-ℤ◌, ◌||◌, nat_le, int_lt, if◌then◌else◌}

-- the signed number that a byte stands for
unfoldable pub signed : ℕ → ℤ
signed byte = if nat_le 128 byte then pos byte -ℤ pos 256 else pos byte

-- the signed number that a word stands for
unfoldable pub signed_word : ℕ → ℤ
signed_word word = if nat_le 32768 word then pos word -ℤ pos 65536 else pos word

-- whether a number lies outside -128 to 127, the range of a signed byte
unfoldable pub leaves_byte : ℤ → Bool
leaves_byte z = int_lt z (negsuc 127) || int_lt (pos 127) z

-- whether a number lies outside -32768 to 32767, the range of a signed word
unfoldable pub leaves_word : ℤ → Bool
leaves_word z = int_lt z (negsuc 32767) || int_lt (pos 32767) z
