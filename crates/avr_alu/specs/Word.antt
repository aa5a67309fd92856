-- A word plus or minus a small number (ADIW and SBIW of the AVR Instruction Set Manual).
use Rattle.std.specs.Prelude.{ℕ, ◌+◌, ◌-◌, ◌%◌, pos, ◌+ℤ◌, ◌-ℤ◌, nat_le, nat_lt}
use Rattle.avr_alu.specs.declared.flags.Flags.{Flags}
use Rattle.avr_alu.specs.Flags.{with_word}
use Rattle.avr_alu.specs.Signed.{signed_word, leaves_word}

-- a + k, modulo 65536
unfoldable pub word_add_value : ℕ → ℕ → ℕ
word_add_value a k = (a + k) % 65536

-- C says that the sum is at least 65536, and V that the signed sum leaves the range of a word
unfoldable pub word_add_flags : ℕ → ℕ → Flags → Flags
word_add_flags a k old =
    record (with_word (word_add_value a k) (leaves_word (signed_word a +ℤ pos k)) old) {
      carry = nat_le 65536 (a + k);
    }

-- a - k, modulo 65536
unfoldable pub word_sub_value : ℕ → ℕ → ℕ
word_sub_value a k = (65536 + a - k) % 65536

-- C says that a is less than k, and V that the signed difference leaves the range of a word
unfoldable pub word_sub_flags : ℕ → ℕ → Flags → Flags
word_sub_flags a k old =
    record (with_word (word_sub_value a k) (leaves_word (signed_word a -ℤ pos k)) old) {
      carry = nat_lt a k;
    }
