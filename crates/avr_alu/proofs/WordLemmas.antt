-- The flags of a word plus or minus a small number are those that the manual's formulas over bits give.
use Rattle.std.proofs.Common.{◌≡◌, ℕ, ◌+◌, ◌-◌, ◌%◌, ◌<◌, nat_le, nat_lt, bit_and, arith, refl}
use Rattle.std.specs.Prelude.{pos, ◌+ℤ◌, ◌-ℤ◌}
use Rattle.std.proofs.lemmas.Bool.Decides.{nat_tests}
use Rattle.std.proofs.lemmas.Int.{ints}
use Rattle.avr_alu.specs.declared.flags.Flags.{Flags}
use Rattle.avr_alu.specs.Flags.{with_word}
use Rattle.avr_alu.specs.Bits.{is_set}
use Rattle.avr_alu.specs.Signed.{signed_word, leaves_word}
use Rattle.avr_alu.specs.Word.{word_add_value, word_add_flags, word_sub_value, word_sub_flags}
use Rattle.avr_alu.proofs.BitLemmas.{is_set-and, is_set-word, is_set-word_not}

module _ (a k : ℕ) (a_fits : a < 65536) (k_fits : k < 256) where
  module _ (r : ℕ) (r_is : r ≡ (a + k) % 65536) where
    sum_carry : is_set (bit_and (65535 - r) a) 15 ≡ nat_le 65536 (a + k)
    sum_carry = let r_fits : r < 65536 = omega arith in simp (is_set-and, is_set-word_not, is_set-word) (grind (arith, nat_tests))

    sum_overflow : is_set (bit_and (65535 - a) r) 15 ≡ leaves_word (signed_word a +ℤ pos k)
    unfolding leaves_word signed_word
    sum_overflow = let r_fits : r < 65536 = omega arith in simp (is_set-and, is_set-word_not, is_set-word) (grind (arith, nat_tests, ints))

  module _ (r : ℕ) (r_is : r ≡ (65536 + a - k) % 65536) where
    difference_borrow : is_set (bit_and r (65535 - a)) 15 ≡ nat_lt a k
    difference_borrow = let r_fits : r < 65536 = omega arith in simp (is_set-and, is_set-word_not, is_set-word) (grind (arith, nat_tests))

    difference_overflow : is_set (bit_and a (65535 - r)) 15 ≡ leaves_word (signed_word a -ℤ pos k)
    unfolding leaves_word signed_word
    difference_overflow = let r_fits : r < 65536 = omega arith in simp (is_set-and, is_set-word_not, is_set-word) (grind (arith, nat_tests, ints))

-- word_add as the code computes it
pub word_add_value_is : (a k : ℕ) → (a + k) % 65536 ≡ word_add_value a k
unfolding word_add_value
word_add_value_is a k = refl

pub word_add_flags_are : (a k : ℕ) (old : Flags) (r : ℕ) → a < 65536 → k < 256 → r ≡ word_add_value a k →
    record (with_word r (is_set (bit_and (65535 - a) r) 15) old) { carry = is_set (bit_and (65535 - r) a) 15 } ≡ word_add_flags a k old
unfolding word_add_value word_add_flags
word_add_flags_are a k old r a_fits k_fits r_is = rw (sum_carry a k a_fits k_fits r r_is, sum_overflow a k a_fits k_fits r r_is, r_is) refl

-- word_sub as the code computes it
pub word_sub_value_is : (a k : ℕ) → k < 256 → (a + (65536 - k)) % 65536 ≡ word_sub_value a k
unfolding word_sub_value
word_sub_value_is a k k_fits = omega arith

pub word_sub_flags_are : (a k : ℕ) (old : Flags) (r : ℕ) → a < 65536 → k < 256 → r ≡ word_sub_value a k →
    record (with_word r (is_set (bit_and a (65535 - r)) 15) old) { carry = is_set (bit_and r (65535 - a)) 15 } ≡ word_sub_flags a k old
unfolding word_sub_value word_sub_flags
word_sub_flags_are a k old r a_fits k_fits r_is =
    rw (difference_borrow a k a_fits k_fits r r_is, difference_overflow a k a_fits k_fits r r_is, r_is) refl
