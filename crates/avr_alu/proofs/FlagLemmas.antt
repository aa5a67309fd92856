-- The byte of SREG against its flags, and the flags that every result sets, as the code computes them.
use Rattle.std.proofs.Common.{◌≡◌, ℕ, ◌+◌, ◌*◌, ◌/◌, ◌%◌, ◌<◌, ◌^◌, Bool, true, false, not, nat_eq, bit_or, arith, refl}
use Rattle.std.specs.Int.{from_bool}
use Rattle.std.proofs.Math.Bool.{xor, beq}
use Rattle.std.proofs.lemmas.Nat.{or_shifted, shl_whole}
use Rattle.avr_alu.specs.declared.flags.Flags.{Flags}
use Rattle.avr_alu.specs.Flags.{flags_of, sreg_of, with_result, with_byte, with_word}
use Rattle.avr_alu.specs.Bits.{is_set}
use Rattle.avr_alu.proofs.BitLemmas.{from_bool-is_set, is_set-top, is_set-word}

-- a flag is the number 0 or 1
pub below_two : (b : Bool) → from_bool b < 2
below_two true = omega arith
below_two false = omega arith

-- `^` of two flags
pub xor_is : (p q : Bool) → not (beq p q) ≡ xor p q
unfolding xor
xor_is true q = refl
xor_is false q = refl

-- a bit put above k bits adds
pub put_above_adds : (k b : ℕ) (on : Bool) → b < 2 ^ k → k < 8 → bit_or (from_bool on * 2 ^ k % 256) b ≡ b + from_bool on * 2 ^ k
put_above_adds k b on p q =
    let shifted : from_bool on * 2 ^ k % 2 ^ 8 ≡ from_bool on * 2 ^ k = shl_whole (from_bool on) 1 k 8 (below_two on) (omega arith) in
    rw (shifted, or_shifted (from_bool on) k b p) (omega arith)

-- a flag as a number, and back
is_one-from_bool : (b : Bool) → nat_eq (from_bool b) 1 ≡ b
is_one-from_bool true = refl
is_one-from_bool false = refl

-- the byte of some flags as the code computes it
pub joined_by_bits : (f : Flags) →
    from_bool f.carry + from_bool f.zero * 2 + from_bool f.negative * 4 + from_bool f.overflow * 8 + from_bool f.sign * 16
    + from_bool f.half_carry * 32 + from_bool f.transfer * 64 + from_bool f.interrupt * 128 ≡ sreg_of f
unfolding sreg_of
joined_by_bits f = omega arith

-- the byte of the flags that a byte holds is that byte
pub joined_again : (n : ℕ) → n < 256 → sreg_of (flags_of n) ≡ n
unfolding sreg_of flags_of
joined_again n p = simp from_bool-is_set (omega arith)

-- the flags that the byte of some flags holds are those flags
pub split_again : (f : Flags) → flags_of (sreg_of f) ≡ f
unfolding is_set sreg_of flags_of
split_again f =
    let c = below_two f.carry in
    let z = below_two f.zero in
    let n = below_two f.negative in
    let v = below_two f.overflow in
    let s = below_two f.sign in
    let h = below_two f.half_carry in
    let t = below_two f.transfer in
    let i = below_two f.interrupt in
    let at_0 : sreg_of f / 2 ^ 0 % 2 ≡ from_bool f.carry = omega arith in
    let at_1 : sreg_of f / 2 ^ 1 % 2 ≡ from_bool f.zero = omega arith in
    let at_2 : sreg_of f / 2 ^ 2 % 2 ≡ from_bool f.negative = omega arith in
    let at_3 : sreg_of f / 2 ^ 3 % 2 ≡ from_bool f.overflow = omega arith in
    let at_4 : sreg_of f / 2 ^ 4 % 2 ≡ from_bool f.sign = omega arith in
    let at_5 : sreg_of f / 2 ^ 5 % 2 ≡ from_bool f.half_carry = omega arith in
    let at_6 : sreg_of f / 2 ^ 6 % 2 ≡ from_bool f.transfer = omega arith in
    let at_7 : sreg_of f / 2 ^ 7 % 2 ≡ from_bool f.interrupt = omega arith in
    simp (at_0, at_1, at_2, at_3, at_4, at_5, at_6, at_7, is_one-from_bool)

-- Z, N, V and S as the code computes them
pub result_by_bits : (z n v : Bool) (f : Flags) → record f { zero = z; negative = n; overflow = v; sign = not (beq n v) } ≡ with_result z n v f
unfolding with_result
result_by_bits z n v f = simp xor_is

pub byte_by_bits : (byte : ℕ) (v : Bool) (f : Flags) → byte < 256 → with_result (nat_eq byte 0) (is_set byte 7) v f ≡ with_byte byte v f
unfolding with_byte
byte_by_bits byte v f p = simp is_set-top

pub word_by_bits : (word : ℕ) (v : Bool) (f : Flags) → word < 65536 → with_result (nat_eq word 0) (is_set word 15) v f ≡ with_word word v f
unfolding with_word
word_by_bits word v f p = simp is_set-word
