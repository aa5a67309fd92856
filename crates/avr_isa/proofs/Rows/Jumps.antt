-- Jumps, calls and branches. Each lemma is a line of the table: the bits that it fixes, and its operands as parts of the word.
use Rattle.std.proofs.Common.{◌≡◌, ℕ, ◌+◌, ◌*◌, ◌/◌, ◌%◌, ◌^◌, Option, Some, refl, arith}
use Rattle.std.specs.Prelude.{ℤ}
use Rattle.avr_isa.specs.Pattern.{signed}
use Rattle.avr_isa.specs.Table.{Row}
use Rattle.avr_isa.specs.declared.instruction.Instr.TheVariants.{Jmp, Call, Rjmp, Rcall, Brbs, Brbc}
use Rattle.avr_isa.proofs.Place.{row_at, row_with_word_at}

pub row_jmp : (w k : ℕ) (address : ℕ) → w / 2 ^ 9 % 2 ^ 7 ≡ 74 → w / 2 ^ 1 % 2 ^ 3 ≡ 6 → address ≡ (2 * (w / 2 ^ 4 % 2 ^ 5) + w / 2 ^ 0 % 2 ^ 1) * 2 ^ 16 + k → Row w (Some k) (Jmp address) 2
row_jmp w k address at_1 at_2 is_address = row_with_word_at 69 _ _ w k (Jmp address) refl refl (grind arith) (grind arith)

pub row_call : (w k : ℕ) (address : ℕ) → w / 2 ^ 9 % 2 ^ 7 ≡ 74 → w / 2 ^ 1 % 2 ^ 3 ≡ 7 → address ≡ (2 * (w / 2 ^ 4 % 2 ^ 5) + w / 2 ^ 0 % 2 ^ 1) * 2 ^ 16 + k → Row w (Some k) (Call address) 2
row_call w k address at_1 at_2 is_address = row_with_word_at 70 _ _ w k (Call address) refl refl (grind arith) (grind arith)

pub row_rjmp : (w : ℕ) (s : Option ℕ) (offset : ℤ) → w / 2 ^ 12 % 2 ^ 4 ≡ 12 → offset ≡ signed 12 (w / 2 ^ 0 % 2 ^ 12) → Row w s (Rjmp offset) 1
row_rjmp w s offset at_1 is_offset = row_at 80 _ _ w s (Rjmp offset) refl refl (grind arith) (grind arith)

pub row_rcall : (w : ℕ) (s : Option ℕ) (offset : ℤ) → w / 2 ^ 12 % 2 ^ 4 ≡ 13 → offset ≡ signed 12 (w / 2 ^ 0 % 2 ^ 12) → Row w s (Rcall offset) 1
row_rcall w s offset at_1 is_offset = row_at 81 _ _ w s (Rcall offset) refl refl (grind arith) (grind arith)

pub row_brbs : (w : ℕ) (s : Option ℕ) (bit : ℕ) (offset : ℤ) → w / 2 ^ 10 % 2 ^ 6 ≡ 60 → bit ≡ w / 2 ^ 0 % 2 ^ 3 → offset ≡ signed 7 (w / 2 ^ 3 % 2 ^ 7) → Row w s (Brbs bit offset) 1
row_brbs w s bit offset at_1 is_bit is_offset = row_at 83 _ _ w s (Brbs bit offset) refl refl (grind arith) (grind arith)

pub row_brbc : (w : ℕ) (s : Option ℕ) (bit : ℕ) (offset : ℤ) → w / 2 ^ 10 % 2 ^ 6 ≡ 61 → bit ≡ w / 2 ^ 0 % 2 ^ 3 → offset ≡ signed 7 (w / 2 ^ 3 % 2 ^ 7) → Row w s (Brbc bit offset) 1
row_brbc w s bit offset at_1 is_bit is_offset = row_at 84 _ _ w s (Brbc bit offset) refl refl (grind arith) (grind arith)

pub ruleset jumps = (row_jmp, row_call, row_rjmp, row_rcall, row_brbs, row_brbc)
