-- Instructions of a port, and of one bit of a register or a port. Each lemma is a line of the table: the bits that it fixes, and its operands as parts of the word.
use Rattle.std.proofs.Common.{◌≡◌, ℕ, ◌+◌, ◌*◌, ◌/◌, ◌%◌, ◌^◌, Option, refl, arith}
use Rattle.avr_isa.specs.Table.{Row}
use Rattle.avr_isa.specs.declared.instruction.Instr.TheVariants.{Cbi, Sbic, Sbi, Sbis, In, Out, Bld, Bst, Sbrc, Sbrs}
use Rattle.avr_isa.proofs.Place.{row_at}

pub row_cbi : (w : ℕ) (s : Option ℕ) (A b : ℕ) → w / 2 ^ 8 % 2 ^ 8 ≡ 152 → A ≡ w / 2 ^ 3 % 2 ^ 5 → b ≡ w / 2 ^ 0 % 2 ^ 3 → Row w s (Cbi A b) 1
row_cbi w s A b at_1 is_A is_b = row_at 73 _ _ w s (Cbi A b) refl refl (grind arith) (grind arith)

pub row_sbic : (w : ℕ) (s : Option ℕ) (A b : ℕ) → w / 2 ^ 8 % 2 ^ 8 ≡ 153 → A ≡ w / 2 ^ 3 % 2 ^ 5 → b ≡ w / 2 ^ 0 % 2 ^ 3 → Row w s (Sbic A b) 1
row_sbic w s A b at_1 is_A is_b = row_at 74 _ _ w s (Sbic A b) refl refl (grind arith) (grind arith)

pub row_sbi : (w : ℕ) (s : Option ℕ) (A b : ℕ) → w / 2 ^ 8 % 2 ^ 8 ≡ 154 → A ≡ w / 2 ^ 3 % 2 ^ 5 → b ≡ w / 2 ^ 0 % 2 ^ 3 → Row w s (Sbi A b) 1
row_sbi w s A b at_1 is_A is_b = row_at 75 _ _ w s (Sbi A b) refl refl (grind arith) (grind arith)

pub row_sbis : (w : ℕ) (s : Option ℕ) (A b : ℕ) → w / 2 ^ 8 % 2 ^ 8 ≡ 155 → A ≡ w / 2 ^ 3 % 2 ^ 5 → b ≡ w / 2 ^ 0 % 2 ^ 3 → Row w s (Sbis A b) 1
row_sbis w s A b at_1 is_A is_b = row_at 76 _ _ w s (Sbis A b) refl refl (grind arith) (grind arith)

pub row_in : (w : ℕ) (s : Option ℕ) (d A : ℕ) → w / 2 ^ 11 % 2 ^ 5 ≡ 22 → d ≡ w / 2 ^ 4 % 2 ^ 5 → A ≡ 16 * (w / 2 ^ 9 % 2 ^ 2) + w / 2 ^ 0 % 2 ^ 4 → Row w s (In d A) 1
row_in w s d A at_1 is_d is_A = row_at 78 _ _ w s (In d A) refl refl (grind arith) (grind arith)

pub row_out : (w : ℕ) (s : Option ℕ) (r A : ℕ) → w / 2 ^ 11 % 2 ^ 5 ≡ 23 → r ≡ w / 2 ^ 4 % 2 ^ 5 → A ≡ 16 * (w / 2 ^ 9 % 2 ^ 2) + w / 2 ^ 0 % 2 ^ 4 → Row w s (Out r A) 1
row_out w s r A at_1 is_r is_A = row_at 79 _ _ w s (Out r A) refl refl (grind arith) (grind arith)

pub row_bld : (w : ℕ) (s : Option ℕ) (d b : ℕ) → w / 2 ^ 9 % 2 ^ 7 ≡ 124 → w / 2 ^ 3 % 2 ^ 1 ≡ 0 → d ≡ w / 2 ^ 4 % 2 ^ 5 → b ≡ w / 2 ^ 0 % 2 ^ 3 → Row w s (Bld d b) 1
row_bld w s d b at_1 at_2 is_d is_b = row_at 85 _ _ w s (Bld d b) refl refl (grind arith) (grind arith)

pub row_bst : (w : ℕ) (s : Option ℕ) (d b : ℕ) → w / 2 ^ 9 % 2 ^ 7 ≡ 125 → w / 2 ^ 3 % 2 ^ 1 ≡ 0 → d ≡ w / 2 ^ 4 % 2 ^ 5 → b ≡ w / 2 ^ 0 % 2 ^ 3 → Row w s (Bst d b) 1
row_bst w s d b at_1 at_2 is_d is_b = row_at 86 _ _ w s (Bst d b) refl refl (grind arith) (grind arith)

pub row_sbrc : (w : ℕ) (s : Option ℕ) (r b : ℕ) → w / 2 ^ 9 % 2 ^ 7 ≡ 126 → w / 2 ^ 3 % 2 ^ 1 ≡ 0 → r ≡ w / 2 ^ 4 % 2 ^ 5 → b ≡ w / 2 ^ 0 % 2 ^ 3 → Row w s (Sbrc r b) 1
row_sbrc w s r b at_1 at_2 is_r is_b = row_at 87 _ _ w s (Sbrc r b) refl refl (grind arith) (grind arith)

pub row_sbrs : (w : ℕ) (s : Option ℕ) (r b : ℕ) → w / 2 ^ 9 % 2 ^ 7 ≡ 127 → w / 2 ^ 3 % 2 ^ 1 ≡ 0 → r ≡ w / 2 ^ 4 % 2 ^ 5 → b ≡ w / 2 ^ 0 % 2 ^ 3 → Row w s (Sbrs r b) 1
row_sbrs w s r b at_1 at_2 is_r is_b = row_at 88 _ _ w s (Sbrs r b) refl refl (grind arith) (grind arith)

pub ruleset bits = (row_cbi, row_sbic, row_sbi, row_sbis, row_in, row_out, row_bld, row_bst, row_sbrc, row_sbrs)
