-- Instructions of two registers. Each lemma is a line of the table: the bits that it fixes, and its operands as parts of the word.
use Rattle.std.proofs.Common.{◌≡◌, ℕ, ◌+◌, ◌*◌, ◌/◌, ◌%◌, ◌^◌, Option, refl, arith}
use Rattle.avr_isa.specs.Table.{Row}
use Rattle.avr_isa.specs.declared.instruction.Instr.TheVariants.{Nop, Movw, Muls, Mulsu, Fmul, Fmuls, Fmulsu, Cpc, Sbc, Add, Cpse, Cp, Sub, Adc, And, Eor, Or, Mov, Mul}
use Rattle.avr_isa.proofs.Place.{row_at}

pub row_nop : (w : ℕ) (s : Option ℕ) → w ≡ 0 → Row w s Nop 1
row_nop w s at_1 = row_at 0 _ _ w s Nop refl refl (grind arith) (grind arith)

pub row_movw : (w : ℕ) (s : Option ℕ) (d r : ℕ) → w / 2 ^ 8 % 2 ^ 8 ≡ 1 → d ≡ 2 * (w / 2 ^ 4 % 2 ^ 4) → r ≡ 2 * (w / 2 ^ 0 % 2 ^ 4) → Row w s (Movw d r) 1
row_movw w s d r at_1 is_d is_r = row_at 1 _ _ w s (Movw d r) refl refl (grind arith) (grind arith)

pub row_muls : (w : ℕ) (s : Option ℕ) (d r : ℕ) → w / 2 ^ 8 % 2 ^ 8 ≡ 2 → d ≡ 16 + w / 2 ^ 4 % 2 ^ 4 → r ≡ 16 + w / 2 ^ 0 % 2 ^ 4 → Row w s (Muls d r) 1
row_muls w s d r at_1 is_d is_r = row_at 2 _ _ w s (Muls d r) refl refl (grind arith) (grind arith)

pub row_mulsu : (w : ℕ) (s : Option ℕ) (d r : ℕ) → w / 2 ^ 8 % 2 ^ 8 ≡ 3 → w / 2 ^ 7 % 2 ^ 1 ≡ 0 → w / 2 ^ 3 % 2 ^ 1 ≡ 0 → d ≡ 16 + w / 2 ^ 4 % 2 ^ 3 → r ≡ 16 + w / 2 ^ 0 % 2 ^ 3 → Row w s (Mulsu d r) 1
row_mulsu w s d r at_1 at_2 at_3 is_d is_r = row_at 3 _ _ w s (Mulsu d r) refl refl (grind arith) (grind arith)

pub row_fmul : (w : ℕ) (s : Option ℕ) (d r : ℕ) → w / 2 ^ 8 % 2 ^ 8 ≡ 3 → w / 2 ^ 7 % 2 ^ 1 ≡ 0 → w / 2 ^ 3 % 2 ^ 1 ≡ 1 → d ≡ 16 + w / 2 ^ 4 % 2 ^ 3 → r ≡ 16 + w / 2 ^ 0 % 2 ^ 3 → Row w s (Fmul d r) 1
row_fmul w s d r at_1 at_2 at_3 is_d is_r = row_at 4 _ _ w s (Fmul d r) refl refl (grind arith) (grind arith)

pub row_fmuls : (w : ℕ) (s : Option ℕ) (d r : ℕ) → w / 2 ^ 8 % 2 ^ 8 ≡ 3 → w / 2 ^ 7 % 2 ^ 1 ≡ 1 → w / 2 ^ 3 % 2 ^ 1 ≡ 0 → d ≡ 16 + w / 2 ^ 4 % 2 ^ 3 → r ≡ 16 + w / 2 ^ 0 % 2 ^ 3 → Row w s (Fmuls d r) 1
row_fmuls w s d r at_1 at_2 at_3 is_d is_r = row_at 5 _ _ w s (Fmuls d r) refl refl (grind arith) (grind arith)

pub row_fmulsu : (w : ℕ) (s : Option ℕ) (d r : ℕ) → w / 2 ^ 8 % 2 ^ 8 ≡ 3 → w / 2 ^ 7 % 2 ^ 1 ≡ 1 → w / 2 ^ 3 % 2 ^ 1 ≡ 1 → d ≡ 16 + w / 2 ^ 4 % 2 ^ 3 → r ≡ 16 + w / 2 ^ 0 % 2 ^ 3 → Row w s (Fmulsu d r) 1
row_fmulsu w s d r at_1 at_2 at_3 is_d is_r = row_at 6 _ _ w s (Fmulsu d r) refl refl (grind arith) (grind arith)

pub row_cpc : (w : ℕ) (s : Option ℕ) (d r : ℕ) → w / 2 ^ 10 % 2 ^ 6 ≡ 1 → d ≡ w / 2 ^ 4 % 2 ^ 5 → r ≡ 16 * (w / 2 ^ 9 % 2 ^ 1) + w / 2 ^ 0 % 2 ^ 4 → Row w s (Cpc d r) 1
row_cpc w s d r at_1 is_d is_r = row_at 7 _ _ w s (Cpc d r) refl refl (grind arith) (grind arith)

pub row_sbc : (w : ℕ) (s : Option ℕ) (d r : ℕ) → w / 2 ^ 10 % 2 ^ 6 ≡ 2 → d ≡ w / 2 ^ 4 % 2 ^ 5 → r ≡ 16 * (w / 2 ^ 9 % 2 ^ 1) + w / 2 ^ 0 % 2 ^ 4 → Row w s (Sbc d r) 1
row_sbc w s d r at_1 is_d is_r = row_at 8 _ _ w s (Sbc d r) refl refl (grind arith) (grind arith)

pub row_add : (w : ℕ) (s : Option ℕ) (d r : ℕ) → w / 2 ^ 10 % 2 ^ 6 ≡ 3 → d ≡ w / 2 ^ 4 % 2 ^ 5 → r ≡ 16 * (w / 2 ^ 9 % 2 ^ 1) + w / 2 ^ 0 % 2 ^ 4 → Row w s (Add d r) 1
row_add w s d r at_1 is_d is_r = row_at 9 _ _ w s (Add d r) refl refl (grind arith) (grind arith)

pub row_cpse : (w : ℕ) (s : Option ℕ) (d r : ℕ) → w / 2 ^ 10 % 2 ^ 6 ≡ 4 → d ≡ w / 2 ^ 4 % 2 ^ 5 → r ≡ 16 * (w / 2 ^ 9 % 2 ^ 1) + w / 2 ^ 0 % 2 ^ 4 → Row w s (Cpse d r) 1
row_cpse w s d r at_1 is_d is_r = row_at 10 _ _ w s (Cpse d r) refl refl (grind arith) (grind arith)

pub row_cp : (w : ℕ) (s : Option ℕ) (d r : ℕ) → w / 2 ^ 10 % 2 ^ 6 ≡ 5 → d ≡ w / 2 ^ 4 % 2 ^ 5 → r ≡ 16 * (w / 2 ^ 9 % 2 ^ 1) + w / 2 ^ 0 % 2 ^ 4 → Row w s (Cp d r) 1
row_cp w s d r at_1 is_d is_r = row_at 11 _ _ w s (Cp d r) refl refl (grind arith) (grind arith)

pub row_sub : (w : ℕ) (s : Option ℕ) (d r : ℕ) → w / 2 ^ 10 % 2 ^ 6 ≡ 6 → d ≡ w / 2 ^ 4 % 2 ^ 5 → r ≡ 16 * (w / 2 ^ 9 % 2 ^ 1) + w / 2 ^ 0 % 2 ^ 4 → Row w s (Sub d r) 1
row_sub w s d r at_1 is_d is_r = row_at 12 _ _ w s (Sub d r) refl refl (grind arith) (grind arith)

pub row_adc : (w : ℕ) (s : Option ℕ) (d r : ℕ) → w / 2 ^ 10 % 2 ^ 6 ≡ 7 → d ≡ w / 2 ^ 4 % 2 ^ 5 → r ≡ 16 * (w / 2 ^ 9 % 2 ^ 1) + w / 2 ^ 0 % 2 ^ 4 → Row w s (Adc d r) 1
row_adc w s d r at_1 is_d is_r = row_at 13 _ _ w s (Adc d r) refl refl (grind arith) (grind arith)

pub row_and : (w : ℕ) (s : Option ℕ) (d r : ℕ) → w / 2 ^ 10 % 2 ^ 6 ≡ 8 → d ≡ w / 2 ^ 4 % 2 ^ 5 → r ≡ 16 * (w / 2 ^ 9 % 2 ^ 1) + w / 2 ^ 0 % 2 ^ 4 → Row w s (And d r) 1
row_and w s d r at_1 is_d is_r = row_at 14 _ _ w s (And d r) refl refl (grind arith) (grind arith)

pub row_eor : (w : ℕ) (s : Option ℕ) (d r : ℕ) → w / 2 ^ 10 % 2 ^ 6 ≡ 9 → d ≡ w / 2 ^ 4 % 2 ^ 5 → r ≡ 16 * (w / 2 ^ 9 % 2 ^ 1) + w / 2 ^ 0 % 2 ^ 4 → Row w s (Eor d r) 1
row_eor w s d r at_1 is_d is_r = row_at 15 _ _ w s (Eor d r) refl refl (grind arith) (grind arith)

pub row_or : (w : ℕ) (s : Option ℕ) (d r : ℕ) → w / 2 ^ 10 % 2 ^ 6 ≡ 10 → d ≡ w / 2 ^ 4 % 2 ^ 5 → r ≡ 16 * (w / 2 ^ 9 % 2 ^ 1) + w / 2 ^ 0 % 2 ^ 4 → Row w s (Or d r) 1
row_or w s d r at_1 is_d is_r = row_at 16 _ _ w s (Or d r) refl refl (grind arith) (grind arith)

pub row_mov : (w : ℕ) (s : Option ℕ) (d r : ℕ) → w / 2 ^ 10 % 2 ^ 6 ≡ 11 → d ≡ w / 2 ^ 4 % 2 ^ 5 → r ≡ 16 * (w / 2 ^ 9 % 2 ^ 1) + w / 2 ^ 0 % 2 ^ 4 → Row w s (Mov d r) 1
row_mov w s d r at_1 is_d is_r = row_at 17 _ _ w s (Mov d r) refl refl (grind arith) (grind arith)

pub row_mul : (w : ℕ) (s : Option ℕ) (d r : ℕ) → w / 2 ^ 10 % 2 ^ 6 ≡ 39 → d ≡ w / 2 ^ 4 % 2 ^ 5 → r ≡ 16 * (w / 2 ^ 9 % 2 ^ 1) + w / 2 ^ 0 % 2 ^ 4 → Row w s (Mul d r) 1
row_mul w s d r at_1 is_d is_r = row_at 77 _ _ w s (Mul d r) refl refl (grind arith) (grind arith)

pub ruleset registers = (row_nop, row_movw, row_muls, row_mulsu, row_fmul, row_fmuls, row_fmulsu, row_cpc, row_sbc, row_add, row_cpse, row_cp, row_sub, row_adc, row_and, row_eor, row_or, row_mov, row_mul)
