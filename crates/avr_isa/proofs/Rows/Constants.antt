-- Instructions of a register or a pair and a constant. Each lemma is a line of the table: the bits that it fixes, and its operands as parts of the word.
use Rattle.std.proofs.Common.{◌≡◌, ℕ, ◌+◌, ◌*◌, ◌/◌, ◌%◌, ◌^◌, Option, refl, arith}
use Rattle.avr_isa.specs.Table.{Row}
use Rattle.avr_isa.specs.declared.instruction.Instr.TheVariants.{Cpi, Sbci, Subi, Ori, Andi, Ldi, Adiw, Sbiw}
use Rattle.avr_isa.proofs.Place.{row_at}

pub row_cpi : (w : ℕ) (s : Option ℕ) (d K : ℕ) → w / 2 ^ 12 % 2 ^ 4 ≡ 3 → d ≡ 16 + w / 2 ^ 4 % 2 ^ 4 → K ≡ 16 * (w / 2 ^ 8 % 2 ^ 4) + w / 2 ^ 0 % 2 ^ 4 → Row w s (Cpi d K) 1
row_cpi w s d K at_1 is_d is_K = row_at 18 _ _ w s (Cpi d K) refl refl (grind arith) (grind arith)

pub row_sbci : (w : ℕ) (s : Option ℕ) (d K : ℕ) → w / 2 ^ 12 % 2 ^ 4 ≡ 4 → d ≡ 16 + w / 2 ^ 4 % 2 ^ 4 → K ≡ 16 * (w / 2 ^ 8 % 2 ^ 4) + w / 2 ^ 0 % 2 ^ 4 → Row w s (Sbci d K) 1
row_sbci w s d K at_1 is_d is_K = row_at 19 _ _ w s (Sbci d K) refl refl (grind arith) (grind arith)

pub row_subi : (w : ℕ) (s : Option ℕ) (d K : ℕ) → w / 2 ^ 12 % 2 ^ 4 ≡ 5 → d ≡ 16 + w / 2 ^ 4 % 2 ^ 4 → K ≡ 16 * (w / 2 ^ 8 % 2 ^ 4) + w / 2 ^ 0 % 2 ^ 4 → Row w s (Subi d K) 1
row_subi w s d K at_1 is_d is_K = row_at 20 _ _ w s (Subi d K) refl refl (grind arith) (grind arith)

pub row_ori : (w : ℕ) (s : Option ℕ) (d K : ℕ) → w / 2 ^ 12 % 2 ^ 4 ≡ 6 → d ≡ 16 + w / 2 ^ 4 % 2 ^ 4 → K ≡ 16 * (w / 2 ^ 8 % 2 ^ 4) + w / 2 ^ 0 % 2 ^ 4 → Row w s (Ori d K) 1
row_ori w s d K at_1 is_d is_K = row_at 21 _ _ w s (Ori d K) refl refl (grind arith) (grind arith)

pub row_andi : (w : ℕ) (s : Option ℕ) (d K : ℕ) → w / 2 ^ 12 % 2 ^ 4 ≡ 7 → d ≡ 16 + w / 2 ^ 4 % 2 ^ 4 → K ≡ 16 * (w / 2 ^ 8 % 2 ^ 4) + w / 2 ^ 0 % 2 ^ 4 → Row w s (Andi d K) 1
row_andi w s d K at_1 is_d is_K = row_at 22 _ _ w s (Andi d K) refl refl (grind arith) (grind arith)

pub row_ldi : (w : ℕ) (s : Option ℕ) (d K : ℕ) → w / 2 ^ 12 % 2 ^ 4 ≡ 14 → d ≡ 16 + w / 2 ^ 4 % 2 ^ 4 → K ≡ 16 * (w / 2 ^ 8 % 2 ^ 4) + w / 2 ^ 0 % 2 ^ 4 → Row w s (Ldi d K) 1
row_ldi w s d K at_1 is_d is_K = row_at 82 _ _ w s (Ldi d K) refl refl (grind arith) (grind arith)

pub row_adiw : (w : ℕ) (s : Option ℕ) (d K : ℕ) → w / 2 ^ 8 % 2 ^ 8 ≡ 150 → d ≡ 24 + 2 * (w / 2 ^ 4 % 2 ^ 2) → K ≡ 16 * (w / 2 ^ 6 % 2 ^ 2) + w / 2 ^ 0 % 2 ^ 4 → Row w s (Adiw d K) 1
row_adiw w s d K at_1 is_d is_K = row_at 71 _ _ w s (Adiw d K) refl refl (grind arith) (grind arith)

pub row_sbiw : (w : ℕ) (s : Option ℕ) (d K : ℕ) → w / 2 ^ 8 % 2 ^ 8 ≡ 151 → d ≡ 24 + 2 * (w / 2 ^ 4 % 2 ^ 2) → K ≡ 16 * (w / 2 ^ 6 % 2 ^ 2) + w / 2 ^ 0 % 2 ^ 4 → Row w s (Sbiw d K) 1
row_sbiw w s d K at_1 is_d is_K = row_at 72 _ _ w s (Sbiw d K) refl refl (grind arith) (grind arith)

pub ruleset constants = (row_cpi, row_sbci, row_subi, row_ori, row_andi, row_ldi, row_adiw, row_sbiw)
