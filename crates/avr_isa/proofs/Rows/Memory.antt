-- Loads and stores. Each lemma is a line of the table: the bits that it fixes, and its operands as parts of the word.
use Rattle.std.proofs.Common.{◌≡◌, ℕ, ◌+◌, ◌*◌, ◌/◌, ◌%◌, ◌^◌, Option, Some, refl, arith}
use Rattle.avr_isa.specs.Table.{Row}
use Rattle.avr_isa.specs.declared.instruction.Instr.TheVariants.{LddZ, LddY, StdZ, StdY, Lds, LdZInc, LdZDec, LpmZ, LpmZInc, ElpmZ, ElpmZInc, LdYInc, LdYDec, LdX, LdXInc, LdXDec, Pop, Sts, StZInc, StZDec, StYInc, StYDec, StX, StXInc, StXDec, Push}
use Rattle.avr_isa.proofs.Place.{row_at, row_with_word_at}

pub row_ldd_z : (w : ℕ) (s : Option ℕ) (d q : ℕ) → w / 2 ^ 14 % 2 ^ 2 ≡ 2 → w / 2 ^ 12 % 2 ^ 1 ≡ 0 → w / 2 ^ 9 % 2 ^ 1 ≡ 0 → w / 2 ^ 3 % 2 ^ 1 ≡ 0 → d ≡ w / 2 ^ 4 % 2 ^ 5 → q ≡ 32 * (w / 2 ^ 13 % 2 ^ 1) + 8 * (w / 2 ^ 10 % 2 ^ 2) + w / 2 ^ 0 % 2 ^ 3 → Row w s (LddZ d q) 1
row_ldd_z w s d q at_1 at_2 at_3 at_4 is_d is_q = row_at 23 _ _ w s (LddZ d q) refl refl (grind arith) (grind arith)

pub row_ldd_y : (w : ℕ) (s : Option ℕ) (d q : ℕ) → w / 2 ^ 14 % 2 ^ 2 ≡ 2 → w / 2 ^ 12 % 2 ^ 1 ≡ 0 → w / 2 ^ 9 % 2 ^ 1 ≡ 0 → w / 2 ^ 3 % 2 ^ 1 ≡ 1 → d ≡ w / 2 ^ 4 % 2 ^ 5 → q ≡ 32 * (w / 2 ^ 13 % 2 ^ 1) + 8 * (w / 2 ^ 10 % 2 ^ 2) + w / 2 ^ 0 % 2 ^ 3 → Row w s (LddY d q) 1
row_ldd_y w s d q at_1 at_2 at_3 at_4 is_d is_q = row_at 24 _ _ w s (LddY d q) refl refl (grind arith) (grind arith)

pub row_std_z : (w : ℕ) (s : Option ℕ) (r q : ℕ) → w / 2 ^ 14 % 2 ^ 2 ≡ 2 → w / 2 ^ 12 % 2 ^ 1 ≡ 0 → w / 2 ^ 9 % 2 ^ 1 ≡ 1 → w / 2 ^ 3 % 2 ^ 1 ≡ 0 → r ≡ w / 2 ^ 4 % 2 ^ 5 → q ≡ 32 * (w / 2 ^ 13 % 2 ^ 1) + 8 * (w / 2 ^ 10 % 2 ^ 2) + w / 2 ^ 0 % 2 ^ 3 → Row w s (StdZ r q) 1
row_std_z w s r q at_1 at_2 at_3 at_4 is_r is_q = row_at 25 _ _ w s (StdZ r q) refl refl (grind arith) (grind arith)

pub row_std_y : (w : ℕ) (s : Option ℕ) (r q : ℕ) → w / 2 ^ 14 % 2 ^ 2 ≡ 2 → w / 2 ^ 12 % 2 ^ 1 ≡ 0 → w / 2 ^ 9 % 2 ^ 1 ≡ 1 → w / 2 ^ 3 % 2 ^ 1 ≡ 1 → r ≡ w / 2 ^ 4 % 2 ^ 5 → q ≡ 32 * (w / 2 ^ 13 % 2 ^ 1) + 8 * (w / 2 ^ 10 % 2 ^ 2) + w / 2 ^ 0 % 2 ^ 3 → Row w s (StdY r q) 1
row_std_y w s r q at_1 at_2 at_3 at_4 is_r is_q = row_at 26 _ _ w s (StdY r q) refl refl (grind arith) (grind arith)

pub row_lds : (w k : ℕ) (d : ℕ) → w / 2 ^ 9 % 2 ^ 7 ≡ 72 → w / 2 ^ 0 % 2 ^ 4 ≡ 0 → d ≡ w / 2 ^ 4 % 2 ^ 5 → Row w (Some k) (Lds d k) 2
row_lds w k d at_1 at_2 is_d = row_with_word_at 27 _ _ w k (Lds d k) refl refl (grind arith) (grind arith)

pub row_ld_z_inc : (w : ℕ) (s : Option ℕ) (d : ℕ) → w / 2 ^ 9 % 2 ^ 7 ≡ 72 → w / 2 ^ 0 % 2 ^ 4 ≡ 1 → d ≡ w / 2 ^ 4 % 2 ^ 5 → Row w s (LdZInc d) 1
row_ld_z_inc w s d at_1 at_2 is_d = row_at 28 _ _ w s (LdZInc d) refl refl (grind arith) (grind arith)

pub row_ld_z_dec : (w : ℕ) (s : Option ℕ) (d : ℕ) → w / 2 ^ 9 % 2 ^ 7 ≡ 72 → w / 2 ^ 0 % 2 ^ 4 ≡ 2 → d ≡ w / 2 ^ 4 % 2 ^ 5 → Row w s (LdZDec d) 1
row_ld_z_dec w s d at_1 at_2 is_d = row_at 29 _ _ w s (LdZDec d) refl refl (grind arith) (grind arith)

pub row_lpm_z : (w : ℕ) (s : Option ℕ) (d : ℕ) → w / 2 ^ 9 % 2 ^ 7 ≡ 72 → w / 2 ^ 0 % 2 ^ 4 ≡ 4 → d ≡ w / 2 ^ 4 % 2 ^ 5 → Row w s (LpmZ d) 1
row_lpm_z w s d at_1 at_2 is_d = row_at 30 _ _ w s (LpmZ d) refl refl (grind arith) (grind arith)

pub row_lpm_z_inc : (w : ℕ) (s : Option ℕ) (d : ℕ) → w / 2 ^ 9 % 2 ^ 7 ≡ 72 → w / 2 ^ 0 % 2 ^ 4 ≡ 5 → d ≡ w / 2 ^ 4 % 2 ^ 5 → Row w s (LpmZInc d) 1
row_lpm_z_inc w s d at_1 at_2 is_d = row_at 31 _ _ w s (LpmZInc d) refl refl (grind arith) (grind arith)

pub row_elpm_z : (w : ℕ) (s : Option ℕ) (d : ℕ) → w / 2 ^ 9 % 2 ^ 7 ≡ 72 → w / 2 ^ 0 % 2 ^ 4 ≡ 6 → d ≡ w / 2 ^ 4 % 2 ^ 5 → Row w s (ElpmZ d) 1
row_elpm_z w s d at_1 at_2 is_d = row_at 32 _ _ w s (ElpmZ d) refl refl (grind arith) (grind arith)

pub row_elpm_z_inc : (w : ℕ) (s : Option ℕ) (d : ℕ) → w / 2 ^ 9 % 2 ^ 7 ≡ 72 → w / 2 ^ 0 % 2 ^ 4 ≡ 7 → d ≡ w / 2 ^ 4 % 2 ^ 5 → Row w s (ElpmZInc d) 1
row_elpm_z_inc w s d at_1 at_2 is_d = row_at 33 _ _ w s (ElpmZInc d) refl refl (grind arith) (grind arith)

pub row_ld_y_inc : (w : ℕ) (s : Option ℕ) (d : ℕ) → w / 2 ^ 9 % 2 ^ 7 ≡ 72 → w / 2 ^ 0 % 2 ^ 4 ≡ 9 → d ≡ w / 2 ^ 4 % 2 ^ 5 → Row w s (LdYInc d) 1
row_ld_y_inc w s d at_1 at_2 is_d = row_at 34 _ _ w s (LdYInc d) refl refl (grind arith) (grind arith)

pub row_ld_y_dec : (w : ℕ) (s : Option ℕ) (d : ℕ) → w / 2 ^ 9 % 2 ^ 7 ≡ 72 → w / 2 ^ 0 % 2 ^ 4 ≡ 10 → d ≡ w / 2 ^ 4 % 2 ^ 5 → Row w s (LdYDec d) 1
row_ld_y_dec w s d at_1 at_2 is_d = row_at 35 _ _ w s (LdYDec d) refl refl (grind arith) (grind arith)

pub row_ld_x : (w : ℕ) (s : Option ℕ) (d : ℕ) → w / 2 ^ 9 % 2 ^ 7 ≡ 72 → w / 2 ^ 0 % 2 ^ 4 ≡ 12 → d ≡ w / 2 ^ 4 % 2 ^ 5 → Row w s (LdX d) 1
row_ld_x w s d at_1 at_2 is_d = row_at 36 _ _ w s (LdX d) refl refl (grind arith) (grind arith)

pub row_ld_x_inc : (w : ℕ) (s : Option ℕ) (d : ℕ) → w / 2 ^ 9 % 2 ^ 7 ≡ 72 → w / 2 ^ 0 % 2 ^ 4 ≡ 13 → d ≡ w / 2 ^ 4 % 2 ^ 5 → Row w s (LdXInc d) 1
row_ld_x_inc w s d at_1 at_2 is_d = row_at 37 _ _ w s (LdXInc d) refl refl (grind arith) (grind arith)

pub row_ld_x_dec : (w : ℕ) (s : Option ℕ) (d : ℕ) → w / 2 ^ 9 % 2 ^ 7 ≡ 72 → w / 2 ^ 0 % 2 ^ 4 ≡ 14 → d ≡ w / 2 ^ 4 % 2 ^ 5 → Row w s (LdXDec d) 1
row_ld_x_dec w s d at_1 at_2 is_d = row_at 38 _ _ w s (LdXDec d) refl refl (grind arith) (grind arith)

pub row_pop : (w : ℕ) (s : Option ℕ) (d : ℕ) → w / 2 ^ 9 % 2 ^ 7 ≡ 72 → w / 2 ^ 0 % 2 ^ 4 ≡ 15 → d ≡ w / 2 ^ 4 % 2 ^ 5 → Row w s (Pop d) 1
row_pop w s d at_1 at_2 is_d = row_at 39 _ _ w s (Pop d) refl refl (grind arith) (grind arith)

pub row_sts : (w k : ℕ) (r : ℕ) → w / 2 ^ 9 % 2 ^ 7 ≡ 73 → w / 2 ^ 0 % 2 ^ 4 ≡ 0 → r ≡ w / 2 ^ 4 % 2 ^ 5 → Row w (Some k) (Sts r k) 2
row_sts w k r at_1 at_2 is_r = row_with_word_at 40 _ _ w k (Sts r k) refl refl (grind arith) (grind arith)

pub row_st_z_inc : (w : ℕ) (s : Option ℕ) (r : ℕ) → w / 2 ^ 9 % 2 ^ 7 ≡ 73 → w / 2 ^ 0 % 2 ^ 4 ≡ 1 → r ≡ w / 2 ^ 4 % 2 ^ 5 → Row w s (StZInc r) 1
row_st_z_inc w s r at_1 at_2 is_r = row_at 41 _ _ w s (StZInc r) refl refl (grind arith) (grind arith)

pub row_st_z_dec : (w : ℕ) (s : Option ℕ) (r : ℕ) → w / 2 ^ 9 % 2 ^ 7 ≡ 73 → w / 2 ^ 0 % 2 ^ 4 ≡ 2 → r ≡ w / 2 ^ 4 % 2 ^ 5 → Row w s (StZDec r) 1
row_st_z_dec w s r at_1 at_2 is_r = row_at 42 _ _ w s (StZDec r) refl refl (grind arith) (grind arith)

pub row_st_y_inc : (w : ℕ) (s : Option ℕ) (r : ℕ) → w / 2 ^ 9 % 2 ^ 7 ≡ 73 → w / 2 ^ 0 % 2 ^ 4 ≡ 9 → r ≡ w / 2 ^ 4 % 2 ^ 5 → Row w s (StYInc r) 1
row_st_y_inc w s r at_1 at_2 is_r = row_at 43 _ _ w s (StYInc r) refl refl (grind arith) (grind arith)

pub row_st_y_dec : (w : ℕ) (s : Option ℕ) (r : ℕ) → w / 2 ^ 9 % 2 ^ 7 ≡ 73 → w / 2 ^ 0 % 2 ^ 4 ≡ 10 → r ≡ w / 2 ^ 4 % 2 ^ 5 → Row w s (StYDec r) 1
row_st_y_dec w s r at_1 at_2 is_r = row_at 44 _ _ w s (StYDec r) refl refl (grind arith) (grind arith)

pub row_st_x : (w : ℕ) (s : Option ℕ) (r : ℕ) → w / 2 ^ 9 % 2 ^ 7 ≡ 73 → w / 2 ^ 0 % 2 ^ 4 ≡ 12 → r ≡ w / 2 ^ 4 % 2 ^ 5 → Row w s (StX r) 1
row_st_x w s r at_1 at_2 is_r = row_at 45 _ _ w s (StX r) refl refl (grind arith) (grind arith)

pub row_st_x_inc : (w : ℕ) (s : Option ℕ) (r : ℕ) → w / 2 ^ 9 % 2 ^ 7 ≡ 73 → w / 2 ^ 0 % 2 ^ 4 ≡ 13 → r ≡ w / 2 ^ 4 % 2 ^ 5 → Row w s (StXInc r) 1
row_st_x_inc w s r at_1 at_2 is_r = row_at 46 _ _ w s (StXInc r) refl refl (grind arith) (grind arith)

pub row_st_x_dec : (w : ℕ) (s : Option ℕ) (r : ℕ) → w / 2 ^ 9 % 2 ^ 7 ≡ 73 → w / 2 ^ 0 % 2 ^ 4 ≡ 14 → r ≡ w / 2 ^ 4 % 2 ^ 5 → Row w s (StXDec r) 1
row_st_x_dec w s r at_1 at_2 is_r = row_at 47 _ _ w s (StXDec r) refl refl (grind arith) (grind arith)

pub row_push : (w : ℕ) (s : Option ℕ) (r : ℕ) → w / 2 ^ 9 % 2 ^ 7 ≡ 73 → w / 2 ^ 0 % 2 ^ 4 ≡ 15 → r ≡ w / 2 ^ 4 % 2 ^ 5 → Row w s (Push r) 1
row_push w s r at_1 at_2 is_r = row_at 48 _ _ w s (Push r) refl refl (grind arith) (grind arith)

pub ruleset memory = (row_ldd_z, row_ldd_y, row_std_z, row_std_y, row_lds, row_ld_z_inc, row_ld_z_dec, row_lpm_z, row_lpm_z_inc, row_elpm_z, row_elpm_z_inc, row_ld_y_inc, row_ld_y_dec, row_ld_x, row_ld_x_inc, row_ld_x_dec, row_pop, row_sts, row_st_z_inc, row_st_z_dec, row_st_y_inc, row_st_y_dec, row_st_x, row_st_x_inc, row_st_x_dec, row_push)
