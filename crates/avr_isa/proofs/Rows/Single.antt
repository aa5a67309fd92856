-- Instructions of one register or of none. Each lemma is a line of the table: the bits that it fixes, and its operands as parts of the word.
use Rattle.std.proofs.Common.{◌≡◌, ℕ, ◌/◌, ◌%◌, ◌^◌, Option, refl, arith}
use Rattle.avr_isa.specs.Table.{Row}
use Rattle.avr_isa.specs.declared.instruction.Instr.TheVariants.{Com, Neg, Swap, Inc, Asr, Lsr, Ror, Dec, Bset, Bclr, Ijmp, Icall, Ret, Reti, Sleep, Break, Wdr, LpmR0, ElpmR0, Spm}
use Rattle.avr_isa.proofs.Place.{row_at}

pub row_com : (w : ℕ) (s : Option ℕ) (d : ℕ) → w / 2 ^ 9 % 2 ^ 7 ≡ 74 → w / 2 ^ 0 % 2 ^ 4 ≡ 0 → d ≡ w / 2 ^ 4 % 2 ^ 5 → Row w s (Com d) 1
row_com w s d at_1 at_2 is_d = row_at 49 _ _ w s (Com d) refl refl (grind arith) (grind arith)

pub row_neg : (w : ℕ) (s : Option ℕ) (d : ℕ) → w / 2 ^ 9 % 2 ^ 7 ≡ 74 → w / 2 ^ 0 % 2 ^ 4 ≡ 1 → d ≡ w / 2 ^ 4 % 2 ^ 5 → Row w s (Neg d) 1
row_neg w s d at_1 at_2 is_d = row_at 50 _ _ w s (Neg d) refl refl (grind arith) (grind arith)

pub row_swap : (w : ℕ) (s : Option ℕ) (d : ℕ) → w / 2 ^ 9 % 2 ^ 7 ≡ 74 → w / 2 ^ 0 % 2 ^ 4 ≡ 2 → d ≡ w / 2 ^ 4 % 2 ^ 5 → Row w s (Swap d) 1
row_swap w s d at_1 at_2 is_d = row_at 51 _ _ w s (Swap d) refl refl (grind arith) (grind arith)

pub row_inc : (w : ℕ) (s : Option ℕ) (d : ℕ) → w / 2 ^ 9 % 2 ^ 7 ≡ 74 → w / 2 ^ 0 % 2 ^ 4 ≡ 3 → d ≡ w / 2 ^ 4 % 2 ^ 5 → Row w s (Inc d) 1
row_inc w s d at_1 at_2 is_d = row_at 52 _ _ w s (Inc d) refl refl (grind arith) (grind arith)

pub row_asr : (w : ℕ) (s : Option ℕ) (d : ℕ) → w / 2 ^ 9 % 2 ^ 7 ≡ 74 → w / 2 ^ 0 % 2 ^ 4 ≡ 5 → d ≡ w / 2 ^ 4 % 2 ^ 5 → Row w s (Asr d) 1
row_asr w s d at_1 at_2 is_d = row_at 53 _ _ w s (Asr d) refl refl (grind arith) (grind arith)

pub row_lsr : (w : ℕ) (s : Option ℕ) (d : ℕ) → w / 2 ^ 9 % 2 ^ 7 ≡ 74 → w / 2 ^ 0 % 2 ^ 4 ≡ 6 → d ≡ w / 2 ^ 4 % 2 ^ 5 → Row w s (Lsr d) 1
row_lsr w s d at_1 at_2 is_d = row_at 54 _ _ w s (Lsr d) refl refl (grind arith) (grind arith)

pub row_ror : (w : ℕ) (s : Option ℕ) (d : ℕ) → w / 2 ^ 9 % 2 ^ 7 ≡ 74 → w / 2 ^ 0 % 2 ^ 4 ≡ 7 → d ≡ w / 2 ^ 4 % 2 ^ 5 → Row w s (Ror d) 1
row_ror w s d at_1 at_2 is_d = row_at 55 _ _ w s (Ror d) refl refl (grind arith) (grind arith)

pub row_dec : (w : ℕ) (s : Option ℕ) (d : ℕ) → w / 2 ^ 9 % 2 ^ 7 ≡ 74 → w / 2 ^ 0 % 2 ^ 4 ≡ 10 → d ≡ w / 2 ^ 4 % 2 ^ 5 → Row w s (Dec d) 1
row_dec w s d at_1 at_2 is_d = row_at 56 _ _ w s (Dec d) refl refl (grind arith) (grind arith)

pub row_bset : (w : ℕ) (s : Option ℕ) (bit : ℕ) → w / 2 ^ 9 % 2 ^ 7 ≡ 74 → w / 2 ^ 7 % 2 ^ 2 ≡ 0 → w / 2 ^ 0 % 2 ^ 4 ≡ 8 → bit ≡ w / 2 ^ 4 % 2 ^ 3 → Row w s (Bset bit) 1
row_bset w s bit at_1 at_2 at_3 is_bit = row_at 57 _ _ w s (Bset bit) refl refl (grind arith) (grind arith)

pub row_bclr : (w : ℕ) (s : Option ℕ) (bit : ℕ) → w / 2 ^ 9 % 2 ^ 7 ≡ 74 → w / 2 ^ 7 % 2 ^ 2 ≡ 1 → w / 2 ^ 0 % 2 ^ 4 ≡ 8 → bit ≡ w / 2 ^ 4 % 2 ^ 3 → Row w s (Bclr bit) 1
row_bclr w s bit at_1 at_2 at_3 is_bit = row_at 58 _ _ w s (Bclr bit) refl refl (grind arith) (grind arith)

pub row_ijmp : (w : ℕ) (s : Option ℕ) → w / 2 ^ 9 % 2 ^ 7 ≡ 74 → w / 2 ^ 4 % 2 ^ 5 ≡ 0 → w / 2 ^ 0 % 2 ^ 4 ≡ 9 → Row w s Ijmp 1
row_ijmp w s at_1 at_2 at_3 = row_at 59 _ _ w s Ijmp refl refl (grind arith) (grind arith)

pub row_icall : (w : ℕ) (s : Option ℕ) → w / 2 ^ 9 % 2 ^ 7 ≡ 74 → w / 2 ^ 4 % 2 ^ 5 ≡ 16 → w / 2 ^ 0 % 2 ^ 4 ≡ 9 → Row w s Icall 1
row_icall w s at_1 at_2 at_3 = row_at 60 _ _ w s Icall refl refl (grind arith) (grind arith)

pub row_ret : (w : ℕ) (s : Option ℕ) → w / 2 ^ 9 % 2 ^ 7 ≡ 74 → w / 2 ^ 4 % 2 ^ 5 ≡ 16 → w / 2 ^ 0 % 2 ^ 4 ≡ 8 → Row w s Ret 1
row_ret w s at_1 at_2 at_3 = row_at 61 _ _ w s Ret refl refl (grind arith) (grind arith)

pub row_reti : (w : ℕ) (s : Option ℕ) → w / 2 ^ 9 % 2 ^ 7 ≡ 74 → w / 2 ^ 4 % 2 ^ 5 ≡ 17 → w / 2 ^ 0 % 2 ^ 4 ≡ 8 → Row w s Reti 1
row_reti w s at_1 at_2 at_3 = row_at 62 _ _ w s Reti refl refl (grind arith) (grind arith)

pub row_sleep : (w : ℕ) (s : Option ℕ) → w / 2 ^ 9 % 2 ^ 7 ≡ 74 → w / 2 ^ 4 % 2 ^ 5 ≡ 24 → w / 2 ^ 0 % 2 ^ 4 ≡ 8 → Row w s Sleep 1
row_sleep w s at_1 at_2 at_3 = row_at 63 _ _ w s Sleep refl refl (grind arith) (grind arith)

pub row_break : (w : ℕ) (s : Option ℕ) → w / 2 ^ 9 % 2 ^ 7 ≡ 74 → w / 2 ^ 4 % 2 ^ 5 ≡ 25 → w / 2 ^ 0 % 2 ^ 4 ≡ 8 → Row w s Break 1
row_break w s at_1 at_2 at_3 = row_at 64 _ _ w s Break refl refl (grind arith) (grind arith)

pub row_wdr : (w : ℕ) (s : Option ℕ) → w / 2 ^ 9 % 2 ^ 7 ≡ 74 → w / 2 ^ 4 % 2 ^ 5 ≡ 26 → w / 2 ^ 0 % 2 ^ 4 ≡ 8 → Row w s Wdr 1
row_wdr w s at_1 at_2 at_3 = row_at 65 _ _ w s Wdr refl refl (grind arith) (grind arith)

pub row_lpm_r0 : (w : ℕ) (s : Option ℕ) → w / 2 ^ 9 % 2 ^ 7 ≡ 74 → w / 2 ^ 4 % 2 ^ 5 ≡ 28 → w / 2 ^ 0 % 2 ^ 4 ≡ 8 → Row w s LpmR0 1
row_lpm_r0 w s at_1 at_2 at_3 = row_at 66 _ _ w s LpmR0 refl refl (grind arith) (grind arith)

pub row_elpm_r0 : (w : ℕ) (s : Option ℕ) → w / 2 ^ 9 % 2 ^ 7 ≡ 74 → w / 2 ^ 4 % 2 ^ 5 ≡ 29 → w / 2 ^ 0 % 2 ^ 4 ≡ 8 → Row w s ElpmR0 1
row_elpm_r0 w s at_1 at_2 at_3 = row_at 67 _ _ w s ElpmR0 refl refl (grind arith) (grind arith)

pub row_spm : (w : ℕ) (s : Option ℕ) → w / 2 ^ 9 % 2 ^ 7 ≡ 74 → w / 2 ^ 4 % 2 ^ 5 ≡ 30 → w / 2 ^ 0 % 2 ^ 4 ≡ 8 → Row w s Spm 1
row_spm w s at_1 at_2 at_3 = row_at 68 _ _ w s Spm refl refl (grind arith) (grind arith)

pub ruleset single = (row_com, row_neg, row_swap, row_inc, row_asr, row_lsr, row_ror, row_dec, row_bset, row_bclr, row_ijmp, row_icall, row_ret, row_reti, row_sleep, row_break, row_wdr, row_lpm_r0, row_elpm_r0, row_spm)
