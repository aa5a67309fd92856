-- What the changes of an instruction keep: registers, memory and SREG hold bytes, and no byte of the memory changes but one that may.
use Rattle.std.proofs.Common.{◌≡◌, ◌≢◌, ℕ, ℤ, pos, negsuc, ◌+◌, ◌-◌, ◌^◌, ◌<◌, ◌≤◌, ◌==◌, ◌&&◌, inl, inr, nat_lt, nat_le, List, [], ◌∷◌, length, Bool, true, false, rules, refl, sym, ◌∙◌, subst, arith}
use Rattle.std.specs.Prelude.{slice_index, slice_set}
use Rattle.std.specs.List.{AllByRecursion}
use Rattle.std.specs.Int.{from_bool}
use Rattle.std.specs.Int.Bits.{and_lt}
use Rattle.std.proofs.lemmas.Bool.{cases_eq, cond_both}
use Rattle.std.proofs.lemmas.List.{length-set, get_or-set_other}
use Rattle.std.proofs.lemmas.Nat.{or_lt, xor_lt}
use Rattle.avr_isa.specs.Operands.{IsEncodable}
use Rattle.avr_isa.specs.declared.instruction.Instr.{Instr}
use Rattle.avr_isa.specs.declared.instruction.Instr.TheVariants.{Nop, Movw, Muls, Mulsu, Fmul, Fmuls, Fmulsu, Cpc, Sbc, Add, Cp, Sub, Adc, And, Eor, Or, Mov, Cpi, Sbci, Subi, Ori, Andi, Ldi, LddZ, LddY, Lds, LdZInc, LdZDec, LdYInc, LdYDec, LdX, LdXInc, LdXDec, Com, Neg, Swap, Inc, Asr, Lsr, Ror, Dec, Bset, Bclr, Adiw, Sbiw, Mul, In, Out, Bld, Bst, Call, Rcall, StdY, StdZ, StX, Sts, StXInc, StXDec, StYInc, StYDec, StZInc, StZDec}
use Rattle.avr_alu.specs.declared.flags.Flags.{Flags}
use Rattle.avr_alu.specs.declared.logic.Logic.{Logic}
use Rattle.avr_alu.specs.declared.logic.Logic.TheVariants.{And as and_bits, Or as or_bits, Eor as eor_bits}
use Rattle.avr_alu.specs.declared.one.One.{One}
use Rattle.avr_alu.specs.declared.one.One.TheVariants.{Com as complement, Neg as neg, Inc as inc, Dec as dec, Swap as swap, Lsr as lsr, Ror as ror, Asr as asr}
use Rattle.avr_alu.specs.declared.mul.Mul.{Mul as Product}
use Rattle.avr_alu.specs.Bits.{with_bit}
use Rattle.avr_alu.specs.Flags.{sreg_of}
use Rattle.avr_alu.specs.Sum.{add_value, sub_value}
use Rattle.avr_alu.specs.Logic.{logic_value}
use Rattle.avr_alu.specs.One.{one_value, shifted_right}
use Rattle.avr_alu.specs.Mul.{mul_value, word_of}
use Rattle.avr_alu.specs.Word.{word_add_value, word_sub_value}
use Rattle.avr_alu.proofs.BitLemmas.{set_is, cleared_is}
use Rattle.avr_machine.specs.Processor.{Processor as CountingProcessor, pair, low, high, lowered, raised, transfer_bit}
use Rattle.avr_machine.specs.DataRead.{data_read}
use Rattle.avr_machine.specs.Effect.{load_falling, writes}
use Rattle.avr_machine.specs.Modes.{store_address as address_by_mode}
use Rattle.avr_machine.specs.Write.{Write, set_register, set_pair, set_byte, set_port, set_sp, set_sreg, set_pc, after, written}
use Rattle.mote_layout.specs.Memory.{register_count, spl, sph, sreg, ram_start, ram_end, sreg_port, pointer_x, pointer_y, pointer_z}
use Rattle.unit_code.specs.declared.unit.Unit.TheVariants.{Plain, Store}
use Rattle.unit_code.specs.Kinds.{standing_of}
use Rattle.unit_code.specs.Proper.{IsOfKind}
use Rattle.domain_model.specs.State.{Processor, at_counter, without_counter}
use Rattle.domain_model.specs.Act.{plain_effect, store_address}
use Rattle.domain_model.proofs.ByteLists.{HasBytes, bytes_set, low_byte, high_byte, pair_word}
use Rattle.domain_model.proofs.InstructionLaws.{out_port, off_not, in_not, out_not, call_is_call, rcall_is_reserve}

-- One processor and a later one: SP is the same, there are as many registers and bytes of memory, all are bytes still, and a byte of
-- the memory that differs is one that may.
pub record Keeps (may : ℕ → Type 0) (p q : Processor) : Type 0 where
  pub sp : q.sp ≡ p.sp
  pub registers : length q.registers ≡ length p.registers
  pub memory : length q.memory ≡ length p.memory
  pub bytes : HasBytes q
  pub own : (i : ℕ) → slice_index q.memory i ≢ slice_index p.memory i → may (i + ram_start)

pub keeps_itself : (may : ℕ → Type 0) (p : Processor) → HasBytes p → Keeps may p p
keeps_itself may p h = record { sp = refl; registers = refl; memory = refl; bytes = h; own = λ i differs. absurd (differs refl) }

pub keeps_both : (may : ℕ → Type 0) (p q s : Processor) → Keeps may p q → Keeps may q s → Keeps may p s
keeps_both may p q s one two = record {
  sp = two.sp ∙ one.sp;
  registers = two.registers ∙ one.registers;
  memory = two.memory ∙ one.memory;
  bytes = two.bytes;
  own = λ i differs.
      elim (cases_eq (slice_index s.memory i) (slice_index q.memory i)) [
        | inl same ↦ one.own i (λ e. differs (same ∙ e))
        | inr other ↦ two.own i other
      ];
}

-- fewer bytes may change
pub keeps_fewer : (may more : ℕ → Type 0) (p q : Processor) → ((a : ℕ) → may a → more a) → Keeps may p q → Keeps more p q
keeps_fewer may more p q f h = record {
  sp = h.sp;
  registers = h.registers;
  memory = h.memory;
  bytes = h.bytes;
  own = λ i differs. f (i + ram_start) (h.own i differs);
}

-- A change of a register, a pair, SREG or a byte that may change, to a value in its range.
abbrev pub IsOwnWrite : (ℕ → Type 0) → Write → Type 0
IsOwnWrite may (set_register d v) = v < 256
IsOwnWrite may (set_pair d w) = w < 2 ^ 16
IsOwnWrite may (set_byte a v) = (ram_start ≤ a) × may a × (v < 256)
IsOwnWrite may (set_port port v) = (port ≡ sreg_port) × (v < 256)
IsOwnWrite may (set_sp a) = ⊥
IsOwnWrite may (set_sreg v) = v < 256
IsOwnWrite may (set_pc a) = ⊥

-- one byte of a memory, where it may change
pub byte_kept : (may : ℕ → Type 0) (p : Processor) (a v : ℕ) → ram_start ≤ a → may a → v < 256 → HasBytes p → Keeps may p (record p { memory = slice_set p.memory (a - ram_start) v })
byte_kept may p a v above own below h = record {
  sp = refl;
  registers = refl;
  memory = length-set p.memory (a - ram_start) v;
  bytes = record { registers = h.registers; memory = bytes_set p.memory (a - ram_start) v below h.memory; sreg = h.sreg };
  own = λ i differs.
      elim (cases_eq i (a - ram_start)) [
        | inl e ↦ let same : a ≡ i + ram_start = omega (arith, e, above) in subst may same own
        | inr other ↦ absurd (differs (get_or-set_other p.memory (a - ram_start) i v 0 other))
      ];
}

one_kept : (may : ℕ → Type 0) (w : Write) (p : CountingProcessor) → IsOwnWrite may w → HasBytes (without_counter p) → Keeps may (without_counter p) (without_counter (written w p))
one_kept may (set_register d v) p own h = record {
  sp = refl;
  registers = length-set p.registers d v;
  memory = refl;
  bytes = record { registers = bytes_set p.registers d v own h.registers; memory = h.memory; sreg = h.sreg };
  own = λ i differs. absurd (differs refl);
}
one_kept may (set_pair d w) p own h = record {
  sp = refl;
  registers = length-set (slice_set p.registers d (low w)) (d + 1) (high w) ∙ length-set p.registers d (low w);
  memory = refl;
  bytes = record {
    registers = bytes_set (slice_set p.registers d (low w)) (d + 1) (high w) (high_byte w own) (bytes_set p.registers d (low w) (low_byte w) h.registers);
    memory = h.memory;
    sreg = h.sreg;
  };
  own = λ i differs. absurd (differs refl);
}
one_kept may (set_byte a v) p own h = byte_kept may (without_counter p) a v own.0 own.1 own.2 h
one_kept may (set_port port v) p own h =
    subst (λ (n : ℕ). Keeps may (without_counter p) (without_counter (written (set_port n v) p))) (sym own.0) (record {
      sp = refl;
      registers = refl;
      memory = refl;
      bytes = record { registers = h.registers; memory = h.memory; sreg = own.1 };
      own = λ i differs. absurd (differs refl);
    })
one_kept may (set_sp a) p own h = absurd own
one_kept may (set_sreg v) p own h = record {
  sp = refl;
  registers = refl;
  memory = refl;
  bytes = record { registers = h.registers; memory = h.memory; sreg = own };
  own = λ i differs. absurd (differs refl);
}
one_kept may (set_pc a) p own h = absurd own

-- a list of such changes
pub changes_kept : (may : ℕ → Type 0) (changes : List Write) (p : CountingProcessor) → AllByRecursion (IsOwnWrite may) changes → HasBytes (without_counter p) → Keeps may (without_counter p) (without_counter (after changes p))
changes_kept may [] p own h = keeps_itself may (without_counter p) h
changes_kept may (w ∷ ws) p own h =
    let one = one_kept may w p own.0 h in
    keeps_both may (without_counter p) (without_counter (written w p)) (without_counter (after ws (written w p))) one (changes_kept may ws (written w p) own.1 one.bytes)

-- Values in their ranges.

add_below : (a b : ℕ) (k : Bool) → add_value a b k < 256
unfolding add_value
add_below a b k = omega arith

sub_below : (a b : ℕ) (k : Bool) → sub_value a b k < 256
unfolding sub_value
sub_below a b k = omega arith

logic_below : (op : Logic) (a b : ℕ) → a < 256 → b < 256 → logic_value op a b < 256
unfolding logic_value
logic_below and_bits a b ha hb = and_lt 8 a b ha hb
logic_below or_bits a b ha hb = or_lt 8 a b ha hb
logic_below eor_bits a b ha hb = xor_lt 8 a b ha hb

bit_of : (b : Bool) → from_bool b ≤ 1
bit_of true = omega arith
bit_of false = omega arith

shifted_below : (a : ℕ) (top : Bool) → a < 256 → shifted_right a top < 256
unfolding shifted_right
shifted_below a top h = omega (arith, h, bit_of top)

one_below : (op : One) (a : ℕ) (f : Flags) → a < 256 → one_value op a f < 256
unfolding one_value
one_below complement a f h = omega arith
one_below neg a f h = sub_below 0 a false
one_below inc a f h = omega arith
one_below dec a f h = omega arith
one_below swap a f h = omega (arith, h)
one_below lsr a f h = shifted_below a false h
one_below ror a f h = shifted_below a f.carry h
one_below asr a f h = shifted_below a (nat_le 128 a) h

word_below : (z : ℤ) → word_of z < 2 ^ 16
unfolding word_of
word_below (pos n) = omega arith
word_below (negsuc n) = omega arith

mul_below : (op : Product) (a b : ℕ) → mul_value op a b < 2 ^ 16
unfolding mul_value
mul_below op a b = word_below _

word_add_below : (a k : ℕ) → word_add_value a k < 2 ^ 16
unfolding word_add_value
word_add_below a k = omega arith

word_sub_below : (a k : ℕ) → word_sub_value a k < 2 ^ 16
unfolding word_sub_value
word_sub_below a k = omega arith

sreg_below : (f : Flags) → sreg_of f < 256
unfolding sreg_of
sreg_below f =
    omega (
      arith,
      bit_of f.carry,
      bit_of f.zero,
      bit_of f.negative,
      bit_of f.overflow,
      bit_of f.sign,
      bit_of f.half_carry,
      bit_of f.transfer,
      bit_of f.interrupt,
    )

bit_below : (n k : ℕ) (on : Bool) → n < 256 → k < 8 → with_bit n k on < 256
bit_below n k true h small = subst (λ (m : ℕ). m < 256) (set_is n k small) (or_lt 8 n _ h (omega arith))
bit_below n k false h small = subst (λ (m : ℕ). m < 256) (cleared_is n k h small) (and_lt 8 n _ h (omega arith))

raised_below : (a : ℕ) → raised a < 2 ^ 16
raised_below a = omega arith

lowered_below : (a : ℕ) → lowered a < 2 ^ 16
lowered_below a = omega arith

-- what is read is a byte
pub read_below : (p : CountingProcessor) (a : ℕ) → HasBytes (without_counter p) → p.sp < 2 ^ 16 → data_read p a < 256
unfolding data_read
read_below p a h small =
    cond_both (nat_lt a register_count) _ _ (λ n. n < 256) (λ is. h.registers a)
    (λ no_register.
    cond_both (a == spl) _ _ (λ n. n < 256) (λ is. low_byte p.sp)
    (λ no_spl.
    cond_both (a == sph) _ _ (λ n. n < 256) (λ is. high_byte p.sp small)
    (λ no_sph.
    cond_both (a == sreg) _ _ (λ n. n < 256) (λ is. h.sreg)
    (λ no_sreg. cond_both (nat_le ram_start a && nat_le a ram_end) _ _ (λ n. n < 256) (λ is. h.memory (a - ram_start)) (λ none. omega arith)))))

-- The instructions of plain units and of stores.

falling_own : (may : ℕ → Type 0) (p : CountingProcessor) (pointer d : ℕ) → HasBytes (without_counter p) → p.sp < 2 ^ 16 → AllByRecursion (IsOwnWrite may) (load_falling p pointer d)
falling_own may p pointer d h small =
    let address = lowered (pair p pointer) in (
      lowered_below (pair p pointer),
      (read_below (written (set_pair pointer address) p) address (one_kept may (set_pair pointer address) p (lowered_below (pair p pointer)) h).bytes small, tt),
    )

-- a plain unit changes no byte of the memory
plain_own : (i : Instr) (p : Processor) → IsOfKind (Plain i) → HasBytes p → p.sp < 2 ^ 16 → AllByRecursion (IsOwnWrite (λ a. ⊥)) (writes i 0 (at_counter p 0))
unfolding writes standing_of IsEncodable
plain_own Nop p kind h small = tt
plain_own (Add d r) p kind h small = (add_below _ _ _, (sreg_below _, tt))
plain_own (Adc d r) p kind h small = (add_below _ _ _, (sreg_below _, tt))
plain_own (Sub d r) p kind h small = (sub_below _ _ _, (sreg_below _, tt))
plain_own (Sbc d r) p kind h small = (sub_below _ _ _, (sreg_below _, tt))
plain_own (Subi d K) p kind h small = (sub_below _ _ _, (sreg_below _, tt))
plain_own (Sbci d K) p kind h small = (sub_below _ _ _, (sreg_below _, tt))
plain_own (Cp d r) p kind h small = (sreg_below _, tt)
plain_own (Cpc d r) p kind h small = (sreg_below _, tt)
plain_own (Cpi d K) p kind h small = (sreg_below _, tt)
plain_own (And d r) p kind h small = (logic_below _ _ _ (h.registers d) (h.registers r), (sreg_below _, tt))
plain_own (Andi d K) p kind h small = (logic_below _ _ _ (h.registers d) kind.1.1, (sreg_below _, tt))
plain_own (Or d r) p kind h small = (logic_below _ _ _ (h.registers d) (h.registers r), (sreg_below _, tt))
plain_own (Ori d K) p kind h small = (logic_below _ _ _ (h.registers d) kind.1.1, (sreg_below _, tt))
plain_own (Eor d r) p kind h small = (logic_below _ _ _ (h.registers d) (h.registers r), (sreg_below _, tt))
plain_own (Com d) p kind h small = (one_below _ _ _ (h.registers d), (sreg_below _, tt))
plain_own (Neg d) p kind h small = (one_below _ _ _ (h.registers d), (sreg_below _, tt))
plain_own (Inc d) p kind h small = (one_below _ _ _ (h.registers d), (sreg_below _, tt))
plain_own (Dec d) p kind h small = (one_below _ _ _ (h.registers d), (sreg_below _, tt))
plain_own (Lsr d) p kind h small = (one_below _ _ _ (h.registers d), (sreg_below _, tt))
plain_own (Ror d) p kind h small = (one_below _ _ _ (h.registers d), (sreg_below _, tt))
plain_own (Asr d) p kind h small = (one_below _ _ _ (h.registers d), (sreg_below _, tt))
plain_own (Swap d) p kind h small = (one_below _ _ _ (h.registers d), tt)
plain_own (Mul d r) p kind h small = (mul_below _ _ _, (sreg_below _, tt))
plain_own (Muls d r) p kind h small = (mul_below _ _ _, (sreg_below _, tt))
plain_own (Mulsu d r) p kind h small = (mul_below _ _ _, (sreg_below _, tt))
plain_own (Fmul d r) p kind h small = (mul_below _ _ _, (sreg_below _, tt))
plain_own (Fmuls d r) p kind h small = (mul_below _ _ _, (sreg_below _, tt))
plain_own (Fmulsu d r) p kind h small = (mul_below _ _ _, (sreg_below _, tt))
plain_own (Adiw d K) p kind h small = (word_add_below _ _, (sreg_below _, tt))
plain_own (Sbiw d K) p kind h small = (word_sub_below _ _, (sreg_below _, tt))
plain_own (Bset s) p kind h small = (bit_below p.sreg s true h.sreg kind.1, tt)
plain_own (Bclr s) p kind h small = (bit_below p.sreg s false h.sreg kind.1, tt)
plain_own (Bst d b) p kind h small = (bit_below p.sreg transfer_bit _ h.sreg (omega arith), tt)
plain_own (Bld d b) p kind h small = (bit_below _ b _ (h.registers d) kind.1.1, tt)
plain_own (Mov d r) p kind h small = (h.registers r, tt)
plain_own (Movw d r) p kind h small = (pair_word p r h.registers, tt)
plain_own (Ldi d K) p kind h small = (kind.1.1, tt)
plain_own (In d A) p kind h small = (read_below (at_counter p 0) _ h small, tt)
plain_own (Out r A) p kind h small = ((out_port A _ _ kind.0, h.registers r), tt)
plain_own (LdX d) p kind h small = (read_below (at_counter p 0) _ h small, tt)
plain_own (LdXInc d) p kind h small = (read_below (at_counter p 0) _ h small, (raised_below _, tt))
plain_own (LdXDec d) p kind h small = falling_own (λ a. ⊥) (at_counter p 0) pointer_x d h small
plain_own (LddY d q) p kind h small = (read_below (at_counter p 0) _ h small, tt)
plain_own (LdYInc d) p kind h small = (read_below (at_counter p 0) _ h small, (raised_below _, tt))
plain_own (LdYDec d) p kind h small = falling_own (λ a. ⊥) (at_counter p 0) pointer_y d h small
plain_own (LddZ d q) p kind h small = (read_below (at_counter p 0) _ h small, tt)
plain_own (LdZInc d) p kind h small = (read_below (at_counter p 0) _ h small, (raised_below _, tt))
plain_own (LdZDec d) p kind h small = falling_own (λ a. ⊥) (at_counter p 0) pointer_z d h small
plain_own (Lds d k) p kind h small = (read_below (at_counter p 0) _ h small, tt)
plain_own (StXInc r) p kind h small = absurd (off_not _ r _ _ kind.0 (λ e. cc))
plain_own (StXDec r) p kind h small = absurd (off_not _ r _ _ kind.0 (λ e. cc))
plain_own (StYInc r) p kind h small = absurd (off_not _ r _ _ kind.0 (λ e. cc))
plain_own (StYDec r) p kind h small = absurd (off_not _ r _ _ kind.0 (λ e. cc))
plain_own (StZInc r) p kind h small = absurd (off_not _ r _ _ kind.0 (λ e. cc))
plain_own (StZDec r) p kind h small = absurd (off_not _ r _ _ kind.0 (λ e. cc))
plain_own (Call k) p kind h small = absurd (call_is_call k _ kind.0)
plain_own (Rcall k) p kind h small = let reserve = rcall_is_reserve k _ kind.0 in absurd (cc)
plain_own _ p kind h small = search rules

pub plain_keeps : (i : Instr) (p : Processor) → IsOfKind (Plain i) → HasBytes p → p.sp < 2 ^ 16 → Keeps (λ a. ⊥) p (plain_effect i p)
plain_keeps i p kind h small = changes_kept (λ a. ⊥) (writes i 0 (at_counter p 0)) (at_counter p 0) (plain_own i p kind h small) h

-- a store changes the byte at its address
abbrev pub AtAddress : Instr → Processor → ℕ → Type 0
AtAddress i p a = a ≡ store_address i p

store_own : (i : Instr) (p : Processor) → IsOfKind (Store i) → HasBytes p → ram_start ≤ store_address i p → AllByRecursion (IsOwnWrite (AtAddress i p)) (writes i 0 (at_counter p 0))
unfolding writes standing_of IsEncodable address_by_mode
store_own (StX r) p kind h above = ((above, refl, h.registers r), tt)
store_own (StXInc r) p kind h above = ((above, refl, h.registers r), (raised_below _, tt))
store_own (StXDec r) p kind h above = (lowered_below _, ((above, refl, h.registers r), tt))
store_own (StdY r q) p kind h above = ((above, refl, h.registers r), tt)
store_own (StYInc r) p kind h above = ((above, refl, h.registers r), (raised_below _, tt))
store_own (StYDec r) p kind h above = (lowered_below _, ((above, refl, h.registers r), tt))
store_own (StdZ r q) p kind h above = ((above, refl, h.registers r), tt)
store_own (StZInc r) p kind h above = ((above, refl, h.registers r), (raised_below _, tt))
store_own (StZDec r) p kind h above = (lowered_below _, ((above, refl, h.registers r), tt))
store_own (Sts r k) p kind h above = ((above, refl, h.registers r), tt)
store_own (In d A) p kind h above = absurd (in_not A _ _ kind.0 (λ e. cc))
store_own (Out r A) p kind h above = absurd (out_not A _ _ kind.0 (λ e. cc))
store_own (LdXInc d) p kind h above = absurd (off_not _ d _ _ kind.0 (λ e. cc))
store_own (LdXDec d) p kind h above = absurd (off_not _ d _ _ kind.0 (λ e. cc))
store_own (LdYInc d) p kind h above = absurd (off_not _ d _ _ kind.0 (λ e. cc))
store_own (LdYDec d) p kind h above = absurd (off_not _ d _ _ kind.0 (λ e. cc))
store_own (LdZInc d) p kind h above = absurd (off_not _ d _ _ kind.0 (λ e. cc))
store_own (LdZDec d) p kind h above = absurd (off_not _ d _ _ kind.0 (λ e. cc))
store_own (Call k) p kind h above = absurd (call_is_call k _ kind.0)
store_own (Rcall k) p kind h above = let reserve = rcall_is_reserve k _ kind.0 in absurd (cc)
store_own _ p kind h above = search rules

pub store_keeps : (i : Instr) (p : Processor) → IsOfKind (Store i) → HasBytes p → ram_start ≤ store_address i p → Keeps (AtAddress i p) p (plain_effect i p)
store_keeps i p kind h above = changes_kept (AtAddress i p) (writes i 0 (at_counter p 0)) (at_counter p 0) (store_own i p kind h above) h
