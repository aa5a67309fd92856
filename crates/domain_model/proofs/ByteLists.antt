-- Bytes stay bytes: each change of registers and memory that a turn makes puts bytes there.
use Rattle.std.proofs.Common.{ℕ, zero, suc, ◌+◌, ◌<◌, ◌≤◌, ◌^◌, ◌==◌, inl, inr, Bool, List, [], ◌∷◌, ◌++◌, length, take, drop, sym, subst, arith}
use Rattle.std.specs.Prelude.{replicate, slice_set}
use Rattle.std.proofs.lemmas.Bool.{cases_Bool, cond_both}
use Rattle.std.proofs.lemmas.List.{get_or-drop}
use Rattle.std.specs.List.{AllByRecursion}
use Rattle.mote_layout.specs.Memory.{register_count, ram_start, message_frame, message_frame_bytes, stack_top}
use Rattle.avr_machine.specs.Processor.{low, high}
use Rattle.domain_model.specs.Bytes.{AreBytes}
use Rattle.domain_model.specs.State.{Processor, Message, Loaded, RunnerState, payload_address, pair, with_pair, with_bytes, with_zeros, frame_of, dispatched}
use Rattle.domain_model.specs.Modules.{id_at}
use Rattle.domain_model.specs.Free.{SameBut}
use Rattle.domain_model.specs.Turn.{kernel_message}
use Rattle.domain_model.specs.Good.{GoodProcessor, GoodModule, IsFramed}

-- Lists of bytes.

bytes_none : AreBytes []
bytes_none i = omega arith

bytes_cons : (b : ℕ) (bs : List ℕ) → b < 256 → AreBytes bs → AreBytes (b ∷ bs)
bytes_cons b bs below h zero = below
bytes_cons b bs below h (suc i) = h i

pub bytes_zeros : (n : ℕ) → AreBytes (replicate n 0)
bytes_zeros zero = bytes_none
bytes_zeros (suc n) = bytes_cons 0 (replicate n 0) (omega arith) (bytes_zeros n)

bytes_append : (xs ys : List ℕ) → AreBytes xs → AreBytes ys → AreBytes (xs ++ ys)
bytes_append [] ys h k = k
bytes_append (x ∷ xs) ys h k = bytes_cons x (xs ++ ys) (h zero) (bytes_append xs ys (λ i. h (suc i)) k)

bytes_take : (n : ℕ) (xs : List ℕ) → AreBytes xs → AreBytes (take n xs)
bytes_take zero xs h = bytes_none
bytes_take (suc n) [] h = bytes_none
bytes_take (suc n) (x ∷ xs) h = bytes_cons x (take n xs) (h zero) (bytes_take n xs (λ i. h (suc i)))

bytes_drop : (n : ℕ) (xs : List ℕ) → AreBytes xs → AreBytes (drop n xs)
bytes_drop n xs h i = subst (λ (b : ℕ). b < 256) (sym (get_or-drop n xs i 0)) (h (n + i))

pub bytes_set : (xs : List ℕ) (place b : ℕ) → b < 256 → AreBytes xs → AreBytes (slice_set xs place b)
bytes_set [] place b below h = h
bytes_set (x ∷ xs) zero b below h = bytes_cons b xs below (λ i. h (suc i))
bytes_set (x ∷ xs) (suc place) b below h = bytes_cons x (slice_set xs place b) (h zero) (bytes_set xs place b below (λ i. h (suc i)))

pub zeros_bytes : (xs : List ℕ) (i n : ℕ) → AreBytes xs → AreBytes (with_zeros xs i n)
zeros_bytes xs i n h =
    bytes_append (take i xs) (replicate n 0 ++ drop (i + n) xs) (bytes_take i xs h)
    (bytes_append (replicate n 0) (drop (i + n) xs) (bytes_zeros n) (bytes_drop (i + n) xs h))

pub put_bytes : (xs : List ℕ) (i : ℕ) (bytes : List ℕ) → AreBytes bytes → AreBytes xs → AreBytes (with_bytes xs i bytes)
put_bytes xs i bytes k h =
    bytes_append (take i xs) (bytes ++ drop (i + length bytes) xs) (bytes_take i xs h)
    (bytes_append bytes (drop (i + length bytes) xs) k (bytes_drop (i + length bytes) xs h))

-- whatever the free bytes became
pub bytes_kept : (free : ℕ → Bool) (want got : List ℕ) → SameBut free want got → AreBytes want → AreBytes got
bytes_kept free want got same h i =
    elim (cases_Bool (free (i + ram_start))) [
      | inl open_to ↦ same.bytes i open_to
      | inr kept ↦ subst (λ (b : ℕ). b < 256) (sym (same.same i kept)) (h i)
    ]

-- Words as two bytes.

pub low_byte : (w : ℕ) → low w < 256
low_byte w = omega arith

pub high_byte : (w : ℕ) → w < 2 ^ 16 → high w < 256
high_byte w small = omega (arith, small)

-- The processor's registers, memory and SREG.
pub record HasBytes (p : Processor) : Type 0 where
  pub registers : AreBytes p.registers
  pub memory : AreBytes p.memory
  pub sreg : p.sreg < 256

pub good_bytes : (p : Processor) → GoodProcessor p → HasBytes p
good_bytes p h = record { registers = h.register_bytes; memory = h.memory_bytes; sreg = h.sreg_byte }

pub pair_bytes : (p : Processor) (d w : ℕ) → w < 2 ^ 16 → HasBytes p → HasBytes (with_pair p d w)
pair_bytes p d w small h = record {
  registers = bytes_set (slice_set p.registers d (low w)) (d + 1) (high w) (high_byte w small) (bytes_set p.registers d (low w) (low_byte w) h.registers);
  memory = h.memory;
  sreg = h.sreg;
}

-- Messages, whose numbers fit the message frame.

pub kernel_framed : (id sort : ℕ) → id ≤ 254 → sort < 256 → IsFramed (kernel_message id sort)
kernel_framed id sort small kind = record {
  to = omega (arith, small);
  from = omega arith;
  sort = kind;
  byte = omega arith;
  word = omega arith;
  len = omega arith;
  address = omega arith;
}

frame_bytes : (m : Message) → IsFramed m → AreBytes (frame_of m)
frame_bytes m h zero = h.sort
frame_bytes m h (suc zero) = h.from
frame_bytes m h (suc (suc zero)) = h.to
frame_bytes m h (suc (suc (suc zero))) = cond_both m.long 1 0 (λ n. n < 256) (λ long. omega arith) (λ short. omega arith)
frame_bytes m h (suc (suc (suc (suc zero)))) = h.byte
frame_bytes m h (suc (suc (suc (suc (suc zero))))) = low_byte m.word
frame_bytes m h (suc (suc (suc (suc (suc (suc zero)))))) = high_byte m.word h.word
frame_bytes m h (suc (suc (suc (suc (suc (suc (suc zero))))))) = low_byte m.len
frame_bytes m h (suc (suc (suc (suc (suc (suc (suc (suc zero)))))))) = high_byte m.len h.len
frame_bytes m h (suc (suc (suc (suc (suc (suc (suc (suc (suc zero))))))))) = low_byte (payload_address m.load)
frame_bytes m h (suc (suc (suc (suc (suc (suc (suc (suc (suc (suc zero)))))))))) = high_byte (payload_address m.load) h.address
frame_bytes m h (suc (suc (suc (suc (suc (suc (suc (suc (suc (suc (suc i))))))))))) = bytes_zeros 5 i

pub dispatched_bytes : (p : Processor) (state constants : ℕ) (m : Message) → state < 2 ^ 16 → constants < 2 ^ 16 → IsFramed m → AreBytes p.memory → HasBytes (dispatched p state constants m)
dispatched_bytes p state constants m small also framed h =
    let clear : Processor = record {
      registers = replicate register_count 0;
      sreg = 0;
      sp = stack_top;
      memory = frame_of m ++ drop message_frame_bytes p.memory;
    } in
    let given = with_pair clear 20 constants in
    pair_bytes (with_pair given 22 message_frame) 24 state small (pair_bytes given 22 message_frame (omega arith) (pair_bytes clear 20 constants also (record {
      registers = bytes_zeros register_count;
      memory = bytes_append (frame_of m) (drop message_frame_bytes p.memory) (frame_bytes m framed) (bytes_drop message_frame_bytes p.memory h);
      sreg = omega arith;
    })))

-- A pair of registers is a word.
pub pair_word : (p : Processor) (d : ℕ) → AreBytes p.registers → pair p d < 2 ^ 16
pair_word p d h = omega (arith, h d, h (d + 1))

-- The id of a domain is a byte.
pub id_byte : (r : RunnerState) (modules : List Loaded) (domain : ℕ) → AllByRecursion (GoodModule r) modules → id_at modules domain < 256
id_byte r [] domain h = omega arith
id_byte r (m ∷ ms) domain h =
    elim (cases_Bool (m.domain == domain)) [
      | inl here ↦ rw here (omega (arith, h.0.face.id.1))
      | inr other ↦ rw other (id_byte r ms domain h.1)
    ]
