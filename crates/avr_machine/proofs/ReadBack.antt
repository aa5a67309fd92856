-- What a read gives after a change.
use Rattle.std.proofs.Common.{◌≡◌, ◌≢◌, ◌∙◌, ℕ, ◌+◌, ◌-◌, ◌*◌, ◌<◌, ◌≤◌, ◌==◌, ◌&&◌, Bool, true, false, cond, List, ◌++◌, length, take, drop, replicate, get_or, refl, sym, ap, inl, inr, arith}
use Rattle.std.specs.Prelude.{slice_index, slice_set, nat_lt, nat_le}
use Rattle.std.proofs.Math.ListN.{get_or-append}
use Rattle.std.proofs.lemmas.Bool.{and_parts, cases_lt, leb-true, ltb-true}
use Rattle.std.proofs.lemmas.Bool.Decides.{nat_tests}
use Rattle.std.proofs.lemmas.List.{get_or-append_right, get_or-drop, get_or-set_other, get_or-set_same, get_or-take, length-replicate, length-set, length-take-le, get_or-replicate}
use Rattle.mote_layout.specs.Memory.{ram_bytes, ram_end, ram_start, register_count, spl, sph, sreg}
use Rattle.avr_machine.specs.Bytes.{IsAmong, cleared, holding}
use Rattle.avr_machine.specs.DataRead.{IsInMemory, data_read}
use Rattle.avr_machine.specs.Processor.{Processor, high, low, pair, register}
use Rattle.avr_machine.specs.Write.{set_byte, set_pair, set_register, written}

-- a choice is the same where what it takes is
then_same : {X : Type 0} (b : Bool) (x y z : X) → (b ≡ true → x ≡ y) → cond b x z ≡ cond b y z
then_same true x y z same = same refl
then_same false x y z same = refl

-- a read is the same where the memory has the same byte
memory_same : (p : Processor) (memory : List ℕ) (b : ℕ) → (IsInMemory b → slice_index memory (b - ram_start) ≡ slice_index p.memory (b - ram_start)) → data_read (record p { memory = memory }) b ≡ data_read p b
unfolding data_read
memory_same p memory b same =
    let inside = nat_le ram_start b && nat_le b ram_end in
    let last = then_same inside (slice_index memory (b - ram_start)) (slice_index p.memory (b - ram_start)) 0 (λ is. let parts = and_parts (nat_le ram_start b) (nat_le b ram_end) is in same (leb-true ram_start b parts.0, leb-true b ram_end parts.1)) in
    ap (λ n. cond (nat_lt b register_count) (register p b) (cond (b == spl) (low p.sp) (cond (b == sph) (high p.sp) (cond (b == sreg) p.sreg n)))) last

-- and where the register is
register_same : (p : Processor) (registers : List ℕ) (b : ℕ) → (b < register_count → slice_index registers b ≡ slice_index p.registers b) → data_read (record p { registers = registers }) b ≡ data_read p b
unfolding data_read
register_same p registers b same =
    then_same (nat_lt b register_count) (slice_index registers b) (slice_index p.registers b) _ (λ is. same (ltb-true b register_count is))

-- a read behind the registers does not look at them
pub registers_read : (p : Processor) (registers : List ℕ) (b : ℕ) → register_count ≤ b → data_read (record p { registers = registers }) b ≡ data_read p b
registers_read p registers b past = register_same p registers b (λ below. absurd (omega arith))

-- a byte of the memory is read
pub memory_read : (p : Processor) (b : ℕ) → IsInMemory b → data_read p b ≡ slice_index p.memory (b - ram_start)
unfolding data_read
memory_read p b inside =
    let register_not : nat_lt b register_count ≡ false = grind (arith, nat_tests) in
    let spl_not : (b == spl) ≡ false = grind (arith, nat_tests) in
    let sph_not : (b == sph) ≡ false = grind (arith, nat_tests) in
    let sreg_not : (b == sreg) ≡ false = grind (arith, nat_tests) in
    let start : nat_le ram_start b ≡ true = grind (arith, nat_tests) in
    let end : nat_le b ram_end ≡ true = grind (arith, nat_tests) in
    rw (register_not, spl_not, sph_not, sreg_not, start, end) refl

-- a register is read
register_read : (p : Processor) (b : ℕ) → b < register_count → data_read p b ≡ register p b
unfolding data_read
register_read p b below =
    let is : nat_lt b register_count ≡ true = grind (arith, nat_tests) in
    rw is refl

-- after a byte was put into the memory
byte_read : (p : Processor) (a v : ℕ) → length p.memory ≡ ram_bytes → IsInMemory a → data_read (written (set_byte a v) p) a ≡ v
byte_read p a v whole inside =
    memory_read (written (set_byte a v) p) a inside ∙ get_or-set_same p.memory (a - ram_start) v 0 (omega (arith, whole))

byte_others : (p : Processor) (a v b : ℕ) → IsInMemory a → b ≢ a → data_read (written (set_byte a v) p) b ≡ data_read p b
byte_others p a v b inside apart =
    memory_same p (slice_set p.memory (a - ram_start) v) b (λ there. get_or-set_other p.memory (a - ram_start) (b - ram_start) v 0 (λ same. apart (omega arith)))

pub after_byte_read : (p q : Processor) (a v : ℕ) → q ≡ written (set_byte a v) p → length p.memory ≡ ram_bytes → IsInMemory a → data_read q a ≡ v
after_byte_read p q a v is whole inside = ap (λ (r : Processor). data_read r a) is ∙ byte_read p a v whole inside

pub after_byte_others : (p q : Processor) (a v : ℕ) → q ≡ written (set_byte a v) p → IsInMemory a → (b : ℕ) → b ≢ a → data_read q b ≡ data_read p b
after_byte_others p q a v is inside b apart = ap (λ (r : Processor). data_read r b) is ∙ byte_others p a v b inside apart

-- after a byte was put into a register
pub after_register_read : (p q : Processor) (d v : ℕ) → q ≡ written (set_register d v) p → length p.registers ≡ register_count → d < register_count → register q d ≡ v
after_register_read p q d v is whole below =
    ap (λ (r : Processor). register r d) is ∙ get_or-set_same p.registers d v 0 (omega (arith, whole))

pub after_register_others : (p q : Processor) (d v : ℕ) → q ≡ written (set_register d v) p → (b : ℕ) → b ≢ d → data_read q b ≡ data_read p b
after_register_others p q d v is b apart =
    ap (λ (r : Processor). data_read r b) is
    ∙ register_same p (slice_set p.registers d v) b (λ below. get_or-set_other p.registers d b v 0 apart)

-- after a word was put into a pair
pub after_pair_read : (p q : Processor) (d word : ℕ) → q ≡ written (set_pair d word) p → length p.registers ≡ register_count → d + 1 < register_count → pair q d ≡ word
after_pair_read p q d word is whole below =
    let first = slice_set p.registers d (low word) in
    let same_length : length first ≡ register_count = length-set p.registers d (low word) ∙ whole in
    let at_low : slice_index (slice_set first (d + 1) (high word)) d ≡ low word =
    get_or-set_other first (d + 1) d (high word) 0 (λ e. omega arith) ∙ get_or-set_same p.registers d (low word) 0 (omega (arith, whole)) in
    let at_high : slice_index (slice_set first (d + 1) (high word)) (d + 1) ≡ high word =
    get_or-set_same first (d + 1) (high word) 0 (omega (arith, same_length)) in
    ap (λ (r : Processor). pair r d) is ∙ ap (λ n. n + 256 * slice_index (slice_set first (d + 1) (high word)) (d + 1)) at_low
    ∙ ap (λ n. low word + 256 * n) at_high ∙ omega arith

pub after_pair_others : (p q : Processor) (d word : ℕ) → q ≡ written (set_pair d word) p → (b : ℕ) → b ≢ d → b ≢ d + 1 → data_read q b ≡ data_read p b
after_pair_others p q d word is b not_low not_high =
    ap (λ (r : Processor). data_read r b) is
    ∙ register_same p (slice_set (slice_set p.registers d (low word)) (d + 1) (high word)) b (λ below.
    get_or-set_other (slice_set p.registers d (low word)) (d + 1) b (high word) 0 not_high ∙ get_or-set_other p.registers d b (low word) 0 not_low)

-- n bytes in a list, and what is before and behind them
run_at : (memory bytes : List ℕ) (place n k : ℕ) → length bytes ≡ n → place ≤ length memory → k < n → get_or (take place memory ++ (bytes ++ drop (place + n) memory)) (place + k) 0 ≡ get_or bytes k 0
run_at memory bytes place n k count fits below =
    let index : place + k - place ≡ k = omega arith in
    get_or-append_right (take place memory) (bytes ++ drop (place + n) memory) place (place + k) 0 (length-take-le place memory fits) (omega arith)
    ∙ ap (λ i. get_or (bytes ++ drop (place + n) memory) i 0) index
    ∙ get_or-append bytes (drop (place + n) memory) 0 k (omega (arith, count))

run_before : (memory bytes : List ℕ) (place n i : ℕ) → place ≤ length memory → i < place → get_or (take place memory ++ (bytes ++ drop (place + n) memory)) i 0 ≡ get_or memory i 0
run_before memory bytes place n i fits below =
    get_or-append (take place memory) (bytes ++ drop (place + n) memory) 0 i (omega (arith, length-take-le place memory fits))
    ∙ get_or-take place memory i 0 below

run_behind : (memory bytes : List ℕ) (place n i : ℕ) → length bytes ≡ n → place ≤ length memory → place + n ≤ i → get_or (take place memory ++ (bytes ++ drop (place + n) memory)) i 0 ≡ get_or memory i 0
run_behind memory bytes place n i count fits past =
    let index : place + n + (i - place - n) ≡ i = omega arith in
    get_or-append_right (take place memory) (bytes ++ drop (place + n) memory) place i 0 (length-take-le place memory fits) (omega arith)
    ∙ get_or-append_right bytes (drop (place + n) memory) n (i - place) 0 count (omega arith)
    ∙ get_or-drop (place + n) memory (i - place - n) 0
    ∙ ap (λ j. get_or memory j 0) index

run_others : (p : Processor) (bytes : List ℕ) (a n b : ℕ) → length p.memory ≡ ram_bytes → length bytes ≡ n → ram_start ≤ a → a + n ≤ ram_end + 1 → (IsAmong a n b → ⊥)
    → data_read (record p { memory = take (a - ram_start) p.memory ++ (bytes ++ drop (a - ram_start + n) p.memory) }) b ≡ data_read p b
run_others p bytes a n b whole count start end apart =
    memory_same p _ b (λ there.
    elim (cases_lt b a) [
      | inl before ↦ run_before p.memory bytes (a - ram_start) n (b - ram_start) (omega (arith, whole)) (omega arith)
      | inr from ↦
          elim (cases_lt b (a + n)) [
            | inl within ↦ absurd (apart (from, within))
            | inr past ↦ run_behind p.memory bytes (a - ram_start) n (b - ram_start) count (omega (arith, whole)) (omega arith)
          ]
    ])

run_read : (p : Processor) (bytes : List ℕ) (a n k : ℕ) → length p.memory ≡ ram_bytes → length bytes ≡ n → ram_start ≤ a → a + n ≤ ram_end + 1 → k < n
    → data_read (record p { memory = take (a - ram_start) p.memory ++ (bytes ++ drop (a - ram_start + n) p.memory) }) (a + k) ≡ get_or bytes k 0
run_read p bytes a n k whole count start end below =
    let m = take (a - ram_start) p.memory ++ (bytes ++ drop (a - ram_start + n) p.memory) in
    let index : a + k - ram_start ≡ a - ram_start + k = omega arith in
    memory_read (record p { memory = m }) (a + k) (omega arith, omega arith)
    ∙ ap (λ i. get_or m i 0) index
    ∙ run_at p.memory bytes (a - ram_start) n k count (omega (arith, whole)) below

-- after bytes were put into the memory
pub after_put_read : (p q : Processor) (a : ℕ) (bytes : List ℕ) → q ≡ holding a bytes p → length p.memory ≡ ram_bytes → ram_start ≤ a → a + length bytes ≤ ram_end + 1 → (k : ℕ) → k < length bytes → data_read q (a + k) ≡ slice_index bytes k
after_put_read p q a bytes is whole start end k below =
    ap (λ (r : Processor). data_read r (a + k)) is ∙ run_read p bytes a (length bytes) k whole refl start end below

pub after_put_others : (p q : Processor) (a : ℕ) (bytes : List ℕ) → q ≡ holding a bytes p → length p.memory ≡ ram_bytes → ram_start ≤ a → a + length bytes ≤ ram_end + 1 → (b : ℕ) → (IsAmong a (length bytes) b → ⊥) → data_read q b ≡ data_read p b
after_put_others p q a bytes is whole start end b apart =
    ap (λ (r : Processor). data_read r b) is ∙ run_others p bytes a (length bytes) b whole refl start end apart

-- after bytes were cleared
pub after_clear_read : (p q : Processor) (a n : ℕ) → q ≡ cleared a n p → length p.memory ≡ ram_bytes → ram_start ≤ a → a + n ≤ ram_end + 1 → (b : ℕ) → IsAmong a n b → data_read q b ≡ 0
after_clear_read p q a n is whole start end b among =
    let index : a + (b - a) ≡ b = omega arith in
    ap (λ (r : Processor). data_read r b) is
    ∙ ap (λ i. data_read (cleared a n p) i) (sym index)
    ∙ run_read p (replicate n 0) a n (b - a) whole (length-replicate n 0) start end (omega arith)
    ∙ get_or-replicate n (b - a) 0 0 (omega arith)

pub after_clear_others : (p q : Processor) (a n : ℕ) → q ≡ cleared a n p → length p.memory ≡ ram_bytes → ram_start ≤ a → a + n ≤ ram_end + 1 → (b : ℕ) → (IsAmong a n b → ⊥) → data_read q b ≡ data_read p b
after_clear_others p q a n is whole start end b apart =
    ap (λ (r : Processor). data_read r b) is ∙ run_others p (replicate n 0) a n b whole (length-replicate n 0) start end apart

pub ruleset reads = (after_byte_read, after_byte_others, after_register_read, after_register_others, after_pair_read, after_pair_others, after_put_read, after_put_others, after_clear_read, after_clear_others)
