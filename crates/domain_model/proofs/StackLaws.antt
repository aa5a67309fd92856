-- What units that push, pop and move the stack pointer keep.
use Rattle.std.proofs.Common.{◌≡◌, ◌≢◌, ℕ, ◌+◌, ◌-◌, ◌<◌, ◌≤◌, inl, inr, List, ◌++◌, length, take, drop, get_or, Bool, true, false, refl, sym, ap, ◌∙◌, subst, arith}
use Rattle.std.specs.Prelude.{replicate, slice_index}
use Rattle.std.proofs.Math.ListN.{get_or-append}
use Rattle.std.proofs.lemmas.Bool.{cases_lt}
use Rattle.std.proofs.lemmas.List.{get_or-append_right, get_or-drop, get_or-take, length-replicate, length-set, length-take-le}
use Rattle.avr_isa.specs.declared.instruction.Instr.TheVariants.{Push, Pop}
use Rattle.avr_machine.specs.Effect.{popping, popped}
use Rattle.avr_machine.specs.Processor.{raised}
use Rattle.mote_layout.specs.Memory.{ram_start, ram_end, ram_bytes, red_zone_start, floor}
use Rattle.domain_model.specs.State.{Processor, at_counter, register, with_byte, with_zeros}
use Rattle.domain_model.specs.Act.{plain_effect, group_sp, group_sreg, group_effect, reserved}
use Rattle.domain_model.proofs.ByteLists.{HasBytes, bytes_set, zeros_bytes}
use Rattle.domain_model.proofs.BlockLaws.{zeros_length}
use Rattle.domain_model.proofs.InstructionLaws.{push_effect, pop_effect}
use Rattle.domain_model.proofs.WriteLaws.{Keeps, byte_kept, keeps_both, read_below}

-- The processor goes on: as many registers and as much memory, all of them bytes, each byte that differs is one that may, and the
-- stack pointer lies between the floor and the base.
pub record Moves (may : ℕ → Type 0) (base : ℕ) (p q : Processor) : Type 0 where
  pub registers : length q.registers ≡ length p.registers
  pub memory : length q.memory ≡ length p.memory
  pub bytes : HasBytes q
  pub own : (i : ℕ) → slice_index q.memory i ≢ slice_index p.memory i → may (i + ram_start)
  pub above : floor ≤ q.sp
  pub below : q.sp ≤ base

pub moves_by : (may : ℕ → Type 0) (base : ℕ) (p q : Processor) → floor ≤ p.sp → p.sp ≤ base → Keeps may p q → Moves may base p q
moves_by may base p q above below k = record {
  registers = k.registers;
  memory = k.memory;
  bytes = k.bytes;
  own = k.own;
  above = omega (arith, k.sp, above);
  below = omega (arith, k.sp, below);
}

-- zeros from a place on change no other byte
zeros_before : (xs : List ℕ) (place n i : ℕ) → place ≤ length xs → i < place → slice_index (with_zeros xs place n) i ≡ slice_index xs i
zeros_before xs place n i fits below =
    get_or-append (take place xs) (replicate n 0 ++ drop (place + n) xs) 0 i (omega (arith, length-take-le place xs fits))
    ∙ get_or-take place xs i 0 below

zeros_behind : (xs : List ℕ) (place n i : ℕ) → place ≤ length xs → place + n ≤ i → slice_index (with_zeros xs place n) i ≡ slice_index xs i
zeros_behind xs place n i fits past =
    let index : place + n + (i - place - n) ≡ i = omega arith in
    get_or-append_right (take place xs) (replicate n 0 ++ drop (place + n) xs) place i 0 (length-take-le place xs fits) (omega arith)
    ∙ get_or-append_right (replicate n 0) (drop (place + n) xs) n (i - place) 0 (length-replicate n 0) (omega arith)
    ∙ get_or-drop (place + n) xs (i - place - n) 0
    ∙ ap (λ j. get_or xs j 0) index

pub zeros_within : (xs : List ℕ) (place n i : ℕ) → place ≤ length xs → slice_index (with_zeros xs place n) i ≢ slice_index xs i → (place ≤ i) × (i < place + n)
zeros_within xs place n i fits differs =
    elim (cases_lt i place) [
      | inl before ↦ absurd (differs (zeros_before xs place n i fits before))
      | inr from ↦
          elim (cases_lt i (place + n)) [
            | inl within ↦ (from, within)
            | inr past ↦ absurd (differs (zeros_behind xs place n i fits past))
          ]
    ]

module _ (may : ℕ → Type 0) (base : ℕ) (top : base ≤ ram_end) (stack : (a : ℕ) → red_zone_start ≤ a → a ≤ base → may a) (p : Processor) (h : HasBytes p) where
  pub push_moves : (s : ℕ) → floor < p.sp → p.sp ≤ base → Moves may base p (plain_effect (Push s) p)
  push_moves s above below =
      let one = byte_kept may p p.sp (register p s) (omega (arith, above)) (stack p.sp (omega (arith, above)) below) (h.registers s) h in
      subst (Moves may base p) (sym (push_effect s p)) (record {
        registers = refl;
        memory = one.memory;
        bytes = record { registers = h.registers; memory = one.bytes.memory; sreg = h.sreg };
        own = one.own;
        above = omega (arith, above, below, top);
        below = omega (arith, above, below, top);
      })

  pub pop_moves : (d : ℕ) → floor ≤ p.sp → p.sp < base → Moves may base p (plain_effect (Pop d) p)
  pop_moves d above below =
      let risen : HasBytes (record p { sp = raised p.sp }) = record { registers = h.registers; memory = h.memory; sreg = h.sreg } in
      let got : popped (at_counter p 0) < 256 = read_below (popping (at_counter p 0)) (raised p.sp) risen (omega arith) in
      subst (Moves may base p) (sym (pop_effect d p)) (record {
        registers = length-set p.registers d (popped (at_counter p 0));
        memory = refl;
        bytes = record { registers = bytes_set p.registers d (popped (at_counter p 0)) got h.registers; memory = h.memory; sreg = h.sreg };
        own = λ i differs. absurd (differs refl);
        above = omega (arith, above, below, top);
        below = omega (arith, above, below, top);
      })

  group_sreg_byte : (with_sreg : Bool) → group_sreg with_sreg p < 256
  group_sreg_byte true = h.registers 0
  group_sreg_byte false = h.sreg

  pub group_moves : (with_sreg : Bool) → length p.memory ≡ ram_bytes → p.sp ≤ base → floor ≤ group_sp p → group_sp p ≤ base → Moves may base p (group_effect with_sreg p)
  group_moves with_sreg whole below least most =
      let new = group_sp p in
      let place = new + 1 - ram_start in
      let n = p.sp - new in
      let fits : place + n ≤ length p.memory = omega (arith, whole, below, top, least, most) in
      record {
        registers = refl;
        memory = zeros_length p.memory place n fits;
        bytes = record { registers = h.registers; memory = zeros_bytes p.memory place n h.memory; sreg = group_sreg_byte with_sreg };
        own = λ i differs.
            let at = zeros_within p.memory place n i (omega (arith, fits)) differs in
            stack (i + ram_start) (omega (arith, at.0, least)) (omega (arith, at.0, at.1, below, least));
        above = least;
        below = most;
      }

  pub reserve_moves : floor + 2 ≤ p.sp → p.sp ≤ base → Moves may base p (reserved p)
  reserve_moves above below =
      let one = byte_kept may p p.sp 0 (omega (arith, above)) (stack p.sp (omega (arith, above)) below) (omega arith) h in
      let two = byte_kept may (with_byte p p.sp 0) (p.sp - 1) 0 (omega (arith, above)) (stack (p.sp - 1) (omega (arith, above)) (omega (arith, below))) (omega arith) one.bytes in
      let both = keeps_both may p (with_byte p p.sp 0) (with_byte (with_byte p p.sp 0) (p.sp - 1) 0) one two in
      record {
        registers = refl;
        memory = both.memory;
        bytes = record { registers = h.registers; memory = both.bytes.memory; sreg = h.sreg };
        own = both.own;
        above = omega (arith, above);
        below = omega (arith, below);
      }
