-- Bytes of the memory, one after another.
use Rattle.std.proofs.Common.{◌≡◌, ◌∙◌, sym, ap, ℕ, suc, ◌+◌, ◌-◌, ◌≤◌, [], ◌∷◌, ◌++◌, length, take, drop, get_or, arith, length-drop}
use Rattle.std.proofs.Math.Seq.{take-suc}
use Rattle.std.proofs.lemmas.List.{get_or-drop}
use Rattle.mote_layout.specs.Memory.{ram_start, ram_bytes, heap_start, heap_end}
use Rattle.avr_machine.specs.Processor.{Processor}
use Rattle.avr_machine.specs.DataRead.{data_read}
use Rattle.avr_machine.proofs.ReadBack.{memory_read}
use Rattle.domain_model.specs.State.{bytes_at, without_counter}

-- the byte behind those that were read
pub one_more : (p : Processor) (address n : ℕ) → length p.memory ≡ ram_bytes → heap_start ≤ address → address + n ≤ heap_end → bytes_at (without_counter p) address (suc n) ≡ bytes_at (without_counter p) address n ++ data_read p (address + n) ∷ []
one_more p address n whole from to =
    let place = address - ram_start in
    let room : length (drop place p.memory) ≡ length p.memory - place = length-drop place p.memory in
    let at : place + n ≡ address + n - ram_start = omega (arith, from) in
    let byte : get_or (drop place p.memory) n 0 ≡ data_read p (address + n) =
    get_or-drop place p.memory n 0 ∙ ap (λ i. get_or p.memory i 0) at ∙ sym (memory_read p (address + n) (omega (arith, from), omega (arith, to))) in
    take-suc (drop place p.memory) n 0 (omega (arith, room, whole, from, to)) ∙ ap (λ (v : ℕ). take n (drop place p.memory) ++ v ∷ []) byte
