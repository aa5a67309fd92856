-- The second word of an LDS or STS is its address.
use Rattle.std.proofs.Common.{◌≡◌, ℕ, zero, suc, List, [], ◌∷◌, Some, Ok, sym, subst, refl, arith}
use Rattle.std.specs.Prelude.{⊤, slice_get}
use Rattle.avr_isa.specs.Decoded.{decoded}
use Rattle.avr_isa.specs.Table.{Line, Form, one_word, two_words, table, HasLine, Reads, Row}
use Rattle.avr_isa.specs.declared.instruction.Instr.{Instr}
use Rattle.avr_isa.specs.declared.instruction.Instr.TheVariants.{Lds, Sts}
use Rattle.avr_isa.proofs.Listed.{◌▸◌}
use Rattle.avr_isa.proofs.TableLaws.{row-decoded}
use Prim.Native.Char.{Char}

-- an address that the instruction has as its second word is this one
abbrev pub IsAddressed : ℕ → Instr → Type 0
IsAddressed k (Lds d address) = address ≡ k
IsAddressed k (Sts r address) = address ≡ k
IsAddressed k _ = ⊤

abbrev HasItsAddress : Form → Type 0
HasItsAddress (one_word f) = ⊤
HasItsAddress (two_words f) = (at : Char → ℕ) (k : ℕ) → IsAddressed k (f at k)

abbrev AllHaveTheirAddress : List Line → Type 0
AllHaveTheirAddress [] = ⊤
AllHaveTheirAddress (l ∷ ls) = HasItsAddress l.form × AllHaveTheirAddress ls

table_has_addresses : AllHaveTheirAddress table
table_has_addresses =
    tt
    ▸ tt
    ▸ tt
    ▸ tt
    ▸ tt
    ▸ tt
    ▸ tt
    ▸ tt
    ▸ tt
    ▸ tt
    ▸ tt
    ▸ tt
    ▸ tt
    ▸ tt
    ▸ tt
    ▸ tt
    ▸ tt
    ▸ tt
    ▸ tt
    ▸ tt
    ▸ tt
    ▸ tt
    ▸ tt
    ▸ tt
    ▸ tt
    ▸ tt
    ▸ tt
    ▸ (λ at k. refl)
    ▸ tt
    ▸ tt
    ▸ tt
    ▸ tt
    ▸ tt
    ▸ tt
    ▸ tt
    ▸ tt
    ▸ tt
    ▸ tt
    ▸ tt
    ▸ tt
    ▸ (λ at k. refl)
    ▸ tt
    ▸ tt
    ▸ tt
    ▸ tt
    ▸ tt
    ▸ tt
    ▸ tt
    ▸ tt
    ▸ tt
    ▸ tt
    ▸ tt
    ▸ tt
    ▸ tt
    ▸ tt
    ▸ tt
    ▸ tt
    ▸ tt
    ▸ tt
    ▸ tt
    ▸ tt
    ▸ tt
    ▸ tt
    ▸ tt
    ▸ tt
    ▸ tt
    ▸ tt
    ▸ tt
    ▸ tt
    ▸ (λ at k. tt)
    ▸ (λ at k. tt)
    ▸ tt
    ▸ tt
    ▸ tt
    ▸ tt
    ▸ tt
    ▸ tt
    ▸ tt
    ▸ tt
    ▸ tt
    ▸ tt
    ▸ tt
    ▸ tt
    ▸ tt
    ▸ tt
    ▸ tt
    ▸ tt
    ▸ tt
    ▸ tt
    ▸ tt

address_at : (ls : List Line) (place : ℕ) (l : Line) → AllHaveTheirAddress ls → slice_get ls place ≡ Some l → HasItsAddress l.form
address_at [] place l all e = cc
address_at (x ∷ ls) zero l all e =
    let same : x ≡ l = cc in
    let P : Line → Type 0 = λ y. HasItsAddress y.form in
    subst P same all.0
address_at (x ∷ ls) (suc place) l all e = address_at ls place l all.1 e

line_address : (w : ℕ) (l : Line) → HasLine w l → HasItsAddress l.form
unfolding HasLine
line_address w l has = address_at table has.0 l table_has_addresses has.1

reads_address : (form : Form) (at : Char → ℕ) (k : ℕ) (i : Instr) → HasItsAddress form → Reads form at (Some k) i 2 → IsAddressed k i
reads_address (one_word f) at k i its reads = absurd (omega (arith, reads.1))
reads_address (two_words f) at k i its reads =
    let word : reads.0 ≡ k = let e = reads.1 in cc in
    let P : Instr → Type 0 = λ j. IsAddressed k j in
    subst P (sym reads.2) (subst (λ (n : ℕ). IsAddressed n (f at reads.0)) word (its at reads.0))

row_address : (first k : ℕ) (i : Instr) → Row first (Some k) i 2 → IsAddressed k i
unfolding Row
row_address first k i row = reads_address row.0.form _ k i (line_address first row.0 row.1) row.2

pub decoded_address : (first k : ℕ) (i : Instr) → decoded first (Some k) ≡ Ok (i, 2) → IsAddressed k i
decoded_address first k i e = row_address first k i (row-decoded first (Some k) i 2 e)
