-- The first row that a test finds has the least line.
use Rattle.std.specs.Prelude.{ℕ, suc, ◌≡◌, ◌≤◌, Bool, true, false, List, [], ◌∷◌, Some, None, ⊤}
use Rattle.std.proofs.Common.{refl, sym, ◌∙◌, cond, arith, inl, inr}
use Rattle.std.proofs.lemmas.Bool.{true≢false}
use Rattle.avr_asm.specs.declared.stage.Stage.{Stage}
use Rattle.avr_asm.specs.Reading.{said}
use Rattle.avr_asm.specs.Text.{is_blank}
use Rattle.avr_asm.specs.Rows.{Row, behind, kept, place_after, rows, rows_of, start, unit_after}
use Rattle.avr_asm.specs.Refusals.{first}
use Rattle.avr_asm.specs.Laws.{EveryRow, IsLeast, RefusalsAreLeast}
use Rattle.avr_asm.proofs.Placed.{rowed}

-- the lines rise from that one on
abbrev Rise : ℕ → List Row → Type 0
Rise n [] = ⊤
Rise n (r ∷ rs) = (n ≤ r.line) × Rise (suc r.line) rs

lower : (m n : ℕ) (rs : List Row) → m ≤ n → Rise n rs → Rise m rs
lower m n [] h r = tt
lower m n (x ∷ rs) h r = (omega (arith, h, r.0), r.1)

rows_rise : (n : ℕ) (s : Stage) (k place : ℕ) (ts : List (List ℕ)) → Rise n (rows n s k place ts)
rows_rise n s k place [] = tt
rows_rise n s k place (t ∷ ts) = elim (is_blank t) as (λ b. Rise n (cond b (rows (suc n) s k place ts) (rowed n s k place (said t) ts))) [
  | true ↦ lower n (suc n) (rows (suc n) s k place ts) (omega arith) (rows_rise (suc n) s k place ts)
  | false ↦ (omega arith, rows_rise (suc n) (kept s (behind s (said t))) (unit_after k (said t)) (place_after place (said t)) ts)
]

all_from : (p : Row → List Row → Bool) (m n : ℕ) (rs : List Row) → m ≤ n → Rise n rs → EveryRow (λ r rest. p r rest ≡ true → m ≤ r.line) rs
all_from p m n [] h r = tt
all_from p m n (x ∷ rs) h r = ((λ e. omega (arith, h, r.0)), all_from p m (suc x.line) rs (omega (arith, h, r.0)) r.1)

first_named : (p : Row → List Row → Bool) (rs : List Row) (m n : ℕ) → Rise m rs → first p rs ≡ Some n → IsLeast p rs n
first_named p [] m n r h = absurd (cc)
first_named p (x ∷ rs) m n r h = elim (p x rs) as (λ b. p x rs ≡ b → cond b (Some x.line) (first p rs) ≡ Some n → IsLeast p (x ∷ rs) n) [
  | true ↦ λ t e. let same : x.line ≡ n = cc in record { found = inl (t, same); least = ((λ q. omega (arith, same)), all_from p n (suc x.line) rs (omega (arith, same)) r.1) }
  | false ↦ λ t e. let others = first_named p rs (suc x.line) n r.1 e in record { found = inr others.found; least = ((λ q. absurd (true≢false (sym q ∙ t))), others.least) }
] refl h

first_none : (p : Row → List Row → Bool) (rs : List Row) → first p rs ≡ None → EveryRow (λ r rest. p r rest ≡ false) rs
first_none p [] h = tt
first_none p (x ∷ rs) h = elim (p x rs) as (λ b. p x rs ≡ b → cond b (Some x.line) (first p rs) ≡ None → EveryRow (λ r rest. p r rest ≡ false) (x ∷ rs)) [
  | true ↦ λ t e. absurd (cc)
  | false ↦ λ t e. (t, first_none p rs e)
] refl h

pub refusals_are_least : RefusalsAreLeast
refusals_are_least = record {
  named = λ p lines n h. first_named p (rows_of lines) 1 n (rows_rise 1 start 0 0 lines) h;
  none = λ p lines h. first_none p (rows_of lines) h;
}
