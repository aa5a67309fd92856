-- Where a request is placed, and free blocks one by one and together.
use Rattle.std.proofs.Common.{◌≡◌, ℕ, ◌+◌, ◌<◌, ◌≤◌, ◌⊎◌, eqb, List, [], ◌∷◌, Some, None, inl, inr, sym, arith, ◌∙◌}
use Rattle.std.proofs.lemmas.Bool.{cond-true, cond-false, cases_Bool, cases_lt, eqb-true, eqb-false}
use Rattle.std.proofs.lemmas.Option.{none-some}
use Rattle.mote_layout.specs.Memory.{block_count}
use Rattle.mote_layout.specs.Blocks.{AreBlocksFrom, AreFree, Fits, block_address}
use Rattle.mote_layout.specs.Fit.{blocks_for, fit}
use Rattle.mote_layout.specs.declared.segment.Segment.{Segment}
use Rattle.mote_layout.proofs.LeastFit.{fit-some, fit-none}
use Rattle.mote_layout.specs.Requests.{place_for, HasNoPlace, LiesInHeap}

-- What is known of the place of a request.
pub record IsPlace (ss : List Segment) (size block : ℕ) : Type 0 where
  pub some : 1 ≤ blocks_for size
  pub fits : Fits ss block (blocks_for size)

pub placed : (ss : List Segment) (size block : ℕ) → place_for ss size ≡ Some block → IsPlace ss size block
placed ss size block h =
    elim (cases_Bool (eqb size 0)) [
      | inl nothing ↦ absurd (none-some block (sym (cond-true (eqb size 0) None (fit ss (blocks_for size)) nothing) ∙ h))
      | inr some ↦
          let found : fit ss (blocks_for size) ≡ Some block = sym (cond-false (eqb size 0) None (fit ss (blocks_for size)) some) ∙ h in
          let ne = eqb-false size 0 some in
          let count : 1 ≤ blocks_for size = omega (arith, ne) in
          record { some = count; fits = ((fit-some ss (blocks_for size) block count).0 found).fits }
    ]

-- where a request gets no place, there is none for it,
pub no_place : (ss : List Segment) (size : ℕ) → place_for ss size ≡ None → HasNoPlace ss size
no_place ss size h =
    elim (cases_Bool (eqb size 0)) [
      | inl nothing ↦ inl (eqb-true size 0 nothing)
      | inr some ↦
          let ne = eqb-false size 0 some in
          inr ((fit-none ss (blocks_for size) (omega (arith, ne))).0 (sym (cond-false (eqb size 0) None (fit ss (blocks_for size)) some) ∙ h))
    ]

-- and where it gets one, there was one
pub a_place : (ss : List Segment) (size block : ℕ) → place_for ss size ≡ Some block → ¬ HasNoPlace ss size
a_place ss size block h none =
    let place = placed ss size block h in
    elim none as (λ _. ⊥) [ inl e ↦ omega (arith, e, place.some) | inr nowhere ↦ nowhere block place.fits ]

-- the blocks of a request are blocks of the heap
pub lies_at : (block size a : ℕ) → block + blocks_for size ≤ block_count → a ≡ block_address block → LiesInHeap size a
lies_at block size a fits at = (omega (arith, at), omega (arith, at, fits))

-- each block of free blocks is free
pub AreFree-one : (ss : List Segment) (first count block : ℕ) → first ≤ block → block < first + count → AreFree ss first count → AreFree ss block 1
AreFree-one [] first count block from to free = tt
AreFree-one (t ∷ ts) first count block from to free =
    (elim free.0 [ inl h ↦ inl (omega (arith, h, from)) | inr h ↦ inr (omega (arith, h, to)) ], AreFree-one ts first count block from to free.1)

-- blocks each of which is free are free together
pub AreFree-run : (low : ℕ) (ss : List Segment) (first count : ℕ) → 1 ≤ count → AreBlocksFrom low ss → ((j : ℕ) → first ≤ j → j < first + count → AreFree ss j 1) → AreFree ss first count
AreFree-run low [] first count some blocks each = tt
AreFree-run low (t ∷ ts) first count some blocks each =
    let here : (t.first + t.count ≤ first) ⊎ (first + count ≤ t.first) = elim (cases_lt first (t.first + t.count)) [
      | inl not_past ↦ elim (cases_lt t.first (first + count)) [
        | inl not_before ↦ elim (cases_lt t.first first) [
          | inl low_first ↦ elim (each first (omega arith) (omega (arith, some))).0 [ inl h ↦ absurd (omega (arith, h, not_past)) | inr h ↦ absurd (omega (arith, h, low_first)) ]
          | inr high_first ↦ elim (each t.first high_first not_before).0 [ inl h ↦ absurd (omega (arith, h, blocks.0.1)) | inr h ↦ absurd (omega (arith, h)) ]
        ]
        | inr before ↦ inr before
      ]
      | inr past ↦ inl past
    ] in
    (here, AreFree-run (t.first + t.count) ts first count some blocks.1 (λ j from to. (each j from to).1))
