-- What the bytes of a map tell of an address.
use Rattle.std.proofs.Common.{◌≡◌, ℕ, inl, inr, List, [], ◌∷◌, Option, Some, None, refl, sym, ◌∙◌, arith, subst}
use Rattle.std.proofs.lemmas.Bool.{cases_lt, cases_Bool, cond-true, cond-false}
use Rattle.std.proofs.lemmas.Option.{none-some, same_Some}
use Rattle.mote_layout.specs.Memory.{heap_start, heap_end}
use Rattle.mote_layout.specs.Blocks.{Covers, covers, segment_at, starting_at, block_of}
use Rattle.mote_layout.specs.declared.segment.Segment.{Segment}
use Rattle.mote_layout.proofs.OneSegment.{starting_at-segment_at, segment_at-within}
use Rattle.mote_layout.proofs.Owners.{covers-true, segment_at-none}
use Rattle.memory_map.specs.Marks.{StandFor, StandsIn, Tells}
use Rattle.memory_map.proofs.Bytes.{has_marks, mark-free}
use Rattle.memory_map.proofs.OneList.{ends_before}

-- a segment that starts with its first block stands in the bytes
stands_in : (ss : List Segment) (bytes : List ℕ) (s : Segment) → StandFor ss bytes → starting_at ss s.first ≡ Some s → StandsIn bytes s
stands_in ss bytes s p found =
    let marks = has_marks 0 ss s p.blocks found in
    record {
      ends = ends_before ss bytes s p found;
      owner = marks.fits.3;
      start = p.each s.first (omega (arith, marks.fits.1, marks.fits.2)) ∙ marks.start;
      further = λ b from to. p.each b (omega (arith, to, marks.fits.2)) ∙ marks.further b from to;
    }

-- the segment at an address covers it
segment_at-covers : (ss : List Segment) (a : ℕ) (s : Segment) → segment_at ss a ≡ Some s → Covers s a
segment_at-covers [] a s h = absurd (none-some s h)
segment_at-covers (t ∷ ts) a s h =
    elim (cases_Bool (covers t a)) as (λ _. Covers s a) [
      | inl inside ↦ subst (λ (x : Segment). Covers x a) (same_Some t s (sym (cond-true (covers t a) (Some t) (segment_at ts a) inside) ∙ h)) (covers-true t a inside)
      | inr outside ↦ segment_at-covers ts a s (sym (cond-false (covers t a) (Some t) (segment_at ts a) outside) ∙ h)
    ]

tells_of : (ss : List Segment) (bytes : List ℕ) (a : ℕ) (o : Option Segment) → StandFor ss bytes → segment_at ss a ≡ o → Tells bytes a o
tells_of ss bytes a None p h =
    elim (cases_lt a heap_start) as (λ _. Tells bytes a None) [
      | inl before ↦ inl before
      | inr from ↦
          elim (cases_lt heap_end a) as (λ _. Tells bytes a None) [
            | inl behind ↦ inr (inl behind)
            | inr to ↦
                elim ((segment_at-none ss a p.blocks).0 h) as (λ _. Tells bytes a None) [
                  | inl before ↦ inl before
                  | inr more ↦ elim more as (λ _. Tells bytes a None) [ inl behind ↦ inr (inl behind) | inr free ↦ inr (inr (p.each (block_of a) (omega (arith, to)) ∙ mark-free ss (block_of a) free)) ]
                ]
          ]
    ]
tells_of ss bytes a (Some s) p h =
    let within = segment_at-within ss a s p.blocks h in
    let covered = segment_at-covers ss a s h in (
      omega (arith, covered.0),
      omega (arith, covered.1, within.2),
      omega (arith, covered.0),
      omega (arith, covered.0, covered.1),
      stands_in ss bytes s p (starting_at-segment_at ss a s p.blocks h),
    )

-- the bytes tell the segment at an address
pub tells : (ss : List Segment) (held bytes : List ℕ) (a : ℕ) → bytes ≡ held → StandFor ss held → Tells bytes a (segment_at ss a)
tells ss held bytes a at p = tells_of ss bytes a (segment_at ss a) (subst (λ (xs : List ℕ). StandFor ss xs) (sym at) p) refl
