-- The byte of each block, by the segments.
use Rattle.std.proofs.Common.{◌≡◌, ℕ, ◌+◌, ◌≤◌, ◌<◌, ◌⊎◌, ◌&&◌, true, false, leb, ltb, eqb, cond, inl, inr, List, [], ◌∷◌, Some, refl, sym, ap, ◌∙◌, arith, subst, eq-eqb}
use Rattle.std.proofs.lemmas.Bool.{cases_lt, cases_Bool, cond_both, cond-true, cond-false, ltb-true, leb-true, lt-ltb, le-leb, and_from, and_parts, ne_eqb}
use Rattle.std.proofs.lemmas.Option.{none-some, same_Some}
use Rattle.mote_layout.specs.Memory.{kernel}
use Rattle.mote_layout.specs.Blocks.{FitsBehind, AreBlocksFrom, AreFree, starting_at, inserted, without}
use Rattle.mote_layout.specs.declared.segment.Segment.{Segment}
use Rattle.mote_layout.proofs.OneSegment.{starting_at-fits, without-behind}
use Rattle.memory_map.specs.Marks.{start_bit, used_bit, first_mark, further_mark, goes_on, has_block, mark_in, mark_at}

-- the test of a number between two others
pub between-true : (low high k : ℕ) → low ≤ k → k < high → (leb low k && ltb k high) ≡ true
between-true low high k from to = and_from (leb low k) (ltb k high) (le-leb low k from) (lt-ltb k high to)

pub between-false : (low high k : ℕ) → (k < low) ⊎ (high ≤ k) → (leb low k && ltb k high) ≡ false
between-false low high k outside = elim (cases_Bool (leb low k && ltb k high)) as (λ _. (leb low k && ltb k high) ≡ false) [
  | inr h ↦ h
  | inl h ↦
      let parts = and_parts (leb low k) (ltb k high) h in
      let from = leb-true low k parts.0 in
      let to = ltb-true k high parts.1 in
      absurd (elim outside [ inl g ↦ omega (arith, from, g) | inr g ↦ omega (arith, to, g) ])
]

pub cases_between : (low high k : ℕ) → ((low ≤ k) × (k < high)) ⊎ ((k < low) ⊎ (high ≤ k))
cases_between low high k =
    elim (cases_lt k low) [
      | inl before ↦ inr (inl before)
      | inr from ↦ elim (cases_lt k high) [ inl to ↦ inl (from, to) | inr behind ↦ inr (inr behind) ]
    ]

-- a further block goes on, a first one does not
pub goes_on-further : (owner : ℕ) → owner ≤ kernel → goes_on (further_mark owner) ≡ true
goes_on-further owner few = between-true used_bit (used_bit + start_bit) (further_mark owner) (omega arith) (omega (arith, few))

pub goes_on-first : (owner : ℕ) → goes_on (first_mark owner) ≡ false
goes_on-first owner = between-false used_bit (used_bit + start_bit) (first_mark owner) (inr (omega arith))

-- the byte of a block that is the first of a segment,
pub mark-first : (s : Segment) (ss : List Segment) (b : ℕ) → s.first ≡ b → 1 ≤ s.count → mark_at (s ∷ ss) b ≡ first_mark s.owner
mark-first s ss b at some =
    cond-true (has_block s b) (mark_in s b) (mark_at ss b) (between-true s.first (s.first + s.count) b (omega (arith, at)) (omega (arith, at, some)))
    ∙ cond-true (eqb s.first b) (first_mark s.owner) (further_mark s.owner) (eq-eqb s.first b at)

-- of one that is a further one of it,
pub mark-further : (s : Segment) (ss : List Segment) (b : ℕ) → s.first < b → b < s.first + s.count → mark_at (s ∷ ss) b ≡ further_mark s.owner
mark-further s ss b from to =
    cond-true (has_block s b) (mark_in s b) (mark_at ss b) (between-true s.first (s.first + s.count) b (omega (arith, from)) to)
    ∙ cond-false (eqb s.first b) (first_mark s.owner) (further_mark s.owner) (ne_eqb s.first b (λ e. omega (arith, e, from)))

-- of one that is none of it,
pub mark-past : (s : Segment) (ss : List Segment) (b : ℕ) → (b < s.first) ⊎ (s.first + s.count ≤ b) → mark_at (s ∷ ss) b ≡ mark_at ss b
mark-past s ss b outside = cond-false (has_block s b) (mark_in s b) (mark_at ss b) (between-false s.first (s.first + s.count) b outside)

-- of one that is before all segments,
pub mark-before : (low b : ℕ) (ss : List Segment) → AreBlocksFrom low ss → b < low → mark_at ss b ≡ 0
mark-before low b [] blocks before = refl
mark-before low b (s ∷ ss) blocks before =
    mark-past s ss b (inl (omega (arith, blocks.0.0, before))) ∙ mark-before (s.first + s.count) b ss blocks.1 (omega (arith, before, blocks.0.0))

-- and of one that is free
pub mark-free : (ss : List Segment) (b : ℕ) → AreFree ss b 1 → mark_at ss b ≡ 0
mark-free [] b free = refl
mark-free (s ∷ ss) b free =
    mark-past s ss b (elim free.0 [ inl h ↦ inr h | inr h ↦ inl (omega (arith, h)) ]) ∙ mark-free ss b free.1

-- the block behind the segments before does not go on
behind-ends : (low : ℕ) (ss : List Segment) → AreBlocksFrom low ss → goes_on (mark_at ss low) ≡ false
behind-ends low [] blocks = refl
behind-ends low (s ∷ ss) blocks =
    elim (cases_lt low s.first) as (λ _. goes_on (mark_at (s ∷ ss) low) ≡ false) [
      | inl before ↦ ap (λ k. goes_on k) (mark-past s ss low (inl before) ∙ mark-before (s.first + s.count) low ss blocks.1 (omega (arith, before)))
      | inr there ↦ ap (λ k. goes_on k) (mark-first s ss low (omega (arith, there, blocks.0.0)) blocks.0.1) ∙ goes_on-first s.owner
    ]

-- What the bytes of a segment among others are, and what is left of them without it.
pub record HasMarks (ss : List Segment) (s : Segment) : Type 0 where
  pub fits : FitsBehind 0 s
  pub start : mark_at ss s.first ≡ first_mark s.owner
  pub further : (b : ℕ) → s.first < b → b < s.first + s.count → mark_at ss b ≡ further_mark s.owner
  pub behind : goes_on (mark_at ss (s.first + s.count)) ≡ false
  pub gone : (b : ℕ) → mark_at (without s.first ss) b ≡ cond (has_block s b) 0 (mark_at ss b)

-- the first of the segments
first_has_marks : (low : ℕ) (t : Segment) (ts : List Segment) → AreBlocksFrom low (t ∷ ts) → HasMarks (t ∷ ts) t
first_has_marks low t ts blocks =
    let rest : without t.first (t ∷ ts) ≡ ts = rw (eq-eqb t.first t.first refl) (without-behind t.first (t.first + t.count) ts (omega (arith, blocks.0.1)) blocks.1) in
    record {
      fits = (omega arith, blocks.0.1, blocks.0.2, blocks.0.3);
      start = mark-first t ts t.first refl blocks.0.1;
      further = λ b from to. mark-further t ts b from to;
      behind = ap (λ k. goes_on k) (mark-past t ts (t.first + t.count) (inr (omega arith))) ∙ behind-ends (t.first + t.count) ts blocks.1;
      gone = λ b. ap (λ xs. mark_at xs b) rest ∙ elim (cases_between t.first (t.first + t.count) b) as (λ _. mark_at ts b ≡ cond (has_block t b) 0 (mark_at (t ∷ ts) b)) [
        | inl within ↦
            mark-before (t.first + t.count) b ts blocks.1 within.1
            ∙ sym (cond-true (has_block t b) 0 (mark_at (t ∷ ts) b) (between-true t.first (t.first + t.count) b within.0 within.1))
        | inr outside ↦
            sym (mark-past t ts b outside)
            ∙ sym (cond-false (has_block t b) 0 (mark_at (t ∷ ts) b) (between-false t.first (t.first + t.count) b outside))
      ];
    }

-- one behind the first of them
later_has_marks : (t : Segment) (ts : List Segment) (s : Segment) → t.first + t.count ≤ s.first → eqb t.first s.first ≡ false → HasMarks ts s → HasMarks (t ∷ ts) s
later_has_marks t ts s behind other rest =
    let kept : without s.first (t ∷ ts) ≡ t ∷ without s.first ts = rw other refl in
    record {
      fits = rest.fits;
      start = mark-past t ts s.first (inr behind) ∙ rest.start;
      further = λ b from to. mark-past t ts b (inr (omega (arith, behind, from))) ∙ rest.further b from to;
      behind = ap (λ k. goes_on k) (mark-past t ts (s.first + s.count) (inr (omega (arith, behind)))) ∙ rest.behind;
      gone = λ b. ap (λ xs. mark_at xs b) kept ∙ elim (cases_between t.first (t.first + t.count) b) as (λ _. mark_at (t ∷ without s.first ts) b ≡ cond (has_block s b) 0 (mark_at (t ∷ ts) b)) [
        | inl within ↦
            let here = between-true t.first (t.first + t.count) b within.0 within.1 in
            let apart = between-false s.first (s.first + s.count) b (inl (omega (arith, within.1, behind))) in
            cond-true (has_block t b) (mark_in t b) (mark_at (without s.first ts) b) here
            ∙ sym (cond-true (has_block t b) (mark_in t b) (mark_at ts b) here)
            ∙ sym (cond-false (has_block s b) 0 (mark_at (t ∷ ts) b) apart)
        | inr outside ↦
            mark-past t (without s.first ts) b outside
            ∙ rest.gone b
            ∙ ap (λ k. cond (has_block s b) 0 k) (sym (mark-past t ts b outside))
      ];
    }

-- a segment that starts with its first block has its bytes
pub has_marks : (low : ℕ) (ss : List Segment) (s : Segment) → AreBlocksFrom low ss → starting_at ss s.first ≡ Some s → HasMarks ss s
has_marks low [] s blocks found = absurd (none-some s found)
has_marks low (t ∷ ts) s blocks found =
    elim (cases_Bool (eqb t.first s.first)) as (λ _. HasMarks (t ∷ ts) s) [
      | inl here ↦
          let same = same_Some t s (sym (cond-true (eqb t.first s.first) (Some t) (starting_at ts s.first) here) ∙ found) in
          subst (λ (x : Segment). HasMarks (t ∷ ts) x) same (first_has_marks low t ts blocks)
      | inr other ↦
          let later = sym (cond-false (eqb t.first s.first) (Some t) (starting_at ts s.first) other) ∙ found in
          let behind = starting_at-fits (t.first + t.count) ts s.first s blocks.1 later in
          later_has_marks t ts s behind.0 other (has_marks (t.first + t.count) ts s blocks.1 later)
    ]

-- the byte of a block once a segment is put among the others
pub mark-inserted : (s : Segment) (ss : List Segment) (b : ℕ) → AreFree ss s.first s.count → mark_at (inserted s ss) b ≡ mark_at (s ∷ ss) b
mark-inserted s [] b free = refl
mark-inserted s (t ∷ ts) b free =
    cond_both (ltb s.first t.first) (s ∷ t ∷ ts) (t ∷ inserted s ts) (λ xs. mark_at xs b ≡ mark_at (s ∷ t ∷ ts) b)
    (λ before. refl)
    (λ after. elim (cases_between t.first (t.first + t.count) b) as (λ _. mark_at (t ∷ inserted s ts) b ≡ mark_at (s ∷ t ∷ ts) b) [
      | inl within ↦
          let here = between-true t.first (t.first + t.count) b within.0 within.1 in
          let apart : (b < s.first) ⊎ (s.first + s.count ≤ b) = elim free.0 [ inl g ↦ inl (omega (arith, g, within.1)) | inr g ↦ inr (omega (arith, g, within.0)) ] in
          cond-true (has_block t b) (mark_in t b) (mark_at (inserted s ts) b) here
          ∙ sym (cond-true (has_block t b) (mark_in t b) (mark_at ts b) here)
          ∙ sym (mark-past s (t ∷ ts) b apart)
      | inr outside ↦
          mark-past t (inserted s ts) b outside
          ∙ mark-inserted s ts b free.1
          ∙ ap (λ k. cond (has_block s b) (mark_in s b) k) (sym (mark-past t ts b outside))
    ])
