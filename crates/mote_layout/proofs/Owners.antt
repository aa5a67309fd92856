-- Who owns an address, and which segment it lies in.
use Rattle.std.proofs.Common.{◌≡◌, ◌≢◌, ℕ, ◌+◌, ◌≤◌, ◌&&◌, ◌⊎◌, inl, inr, ◌↔◌, leb, ltb, eqb, true, false, List, [], ◌∷◌, Option, Some, None, IsSomeAnd, ◌==◌, refl, sym, arith, ◌∙◌, eq-eqb}
use Rattle.std.proofs.lemmas.Bool.{ltb-true, ltb-false, leb-true, leb-false, and_parts, and_cases, and_from, or_cases, or_left, or_right, le-leb, lt-ltb, cond_both, cond-true, cond-false, cases_Bool, cases_lt, eqb-true, eqb-false}
use Rattle.std.proofs.lemmas.Option.{none-some}
use Rattle.std.specs.Option.{option_map_or}
use Rattle.std.proofs.lemmas.Bool.{false≢true}
use Rattle.mote_layout.specs.Memory.{heap_start}
use Rattle.mote_layout.specs.Blocks.{AreBlocksFrom, AreBlocks, block_address, Covers, covers, Owns, owns, segment_at, AreFree, block_of, IsFreeAddress, inserted, without_owner}
use Rattle.mote_layout.specs.Store.{MayStore, may_store}
use Rattle.mote_layout.specs.Requests.{beginning_at, Holds, holds}
use Rattle.mote_layout.specs.declared.segment.Segment.{Segment}

-- the test tells whether an address lies in a segment
pub covers-true : (s : Segment) (a : ℕ) → covers s a ≡ true → Covers s a
covers-true s a h =
    let parts = and_parts (leb (block_address s.first) a) (ltb a (block_address (s.first + s.count))) h in
    (leb-true (block_address s.first) a parts.0, ltb-true a (block_address (s.first + s.count)) parts.1)

pub covers-false : (s : Segment) (a : ℕ) → covers s a ≡ false → ¬ Covers s a
covers-false s a h inside =
    elim (and_cases (leb (block_address s.first) a) (ltb a (block_address (s.first + s.count))) h) [
      | inl low ↦ omega (arith, leb-false (block_address s.first) a low, inside.0)
      | inr high ↦ omega (arith, ltb-false a (block_address (s.first + s.count)) high, inside.1)
    ]

pub covers-from : (s : Segment) (a : ℕ) → Covers s a → covers s a ≡ true
covers-from s a inside =
    and_from (leb (block_address s.first) a) (ltb a (block_address (s.first + s.count))) (le-leb (block_address s.first) a inside.0) (lt-ltb a (block_address (s.first + s.count)) inside.1)

-- what is owned behind some blocks has an address behind them
Owns-behind : (low : ℕ) (ss : List Segment) (owner a : ℕ) → AreBlocksFrom low ss → Owns ss owner a → block_address low ≤ a
Owns-behind low [] owner a blocks owns = absurd owns
Owns-behind low (s ∷ ss) owner a blocks owns =
    elim owns [
      | inl here ↦ omega (arith, here.1.0, blocks.0.0)
      | inr later ↦ omega (arith, Owns-behind (s.first + s.count) ss owner a blocks.1 later, blocks.0.0)
    ]

-- who owns an address is the owner of the segment there
Owns-segment_at_from : (low : ℕ) (ss : List Segment) (owner a : ℕ) → AreBlocksFrom low ss → Owns ss owner a ↔ IsSomeAnd (segment_at ss a) (λ s. s.owner ≡ owner)
Owns-segment_at_from low [] owner a blocks = (λ h. h, λ h. h)
Owns-segment_at_from low (s ∷ ss) owner a blocks =
    let rest = Owns-segment_at_from (s.first + s.count) ss owner a blocks.1 in
    cond_both (covers s a) (Some s) (segment_at ss a) (λ o. Owns (s ∷ ss) owner a ↔ IsSomeAnd o (λ t. t.owner ≡ owner))
    (λ inside.
    let within = covers-true s a inside in (
      λ owns. elim owns [ inl here ↦ here.0 | inr later ↦ absurd (omega (arith, Owns-behind (s.first + s.count) ss owner a blocks.1 later, within.1)) ],
      λ same. inl (same, within),
    ))
    (λ outside.
    let past = covers-false s a outside in
    (λ owns. elim owns [ inl here ↦ absurd (past here.1) | inr later ↦ rest.0 later ], λ found. inr (rest.1 found)))

pub Owns-segment_at : (ss : List Segment) (owner a : ℕ) → AreBlocks ss → Owns ss owner a ↔ IsSomeAnd (segment_at ss a) (λ s. s.owner ≡ owner)
Owns-segment_at ss owner a blocks = Owns-segment_at_from 0 ss owner a blocks

-- no segment is at an address outside the heap or in a free block
segment_at-free : (low : ℕ) (ss : List Segment) (a : ℕ) → AreBlocksFrom low ss → IsFreeAddress ss a → segment_at ss a ≡ None
segment_at-free low [] a blocks free = refl
segment_at-free low (s ∷ ss) a blocks free =
    let rest = segment_at-free (s.first + s.count) ss a blocks.1 in
    let other : covers s a ≡ false = elim (cases_Bool (covers s a)) [
      | inl inside ↦
          let within = covers-true s a inside in
          elim free [
            | inl before ↦ absurd (omega (arith, within.0))
            | inr more ↦ elim more [
              | inl past ↦ absurd (omega (arith, within.1, blocks.0.2))
              | inr blocks_free ↦ elim blocks_free.0 [ inl h ↦ absurd (omega (arith, within.1, h)) | inr h ↦ absurd (omega (arith, within.0, h)) ]
            ]
          ]
      | inr outside ↦ outside
    ] in
    cond-false (covers s a) (Some s) (segment_at ss a) other
    ∙ rest (elim free [ inl before ↦ inl before | inr more ↦ inr (elim more [ inl past ↦ inl past | inr blocks_free ↦ inr blocks_free.1 ]) ])

-- where no segment is at an address of the heap, its block is free
AreFree-unheld : (ss : List Segment) (a : ℕ) → heap_start ≤ a → segment_at ss a ≡ None → AreFree ss (block_of a) 1
AreFree-unheld [] a h none = tt
AreFree-unheld (s ∷ ss) a h none =
    elim (cases_Bool (covers s a)) [
      | inl inside ↦ absurd (none-some s (sym none ∙ cond-true (covers s a) (Some s) (segment_at ss a) inside))
      | inr outside ↦
          let apart = covers-false s a outside in
          let behind : (s.first + s.count ≤ block_of a) ⊎ (block_of a + 1 ≤ s.first) = elim (cases_lt (block_of a) s.first) [
            | inl before ↦ inr (omega arith)
            | inr after ↦ elim (cases_lt (block_of a) (s.first + s.count)) [
              | inl within ↦ absurd (apart (omega (arith, after), omega (arith, within)))
              | inr past ↦ inl past
            ]
          ] in
          (behind, AreFree-unheld ss a h (sym (cond-false (covers s a) (Some s) (segment_at ss a) outside) ∙ none))
    ]

-- no segment is at an address exactly where it is outside the heap or its block is free
pub segment_at-none : (ss : List Segment) (a : ℕ) → AreBlocks ss → (segment_at ss a ≡ None) ↔ IsFreeAddress ss a
segment_at-none ss a blocks = (
  λ none. elim (cases_lt a heap_start) [ inl before ↦ inl before | inr within ↦ inr (inr (AreFree-unheld ss a within none)) ],
  λ free. segment_at-free 0 ss a blocks free,
)

-- the owner of an address once a segment is added
pub Owns-inserted : (s : Segment) (ss : List Segment) (owner a : ℕ) → Owns (inserted s ss) owner a ↔ Owns (s ∷ ss) owner a
Owns-inserted s [] owner a = (λ h. h, λ h. h)
Owns-inserted s (t ∷ ts) owner a =
    let rest = Owns-inserted s ts owner a in
    cond_both (ltb s.first t.first) (s ∷ t ∷ ts) (t ∷ inserted s ts) (λ xs. Owns xs owner a ↔ Owns (s ∷ t ∷ ts) owner a)
    (λ before. (λ h. h, λ h. h))
    (λ after. (
      λ owns. elim owns [ inl here ↦ inr (inl here) | inr later ↦ elim (rest.0 later) [ inl new ↦ inl new | inr old ↦ inr (inr old) ] ],
      λ owns. elim owns [ inl new ↦ inr (rest.1 (inl new)) | inr old ↦ elim old [ inl here ↦ inl here | inr later ↦ inr (rest.1 (inr later)) ] ],
    ))

-- the owner of an address once an owner has given up all that it had
pub Owns-without_owner : (gone : ℕ) (ss : List Segment) (owner a : ℕ) → Owns (without_owner gone ss) owner a ↔ ((owner ≢ gone) × Owns ss owner a)
Owns-without_owner gone [] owner a = (λ h. absurd h, λ h. absurd h.1)
Owns-without_owner gone (s ∷ ss) owner a =
    let rest = Owns-without_owner gone ss owner a in
    elim (cases_Bool (eqb s.owner gone)) [
      | inl taken ↦
          let same = eqb-true s.owner gone taken in
          rw taken (
            λ owns. let old = rest.0 owns in (old.0, inr old.1),
            λ owns. elim owns.1 [ inl here ↦ absurd (owns.0 (sym here.0 ∙ same)) | inr later ↦ rest.1 (owns.0, later) ],
          )
      | inr kept ↦
          let other = eqb-false s.owner gone kept in
          rw kept (
            λ owns. elim owns [ inl here ↦ (λ e. other (here.0 ∙ e), inl here) | inr later ↦ let old = rest.0 later in (old.0, inr old.1) ],
            λ owns. elim owns.1 [ inl here ↦ inl here | inr later ↦ inr (rest.1 (owns.0, later)) ],
          )
    ]

-- the test tells who owns an address
pub owns-true : (ss : List Segment) (owner a : ℕ) → (owns ss owner a ≡ true) ↔ Owns ss owner a
owns-true [] owner a = (λ h. absurd (false≢true h), λ h. absurd h)
owns-true (s ∷ ss) owner a =
    let rest = owns-true ss owner a in (
      λ yes. elim (or_cases (eqb s.owner owner && covers s a) (owns ss owner a) yes) [
        | inl here ↦ let parts = and_parts (eqb s.owner owner) (covers s a) here in inl (eqb-true s.owner owner parts.0, covers-true s a parts.1)
        | inr later ↦ inr (rest.0 later)
      ],
      λ owned. elim owned [
        | inl here ↦ or_left (eqb s.owner owner && covers s a) (owns ss owner a) (and_from (eqb s.owner owner) (covers s a) (eq-eqb s.owner owner here.0) (covers-from s a here.1))
        | inr later ↦ or_right (eqb s.owner owner && covers s a) (owns ss owner a) (rest.1 later)
      ],
    )

-- the test tells whether a store is permitted
pub may_store-true : (ss : List Segment) (domain sp bound a : ℕ) → (may_store ss domain sp bound a ≡ true) ↔ MayStore ss domain sp bound a
may_store-true ss domain sp bound a =
    let owner = owns-true ss domain a in (
      λ yes. elim (or_cases (owns ss domain a) (ltb sp a && leb a bound) yes) [
        | inl owned ↦ inl (owner.0 owned)
        | inr stack ↦ let parts = and_parts (ltb sp a) (leb a bound) stack in inr (ltb-true sp a parts.0, leb-true a bound parts.1)
      ],
      λ may. elim may [
        | inl owned ↦ or_left (owns ss domain a) (ltb sp a && leb a bound) (owner.1 owned)
        | inr stack ↦ or_right (owns ss domain a) (ltb sp a && leb a bound) (and_from (ltb sp a) (leb a bound) (lt-ltb sp a stack.0) (le-leb a bound stack.1))
      ],
    )

-- the test tells whether an address is the start of what an owner was given
held-true : (o : Option Segment) (owner : ℕ) → (option_map_or (λ (s : Segment). s.owner == owner) o false ≡ true) ↔ IsSomeAnd o (λ s. s.owner ≡ owner)
held-true None owner = (λ h. absurd (false≢true h), λ h. absurd h)
held-true (Some s) owner = (λ h. eqb-true s.owner owner h, λ h. eq-eqb s.owner owner h)

pub holds-true : (ss : List Segment) (owner a : ℕ) → (holds ss owner a ≡ true) ↔ Holds ss owner a
holds-true ss owner a = held-true (beginning_at ss a) owner
