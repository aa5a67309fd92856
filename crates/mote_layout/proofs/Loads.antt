-- The test of a load tells whether it is permitted.
use Rattle.std.proofs.Common.{◌≡◌, ℕ, ◌+◌, ◌≤◌, ◌&&◌, ◌||◌, inl, inr, ◌↔◌, leb, ltb, eqb, Bool, true, List, [], ◌∷◌, Some, IsSomeAnd, arith, eq-eqb}
use Rattle.std.proofs.lemmas.Bool.{ltb-true, leb-true, and_parts, and_from, or_cases, or_left, or_right, le-leb, lt-ltb, cond_both, eqb-true, false≢true}
use Rattle.mote_layout.specs.Memory.{ram_start, message_frame, message_frame_bytes, kernel}
use Rattle.mote_layout.specs.Blocks.{AreBlocksFrom, AreBlocks, block_address, covers, segment_at}
use Rattle.mote_layout.specs.Store.{may_store}
use Rattle.mote_layout.specs.Load.{IsOpen, is_open, AreConstants, are_constants, IsConstant, is_constant, MayLoad, may_load}
use Rattle.mote_layout.specs.declared.segment.Segment.{Segment}
use Rattle.mote_layout.proofs.Owners.{covers-true, covers-false, covers-from, may_store-true}

abbrev in_frame : ℕ → Bool
in_frame a = leb message_frame a && ltb a (message_frame + message_frame_bytes)

-- the test tells whether an address is open
pub is_open-true : (frame : Bool) (a : ℕ) → (is_open frame a ≡ true) ↔ IsOpen frame a
is_open-true frame a = (
  λ yes. elim (or_cases (ltb a ram_start) (frame && in_frame a) yes) [
    | inl low ↦ inl (ltb-true a ram_start low)
    | inr inside ↦
        let parts = and_parts frame (in_frame a) inside in
        let ends = and_parts (leb message_frame a) (ltb a (message_frame + message_frame_bytes)) parts.1 in
        inr (parts.0, leb-true message_frame a ends.0, ltb-true a (message_frame + message_frame_bytes) ends.1)
  ],
  λ opens. elim opens [
    | inl low ↦ or_left (ltb a ram_start) (frame && in_frame a) (lt-ltb a ram_start low)
    | inr inside ↦
        or_right (ltb a ram_start) (frame && in_frame a)
        (and_from frame (in_frame a) inside.0
        (and_from (leb message_frame a) (ltb a (message_frame + message_frame_bytes)) (le-leb message_frame a inside.1) (lt-ltb a (message_frame + message_frame_bytes) inside.2)))
  ],
)

-- the test tells whether a segment is the block of constants
pub are_constants-true : (constants : ℕ) (s : Segment) → (are_constants constants s ≡ true) ↔ AreConstants constants s
are_constants-true constants s = (
  λ yes.
      let parts = and_parts (eqb s.owner kernel) (eqb (block_address s.first) constants) yes in
      (eqb-true s.owner kernel parts.0, eqb-true (block_address s.first) constants parts.1),
  λ are. and_from (eqb s.owner kernel) (eqb (block_address s.first) constants) (eq-eqb s.owner kernel are.0) (eq-eqb (block_address s.first) constants are.1),
)

-- the test tells whether an address lies in the block of constants
pub is_constant-true : (ss : List Segment) (constants a : ℕ) → (is_constant ss constants a ≡ true) ↔ IsConstant ss constants a
is_constant-true [] constants a = (λ h. absurd (false≢true h), λ h. absurd h)
is_constant-true (s ∷ ss) constants a =
    let rest = is_constant-true ss constants a in
    let kind = are_constants-true constants s in (
      λ yes. elim (or_cases (are_constants constants s && covers s a) (is_constant ss constants a) yes) [
        | inl here ↦ let parts = and_parts (are_constants constants s) (covers s a) here in inl (kind.0 parts.0, covers-true s a parts.1)
        | inr later ↦ inr (rest.0 later)
      ],
      λ is. elim is [
        | inl here ↦ or_left (are_constants constants s && covers s a) (is_constant ss constants a) (and_from (are_constants constants s) (covers s a) (kind.1 here.0) (covers-from s a here.1))
        | inr later ↦ or_right (are_constants constants s && covers s a) (is_constant ss constants a) (rest.1 later)
      ],
    )

-- the test tells whether a load is permitted
pub may_load-true : (ss : List Segment) (domain : ℕ) (frame : Bool) (constants sp bound a : ℕ) → (may_load ss domain frame constants sp bound a ≡ true) ↔ MayLoad ss domain frame constants sp bound a
may_load-true ss domain frame constants sp bound a =
    let opens = is_open-true frame a in
    let stores = may_store-true ss domain sp bound a in
    let holds = is_constant-true ss constants a in (
      λ yes. elim (or_cases (is_open frame a) (may_store ss domain sp bound a || is_constant ss constants a) yes) [
        | inl open_there ↦ inl (opens.0 open_there)
        | inr more ↦
            elim (or_cases (may_store ss domain sp bound a) (is_constant ss constants a) more) [
              | inl own ↦ inr (inl (stores.0 own))
              | inr constant ↦ inr (inr (holds.0 constant))
            ]
      ],
      λ may. elim may [
        | inl open_there ↦ or_left (is_open frame a) (may_store ss domain sp bound a || is_constant ss constants a) (opens.1 open_there)
        | inr more ↦
            or_right (is_open frame a) (may_store ss domain sp bound a || is_constant ss constants a)
            (elim more [
              | inl own ↦ or_left (may_store ss domain sp bound a) (is_constant ss constants a) (stores.1 own)
              | inr constant ↦ or_right (may_store ss domain sp bound a) (is_constant ss constants a) (holds.1 constant)
            ])
      ],
    )

-- what lies in a block of constants behind some blocks has an address behind them
IsConstant-behind : (low : ℕ) (ss : List Segment) (constants a : ℕ) → AreBlocksFrom low ss → IsConstant ss constants a → block_address low ≤ a
IsConstant-behind low [] constants a blocks is = absurd is
IsConstant-behind low (s ∷ ss) constants a blocks is =
    elim is [
      | inl here ↦ omega (arith, here.1.0, blocks.0.0)
      | inr later ↦ omega (arith, IsConstant-behind (s.first + s.count) ss constants a blocks.1 later, blocks.0.0)
    ]

-- an address lies in the block of constants where the segment there is that block
IsConstant-segment_at_from : (low : ℕ) (ss : List Segment) (constants a : ℕ) → AreBlocksFrom low ss → IsConstant ss constants a ↔ IsSomeAnd (segment_at ss a) (λ s. AreConstants constants s)
IsConstant-segment_at_from low [] constants a blocks = (λ h. h, λ h. h)
IsConstant-segment_at_from low (s ∷ ss) constants a blocks =
    let rest = IsConstant-segment_at_from (s.first + s.count) ss constants a blocks.1 in
    cond_both (covers s a) (Some s) (segment_at ss a) (λ o. IsConstant (s ∷ ss) constants a ↔ IsSomeAnd o (λ t. AreConstants constants t))
    (λ inside.
    let within = covers-true s a inside in (
      λ is. elim is [ inl here ↦ here.0 | inr later ↦ absurd (omega (arith, IsConstant-behind (s.first + s.count) ss constants a blocks.1 later, within.1)) ],
      λ are. inl (are, within),
    ))
    (λ outside.
    let past = covers-false s a outside in
    (λ is. elim is [ inl here ↦ absurd (past here.1) | inr later ↦ rest.0 later ], λ found. inr (rest.1 found)))

pub IsConstant-segment_at : (ss : List Segment) (constants a : ℕ) → AreBlocks ss → IsConstant ss constants a ↔ IsSomeAnd (segment_at ss a) (λ s. AreConstants constants s)
IsConstant-segment_at ss constants a blocks = IsConstant-segment_at_from 0 ss constants a blocks

-- no constants begin at 0
pub IsConstant-none : (ss : List Segment) (a : ℕ) → ¬ IsConstant ss 0 a
IsConstant-none [] a is = is
IsConstant-none (s ∷ ss) a is = elim is [ inl here ↦ omega (arith, here.0.1) | inr later ↦ IsConstant-none ss a later ]
