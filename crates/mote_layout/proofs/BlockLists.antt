-- Segments stay *Blocks* when one is added, some are taken out, or one changes its owner.
use Rattle.std.proofs.Common.{ℕ, ◌+◌, ◌≤◌, inl, inr, ltb, eqb, not, Bool, List, [], ◌∷◌, length, filter, arith}
use Rattle.std.proofs.lemmas.Bool.{ltb-true, ltb-false, cond_both}
use Rattle.mote_layout.specs.Memory.{block_count, kernel}
use Rattle.mote_layout.specs.Blocks.{FitsBehind, AreBlocksFrom, AreBlocks, AreFree, Fits, inserted, without, without_owner, given_to, handed_over}
use Rattle.mote_layout.specs.declared.segment.Segment.{Segment}

-- what stands behind some blocks stands behind fewer
AreBlocksFrom-lower : (low high : ℕ) (ss : List Segment) → low ≤ high → AreBlocksFrom high ss → AreBlocksFrom low ss
AreBlocksFrom-lower low high [] h blocks = tt
AreBlocksFrom-lower low high (s ∷ ss) h blocks =
    ((omega (arith, blocks.0.0), blocks.0.1, blocks.0.2, blocks.0.3), blocks.1)

-- there are no more segments than blocks
pub length-blocks : (low : ℕ) (ss : List Segment) → low ≤ block_count → AreBlocksFrom low ss → low + length ss ≤ block_count
length-blocks low [] h blocks = omega arith
length-blocks low (s ∷ ss) h blocks =
    let rest = length-blocks (s.first + s.count) ss blocks.0.2 blocks.1 in
    omega (arith, rest, blocks.0.0, blocks.0.1)

-- a segment on free blocks goes in at its place
AreBlocksFrom-inserted : (low : ℕ) (s : Segment) (ss : List Segment) → FitsBehind low s → AreFree ss s.first s.count → AreBlocksFrom low ss → AreBlocksFrom low (inserted s ss)
AreBlocksFrom-inserted low s [] fit free blocks = (fit, tt)
AreBlocksFrom-inserted low s (t ∷ ts) fit free blocks =
    cond_both (ltb s.first t.first) (s ∷ t ∷ ts) (t ∷ inserted s ts) (λ xs. AreBlocksFrom low xs)
    (λ before.
    let less = ltb-true s.first t.first before in
    let behind : s.first + s.count ≤ t.first = elim free.0 [ inl h ↦ absurd (omega (arith, h, less)) | inr h ↦ h ] in
    (fit, ((behind, blocks.0.1, blocks.0.2, blocks.0.3), blocks.1)))
    (λ after.
    let more = ltb-false s.first t.first after in
    let behind : t.first + t.count ≤ s.first = elim free.0 [ inl h ↦ h | inr h ↦ absurd (omega (arith, h, more, fit.1)) ] in
    (blocks.0, AreBlocksFrom-inserted (t.first + t.count) s ts (behind, fit.1, fit.2, fit.3) free.1 blocks.1))

-- `inserted` keeps *Blocks*
pub AreBlocks-inserted : (s : Segment) (ss : List Segment) → 1 ≤ s.count → s.owner ≤ kernel → Fits ss s.first s.count → AreBlocks ss → AreBlocks (inserted s ss)
AreBlocks-inserted s ss some owner fit blocks =
    AreBlocksFrom-inserted 0 s ss (omega arith, some, fit.0, owner) fit.1 blocks

-- what a test leaves of the segments
AreBlocksFrom-filter : (test : Segment → Bool) (low : ℕ) (ss : List Segment) → AreBlocksFrom low ss → AreBlocksFrom low (filter test ss)
AreBlocksFrom-filter test low [] blocks = tt
AreBlocksFrom-filter test low (s ∷ ss) blocks =
    let rest = AreBlocksFrom-filter test (s.first + s.count) ss blocks.1 in
    cond_both (test s) (s ∷ filter test ss) (filter test ss) (λ xs. AreBlocksFrom low xs)
    (λ kept. (blocks.0, rest))
    (λ dropped. AreBlocksFrom-lower low (s.first + s.count) (filter test ss) (omega (arith, blocks.0.0)) rest)

-- `without` keeps *Blocks*
pub AreBlocks-without : (block : ℕ) (ss : List Segment) → AreBlocks ss → AreBlocks (without block ss)
AreBlocks-without block ss blocks = AreBlocksFrom-filter (λ s. not (eqb s.first block)) 0 ss blocks

-- `without_owner` keeps *Blocks*
pub AreBlocks-without_owner : (owner : ℕ) (ss : List Segment) → AreBlocks ss → AreBlocks (without_owner owner ss)
AreBlocks-without_owner owner ss blocks = AreBlocksFrom-filter (λ s. not (eqb s.owner owner)) 0 ss blocks

-- a new owner for one segment
AreBlocksFrom-handed_over : (block owner low : ℕ) (ss : List Segment) → owner ≤ kernel → AreBlocksFrom low ss → AreBlocksFrom low (handed_over block owner ss)
AreBlocksFrom-handed_over block owner low [] h blocks = tt
AreBlocksFrom-handed_over block owner low (s ∷ ss) h blocks =
    let rest = AreBlocksFrom-handed_over block owner (s.first + s.count) ss h blocks.1 in
    cond_both (eqb s.first block) (given_to owner s) s (λ t. AreBlocksFrom low (t ∷ handed_over block owner ss))
    (λ here. ((blocks.0.0, blocks.0.1, blocks.0.2, h), rest))
    (λ other. (blocks.0, rest))

-- `handed_over` keeps *Blocks*
pub AreBlocks-handed_over : (block owner : ℕ) (ss : List Segment) → owner ≤ kernel → AreBlocks ss → AreBlocks (handed_over block owner ss)
AreBlocks-handed_over block owner ss h blocks = AreBlocksFrom-handed_over block owner 0 ss h blocks
