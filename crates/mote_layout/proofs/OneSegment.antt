-- The one segment that begins with a block: what is left without it, and what it is handed over as.
use Rattle.std.proofs.Common.{◌≡◌, ℕ, ◌+◌, ◌<◌, ◌≤◌, inl, inr, leb, ltb, eqb, false, List, [], ◌∷◌, Some, refl, sym, arith, ap, ◌∙◌, subst, eq-eqb}
use Rattle.std.proofs.lemmas.Bool.{and_from, and_right, le-leb, lt-ltb, le-ltb, cond-true, cond-false, cases_Bool, eqb-true, ne_eqb}
use Rattle.std.proofs.lemmas.Option.{none-some, same_Some}
use Rattle.mote_layout.specs.Blocks.{FitsBehind, AreBlocksFrom, AreBlocks, block_address, covers, segment_at, starting_at, AreFree, Fits, inserted, without, without_owner, given_to, handed_over}
use Rattle.mote_layout.specs.declared.segment.Segment.{Segment}

-- the segment that begins with a block is among the segments, and begins with it
pub starting_at-first : (ss : List Segment) (block : ℕ) (s : Segment) → starting_at ss block ≡ Some s → s.first ≡ block
starting_at-first [] block s h = absurd (none-some s h)
starting_at-first (t ∷ ts) block s h =
    elim (cases_Bool (eqb t.first block)) [
      | inl here ↦ subst (λ (x : Segment). x.first ≡ block) (same_Some t s (sym (cond-true (eqb t.first block) (Some t) (starting_at ts block) here) ∙ h)) (eqb-true t.first block here)
      | inr other ↦ starting_at-first ts block s (sym (cond-false (eqb t.first block) (Some t) (starting_at ts block) other) ∙ h)
    ]

-- a segment that begins with a block is behind the blocks below the segments, and may stand there
pub starting_at-fits : (low : ℕ) (ss : List Segment) (block : ℕ) (s : Segment) → AreBlocksFrom low ss → starting_at ss block ≡ Some s → FitsBehind low s
starting_at-fits low [] block s blocks h = absurd (none-some s h)
starting_at-fits low (t ∷ ts) block s blocks h =
    elim (cases_Bool (eqb t.first block)) [
      | inl here ↦ subst (λ (x : Segment). FitsBehind low x) (same_Some t s (sym (cond-true (eqb t.first block) (Some t) (starting_at ts block) here) ∙ h)) blocks.0
      | inr other ↦
          let rest = starting_at-fits (t.first + t.count) ts block s blocks.1 (sym (cond-false (eqb t.first block) (Some t) (starting_at ts block) other) ∙ h) in
          (omega (arith, rest.0, blocks.0.0), rest.1, rest.2, rest.3)
    ]

-- no segment behind a block begins with it
pub without-behind : (block low : ℕ) (ss : List Segment) → block < low → AreBlocksFrom low ss → without block ss ≡ ss
without-behind block low [] h blocks = refl
without-behind block low (s ∷ ss) h blocks =
    let other : eqb s.first block ≡ false = ne_eqb s.first block (λ e. omega (arith, blocks.0.0, e)) in
    rw other (ap (λ xs. s ∷ xs) (without-behind block (s.first + s.count) ss (omega (arith, blocks.0.0)) blocks.1))

-- blocks below the segments are free
AreFree-below : (first count high : ℕ) (ss : List Segment) → first + count ≤ high → AreBlocksFrom high ss → AreFree ss first count
AreFree-below first count high [] h blocks = tt
AreFree-below first count high (s ∷ ss) h blocks =
    (inr (omega (arith, blocks.0.0)), AreFree-below first count (s.first + s.count) ss (omega (arith, blocks.0.0)) blocks.1)

-- the blocks of a segment that is taken out are free
AreFree-without : (low : ℕ) (ss : List Segment) (block : ℕ) (s : Segment) → AreBlocksFrom low ss → starting_at ss block ≡ Some s → AreFree (without block ss) s.first s.count
AreFree-without low [] block s blocks h = absurd (none-some s h)
AreFree-without low (t ∷ ts) block s blocks h =
    elim (cases_Bool (eqb t.first block)) [
      | inl here ↦
          let same = same_Some t s (sym (cond-true (eqb t.first block) (Some t) (starting_at ts block) here) ∙ h) in
          let gone = without-behind block (t.first + t.count) ts (omega (arith, eqb-true t.first block here, blocks.0.1)) blocks.1 in
          let free = AreFree-below t.first t.count (t.first + t.count) ts (omega arith) blocks.1 in
          rw here (rw gone (subst (λ (x : Segment). AreFree ts x.first x.count) same free))
      | inr other ↦
          let found = sym (cond-false (eqb t.first block) (Some t) (starting_at ts block) other) ∙ h in
          let behind = starting_at-fits (t.first + t.count) ts block s blocks.1 found in
          rw other (inl behind.0, AreFree-without (t.first + t.count) ts block s blocks.1 found)
    ]

-- so they fit again
pub Fits-without : (ss : List Segment) (block : ℕ) (s : Segment) → AreBlocks ss → starting_at ss block ≡ Some s → Fits (without block ss) s.first s.count
Fits-without ss block s blocks h = ((starting_at-fits 0 ss block s blocks h).2, AreFree-without 0 ss block s blocks h)

-- a segment that begins before all others goes in front of them
inserted-front : (s : Segment) (high : ℕ) (ss : List Segment) → s.first < high → AreBlocksFrom high ss → inserted s ss ≡ s ∷ ss
inserted-front s high [] h blocks = refl
inserted-front s high (t ∷ ts) h blocks = cond-true (ltb s.first t.first) (s ∷ t ∷ ts) (t ∷ inserted s ts) (lt-ltb s.first t.first (omega (arith, blocks.0.0)))

-- no segment behind a block is handed over with it
handed_over-behind : (block owner low : ℕ) (ss : List Segment) → block < low → AreBlocksFrom low ss → handed_over block owner ss ≡ ss
handed_over-behind block owner low [] h blocks = refl
handed_over-behind block owner low (s ∷ ss) h blocks =
    let other : eqb s.first block ≡ false = ne_eqb s.first block (λ e. omega (arith, blocks.0.0, e)) in
    rw other (ap (λ xs. s ∷ xs) (handed_over-behind block owner (s.first + s.count) ss (omega (arith, blocks.0.0)) blocks.1))

-- to take a segment out and put it back for another owner is to hand it over
handed_over-inserted_from : (low : ℕ) (ss : List Segment) (block owner : ℕ) (s : Segment) → AreBlocksFrom low ss → starting_at ss block ≡ Some s → inserted (given_to owner s) (without block ss) ≡ handed_over block owner ss
handed_over-inserted_from low [] block owner s blocks h = absurd (none-some s h)
handed_over-inserted_from low (t ∷ ts) block owner s blocks h =
    elim (cases_Bool (eqb t.first block)) [
      | inl here ↦
          let same = same_Some t s (sym (cond-true (eqb t.first block) (Some t) (starting_at ts block) here) ∙ h) in
          let below : block < t.first + t.count = omega (arith, eqb-true t.first block here, blocks.0.1) in
          let gone = without-behind block (t.first + t.count) ts below blocks.1 in
          let others = handed_over-behind block owner (t.first + t.count) ts below blocks.1 in
          let front = inserted-front (given_to owner t) (t.first + t.count) ts (omega (arith, blocks.0.1)) blocks.1 in
          rw here (rw gone (rw others (ap (λ x. inserted (given_to owner x) ts) (sym same) ∙ front)))
      | inr other ↦
          let found = sym (cond-false (eqb t.first block) (Some t) (starting_at ts block) other) ∙ h in
          let behind = starting_at-fits (t.first + t.count) ts block s blocks.1 found in
          let after = le-ltb s.first t.first (omega (arith, behind.0)) in
          rw other (rw after (ap (λ xs. t ∷ xs) (handed_over-inserted_from (t.first + t.count) ts block owner s blocks.1 found)))
    ]

pub handed_over-inserted : (ss : List Segment) (block owner : ℕ) (s : Segment) → AreBlocks ss → starting_at ss block ≡ Some s → inserted (given_to owner s) (without block ss) ≡ handed_over block owner ss
handed_over-inserted ss block owner s blocks h = handed_over-inserted_from 0 ss block owner s blocks h

-- to take out a segment of an owner changes nothing of what the others have
without_owner-without_from : (low : ℕ) (ss : List Segment) (block owner : ℕ) (s : Segment) → AreBlocksFrom low ss → starting_at ss block ≡ Some s → s.owner ≡ owner → without_owner owner (without block ss) ≡ without_owner owner ss
without_owner-without_from low [] block owner s blocks h mine = absurd (none-some s h)
without_owner-without_from low (t ∷ ts) block owner s blocks h mine =
    elim (cases_Bool (eqb t.first block)) [
      | inl here ↦
          let same = same_Some t s (sym (cond-true (eqb t.first block) (Some t) (starting_at ts block) here) ∙ h) in
          let gone = without-behind block (t.first + t.count) ts (omega (arith, eqb-true t.first block here, blocks.0.1)) blocks.1 in
          let dropped = eq-eqb t.owner owner (ap (λ (x : Segment). x.owner) same ∙ mine) in
          rw here (rw gone (rw dropped refl))
      | inr other ↦
          let found = sym (cond-false (eqb t.first block) (Some t) (starting_at ts block) other) ∙ h in
          let rest = without_owner-without_from (t.first + t.count) ts block owner s blocks.1 found mine in
          rw other
          (elim (cases_Bool (eqb t.owner owner)) [ inl drops ↦ rw drops rest | inr keeps ↦ rw keeps (ap (λ xs. t ∷ xs) rest) ])
    ]

pub without_owner-without : (ss : List Segment) (block owner : ℕ) (s : Segment) → AreBlocks ss → starting_at ss block ≡ Some s → s.owner ≡ owner → without_owner owner (without block ss) ≡ without_owner owner ss
without_owner-without ss block owner s blocks h mine = without_owner-without_from 0 ss block owner s blocks h mine

-- what is at an address may stand there
segment_at-fits : (low : ℕ) (ss : List Segment) (a : ℕ) (s : Segment) → AreBlocksFrom low ss → segment_at ss a ≡ Some s → FitsBehind low s
segment_at-fits low [] a s blocks h = absurd (none-some s h)
segment_at-fits low (t ∷ ts) a s blocks h =
    elim (cases_Bool (covers t a)) [
      | inl here ↦ subst (λ (x : Segment). FitsBehind low x) (same_Some t s (sym (cond-true (covers t a) (Some t) (segment_at ts a) here) ∙ h)) blocks.0
      | inr other ↦
          let rest = segment_at-fits (t.first + t.count) ts a s blocks.1 (sym (cond-false (covers t a) (Some t) (segment_at ts a) other) ∙ h) in
          (omega (arith, rest.0, blocks.0.0), rest.1, rest.2, rest.3)
    ]

-- the segment at an address is the one that begins with its first block
starting_at-segment_at_from : (low : ℕ) (ss : List Segment) (a : ℕ) (s : Segment) → AreBlocksFrom low ss → segment_at ss a ≡ Some s → starting_at ss s.first ≡ Some s
starting_at-segment_at_from low [] a s blocks h = absurd (none-some s h)
starting_at-segment_at_from low (t ∷ ts) a s blocks h =
    elim (cases_Bool (covers t a)) [
      | inl here ↦
          let same = same_Some t s (sym (cond-true (covers t a) (Some t) (segment_at ts a) here) ∙ h) in
          cond-true (eqb t.first s.first) (Some t) (starting_at ts s.first) (eq-eqb t.first s.first (ap (λ (x : Segment). x.first) same)) ∙ ap (λ (x : Segment). Some x) same
      | inr other ↦
          let found = sym (cond-false (covers t a) (Some t) (segment_at ts a) other) ∙ h in
          let behind = segment_at-fits (t.first + t.count) ts a s blocks.1 found in
          cond-false (eqb t.first s.first) (Some t) (starting_at ts s.first) (ne_eqb t.first s.first (λ e. omega (arith, e, behind.0, blocks.0.1)))
          ∙ starting_at-segment_at_from (t.first + t.count) ts a s blocks.1 found
    ]

pub starting_at-segment_at : (ss : List Segment) (a : ℕ) (s : Segment) → AreBlocks ss → segment_at ss a ≡ Some s → starting_at ss s.first ≡ Some s
starting_at-segment_at ss a s blocks h = starting_at-segment_at_from 0 ss a s blocks h

-- the segment that begins with a block is the one at the block's first address
segment_at-starting_at_from : (low : ℕ) (ss : List Segment) (block : ℕ) (s : Segment) → AreBlocksFrom low ss → starting_at ss block ≡ Some s → segment_at ss (block_address block) ≡ Some s
segment_at-starting_at_from low [] block s blocks h = absurd (none-some s h)
segment_at-starting_at_from low (t ∷ ts) block s blocks h =
    elim (cases_Bool (eqb t.first block)) [
      | inl here ↦
          let first = eqb-true t.first block here in
          let inside = and_from (leb (block_address t.first) (block_address block)) (ltb (block_address block) (block_address (t.first + t.count)))
          (le-leb (block_address t.first) (block_address block) (omega (arith, first))) (lt-ltb (block_address block) (block_address (t.first + t.count)) (omega (arith, first, blocks.0.1))) in
          cond-true (covers t (block_address block)) (Some t) (segment_at ts (block_address block)) inside
          ∙ sym (cond-true (eqb t.first block) (Some t) (starting_at ts block) here) ∙ h
      | inr other ↦
          let found = sym (cond-false (eqb t.first block) (Some t) (starting_at ts block) other) ∙ h in
          let behind = starting_at-fits (t.first + t.count) ts block s blocks.1 found in
          let first = starting_at-first ts block s found in
          let outside = and_right (leb (block_address t.first) (block_address block)) (ltb (block_address block) (block_address (t.first + t.count)))
          (le-ltb (block_address block) (block_address (t.first + t.count)) (omega (arith, first, behind.0))) in
          cond-false (covers t (block_address block)) (Some t) (segment_at ts (block_address block)) outside
          ∙ segment_at-starting_at_from (t.first + t.count) ts block s blocks.1 found
    ]

pub segment_at-starting_at : (ss : List Segment) (block : ℕ) (s : Segment) → AreBlocks ss → starting_at ss block ≡ Some s → segment_at ss (block_address block) ≡ Some s
segment_at-starting_at ss block s blocks h = segment_at-starting_at_from 0 ss block s blocks h

-- a segment in which an address lies may stand in the heap
pub segment_at-within : (ss : List Segment) (a : ℕ) (s : Segment) → AreBlocks ss → segment_at ss a ≡ Some s → FitsBehind 0 s
segment_at-within ss a s blocks h = segment_at-fits 0 ss a s blocks h
