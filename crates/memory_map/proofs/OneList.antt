-- Bytes stand for one list of segments, and do so again after each change.
use Rattle.std.proofs.Common.{◌≡◌, ℕ, zero, suc, ◌+◌, ◌-◌, ◌%◌, ◌≤◌, ◌<◌, ◌⊎◌, ◌&&◌, leb, ltb, cond, inl, inr, List, [], ◌∷◌, length, get_or, replicate, Option, Some, None, IsSome, refl, sym, ap, ◌∙◌, arith, subst}
use Rattle.std.proofs.lemmas.List.{length-replicate}
use Rattle.std.proofs.lemmas.Bool.{cases_lt, cond-true, cond-false, le-leb, lt-leb, false≢true}
use Rattle.mote_layout.specs.Memory.{block_count, kernel}
use Rattle.mote_layout.specs.Blocks.{AreBlocksFrom, AreBlocks, Fits, starting_at, inserted, without}
use Rattle.mote_layout.specs.declared.segment.Segment.{Segment}
use Rattle.mote_layout.proofs.BlockLists.{AreBlocks-inserted, AreBlocks-without}
use Rattle.mote_layout.proofs.OneSegment.{starting_at-first}
use Rattle.memory_map.specs.Marks.{start_bit, used_bit, first_mark, further_mark, starts, goes_on, further, segments_from, has_block, mark_in, mark_at, StandFor, painted, wiped, EndsBefore}
use Rattle.memory_map.proofs.Bytes.{between-true, between-false, mark-first, mark-further, mark-past, mark-before, mark-inserted, goes_on-further, has_marks}

-- What the bytes from a block on are: `left` of further blocks of an owner, then those of segments.
record AreMarks (block left owner : ℕ) (ss : List Segment) (xs : List ℕ) : Type 0 where
  few : owner ≤ kernel
  within : left ≤ length xs
  inside : (b : ℕ) → b < left → get_or xs b 0 ≡ further_mark owner
  behind : (b : ℕ) → left ≤ b → b < length xs → get_or xs b 0 ≡ mark_at ss (block + b)

-- What is read from them.
record AreRead (block left : ℕ) (ss : List Segment) (xs : List ℕ) : Type 0 where
  segments : segments_from block xs ≡ ss
  left_over : further xs ≡ left

-- a segment as it is read
abbrev read_as : ℕ → ℕ → ℕ → Segment
read_as first count owner = record { first = first; count = count; owner = owner }

-- a byte with which no segment starts is passed over
passed : (block x : ℕ) (xs : List ℕ) → x < used_bit + start_bit → segments_from block (x ∷ xs) ≡ segments_from (suc block) xs
passed block x xs low =
    cond-false (starts x) (read_as block (suc (further xs)) (x % start_bit) ∷ segments_from (suc block) xs) (segments_from (suc block) xs) (lt-leb (used_bit + start_bit) x low)

-- a byte of no further block ends a segment, and a further one is counted
ended : (x : ℕ) (xs : List ℕ) → (x < used_bit) ⊎ (used_bit + start_bit ≤ x) → further (x ∷ xs) ≡ 0
ended x xs outside = cond-false (goes_on x) (suc (further xs)) 0 (between-false used_bit (used_bit + start_bit) x outside)

counted : (x : ℕ) (xs : List ℕ) → used_bit ≤ x → x < used_bit + start_bit → further (x ∷ xs) ≡ suc (further xs)
counted x xs from to = cond-true (goes_on x) (suc (further xs)) 0 (between-true used_bit (used_bit + start_bit) x from to)

-- a segment is read where it starts
read_here : (block x : ℕ) (xs : List ℕ) (s : Segment) (ss : List Segment) → block ≡ s.first → suc (further xs) ≡ s.count → x ≡ first_mark s.owner → s.owner ≤ kernel → segments_from (suc block) xs ≡ ss → segments_from block (x ∷ xs) ≡ s ∷ ss
read_here block x xs s ss first count is few rest =
    let owner : x % start_bit ≡ s.owner = omega (arith, is, few) in
    cond-true (starts x) (read_as block (suc (further xs)) (x % start_bit) ∷ segments_from (suc block) xs) (segments_from (suc block) xs) (le-leb (used_bit + start_bit) x (omega (arith, is)))
    ∙ ap (λ k. read_as k (suc (further xs)) (x % start_bit) ∷ segments_from (suc block) xs) first
    ∙ ap (λ k. read_as s.first k (x % start_bit) ∷ segments_from (suc block) xs) count
    ∙ ap (λ k. read_as s.first s.count k ∷ segments_from (suc block) xs) owner
    ∙ ap (λ ts. s ∷ ts) rest

-- the bytes of segments are read as these segments
reads : (xs : List ℕ) (block left owner : ℕ) (ss : List Segment) → block + length xs ≡ block_count → AreBlocksFrom (block + left) ss → AreMarks block left owner ss xs → AreRead block left ss xs
reads [] block left owner [] whole blocks are = record { segments = refl; left_over = omega (arith, are.within) }
reads [] block left owner (s ∷ ss) whole blocks are = absurd (omega (arith, whole, blocks.0.0, blocks.0.1, blocks.0.2))
reads (x ∷ xs) block (suc left) owner ss whole blocks are =
    let here : x ≡ further_mark owner = are.inside 0 (omega arith) in
    let rest = reads xs (suc block) left owner ss (omega (arith, whole)) (subst (λ (k : ℕ). AreBlocksFrom k ss) (omega arith) blocks) (record {
      few = are.few;
      within = omega (arith, are.within);
      inside = λ b below. are.inside (suc b) (omega (arith, below));
      behind = λ b from below. are.behind (suc b) (omega (arith, from)) (omega (arith, below)) ∙ ap (λ k. mark_at ss k) (omega arith);
    }) in
    record {
      segments = passed block x xs (omega (arith, here, are.few)) ∙ rest.segments;
      left_over = counted x xs (omega (arith, here)) (omega (arith, here, are.few)) ∙ ap suc rest.left_over;
    }
reads (x ∷ xs) block zero owner [] whole blocks are =
    let here : x ≡ 0 = are.behind 0 (omega arith) (omega arith) in
    let rest = reads xs (suc block) 0 owner [] (omega (arith, whole)) tt (record {
      few = are.few;
      within = omega arith;
      inside = λ b below. absurd (omega (arith, below));
      behind = λ b from below. are.behind (suc b) (omega arith) (omega (arith, below));
    }) in
    record { segments = passed block x xs (omega (arith, here)) ∙ rest.segments; left_over = ended x xs (inl (omega (arith, here))) }
reads (x ∷ xs) block zero owner (s ∷ ss) whole blocks are =
    elim (cases_lt block s.first) as (λ _. AreRead block zero (s ∷ ss) (x ∷ xs)) [
      | inl before ↦
          let here : x ≡ 0 = are.behind 0 (omega arith) (omega arith) ∙ mark-before s.first (block + 0) (s ∷ ss) ((omega arith, blocks.0.1, blocks.0.2, blocks.0.3), blocks.1) (omega (arith, before)) in
          let rest = reads xs (suc block) 0 owner (s ∷ ss) (omega (arith, whole)) ((omega (arith, before), blocks.0.1, blocks.0.2, blocks.0.3), blocks.1) (record {
            few = are.few;
            within = omega arith;
            inside = λ b below. absurd (omega (arith, below));
            behind = λ b from below. are.behind (suc b) (omega arith) (omega (arith, below)) ∙ ap (λ k. mark_at (s ∷ ss) k) (omega arith);
          }) in
          record { segments = passed block x xs (omega (arith, here)) ∙ rest.segments; left_over = ended x xs (inl (omega (arith, here))) }
      | inr there ↦
          let first : block ≡ s.first = omega (arith, there, blocks.0.0) in
          let here : x ≡ first_mark s.owner = are.behind 0 (omega arith) (omega arith) ∙ mark-first s ss (block + 0) (omega (arith, first)) blocks.0.1 in
          let rest = reads xs (suc block) (s.count - 1) s.owner ss (omega (arith, whole)) (subst (λ (k : ℕ). AreBlocksFrom k ss) (omega (arith, first, blocks.0.1)) blocks.1) (record {
            few = blocks.0.3;
            within = omega (arith, blocks.0.2, whole, first);
            inside = λ b below. are.behind (suc b) (omega arith) (omega (arith, below, blocks.0.2, whole, first)) ∙ mark-further s ss (block + suc b) (omega (arith, first)) (omega (arith, first, below));
            behind = λ b from below. are.behind (suc b) (omega arith) (omega (arith, below)) ∙ mark-past s ss (block + suc b) (inr (omega (arith, first, from))) ∙ ap (λ k. mark_at ss k) (omega arith);
          }) in
          record {
            segments = read_here block x xs s ss first (omega (arith, rest.left_over, blocks.0.1)) here blocks.0.3 rest.segments;
            left_over = ended x xs (inr (omega (arith, here)));
          }
    ]

-- bytes tell the segments that they stand for
pub one_list : (ss : List Segment) (bytes : List ℕ) → StandFor ss bytes → segments_from 0 bytes ≡ ss
one_list ss bytes p =
    (reads bytes 0 0 0 ss (omega (arith, p.size)) p.blocks (record {
      few = omega arith;
      within = omega arith;
      inside = λ b below. absurd (omega (arith, below));
      behind = λ b from below. p.each b (omega (arith, p.size, below)) ∙ ap (λ k. mark_at ss k) (omega arith);
    })).segments

-- What a change makes of the segments and bytes of a map.
pub record IsChanged (old now : List Segment) (bytes : List ℕ) : Type 0 where
  pub told : segments_from 0 bytes ≡ now
  pub stand : StandFor (segments_from 0 bytes) bytes
  pub blocks : AreBlocks old × AreBlocks (segments_from 0 bytes)

changed_to : (old now : List Segment) (bytes : List ℕ) → AreBlocks old → StandFor now bytes → IsChanged old now bytes
changed_to old now bytes before p =
    let told = one_list now bytes p in
    let again = subst (λ (xs : List Segment). StandFor xs bytes) (sym told) p in
    record { told = told; stand = again; blocks = (before, again.blocks) }

-- a segment is written over free blocks
pub set_there : (s : Segment) (ss : List Segment) (held old new : List ℕ) → old ≡ held → StandFor ss held → 1 ≤ s.count → s.owner ≤ kernel → Fits ss s.first s.count → length new ≡ length old → ((b : ℕ) → get_or new b 0 ≡ painted s old b) → IsChanged ss (inserted s ss) new
set_there s ss held old new at p some owner fit size each =
    changed_to ss (inserted s ss) new p.blocks (record {
      size = size ∙ ap (λ xs. length xs) at ∙ p.size;
      blocks = AreBlocks-inserted s ss some owner fit p.blocks;
      each = λ b below.
          each b
          ∙ ap (λ xs. painted s xs b) at
          ∙ ap (λ k. cond (has_block s b) (mark_in s b) k) (p.each b below)
          ∙ sym (mark-inserted s ss b fit.1);
    })

-- what is freed has its end where the segment has it
pub ends_before : (ss : List Segment) (bytes : List ℕ) (s : Segment) → StandFor ss bytes → starting_at ss s.first ≡ Some s → EndsBefore bytes s.first (s.first + s.count)
ends_before ss bytes s p found =
    let marks = has_marks 0 ss s p.blocks found in
    record {
      some = omega (arith, marks.fits.1);
      within = marks.fits.2;
      inside = λ b from to. ap (λ k. goes_on k) (p.each b (omega (arith, to, marks.fits.2)) ∙ marks.further b from to) ∙ goes_on-further s.owner marks.fits.3;
      behind = λ below. ap (λ k. goes_on k) (p.each (s.first + s.count) below) ∙ marks.behind;
    }

cleared : (s : Segment) (first : ℕ) (ss : List Segment) (old new : List ℕ) → s.first ≡ first → StandFor ss old → starting_at ss s.first ≡ Some s → length new ≡ length old → ((end : ℕ) → EndsBefore old first end → (b : ℕ) → get_or new b 0 ≡ wiped first end old b) → StandFor (without first ss) new
cleared s first ss old new same p found size each =
    let marks = has_marks 0 ss s p.blocks found in
    let ends : EndsBefore old first (s.first + s.count) = subst (λ (k : ℕ). EndsBefore old k (s.first + s.count)) same (ends_before ss old s p found) in
    record {
      size = size ∙ p.size;
      blocks = AreBlocks-without first ss p.blocks;
      each = λ b below.
          each (s.first + s.count) ends b
          ∙ ap (λ k. cond (leb first b && ltb b (s.first + s.count)) 0 k) (p.each b below)
          ∙ ap (λ k. cond (leb k b && ltb b (s.first + s.count)) 0 (mark_at ss b)) (sym same)
          ∙ sym (marks.gone b)
          ∙ ap (λ k. mark_at (without k ss) b) same;
    }

-- what starts with a block
starts_with : (ss : List Segment) (first : ℕ) (o : Option Segment) (A : Type 0) → starting_at ss first ≡ o → IsSome o → ((s : Segment) → starting_at ss first ≡ Some s → A) → A
starts_with ss first None A e some f = absurd (false≢true some)
starts_with ss first (Some s) A e some f = f s e

-- a segment is freed
pub clear_there : (first : ℕ) (ss : List Segment) (held old new : List ℕ) → old ≡ held → StandFor ss held → IsSome (starting_at ss first) → length new ≡ length old → ((end : ℕ) → EndsBefore old first end → (b : ℕ) → get_or new b 0 ≡ wiped first end old b) → IsChanged ss (without first ss) new
clear_there first ss held old new at p found size each =
    let stand : StandFor ss old = subst (λ (xs : List ℕ). StandFor ss xs) (sym at) p in
    starts_with ss first (starting_at ss first) (IsChanged ss (without first ss) new) refl found (λ s is.
    let same = starting_at-first ss first s is in
    changed_to ss (without first ss) new p.blocks (cleared s first ss old new same stand (ap (λ k. starting_at ss k) same ∙ is) size each))

-- a segment starts with a block of the heap
pub starts_within : (first : ℕ) (ss : List Segment) → AreBlocks ss → IsSome (starting_at ss first) → first < block_count
starts_within first ss blocks found =
    starts_with ss first (starting_at ss first) (first < block_count) refl found (λ s is.
    let same = starting_at-first ss first s is in
    let marks = has_marks 0 ss s blocks (ap (λ k. starting_at ss k) same ∙ is) in
    omega (arith, same, marks.fits.1, marks.fits.2))

-- bytes of 0 stand for no segments
abbrev pub zeros : ℕ → List ℕ
zeros n = replicate n 0

zero-at : (n b : ℕ) → get_or (zeros n) b 0 ≡ mark_at [] b
zero-at zero b = refl
zero-at (suc n) zero = refl
zero-at (suc n) (suc b) = zero-at n b

pub none_stand : (n : ℕ) (bytes : List ℕ) → bytes ≡ zeros n → n ≡ block_count → IsChanged [] [] bytes
none_stand n bytes is at =
    changed_to [] [] bytes tt (record {
      size = ap (λ xs. length xs) is ∙ length-replicate n 0 ∙ at;
      blocks = tt;
      each = λ b below. ap (λ xs. get_or xs b 0) is ∙ zero-at n b;
    })
