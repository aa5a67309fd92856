-- Which blocks are free after a change of the segments, and that the tree's answer is the least fit.
use Rattle.std.proofs.Common.{refl, ◌≡◌, ℕ, ◌+◌, ◌-◌, ◌≤◌, ◌<◌, ◌⊎◌, ◌↔◌, ◌||◌, ◌&&◌, Bool, true, false, ltb, leb, eqb, not, if◌then◌else◌, inl, inr, List, [], ◌∷◌, Option, Some, None, filter, subst, sym, ap, ◌∙◌, arith}
use Rattle.std.proofs.lemmas.Bool.{cases_Bool, cond_both, cond-true, cond-false, eqb-true}
use Rattle.std.specs.List.{list_all}
use Rattle.std.proofs.lemmas.Option.{same_Some}
use Rattle.mote_layout.specs.Memory.{block_count}
use Rattle.mote_layout.specs.Blocks.{AreBlocks, AreBlocksFrom, AreFree, Fits, inserted, without, starting_at, given_to, handed_over}
use Rattle.mote_layout.specs.Fit.{fit}
use Rattle.mote_layout.specs.declared.segment.Segment.{Segment}
use Rattle.mote_layout.proofs.LeastFit.{fits-true, fit-some, fit-none}
use Rattle.mote_layout.proofs.OneSegment.{Fits-without, without-behind, starting_at-fits}
use Rattle.sos_heap.specs.declared.runs.Runs.{Runs}
use Rattle.sos_heap.specs.Runs.{AllFree}
use Rattle.sos_heap.specs.Tree.{leaf_count, IsTree, free_at, changed, IsAnswer, free_in, IsIndexed}
use Rattle.sos_heap.proofs.Between.{cases_between}
use Rattle.sos_heap.proofs.Mends.{changed-inside, changed-outside, free_told, own_test, same_tree}
use Rattle.mote_layout.proofs.Places.{AreFree-one, AreFree-run}

-- two tests that pass alike, and one that doesn't pass
same_test : (p q : Bool) → ((p ≡ true) → q ≡ true) → ((q ≡ true) → p ≡ true) → p ≡ q
same_test p q f g =
    elim (cases_Bool p) as (λ _. p ≡ q) [
      | inl h ↦ h ∙ sym (f h)
      | inr h ↦ elim (cases_Bool q) as (λ _. p ≡ q) [ inl k ↦ g k ∙ sym k | inr k ↦ h ∙ sym k ]
    ]

fails : (p : Bool) → ¬ (p ≡ true) → p ≡ false
fails p not_true = elim (cases_Bool p) as (λ _. p ≡ false) [ inl h ↦ absurd (not_true h) | inr h ↦ h ]

-- what is free beside one segment more
AreFree-inserted : (s : Segment) (ss : List Segment) (first count : ℕ) → AreFree (inserted s ss) first count ↔ AreFree (s ∷ ss) first count
AreFree-inserted s [] first count = (λ h. h, λ h. h)
AreFree-inserted s (t ∷ ts) first count =
    let rest = AreFree-inserted s ts first count in
    cond_both (ltb s.first t.first) (s ∷ t ∷ ts) (t ∷ inserted s ts) (λ xs. AreFree xs first count ↔ AreFree (s ∷ t ∷ ts) first count)
    (λ before. (λ h. h, λ h. h))
    (λ after. (λ h. let both = rest.0 h.1 in (both.0, (h.0, both.1)), λ h. (h.1.0, rest.1 (h.0, h.1.1))))

free_inserted : (s : Segment) (ss : List Segment) (b : ℕ) → free_in (inserted s ss) b ≡ changed (free_in ss) s.first (s.first + s.count) false b
free_inserted s ss b =
    elim (cases_between s.first (s.first + s.count) b) as (λ _. free_in (inserted s ss) b ≡ changed (free_in ss) s.first (s.first + s.count) false b) [
      | inl inside ↦
          fails (free_in (inserted s ss) b) (λ yes.
          elim ((AreFree-inserted s ss b 1).0 ((fits-true (inserted s ss) b 1).0 yes).1).0 as (λ _. ⊥) [ inl g ↦ omega (arith, g, inside.1) | inr g ↦ omega (arith, g, inside.0) ])
          ∙ sym (changed-inside (free_in ss) s.first (s.first + s.count) false b inside.0 inside.1)
      | inr outside ↦
          let apart : (s.first + s.count ≤ b) ⊎ (b + 1 ≤ s.first) = elim outside [ inl h ↦ inr (omega (arith, h)) | inr h ↦ inl h ] in
          same_test (free_in (inserted s ss) b) (free_in ss b)
          (λ yes. let fit = (fits-true (inserted s ss) b 1).0 yes in (fits-true ss b 1).1 (fit.0, ((AreFree-inserted s ss b 1).0 fit.1).1))
          (λ yes. let fit = (fits-true ss b 1).0 yes in (fits-true (inserted s ss) b 1).1 (fit.0, (AreFree-inserted s ss b 1).1 (apart, fit.1)))
          ∙ sym (changed-outside (free_in ss) s.first (s.first + s.count) false b outside)
    ]

-- what is free stays free with fewer segments,
AreFree-fewer : (test : Segment → Bool) (first count : ℕ) (ss : List Segment) → AreFree ss first count → AreFree (filter test ss) first count
AreFree-fewer test first count [] free = tt
AreFree-fewer test first count (s ∷ ss) free =
    let rest = AreFree-fewer test first count ss free.1 in
    cond_both (test s) (s ∷ filter test ss) (filter test ss) (λ xs. AreFree xs first count) (λ kept. (free.0, rest)) (λ dropped. rest)

-- and what is free without a segment was free, or is one of its blocks
AreFree-with : (low block b : ℕ) (s : Segment) (ss : List Segment) → starting_at ss block ≡ Some s → AreBlocksFrom low ss → (s.first + s.count ≤ b) ⊎ (b + 1 ≤ s.first) → AreFree (without block ss) b 1 → AreFree ss b 1
AreFree-with low block b s [] found blocks apart free = tt
AreFree-with low block b s (t ∷ ts) found blocks apart free =
    elim (cases_Bool (eqb t.first block)) as (λ _. AreFree (t ∷ ts) b 1) [
      | inl here ↦
          let same = same_Some t s (sym (cond-true (eqb t.first block) (Some t) (starting_at ts block) here) ∙ found) in
          let gone = without-behind block (t.first + t.count) ts (omega (arith, eqb-true t.first block here, blocks.0.1)) blocks.1 in
          let left = rw here at free in
          (subst (λ (x : Segment). (x.first + x.count ≤ b) ⊎ (b + 1 ≤ x.first)) (sym same) apart, subst (λ (xs : List Segment). AreFree xs b 1) gone left)
      | inr other ↦
          let rest = sym (cond-false (eqb t.first block) (Some t) (starting_at ts block) other) ∙ found in
          let left = rw other at free in
          (left.0, AreFree-with (t.first + t.count) block b s ts rest blocks.1 apart left.1)
    ]

free_without : (block : ℕ) (s : Segment) (ss : List Segment) (b : ℕ) → AreBlocks ss → starting_at ss block ≡ Some s → free_in (without block ss) b ≡ changed (free_in ss) s.first (s.first + s.count) true b
free_without block s ss b blocks found =
    let fit = Fits-without ss block s blocks found in
    elim (cases_between s.first (s.first + s.count) b) as (λ _. free_in (without block ss) b ≡ changed (free_in ss) s.first (s.first + s.count) true b) [
      | inl inside ↦
          (fits-true (without block ss) b 1).1 (omega (arith, fit.0, inside.1), AreFree-one (without block ss) s.first s.count b inside.0 inside.1 fit.1)
          ∙ sym (changed-inside (free_in ss) s.first (s.first + s.count) true b inside.0 inside.1)
      | inr outside ↦
          let apart : (s.first + s.count ≤ b) ⊎ (b + 1 ≤ s.first) = elim outside [ inl h ↦ inr (omega (arith, h)) | inr h ↦ inl h ] in
          same_test (free_in (without block ss) b) (free_in ss b)
          (λ yes. let one = (fits-true (without block ss) b 1).0 yes in (fits-true ss b 1).1 (one.0, AreFree-with 0 block b s ss found blocks apart one.1))
          (λ yes. let one = (fits-true ss b 1).0 yes in (fits-true (without block ss) b 1).1 (one.0, AreFree-fewer (λ t. not (eqb t.first block)) b 1 ss one.1))
          ∙ sym (changed-outside (free_in ss) s.first (s.first + s.count) true b outside)
    ]

-- with no segments the blocks of the heap are free
free_none : (b : ℕ) → changed (λ _. false) 0 block_count true b ≡ free_in [] b
free_none b =
    elim (cases_between 0 block_count b) as (λ _. changed (λ _. false) 0 block_count true b ≡ free_in [] b) [
      | inl inside ↦ changed-inside (λ _. false) 0 block_count true b inside.0 inside.1 ∙ sym ((fits-true [] b 1).1 (omega (arith, inside.1), tt))
      | inr outside ↦
          changed-outside (λ _. false) 0 block_count true b outside
          ∙ sym (fails (free_in [] b) (λ yes. let fit = (fits-true [] b 1).0 yes in elim outside as (λ _. ⊥) [ inl h ↦ omega (arith, h) | inr h ↦ omega (arith, h, fit.0) ]))
    ]

-- blocks that are free one by one fit, and those of a fit are free one by one
fits_from : (free : ℕ → Bool) (ss : List Segment) (first count : ℕ) → AreBlocks ss → ((b : ℕ) → b < leaf_count → free b ≡ free_in ss b) → 1 ≤ count → first + count ≤ leaf_count → AllFree free first count → Fits ss first count
fits_from free ss first count blocks same some to all =
    let each = λ (k : ℕ) (from : first ≤ k) (before : k < first + count). (fits-true ss k 1).0 (sym (same k (omega (arith, to, before))) ∙ all k from before) in
    let last = each (first + count - 1) (omega (arith, some)) (omega (arith, some)) in
    (omega (arith, last.0, some), AreFree-run 0 ss first count some blocks (λ k from before. (each k from before).1))

free_from : (free : ℕ → Bool) (ss : List Segment) (first count : ℕ) → ((b : ℕ) → b < leaf_count → free b ≡ free_in ss b) → Fits ss first count → AllFree free first count
free_from free ss first count same fit k from to =
    same k (omega (arith, fit.0, to)) ∙ (fits-true ss k 1).1 (omega (arith, fit.0, to), AreFree-one ss first count k from to fit.1)

answer_fit : (free : ℕ → Bool) (ss : List Segment) (count : ℕ) (answer : Option ℕ) → AreBlocks ss → ((b : ℕ) → b < leaf_count → free b ≡ free_in ss b) → 1 ≤ count → IsAnswer free count answer → answer ≡ fit ss count
answer_fit free ss count None blocks same some is =
    sym ((fit-none ss count some).1 (λ first fit. is first (omega (arith, fit.0)) (free_from free ss first count same fit)))
answer_fit free ss count (Some first) blocks same some is =
    sym ((fit-some ss count first some).1 (record {
      fits = fits_from free ss first count blocks same some is.to is.all;
      least = λ lower below fit. is.least lower below (free_from free ss lower count same fit);
    }))

-- the tree's answer is the least fit
pub placed_fit : (ss : List Segment) (held nodes : List Runs) (count : ℕ) (answer : Option ℕ) → nodes ≡ held → IsIndexed ss held → 1 ≤ count → IsAnswer (free_at nodes) count answer → answer ≡ fit ss count
placed_fit ss held nodes count answer at is some told =
    answer_fit (free_at nodes) ss count answer is.blocks (λ b below. ap (λ ns. free_at ns b) at ∙ free_told (free_in ss) held 0 0 b is.tree below) some told

-- the tree by its own test
pub own_tree : (ss : List Segment) (held nodes : List Runs) → nodes ≡ held → IsIndexed ss held → IsTree (free_at nodes) nodes 0 0
own_tree ss held nodes at is = subst (λ (ns : List Runs). IsTree (free_at ns) ns 0 0) (sym at) (own_test (free_in ss) held 0 0 is.tree)

-- the tree of no segments
pub index_none : (ss : List Segment) (nodes : List Runs) (end : ℕ) → ss ≡ [] → end ≡ block_count → IsTree (changed (λ _. false) 0 end true) nodes 0 0 → IsIndexed ss nodes
index_none ss nodes end none at tree =
    record {
      blocks = subst (λ (xs : List Segment). AreBlocks xs) (sym none) tt;
      tree = same_tree (changed (λ _. false) 0 end true) (free_in ss) nodes 0 0
          (λ b below. ap (λ k. changed (λ _. false) 0 k true b) at ∙ free_none b ∙ ap (λ xs. free_in xs b) (sym none)) tree;
    }

-- the tree once a segment is set,
pub index_set : (s : Segment) (ss now : List Segment) (held nodes new : List Runs) (i n : ℕ) → nodes ≡ held → IsIndexed ss held → now ≡ inserted s ss → AreBlocks now → i ≡ s.first → n ≡ s.count → ((was : ℕ → Bool) → IsTree was nodes 0 0 → IsTree (changed was i (i + n) false) new 0 0) → IsIndexed now new
index_set s ss now held nodes new i n at is set blocks first count mended =
    record {
      blocks = blocks;
      tree = same_tree (changed (free_in ss) i (i + n) false) (free_in now) new 0 0
          (λ b below.
          ap (λ k. changed (free_in ss) k (k + n) false b) first
          ∙ ap (λ k. changed (free_in ss) s.first (s.first + k) false b) count
          ∙ sym (free_inserted s ss b)
          ∙ ap (λ xs. free_in xs b) (sym set))
          (mended (free_in ss) (subst (λ (ns : List Runs). IsTree (free_in ss) ns 0 0) (sym at) is.tree));
    }

-- and once one is cleared
pub index_clear : (s : Segment) (ss now : List Segment) (held nodes new : List Runs) (i n : ℕ) → nodes ≡ held → IsIndexed ss held → now ≡ without s.first ss → AreBlocks now → starting_at ss s.first ≡ Some s → i ≡ s.first → n ≡ s.count → ((was : ℕ → Bool) → IsTree was nodes 0 0 → IsTree (changed was i (i + n) true) new 0 0) → IsIndexed now new
index_clear s ss now held nodes new i n at is cleared blocks found first count mended =
    record {
      blocks = blocks;
      tree = same_tree (changed (free_in ss) i (i + n) true) (free_in now) new 0 0
          (λ b below.
          ap (λ k. changed (free_in ss) k (k + n) true b) first
          ∙ ap (λ k. changed (free_in ss) s.first (s.first + k) true b) count
          ∙ sym (free_without s.first s ss b is.blocks found)
          ∙ ap (λ xs. free_in xs b) (sym cleared))
          (mended (free_in ss) (subst (λ (ns : List Runs). IsTree (free_in ss) ns 0 0) (sym at) is.tree));
    }

-- A segment that is given to another owner has the blocks that it had.
one_given : (test : Bool) (owner : ℕ) (s : Segment) (first count : ℕ) → (leb (s.first + s.count) first || leb (first + count) s.first) ≡ (leb ((if test then given_to owner s else s).first + (if test then given_to owner s else s).count) first || leb (first + count) (if test then given_to owner s else s).first)
one_given true owner s first count = refl
one_given false owner s first count = refl

pub free_handed : (block owner : ℕ) (ss : List Segment) (first count : ℕ) → list_all (λ s. leb (s.first + s.count) first || leb (first + count) s.first) (handed_over block owner ss) ≡ list_all (λ s. leb (s.first + s.count) first || leb (first + count) s.first) ss
free_handed block owner [] first count = refl
free_handed block owner (s ∷ ss) first count =
    let here = one_given (eqb s.first block) owner s first count in
    let rest = free_handed block owner ss first count in
    cc

-- the tree where a segment has another owner
pub index_handed : (block owner : ℕ) (ss now : List Segment) (nodes : List Runs) → IsIndexed ss nodes → now ≡ handed_over block owner ss → AreBlocks now → IsIndexed now nodes
index_handed block owner ss now nodes is handed blocks =
    record {
      blocks = blocks;
      tree = same_tree (free_in ss) (free_in now) nodes 0 0
          (λ b below. sym (ap (λ xs. free_in xs b) handed ∙ ap (λ t. leb (b + 1) block_count && t) (free_handed block owner ss b 1)))
          is.tree;
    }

-- a segment ends within the leaves
pub segment_within : (ss : List Segment) (s : Segment) → AreBlocks ss → starting_at ss s.first ≡ Some s → s.first + s.count ≤ block_count
segment_within ss s blocks found = (starting_at-fits 0 ss s.first s blocks found).2
