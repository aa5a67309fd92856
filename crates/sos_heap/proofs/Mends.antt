-- The tree after a change of some leaves, and after the nodes above them are joined again.
use Rattle.std.proofs.Common.{◌≡◌, ◌≢◌, ℕ, zero, suc, ◌+◌, ◌*◌, ◌/◌, ◌≤◌, ◌<◌, ◌⊎◌, ◌&&◌, Bool, true, false, leb, ltb, max, inl, inr, List, length, replicate, set, refl, sym, ap, ◌∙◌, arith, subst}
use Rattle.std.proofs.lemmas.Bool.{cases_lt, cases_eq, cond-true, cond-false}
use Rattle.std.proofs.lemmas.List.{length-replicate}
use Rattle.std.proofs.lemmas.Grind.{common_steps}
use Rattle.sos_heap.specs.declared.runs.Runs.{Runs}
use Rattle.sos_heap.specs.Runs.{joined, leaf}
use Rattle.sos_heap.specs.Tree.{leaf_count, node_count, node, IsTree, free_at, changed}
use Rattle.sos_heap.proofs.Between.{between-true, between-false, cases_between}

-- a node that is written, and the others
node-here : (nodes : List Runs) (i j : ℕ) (n : Runs) → j ≡ i → i < length nodes → node (set nodes i n) j ≡ n
node-here nodes i j n same within = grind (arith, common_steps)

node-other : (nodes : List Runs) (i j : ℕ) (n : Runs) → j ≢ i → node (set nodes i n) j ≡ node nodes j
node-other nodes i j n apart = grind (arith, common_steps)

size-set : (nodes : List Runs) (i : ℕ) (n : Runs) → length (set nodes i n) ≡ length nodes
size-set nodes i n = grind (arith, common_steps)

-- A node is the join of its halves.
abbrev IsJoin : List Runs → ℕ → Type 0
IsJoin nodes i = node nodes i ≡ joined (node nodes (2 * i)) (node nodes (2 * i + 1))

-- a write elsewhere leaves a join
join_kept : (nodes : List Runs) (k i : ℕ) (n : Runs) → i ≢ k → 2 * i ≢ k → 2 * i + 1 ≢ k → IsJoin nodes i → IsJoin (set nodes k n) i
join_kept nodes k i n own left right is =
    node-other nodes k i n own
    ∙ is
    ∙ ap (λ m. joined m (node nodes (2 * i + 1))) (sym (node-other nodes k (2 * i) n left))
    ∙ ap (λ m. joined (node (set nodes k n) (2 * i)) m) (sym (node-other nodes k (2 * i + 1) n right))

-- the join of a node is written
join_written : (nodes : List Runs) (k : ℕ) (n : Runs) → n ≡ joined (node nodes (2 * k)) (node nodes (2 * k + 1)) → 1 ≤ k → k < length nodes → IsJoin (set nodes k n) k
join_written nodes k n is some within =
    node-here nodes k k n refl within
    ∙ is
    ∙ ap (λ m. joined m (node nodes (2 * k + 1))) (sym (node-other nodes k (2 * k) n (omega (arith, some))))
    ∙ ap (λ m. joined (node (set nodes k n) (2 * k)) m) (sym (node-other nodes k (2 * k + 1) n (omega (arith, some))))

-- what a leaf tells of its block
leaf-free : (f : Bool) → ltb 0 (leaf f).longest ≡ f
leaf-free true = refl
leaf-free false = refl

pub free_told : (free : ℕ → Bool) (nodes : List Runs) (low end b : ℕ) → IsTree free nodes low end → b < leaf_count → free_at nodes b ≡ free b
free_told free nodes low end b tree below = ap (λ (n : Runs). ltb 0 n.longest) (tree.leaves b below) ∙ leaf-free (free b)

-- tests that tell the same of each leaf have the same tree
pub same_tree : (f g : ℕ → Bool) (nodes : List Runs) (low end : ℕ) → ((b : ℕ) → b < leaf_count → f b ≡ g b) → IsTree f nodes low end → IsTree g nodes low end
same_tree f g nodes low end same tree =
    record { size = tree.size; leaves = λ b below. tree.leaves b below ∙ ap (λ t. leaf t) (same b below); joins = tree.joins }

pub own_test : (free : ℕ → Bool) (nodes : List Runs) (low end : ℕ) → IsTree free nodes low end → IsTree (free_at nodes) nodes low end
own_test free nodes low end tree =
    same_tree free (free_at nodes) nodes low end (λ b below. sym (free_told free nodes low end b tree below)) tree

-- a test that is changed
pub changed-inside : (free : ℕ → Bool) (first end : ℕ) (answer : Bool) (b : ℕ) → first ≤ b → b < end → changed free first end answer b ≡ answer
changed-inside free first end answer b from to = cond-true (leb first b && ltb b end) answer (free b) (between-true first end b from to)

pub changed-outside : (free : ℕ → Bool) (first end : ℕ) (answer : Bool) (b : ℕ) → (b < first) ⊎ (end ≤ b) → changed free first end answer b ≡ free b
changed-outside free first end answer b outside = cond-false (leb first b && ltb b end) answer (free b) (between-false first end b outside)

-- before the first leaf is written
pub leaves_start : (free : ℕ → Bool) (answer : Bool) (first : ℕ) (nodes : List Runs) → IsTree free nodes 0 0 → IsTree (changed free first first answer) nodes ((leaf_count + first) / 2) ((leaf_count + first + 1) / 2)
leaves_start free answer first nodes tree =
    record {
      size = tree.size;
      leaves = λ b below. tree.leaves b below ∙ ap (λ t. leaf t) (sym (changed-outside free first first answer b (elim (cases_lt b first) [ inl h ↦ inl h | inr h ↦ inr h ])));
      joins = λ i some high outside. tree.joins i some high (inr (omega arith));
    }

-- one more leaf is written
pub leaves_more : (free : ℕ → Bool) (answer : Bool) (first : ℕ) (nodes : List Runs) (block k : ℕ) (n : Runs) → n ≡ leaf answer → k ≡ leaf_count + block → first ≤ block → block < leaf_count → IsTree (changed free first block answer) nodes ((leaf_count + first) / 2) ((leaf_count + block + 1) / 2) → IsTree (changed free first (block + 1) answer) (set nodes k n) ((leaf_count + first) / 2) ((leaf_count + (block + 1) + 1) / 2)
leaves_more free answer first nodes block k n is at from within tree =
    record {
      size = size-set nodes k n ∙ tree.size;
      leaves = λ b below. elim (cases_eq b block) as (λ _. node (set nodes k n) (leaf_count + b) ≡ leaf (changed free first (block + 1) answer b)) [
        | inl same ↦
            node-here nodes k (leaf_count + b) n (omega (arith, same, at)) (omega (arith, at, within, tree.size))
            ∙ is
            ∙ ap (λ t. leaf t) (sym (changed-inside free first (block + 1) answer b (omega (arith, same, from)) (omega (arith, same))))
        | inr apart ↦
            node-other nodes k (leaf_count + b) n (omega (arith, apart, at))
            ∙ tree.leaves b below
            ∙ ap (λ t. leaf t) (elim (cases_between first block b) as (λ _. changed free first block answer b ≡ changed free first (block + 1) answer b) [
              | inl inside ↦ changed-inside free first block answer b inside.0 inside.1 ∙ sym (changed-inside free first (block + 1) answer b inside.0 (omega (arith, inside.1)))
              | inr outside ↦
                  changed-outside free first block answer b outside
                  ∙ sym (changed-outside free first (block + 1) answer b (elim outside [ inl h ↦ inl h | inr h ↦ inr (omega (arith, h, apart)) ]))
            ])
      ];
      joins = λ i some high outside. elim outside as (λ _. IsJoin (set nodes k n) i) [
        | inl h ↦ join_kept nodes k i n (omega (arith, at, high)) (omega (arith, at, h, from)) (omega (arith, at, h, from)) (tree.joins i some high (inl h))
        | inr h ↦ join_kept nodes k i n (omega (arith, at, high)) (omega (arith, at, h)) (omega (arith, at, h)) (tree.joins i some high (inr (omega (arith, h))))
      ];
    }

-- While the nodes from `low` on, below `end`, are joined again, node `at` comes next.
pub record IsMending (free : ℕ → Bool) (nodes : List Runs) (low end at : ℕ) : Type 0 where
  pub size : length nodes ≡ node_count
  pub leaves : (block : ℕ) → block < leaf_count → node nodes (leaf_count + block) ≡ leaf (free block)
  pub joins : (i : ℕ) → 1 ≤ i → i < leaf_count → (i < at) ⊎ (end ≤ i) → (i < low / 2) ⊎ ((end + 1) / 2 ≤ i) → node nodes i ≡ joined (node nodes (2 * i)) (node nodes (2 * i + 1))

pub mending_starts : (free : ℕ → Bool) (nodes : List Runs) (low end at : ℕ) → at ≡ max low 1 → IsTree free nodes low end → IsMending free nodes low end at
mending_starts free nodes low end at is tree =
    record {
      size = tree.size;
      leaves = tree.leaves;
      joins = λ i some high done above. tree.joins i some high (elim done [ inl h ↦ inl (omega (arith, h, is, some)) | inr h ↦ inr h ]);
    }

pub mending_more : (free : ℕ → Bool) (nodes : List Runs) (low end at : ℕ) (n : Runs) → n ≡ joined (node nodes (2 * at)) (node nodes (2 * at + 1)) → 1 ≤ at → low ≤ at → at < end → end ≤ leaf_count → IsMending free nodes low end at → IsMending free (set nodes at n) low end (at + 1)
mending_more free nodes low end at n is some from to few tree =
    record {
      size = size-set nodes at n ∙ tree.size;
      leaves = λ b below. node-other nodes at (leaf_count + b) n (omega (arith, to, few)) ∙ tree.leaves b below;
      joins = λ i one high done above. elim (cases_eq i at) as (λ _. IsJoin (set nodes at n) i) [
        | inl same ↦ subst (λ (k : ℕ). IsJoin (set nodes at n) k) (sym same) (join_written nodes at n is some (omega (arith, to, few, tree.size)))
        | inr apart ↦
            let before = tree.joins i one high (elim done [ inl h ↦ inl (omega (arith, h, apart)) | inr h ↦ inr h ]) above in
            elim above as (λ _. IsJoin (set nodes at n) i) [
              | inl h ↦ join_kept nodes at i n apart (omega (arith, h, from)) (omega (arith, h, from)) before
              | inr h ↦ join_kept nodes at i n apart (omega (arith, h, to)) (omega (arith, h, to)) before
            ]
      ];
    }

pub mending_ends : (free : ℕ → Bool) (nodes : List Runs) (low end at : ℕ) → end ≤ at → IsMending free nodes low end at → IsTree free nodes (low / 2) ((end + 1) / 2)
mending_ends free nodes low end at over tree =
    record {
      size = tree.size;
      leaves = tree.leaves;
      joins = λ i some high above. tree.joins i some high (elim (cases_lt i at) [ inl h ↦ inl h | inr h ↦ inr (omega (arith, h, over)) ]) above;
    }

-- How far the levels are joined again: what was open at first is open here.
pub record IsRising (old : List Runs) (low end : ℕ) (now : List Runs) (first behind : ℕ) : Type 0 where
  pub size : length now ≡ node_count
  pub few : behind ≤ leaf_count
  pub tree : (free : ℕ → Bool) → IsTree free old low end → IsTree free now first behind

-- with no more than the root open nothing is
pub closed : (free : ℕ → Bool) (nodes : List Runs) (first behind : ℕ) → behind ≤ 1 → IsTree free nodes first behind → IsTree free nodes 0 0
closed free nodes first behind few tree =
    record { size = tree.size; leaves = tree.leaves; joins = λ i some high outside. tree.joins i some high (inr (omega (arith, some, few))) }

-- nodes that are all those of taken blocks
abbrev pub blank : Runs
blank = record { width = 1; left = 0; right = 0; longest = 0 }

node-blank : (n i : ℕ) → i < n → node (replicate n blank) i ≡ blank
node-blank zero i below = absurd (omega (arith, below))
node-blank (suc n) zero below = refl
node-blank (suc n) (suc i) below = node-blank n i (omega (arith, below))

pub blank_tree : (nodes held : List Runs) → nodes ≡ held → held ≡ replicate node_count blank → IsTree (λ _. false) nodes 0 leaf_count
blank_tree nodes held at is =
    let all = at ∙ is in
    record {
      size = ap (λ xs. length xs) all ∙ length-replicate node_count blank;
      leaves = λ b below. ap (λ xs. node xs (leaf_count + b)) all ∙ node-blank node_count (leaf_count + b) (omega (arith, below));
      joins = λ i some high outside. elim outside as (λ _. IsJoin nodes i) [ inl h ↦ absurd (omega (arith, h)) | inr h ↦ absurd (omega (arith, h, high)) ];
    }
