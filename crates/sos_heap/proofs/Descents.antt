-- The way down the tree to the lowest run that is long enough.
use Rattle.std.proofs.Common.{◌≡◌, ℕ, zero, suc, ◌+◌, ◌-◌, ◌*◌, ◌≤◌, ◌<◌, Bool, inl, inr, List, None, Some, refl, sym, ap, ◌∙◌, arith, subst}
use Rattle.std.proofs.lemmas.Bool.{cases_lt}
use Rattle.std.proofs.Math.Nat.{mul-le-mul_right}
use Rattle.sos_heap.specs.declared.runs.Runs.{Runs}
use Rattle.sos_heap.specs.Runs.{AllFree, AreRuns, joined}
use Rattle.sos_heap.specs.Tree.{leaf_count, node_count, node, IsTree, free_at, IsLowest, IsAnswer}
use Rattle.sos_heap.proofs.Joins.{across, AllFree-both, AllFree-fewer, AreRuns-joined, AreRuns-leaf}

-- The lowest run of `count` free blocks stands in this stretch: it has room for them, and none begins before it.
pub record IsOnWay (free : ℕ → Bool) (count low : ℕ) (n : Runs) : Type 0 where
  pub runs : AreRuns free low n
  pub room : count ≤ n.longest
  pub none : (lower : ℕ) → lower < low → ¬ AllFree free lower count

-- without room in the left half a run that begins there reaches over the middle
over_middle : (free : ℕ → Bool) (count low : ℕ) (x : Runs) → AreRuns free low x → x.longest < count → (lower : ℕ) → low ≤ lower → AllFree free lower count → low + x.width < lower + count
over_middle free count low x p short lower from all =
    elim (cases_lt (low + x.width) (lower + count)) as (λ _. low + x.width < lower + count) [
      | inl h ↦ h
      | inr h ↦ let few = p.longest.most lower count from h all in absurd (omega (arith, few, short))
    ]

-- with room over the middle the lowest run begins with the run before the middle
ends_across : (free : ℕ → Bool) (count low : ℕ) (x y : Runs) → IsOnWay free count low (joined x y) → AreRuns free low x → AreRuns free (low + x.width) y → low + x.width + y.width ≤ leaf_count → x.longest < count → count ≤ x.right + y.left → (first : ℕ) → first + x.right ≡ low + x.width → IsLowest free count first
ends_across free count low x y way p q few short room first at =
    record {
      to = omega (arith, room, at, q.left.within, few);
      all = AllFree-fewer free first count (x.right + y.left) room (AllFree-both free first (low + x.width) x.right y.left (sym at) (p.right.all first at) q.left.all);
      least = λ lower before all. elim (cases_lt lower low) as (λ _. ⊥) [
        | inl h ↦ way.none lower h all
        | inr h ↦
            let behind = over_middle free count low x p short lower h all in
            let part = low + x.width - lower in
            let reach : low + x.width ≡ lower + part = omega (arith, before, at) in
            let over = across free low x.width y.width x.right y.left lower part p.right q.left h (omega (arith, before, at)) (omega (arith, reach)) (omega (arith, reach)) (AllFree-fewer free lower part count (omega (arith, behind, reach)) all) in
            omega (arith, over.from, before, at)
      ];
    }

-- with room neither in the left half nor over the middle the way goes right
way_right : (free : ℕ → Bool) (count low : ℕ) (x y : Runs) → IsOnWay free count low (joined x y) → AreRuns free low x → AreRuns free (low + x.width) y → x.longest < count → x.right + y.left < count → IsOnWay free count (low + x.width) y
way_right free count low x y way p q short small =
    let room : count ≤ y.longest = omega (arith, way.room, short, small) in
    record {
      runs = q;
      room = room;
      none = λ lower before all. elim (cases_lt lower low) as (λ _. ⊥) [
        | inl h ↦ way.none lower h all
        | inr h ↦
            let behind = over_middle free count low x p short lower h all in
            elim (cases_lt (low + x.width + y.width) (lower + count)) as (λ _. ⊥) [
              | inr within ↦
                  let over = across free low x.width y.width x.right y.left lower count p.right q.left h (omega (arith, before)) (omega (arith, behind)) (omega (arith, within)) all in
                  omega (arith, over.from, over.to, small)
              | inl past ↦
                  let part = low + x.width + y.width - lower in
                  let reach : low + x.width + y.width ≡ lower + part = omega (arith, before) in
                  let over = across free low x.width y.width x.right y.left lower part p.right q.left h (omega (arith, before)) (omega (arith, reach)) (omega (arith, reach)) (AllFree-fewer free lower part count (omega (arith, past, reach)) all) in
                  let full : y.longest ≤ y.width = omega (arith, q.longest.from, q.longest.to) in
                  omega (arith, over.from, over.to, small, room, full, reach)
            ]
      ];
    }

-- at one block the way is at its end
ends_at_block : (free : ℕ → Bool) (count low : ℕ) (x : Runs) → x.width ≡ 1 → 1 ≤ count → low < leaf_count → IsOnWay free count low x → IsLowest free count low
ends_at_block free count low x one some high way =
    let run = way.runs.longest in
    let same : run.place ≡ low = omega (arith, run.from, run.to, way.room, one, some) in
    let here : AllFree free low x.longest = subst (λ (k : ℕ). AllFree free k x.longest) same run.all in
    record {
      to = omega (arith, run.from, run.to, way.room, one, high);
      all = AllFree-fewer free low count x.longest way.room here;
      least = λ lower before all. way.none lower before all;
    }

-- how many blocks a node has that stands so many levels above the leaves
unfoldable pub width_at : ℕ → ℕ
width_at zero = 1
width_at (suc level) = width_at level + width_at level

-- The stretch of node i begins with the block `low`.
pub record IsPlaced (i low : ℕ) : Type 0 where
  pub level : ℕ
  pub at : low + leaf_count ≡ i * width_at level
  pub to : low + width_at level ≤ leaf_count

one-le-width : (level : ℕ) → 1 ≤ width_at level
unfolding width_at
one-le-width zero = omega arith
one-le-width (suc level) = omega (arith, one-le-width level)

twice : (i w : ℕ) → i * (w + w) ≡ 2 * i * w
twice i w = grind arith

twice_more : (i w : ℕ) → (2 * i + 1) * w ≡ 2 * i * w + w
twice_more i w = grind arith

-- a node above the leaves is an inner one
inner : (level i low : ℕ) → low + leaf_count ≡ i * width_at (suc level) → low + width_at (suc level) ≤ leaf_count → (1 ≤ i) × (i < leaf_count)
unfolding width_at
inner level i low at to =
    let w = width_at level in
    let some : 1 ≤ w = one-le-width level in (
      elim (cases_lt 0 i) as (λ _. 1 ≤ i) [
        | inl h ↦ h
        | inr h ↦
            let same : i ≡ 0 = omega (arith, h) in
            let none : low + leaf_count ≡ 0 * (w + w) = subst (λ (k : ℕ). low + leaf_count ≡ k * (w + w)) same at in
            absurd (omega (arith, none))
      ],
      elim (cases_lt i leaf_count) as (λ _. i < leaf_count) [
        | inl h ↦ h
        | inr h ↦
            let much : leaf_count * (w + w) ≤ i * (w + w) = mul-le-mul_right (w + w) h in
            absurd (omega (arith, much, at, to, some))
      ],
    )

-- its halves are placed one level lower
left_at : (level i low : ℕ) → low + leaf_count ≡ i * width_at (suc level) → low + leaf_count ≡ (2 * i) * width_at level
unfolding width_at
left_at level i low at = at ∙ twice i (width_at level)

right_at : (level i low : ℕ) → low + leaf_count ≡ i * width_at (suc level) → low + width_at level + leaf_count ≡ (2 * i + 1) * width_at level
unfolding width_at
right_at level i low at = omega (arith, at, twice i (width_at level), twice_more i (width_at level))

half_to : (level low : ℕ) → low + width_at (suc level) ≤ leaf_count → low + width_at level + width_at level ≤ leaf_count
unfolding width_at
half_to level low to = omega (arith, to)

-- What is known of a node: how wide its stretch is, and that it has the runs of it.
record IsStretch (free : ℕ → Bool) (nodes : List Runs) (level i low : ℕ) : Type 0 where
  width : (node nodes i).width ≡ width_at level
  runs : AreRuns free low (node nodes i)

stretch : (free : ℕ → Bool) (nodes : List Runs) → IsTree free nodes 0 0 → (level i low : ℕ) → low + leaf_count ≡ i * width_at level → low + width_at level ≤ leaf_count → IsStretch free nodes level i low
unfolding width_at
stretch free nodes tree zero i low at to =
    let place : leaf_count + low ≡ i = omega (arith, at) in
    let leaf_is = tree.leaves low (omega (arith, to)) in
    subst (λ (k : ℕ). IsStretch free nodes zero k low) place (record {
      width = ap (λ (n : Runs). n.width) leaf_is;
      runs = subst (λ (n : Runs). AreRuns free low n) (sym leaf_is) (AreRuns-leaf free low (free low) refl);
    })
stretch free nodes tree (suc level) i low at to =
    let within = inner level i low at to in
    let end = half_to level low to in
    let left = stretch free nodes tree level (2 * i) low (left_at level i low at) (omega (arith, end)) in
    let right = stretch free nodes tree level (2 * i + 1) (low + width_at level) (right_at level i low at) end in
    let is = tree.joins i within.0 within.1 (inr (omega arith)) in
    let beside : AreRuns free (low + (node nodes (2 * i)).width) (node nodes (2 * i + 1)) = subst (λ (w : ℕ). AreRuns free (low + w) (node nodes (2 * i + 1))) (sym left.width) right.runs in
    let few : (node nodes (2 * i)).width + (node nodes (2 * i + 1)).width ≤ leaf_count = omega (arith, left.width, right.width, end) in
    record {
      width = ap (λ (n : Runs). n.width) is ∙ omega (arith, left.width, right.width, few);
      runs = subst (λ (n : Runs). AreRuns free low n) (sym is) (AreRuns-joined free low (node nodes (2 * i)) (node nodes (2 * i + 1)) left.runs beside few);
    }

-- What is known of an inner node and its halves.
record HasHalves (free : ℕ → Bool) (nodes : List Runs) (i low : ℕ) : Type 0 where
  some : 1 ≤ i
  is : node nodes i ≡ joined (node nodes (2 * i)) (node nodes (2 * i + 1))
  left : AreRuns free low (node nodes (2 * i))
  right : AreRuns free (low + (node nodes (2 * i)).width) (node nodes (2 * i + 1))
  left_placed : IsPlaced (2 * i) low
  right_placed : IsPlaced (2 * i + 1) (low + (node nodes (2 * i)).width)
  to : low + (node nodes (2 * i)).width + (node nodes (2 * i + 1)).width ≤ leaf_count

halves_at : (free : ℕ → Bool) (nodes : List Runs) (level i low : ℕ) → IsTree free nodes 0 0 → i < leaf_count → low + leaf_count ≡ i * width_at level → low + width_at level ≤ leaf_count → HasHalves free nodes i low
unfolding width_at
halves_at free nodes zero i low tree high at to = absurd (omega (arith, at, high))
halves_at free nodes (suc level) i low tree high at to =
    let within = inner level i low at to in
    let end = half_to level low to in
    let left = stretch free nodes tree level (2 * i) low (left_at level i low at) (omega (arith, end)) in
    let right = stretch free nodes tree level (2 * i + 1) (low + width_at level) (right_at level i low at) end in
    record {
      some = within.0;
      is = tree.joins i within.0 within.1 (inr (omega arith));
      left = left.runs;
      right = subst (λ (w : ℕ). AreRuns free (low + w) (node nodes (2 * i + 1))) (sym left.width) right.runs;
      left_placed = record { level = level; at = left_at level i low at; to = omega (arith, end) };
      right_placed = record { level = level; at = rw left.width (right_at level i low at); to = rw left.width end };
      to = omega (arith, end, left.width, right.width);
    }

halves : (free : ℕ → Bool) (nodes : List Runs) (i low : ℕ) → IsTree free nodes 0 0 → i < leaf_count → IsPlaced i low → HasHalves free nodes i low
halves free nodes i low tree high placed = halves_at free nodes placed.level i low tree high placed.at placed.to

placed_below : (i low : ℕ) → IsPlaced i low → low < leaf_count
placed_below i low placed = omega (arith, placed.to, one-le-width placed.level)

-- How far the way down has come: to node i, whose stretch begins with the block `low`.
pub record IsDown (nodes : List Runs) (count i low : ℕ) : Type 0 where
  pub some : 1 ≤ i
  pub fits : i < node_count
  pub tree : IsTree (free_at nodes) nodes 0 0
  pub placed : IsPlaced i low
  pub way : IsOnWay (free_at nodes) count low (node nodes i)
  pub below : low < leaf_count

-- at the root
root : (nodes : List Runs) → IsTree (free_at nodes) nodes 0 0 → AreRuns (free_at nodes) 0 (node nodes 1) × ((node nodes 1).width ≡ leaf_count)
unfolding width_at
root nodes tree = let at = stretch (free_at nodes) nodes tree 9 1 0 (omega arith) (omega arith) in (at.runs, at.width ∙ omega arith)

pub down_starts : (nodes : List Runs) (count : ℕ) → IsTree (free_at nodes) nodes 0 0 → count ≤ (node nodes 1).longest → IsDown nodes count 1 0
unfolding width_at
down_starts nodes count tree room =
    record {
      some = omega arith;
      fits = omega arith;
      tree = tree;
      placed = record { level = 9; at = omega arith; to = omega arith };
      way = record { runs = (root nodes tree).0; room = room; none = λ lower before all. omega (arith, before) };
      below = omega arith;
    }

pub none_fits : (nodes : List Runs) (count : ℕ) → IsTree (free_at nodes) nodes 0 0 → (node nodes 1).longest < count → IsAnswer (free_at nodes) count None
none_fits nodes count tree small first to all =
    let at = root nodes tree in
    let few = at.0.longest.most first count (omega arith) (omega (arith, at.1, to)) all in
    omega (arith, few, small)

-- a step to the left half, and one to the right half
pub down_left : (nodes : List Runs) (count i low : ℕ) → IsDown nodes count i low → i < leaf_count → count ≤ (node nodes (2 * i)).longest → IsDown nodes count (2 * i) low
down_left nodes count i low down high room =
    let both = halves (free_at nodes) nodes i low down.tree high down.placed in
    record {
      some = omega (arith, both.some);
      fits = omega (arith, high);
      tree = down.tree;
      placed = both.left_placed;
      way = record { runs = both.left; room = room; none = down.way.none };
      below = down.below;
    }

pub down_right : (nodes : List Runs) (count i low : ℕ) → IsDown nodes count i low → i < leaf_count → (node nodes (2 * i)).longest < count → (node nodes (2 * i)).right + (node nodes (2 * i + 1)).left < count → IsDown nodes count (2 * i + 1) (low + (node nodes (2 * i)).width)
down_right nodes count i low down high short small =
    let both = halves (free_at nodes) nodes i low down.tree high down.placed in
    let way = subst (λ (n : Runs). IsOnWay (free_at nodes) count low n) both.is down.way in
    record {
      some = omega (arith, both.some);
      fits = omega (arith, high);
      tree = down.tree;
      placed = both.right_placed;
      way = way_right (free_at nodes) count low (node nodes (2 * i)) (node nodes (2 * i + 1)) way both.left both.right short small;
      below = placed_below (2 * i + 1) (low + (node nodes (2 * i)).width) both.right_placed;
    }

-- the two ends of the way
pub down_across : (nodes : List Runs) (count i low first : ℕ) → IsDown nodes count i low → i < leaf_count → (node nodes (2 * i)).longest < count → count ≤ (node nodes (2 * i)).right + (node nodes (2 * i + 1)).left → first + (node nodes (2 * i)).right ≡ low + (node nodes (2 * i)).width → IsAnswer (free_at nodes) count (Some first)
down_across nodes count i low first down high short room at =
    let both = halves (free_at nodes) nodes i low down.tree high down.placed in
    let way = subst (λ (n : Runs). IsOnWay (free_at nodes) count low n) both.is down.way in
    ends_across (free_at nodes) count low (node nodes (2 * i)) (node nodes (2 * i + 1)) way both.left both.right both.to short room first at

block_at : (free : ℕ → Bool) (nodes : List Runs) (level i low : ℕ) → IsTree free nodes 0 0 → leaf_count ≤ i → low + leaf_count ≡ i * width_at level → low + width_at level ≤ leaf_count → (node nodes i).width ≡ 1
unfolding width_at
block_at free nodes zero i low tree high at to = (stretch free nodes tree zero i low at to).width
block_at free nodes (suc level) i low tree high at to = absurd (omega (arith, (inner level i low at to).1, high))

pub down_block : (nodes : List Runs) (count i low : ℕ) → IsDown nodes count i low → leaf_count ≤ i → 1 ≤ count → IsAnswer (free_at nodes) count (Some low)
down_block nodes count i low down high some =
    let one = block_at (free_at nodes) nodes down.placed.level i low down.tree high down.placed.at down.placed.to in
    ends_at_block (free_at nodes) count low (node nodes i) one some down.below down.way

-- What the sums and differences of the way ask for.
pub record AreFew (low : ℕ) (x y : Runs) : Type 0 where
  pub across : x.right + y.left ≤ leaf_count
  pub to : low + x.width ≤ leaf_count
  pub right : x.right ≤ low + x.width

pub few_halves : (nodes : List Runs) (count i low : ℕ) → IsDown nodes count i low → i < leaf_count → AreFew low (node nodes (2 * i)) (node nodes (2 * i + 1))
few_halves nodes count i low down high =
    let both = halves (free_at nodes) nodes i low down.tree high down.placed in
    record {
      across = omega (arith, both.to, both.left.right.within, both.right.left.within);
      to = omega (arith, both.to);
      right = omega (arith, both.left.right.within);
    }
