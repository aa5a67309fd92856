-- The runs of two neighbouring stretches give those of both, and those of one block are its own.
use Rattle.std.proofs.Common.{◌≡◌, ℕ, ◌+◌, ◌-◌, ◌≤◌, Bool, true, false, max, ltb, cond, inl, inr, refl, sym, ap, ◌∙◌, arith, subst}
use Rattle.std.proofs.lemmas.Bool.{cases_lt, cond_both, ltb-true, ltb-false, both_ways}
use Rattle.sos_heap.specs.declared.runs.Runs.{Runs}
use Rattle.sos_heap.specs.Runs.{AllFree, IsLeftRun, IsRightRun, IsLongestRun, AreRuns, run_sum, joined, one_if, leaf}
use Rattle.sos_heap.specs.Tree.{leaf_count}

-- free blocks side by side
pub AllFree-both : (free : ℕ → Bool) (low mid a b : ℕ) → mid ≡ low + a → AllFree free low a → AllFree free mid b → AllFree free low (a + b)
AllFree-both free low mid a b at p q k from to = elim (cases_lt k mid) as (λ _. free k ≡ true) [
  | inl before ↦ p k from (omega (arith, at, before))
  | inr behind ↦ q k behind (omega (arith, at, to))
]

pub AllFree-fewer : (free : ℕ → Bool) (first few many : ℕ) → few ≤ many → AllFree free first many → AllFree free first few
AllFree-fewer free first few many less all k from to = all k from (omega (arith, less, to))

-- no block is free and not free
pub not_both : (free : ℕ → Bool) (k : ℕ) → free k ≡ true → free k ≡ false → ⊥
not_both free k is_free is_taken = both_ways (free k) is_taken is_free

-- the left run of both stretches
left_joined : (free : ℕ → Bool) (low a b l m : ℕ) → IsLeftRun free low a l → IsLeftRun free (low + a) b m → IsLeftRun free low (a + b) (cond (ltb l a) l (a + m))
left_joined free low a b l m p q =
    cond_both (ltb l a) l (a + m) (λ run. IsLeftRun free low (a + b) run)
    (λ h.
    let less = ltb-true l a h in
    record { within = omega (arith, p.within); all = p.all; end = λ k at within. p.end k at (omega (arith, at, less)) })
    (λ h.
    let full : l ≡ a = let most = ltb-false l a h in omega (arith, most, p.within) in
    record {
      within = omega (arith, q.within);
      all = AllFree-both free low (low + a) a m refl (subst (λ (n : ℕ). AllFree free low n) full p.all) q.all;
      end = λ k at within. q.end k (omega (arith, at)) (omega (arith, within));
    })

-- the right run of both
right_joined : (free : ℕ → Bool) (low a b l m : ℕ) → IsRightRun free low a l → IsRightRun free (low + a) b m → IsRightRun free low (a + b) (cond (ltb m b) m (l + b))
right_joined free low a b l m p q =
    cond_both (ltb m b) m (l + b) (λ run. IsRightRun free low (a + b) run)
    (λ h.
    let less = ltb-true m b h in
    record {
      within = omega (arith, q.within);
      all = λ first at. q.all first (omega (arith, at));
      end = λ k at from. q.end k (omega (arith, at)) (omega (arith, at, less));
    })
    (λ h.
    let full : m ≡ b = let most = ltb-false m b h in omega (arith, most, q.within) in
    record {
      within = omega (arith, p.within);
      all = λ first at.
          AllFree-both free first (low + a) l b (omega (arith, at)) (p.all first (omega (arith, at)))
          (subst (λ (n : ℕ). AllFree free (low + a) n) full (q.all (low + a) (omega (arith, full))));
      end = λ k at from. p.end k (omega (arith, at)) from;
    })

-- What is known of free blocks that reach over the middle of two stretches: they stand in the runs at the middle.
pub record IsAcross (mid l m first count : ℕ) : Type 0 where
  pub from : mid ≤ first + l
  pub to : first + count ≤ mid + m

pub across : (free : ℕ → Bool) (low a b l m first count : ℕ) → IsRightRun free low a l → IsLeftRun free (low + a) b m → low ≤ first → first ≤ low + a → low + a ≤ first + count → first + count ≤ low + (a + b) → AllFree free first count → IsAcross (low + a) l m first count
across free low a b l m first count p q from before behind to all =
    record {
      from = elim (cases_lt (first + l) (low + a)) as (λ _. low + a ≤ first + l) [
        | inr h ↦ h
        | inl h ↦
            let k = low + a - (1 + l) in
            absurd (not_both free k (all k (omega (arith, h)) (omega (arith, h, behind))) (p.end k (omega (arith, h)) (omega (arith, h, from))))
      ];
      to = elim (cases_lt (low + a + m) (first + count)) as (λ _. first + count ≤ low + a + m) [
        | inr h ↦ h
        | inl h ↦ absurd (not_both free (low + a + m) (all (low + a + m) (omega (arith, before)) h) (q.end (low + a + m) refl (omega (arith, h, to))))
      ];
    }

-- the longest run of both
longest_joined : (free : ℕ → Bool) (low a b right left ma mb : ℕ) → IsRightRun free low a right → IsLongestRun free low a ma → IsLeftRun free (low + a) b left → IsLongestRun free (low + a) b mb → IsLongestRun free low (a + b) (max (max ma mb) (right + left))
longest_joined free low a b right left ma mb r p l q =
    let most = λ (first count : ℕ) (from : low ≤ first) (to : first + count ≤ low + (a + b)) (all : AllFree free first count).
    elim (cases_lt (low + a) (first + count)) as (λ _. count ≤ max (max ma mb) (right + left)) [
      | inr h ↦ let few = p.most first count from h all in omega (arith, few)
      | inl h ↦
          elim (cases_lt first (low + a)) as (λ _. count ≤ max (max ma mb) (right + left)) [
            | inr g ↦ let few = q.most first count g (omega (arith, to)) all in omega (arith, few)
            | inl g ↦
                let over = across free low a b right left first count r l from (omega (arith, g)) (omega (arith, h)) to all in
                omega (arith, over.from, over.to)
          ]
    ] in
    let middle = low + a - right in
    let at : middle + right ≡ low + a = omega (arith, r.within) in
    elim (cases_lt (right + left) (max ma mb)) as (λ _. IsLongestRun free low (a + b) (max (max ma mb) (right + left))) [
      | inr h ↦
          let is : right + left ≡ max (max ma mb) (right + left) = omega (arith, h) in
          record {
            place = middle;
            from = omega (arith, r.within);
            to = omega (arith, at, is, l.within);
            all = subst (λ (n : ℕ). AllFree free middle n) is (AllFree-both free middle (low + a) right left (sym at) (r.all middle at) l.all);
            most = most;
          }
      | inl h ↦
          elim (cases_lt ma mb) as (λ _. IsLongestRun free low (a + b) (max (max ma mb) (right + left))) [
            | inl g ↦
                let is : mb ≡ max (max ma mb) (right + left) = omega (arith, h, g) in
                record {
                  place = q.place;
                  from = omega (arith, q.from);
                  to = omega (arith, q.to, is);
                  all = subst (λ (n : ℕ). AllFree free q.place n) is q.all;
                  most = most;
                }
            | inr g ↦
                let is : ma ≡ max (max ma mb) (right + left) = omega (arith, h, g) in
                record {
                  place = p.place;
                  from = p.from;
                  to = omega (arith, p.to, is);
                  all = subst (λ (n : ℕ). AllFree free p.place n) is p.all;
                  most = most;
                }
          ]
    ]

-- the join by its four sums
abbrev joined_by : ℕ → ℕ → ℕ → ℕ → Runs → Runs → Runs
joined_by width left right middle a b =
    record {
      width = width;
      left = cond (ltb a.left a.width) a.left left;
      right = cond (ltb b.right b.width) b.right right;
      longest = max (max a.longest b.longest) middle;
    }

-- no sum of runs stops short
sum_is : (a b : ℕ) → a + b ≤ leaf_count → run_sum a b ≡ a + b
sum_is a b few = omega (arith, few)

joined_plain : (free : ℕ → Bool) (low : ℕ) (a b : Runs) → AreRuns free low a → AreRuns free (low + a.width) b → a.width + b.width ≤ leaf_count → joined a b ≡ joined_by (a.width + b.width) (a.width + b.left) (a.right + b.width) (a.right + b.left) a b
joined_plain free low a b p q few =
    ap (λ k. joined_by k (run_sum a.width b.left) (run_sum a.right b.width) (run_sum a.right b.left) a b) (sum_is a.width b.width few)
    ∙ ap (λ k. joined_by (a.width + b.width) k (run_sum a.right b.width) (run_sum a.right b.left) a b) (sum_is a.width b.left (omega (arith, few, q.left.within)))
    ∙ ap (λ k. joined_by (a.width + b.width) (a.width + b.left) k (run_sum a.right b.left) a b) (sum_is a.right b.width (omega (arith, few, p.right.within)))
    ∙ ap (λ k. joined_by (a.width + b.width) (a.width + b.left) (a.right + b.width) k a b) (sum_is a.right b.left (omega (arith, few, p.right.within, q.left.within)))

-- the join of the runs of two neighbouring stretches has the runs of both
pub AreRuns-joined : (free : ℕ → Bool) (low : ℕ) (a b : Runs) → AreRuns free low a → AreRuns free (low + a.width) b → a.width + b.width ≤ leaf_count → AreRuns free low (joined a b)
AreRuns-joined free low a b p q few =
    subst (λ (n : Runs). AreRuns free low n) (sym (joined_plain free low a b p q few)) (record {
      left = left_joined free low a.width b.width a.left b.left p.left q.left;
      right = right_joined free low a.width b.width a.right b.right p.right q.right;
      longest = longest_joined free low a.width b.width a.right b.left a.longest b.longest p.right p.longest q.left q.longest;
    })

-- one block
one_left : (free : ℕ → Bool) (low : ℕ) (answer : Bool) → free low ≡ answer → IsLeftRun free low 1 (one_if answer)
one_left free low true is =
    record { within = omega arith; all = λ k from to. ap free (omega (arith, from, to)) ∙ is; end = λ k at within. absurd (omega (arith, at, within)) }
one_left free low false is =
    record { within = omega arith; all = λ k from to. absurd (omega (arith, from, to)); end = λ k at within. ap free (omega (arith, at)) ∙ is }

one_right : (free : ℕ → Bool) (low : ℕ) (answer : Bool) → free low ≡ answer → IsRightRun free low 1 (one_if answer)
one_right free low true is =
    record { within = omega arith; all = λ first at k from to. ap free (omega (arith, at, from, to)) ∙ is; end = λ k at from. absurd (omega (arith, at, from)) }
one_right free low false is =
    record { within = omega arith; all = λ first at k from to. absurd (omega (arith, from, to)); end = λ k at from. ap free (omega (arith, at)) ∙ is }

one_longest : (free : ℕ → Bool) (low : ℕ) (answer : Bool) → free low ≡ answer → IsLongestRun free low 1 (one_if answer)
one_longest free low true is =
    record {
      place = low;
      from = omega arith;
      to = omega arith;
      all = λ k from to. ap free (omega (arith, from, to)) ∙ is;
      most = λ first count from to all. omega (arith, from, to);
    }
one_longest free low false is =
    record {
      place = low;
      from = omega arith;
      to = omega arith;
      all = λ k from to. absurd (omega (arith, from, to));
      most = λ first count from to all. elim (cases_lt 0 count) as (λ _. count ≤ 0) [
        | inr none ↦ none
        | inl some ↦ absurd (not_both free low (all low (omega (arith, from, to, some)) (omega (arith, from, to, some))) is)
      ];
    }

pub AreRuns-leaf : (free : ℕ → Bool) (low : ℕ) (answer : Bool) → free low ≡ answer → AreRuns free low (leaf answer)
AreRuns-leaf free low answer is =
    record { left = one_left free low answer is; right = one_right free low answer is; longest = one_longest free low answer is }
