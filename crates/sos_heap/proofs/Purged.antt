-- To take away all of a domain: block by block, and what the kernel has after it.
use Rattle.std.proofs.Common.{◌≡◌, ◌≢◌, ℕ, suc, ◌+◌, ◌*◌, ◌<◌, ◌≤◌, ◌&&◌, ◌⊎◌, eqb, List, [], ◌∷◌, Option, Some, None, IsSomeAnd, inl, inr, refl, sym, arith, ap, ◌∙◌, subst, eq-eqb}
use Rattle.std.proofs.lemmas.Bool.{cond-true, cond-false, cases_Bool, cases_eq, eqb-true, ne_eqb, and_right}
use Rattle.std.proofs.lemmas.Option.{none-some, same_Some}
use Rattle.mote_layout.specs.Memory.{block_count, block_bytes, kernel}
use Rattle.mote_layout.specs.Blocks.{AreBlocksFrom, AreBlocks, block_address, starting_at, without, without_owner}
use Rattle.mote_layout.specs.declared.segment.Segment.{Segment}
use Rattle.mote_layout.proofs.OneSegment.{starting_at-fits, without_owner-without}
use Rattle.mote_layout.specs.Requests.{beginning_at, Holds}
use Rattle.mote_layout.specs.Parcels.{Payload, IsParcelOf}
use Rattle.mote_layout.specs.Parcels.{kernel_entries, KernelStays}
use Rattle.mote_layout.proofs.Beginnings.{beginning_at-starting_at, beginning_at-first, begins_at}
use Rattle.mote_layout.proofs.Changes.{without-changed}

-- the kernel's entries are not the domain's
entries_purged : (d : ℕ) (ss : List Segment) (b : ℕ) → d < kernel → kernel_entries b (without_owner d ss) ≡ kernel_entries b ss
entries_purged d [] b domain = refl
entries_purged d (t ∷ ts) b domain =
    let rest = entries_purged d ts b domain in
    elim (cases_Bool (eqb t.owner d)) [
      | inl gone ↦
          let other = ne_eqb t.owner kernel (λ e. omega (arith, e, eqb-true t.owner d gone, domain)) in
          rw gone (rw (and_right (eqb t.first b) (eqb t.owner kernel) other) rest)
      | inr kept ↦
          rw kept
          (elim (cases_Bool (eqb t.first b && eqb t.owner kernel)) [ inl counts ↦ rw counts (ap (λ n. suc n) rest) | inr passed ↦ rw passed rest ])
    ]

-- what another owner has still begins where it began
starting_at-kept : (d : ℕ) (ss : List Segment) (b : ℕ) (s : Segment) → starting_at ss b ≡ Some s → s.owner ≢ d → starting_at (without_owner d ss) b ≡ Some s
starting_at-kept d [] b s h other = absurd (none-some s h)
starting_at-kept d (t ∷ ts) b s h other =
    elim (cases_Bool (eqb t.first b)) [
      | inl here ↦
          let same = same_Some t s (sym (cond-true (eqb t.first b) (Some t) (starting_at ts b) here) ∙ h) in
          let kept = ne_eqb t.owner d (λ e. other (sym (ap (λ (x : Segment). x.owner) same) ∙ e)) in
          rw kept (rw here (ap (λ (x : Segment). Some x) same))
      | inr passed ↦
          let rest = starting_at-kept d ts b s (sym (cond-false (eqb t.first b) (Some t) (starting_at ts b) passed) ∙ h) other in
          elim (cases_Bool (eqb t.owner d)) [ inl gone ↦ rw gone rest | inr kept ↦ rw kept (rw passed rest) ]
    ]

parcel_kept : (d : ℕ) (ss : List Segment) (q : Payload) (o : Option Segment) → starting_at ss q.block ≡ o → d < kernel → IsSomeAnd o (λ s. (s.owner ≡ kernel) × (q.len ≤ block_bytes * s.count)) → IsParcelOf (without_owner d ss) q
parcel_kept d ss q None e domain h = absurd h
parcel_kept d ss q (Some s) e domain h =
    subst (λ (x : Option Segment). IsSomeAnd x (λ s. (s.owner ≡ kernel) × (q.len ≤ block_bytes * s.count)))
    (sym (starting_at-kept d ss q.block s e (λ same. omega (arith, same, h.0, domain)))) h

pub purged_stays : (d : ℕ) (ss : List Segment) → d < kernel → KernelStays ss (without_owner d ss)
purged_stays d ss domain =
    record { entries = λ b. entries_purged d ss b domain; parcels = λ q h. parcel_kept d ss q (starting_at ss q.block) refl domain h }

-- What is known when the blocks below `block` were purged: the rest is what it will be, and the domain has nothing that begins there.
pub record HasPurged (d : ℕ) (old now : List Segment) (block : ℕ) : Type 0 where
  pub same : without_owner d now ≡ without_owner d old
  pub none : (b : ℕ) → b < block → ¬ Holds now d (block_address b)
  pub blocks : 0 < block → AreBlocks now

pub purge_start : (d : ℕ) (ss : List Segment) → HasPurged d ss ss 0
purge_start d ss = record { same = refl; none = λ b below _. omega (arith, below); blocks = λ h. absurd (omega (arith, h)) }

-- over a block with which nothing of the domain's begins
pub purge_passed : (d : ℕ) (old now : List Segment) (block : ℕ) → AreBlocks now → HasPurged d old now block → ¬ Holds now d (block_address block) → HasPurged d old now (block + 1)
purge_passed d old now block blocks done nothing = record {
  same = done.same;
  none = λ b below. elim (cases_eq block b) as (λ _. ¬ Holds now d (block_address b)) [
    | inl e ↦ subst (λ (k : ℕ). ¬ Holds now d (block_address k)) e nothing
    | inr ne ↦ done.none b (omega (arith, below, ne))
  ];
  blocks = λ _. blocks;
}

-- a block that began nothing of the domain's begins nothing of it without a segment
none_without : (d block b : ℕ) (ss : List Segment) → ((b ≡ block) ⊎ (¬ Holds ss d (block_address b))) → ¬ Holds (without block ss) d (block_address b)
none_without d block b ss h holds =
    let change = without-changed block ss in
    let there = subst (λ (o : Option Segment). IsSomeAnd o (λ s. s.owner ≡ d)) (beginning_at-starting_at (without block ss) b) holds in
    elim (cases_eq b block) as (λ _. ⊥) [
      | inl e ↦ subst (λ (o : Option Segment). IsSomeAnd o (λ s. s.owner ≡ d)) (ap (λ k. starting_at (without block ss) k) e ∙ change.here) there
      | inr apart ↦
          let before = subst (λ (o : Option Segment). IsSomeAnd o (λ s. s.owner ≡ d)) (change.others b apart ∙ sym (beginning_at-starting_at ss b)) there in
          elim h [ inl e ↦ apart e | inr none ↦ none before ]
    ]

-- over a block with which a segment of the domain begins, when it is taken out
pub purge_taken : (d : ℕ) (old now : List Segment) (block : ℕ) (s : Segment) → AreBlocks now → AreBlocks (without s.first now) → HasPurged d old now block → beginning_at now (block_address block) ≡ Some s → s.owner ≡ d → HasPurged d old (without s.first now) (block + 1)
purge_taken d old now block s blocks after done h own =
    let begun = begins_at now (block_address block) s blocks h in
    let first : s.first ≡ block = omega (arith, begun.address) in
    record {
      same = without_owner-without now s.first d s blocks begun.starts own ∙ done.same;
      none = λ b below. none_without d s.first b now (elim (cases_eq b block) as (λ _. (b ≡ s.first) ⊎ (¬ Holds now d (block_address b))) [
        | inl e ↦ inl (e ∙ sym first)
        | inr ne ↦ inr (done.none b (omega (arith, below, ne)))
      ]);
      blocks = λ _. after;
    }

-- what begins behind a segment begins with it in front
held_behind : (low d : ℕ) (t : Segment) (ts : List Segment) (b : ℕ) (o : Option Segment) → starting_at ts b ≡ o → AreBlocksFrom low ts → t.first < low → IsSomeAnd o (λ s. s.owner ≡ d) → IsSomeAnd (starting_at (t ∷ ts) b) (λ s. s.owner ≡ d)
held_behind low d t ts b None e blocks before h = absurd h
held_behind low d t ts b (Some s) e blocks before h =
    let fits = starting_at-fits low ts b s blocks e in
    let first = beginning_at-first ts (block_address b) s (beginning_at-starting_at ts b ∙ e) in
    let passed = ne_eqb t.first b (λ same. omega (arith, same, first, fits.0, before)) in
    subst (λ (x : Option Segment). IsSomeAnd x (λ y. y.owner ≡ d)) (sym (cond-false (eqb t.first b) (Some t) (starting_at ts b) passed ∙ e)) h

-- where nothing of the domain's begins, nothing is the domain's
without_owner-none : (low d : ℕ) (ss : List Segment) → AreBlocksFrom low ss → ((b : ℕ) → b < block_count → ¬ IsSomeAnd (starting_at ss b) (λ s. s.owner ≡ d)) → without_owner d ss ≡ ss
without_owner-none low d [] blocks none = refl
without_owner-none low d (t ∷ ts) blocks none =
    let here = cond-true (eqb t.first t.first) (Some t) (starting_at ts t.first) (eq-eqb t.first t.first refl) in
    let kept = ne_eqb t.owner d (λ e. none t.first (omega (arith, blocks.0.1, blocks.0.2)) (subst (λ (o : Option Segment). IsSomeAnd o (λ s. s.owner ≡ d)) (sym here) e)) in
    rw kept
    (ap (λ xs. t ∷ xs) (without_owner-none (t.first + t.count) d ts blocks.1 (λ b below held. none b below (
    held_behind (t.first + t.count) d t ts b (starting_at ts b) refl blocks.1 (omega (arith, blocks.0.1)) held
    ))))

pub purge_end : (d : ℕ) (old now : List Segment) → HasPurged d old now block_count → now ≡ without_owner d old
purge_end d old now done =
    sym (without_owner-none 0 d now (done.blocks (omega arith)) (λ b below held. done.none b below (
    subst (λ (o : Option Segment). IsSomeAnd o (λ s. s.owner ≡ d)) (sym (beginning_at-starting_at now b)) held
    )))
    ∙ done.same
