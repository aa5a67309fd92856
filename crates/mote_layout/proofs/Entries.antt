-- The kernel's entries by what begins with a block, and how they change with it.
use Rattle.std.proofs.Common.{◌≡◌, ◌≢◌, ℕ, suc, ◌+◌, ◌*◌, ◌<◌, ◌≤◌, eqb, cond, List, [], ◌∷◌, Option, Some, None, IsSomeAnd, inl, inr, refl, sym, arith, ap, ◌∙◌, subst, eq-eqb}
use Rattle.std.proofs.lemmas.Bool.{cond-true, cond-false, cases_Bool, cases_eq, eqb-true, ne_eqb}
use Rattle.mote_layout.specs.Memory.{block_bytes, kernel}
use Rattle.mote_layout.specs.Blocks.{AreBlocksFrom, AreBlocks, starting_at, inserted, without, given_to, handed_over}
use Rattle.mote_layout.specs.Fit.{blocks_for}
use Rattle.mote_layout.specs.declared.segment.Segment.{Segment}
use Rattle.mote_layout.proofs.BlockLists.{AreBlocks-inserted, AreBlocks-without, AreBlocks-handed_over}
use Rattle.mote_layout.specs.Requests.{place_for, segment_for, served, beginning_at}
use Rattle.mote_layout.specs.Parcels.{Payload, IsParcelOf}
use Rattle.mote_layout.specs.Parcels.{kernel_entries, naming, KernelStays, KernelGains, KernelLoses}
use Rattle.mote_layout.proofs.Beginnings.{begins_at}
use Rattle.mote_layout.proofs.Changes.{IsChangedAt, without-changed, inserted-changed, handed_over-changed, starting_at-free}
use Rattle.mote_layout.proofs.Places.{placed}

-- 1 where the segment is the kernel's
abbrev pub kernel_of : Option Segment → ℕ
kernel_of None = 0
kernel_of (Some s) = cond (eqb s.owner kernel) 1 0

pub kernel_of-domain : (s : Segment) → s.owner < kernel → kernel_of (Some s) ≡ 0
kernel_of-domain s h = cond-false (eqb s.owner kernel) 1 0 (ne_eqb s.owner kernel (λ e. omega (arith, e, h)))

pub kernel_of-kernel : (s : Segment) → s.owner ≡ kernel → kernel_of (Some s) ≡ 1
kernel_of-kernel s h = cond-true (eqb s.owner kernel) 1 0 (eq-eqb s.owner kernel h)

pub kernel_of-parcel : (o : Option Segment) (len : ℕ) → IsSomeAnd o (λ s. (s.owner ≡ kernel) × (len ≤ block_bytes * s.count)) → kernel_of o ≡ 1
kernel_of-parcel None len h = absurd h
kernel_of-parcel (Some s) len h = kernel_of-kernel s h.0

-- no entry behind a block begins with it
kernel_entries-behind : (low : ℕ) (ss : List Segment) (b : ℕ) → AreBlocksFrom low ss → b < low → kernel_entries b ss ≡ 0
kernel_entries-behind low [] b blocks h = refl
kernel_entries-behind low (t ∷ ts) b blocks h =
    let other = ne_eqb t.first b (λ e. omega (arith, e, h, blocks.0.0)) in
    rw other (kernel_entries-behind (t.first + t.count) ts b blocks.1 (omega (arith, h, blocks.0.0)))

-- an entry of the kernel begins with a block where the segment that begins there is the kernel's
pub kernel_entries-starting_at : (low : ℕ) (ss : List Segment) (b : ℕ) → AreBlocksFrom low ss → kernel_entries b ss ≡ kernel_of (starting_at ss b)
kernel_entries-starting_at low [] b blocks = refl
kernel_entries-starting_at low (t ∷ ts) b blocks =
    elim (cases_Bool (eqb t.first b)) [
      | inl here ↦
          let behind = kernel_entries-behind (t.first + t.count) ts b blocks.1 (omega (arith, eqb-true t.first b here, blocks.0.1)) in
          rw here (elim (cases_Bool (eqb t.owner kernel)) [ inl own ↦ rw own (ap (λ n. suc n) behind) | inr not_own ↦ rw not_own behind ])
      | inr other ↦ rw other (kernel_entries-starting_at (t.first + t.count) ts b blocks.1)
    ]

pub naming-same : (b : ℕ) (p : Payload) → p.block ≡ b → naming b p ≡ 1
naming-same b p e = cond-true (eqb p.block b) 1 0 (eq-eqb p.block b e)

naming-other : (b : ℕ) (p : Payload) → p.block ≢ b → naming b p ≡ 0
naming-other b p apart = cond-false (eqb p.block b) 1 0 (ne_eqb p.block b apart)

-- a parcel of another block stays one
parcel_apart : (block : ℕ) (o : Option Segment) (old new : List Segment) (q : Payload) → IsChangedAt block o old new → q.block ≢ block → IsParcelOf old q → IsParcelOf new q
parcel_apart block o old new q change apart h =
    subst (λ (x : Option Segment). IsSomeAnd x (λ s. (s.owner ≡ kernel) × (q.len ≤ block_bytes * s.count))) (sym (change.others q.block apart)) h

-- where nothing of the kernel's began, a parcel is one of another block
parcel_not_here : (block : ℕ) (old : List Segment) (q : Payload) → kernel_of (starting_at old block) ≡ 0 → IsParcelOf old q → q.block ≢ block
parcel_not_here block old q none h e =
    let one = kernel_of-parcel (starting_at old q.block) q.len h in
    let zero_there : kernel_of (starting_at old q.block) ≡ 0 = ap (λ b. kernel_of (starting_at old b)) e ∙ none in
    omega (arith, one, zero_there)

-- how many entries begin with a block of which the new list tells the same
entries_apart : (block : ℕ) (o : Option Segment) (old new : List Segment) (b : ℕ) → AreBlocks old → AreBlocks new → IsChangedAt block o old new → b ≢ block → kernel_entries b new ≡ kernel_entries b old
entries_apart block o old new b was is change apart =
    kernel_entries-starting_at 0 new b is ∙ ap (λ x. kernel_of x) (change.others b apart) ∙ sym (kernel_entries-starting_at 0 old b was)

entries_here : (block : ℕ) (o : Option Segment) (old new : List Segment) → AreBlocks new → IsChangedAt block o old new → kernel_entries block new ≡ kernel_of o
entries_here block o old new is change = kernel_entries-starting_at 0 new block is ∙ ap (λ x. kernel_of x) change.here

-- a change that has nothing of the kernel's before and after
pub stays : (block : ℕ) (o : Option Segment) (old new : List Segment) → AreBlocks old → AreBlocks new → IsChangedAt block o old new → kernel_of (starting_at old block) ≡ 0 → kernel_of o ≡ 0 → KernelStays old new
stays block o old new was is change before after =
    let entries = λ (b : ℕ). elim (cases_eq b block) as (λ _. kernel_entries b new ≡ kernel_entries b old) [
      | inl e ↦ rw e (entries_here block o old new is change ∙ after ∙ sym before ∙ sym (kernel_entries-starting_at 0 old block was))
      | inr apart ↦ entries_apart block o old new b was is change apart
    ] in
    record { entries = entries; parcels = λ q h. parcel_apart block o old new q change (parcel_not_here block old q before h) h }

-- a change that has something of the kernel's after it alone
pub gains : (p : Payload) (s : Segment) (old new : List Segment) → AreBlocks old → AreBlocks new → IsChangedAt p.block (Some s) old new → kernel_of (starting_at old p.block) ≡ 0 → s.owner ≡ kernel → p.len ≤ block_bytes * s.count → KernelGains p old new
gains p s old new was is change before own bytes =
    let alone = kernel_entries-starting_at 0 old p.block was ∙ before in
    let here = entries_here p.block (Some s) old new is change ∙ kernel_of-kernel s own in
    let entries = λ (b : ℕ). elim (cases_eq b p.block) as (λ _. kernel_entries b new ≡ kernel_entries b old + naming b p) [
      | inl e ↦ rw e (omega (arith, here, alone, naming-same p.block p refl))
      | inr apart ↦ omega (arith, entries_apart p.block (Some s) old new b was is change apart, naming-other b p (λ e. apart (sym e)))
    ] in
    record {
      entries = entries;
      parcels = λ q h. parcel_apart p.block (Some s) old new q change (parcel_not_here p.block old q before h) h;
      gained = subst (λ (x : Option Segment). IsSomeAnd x (λ t. (t.owner ≡ kernel) × (p.len ≤ block_bytes * t.count))) (sym change.here) (own, bytes);
      alone = alone;
    }

-- a change that has something of the kernel's before it alone
pub loses : (p : Payload) (o : Option Segment) (old new : List Segment) → AreBlocks old → AreBlocks new → IsChangedAt p.block o old new → IsParcelOf old p → kernel_of o ≡ 0 → KernelLoses p old new
loses p o old new was is change parcel after =
    let before = kernel_entries-starting_at 0 old p.block was ∙ kernel_of-parcel (starting_at old p.block) p.len parcel in
    let here = entries_here p.block o old new is change ∙ after in
    let entries = λ (b : ℕ). elim (cases_eq b p.block) as (λ _. kernel_entries b new + naming b p ≡ kernel_entries b old) [
      | inl e ↦ rw e (omega (arith, here, before, naming-same p.block p refl))
      | inr apart ↦ omega (arith, entries_apart p.block o old new b was is change apart, naming-other b p (λ e. apart (sym e)))
    ] in
    record { entries = entries; parcels = λ q apart h. parcel_apart p.block o old new q change apart h; alone = here }

-- a domain gets the place of its request
pub served_stays : (ss : List Segment) (owner size block : ℕ) → place_for ss size ≡ Some block → owner < kernel → AreBlocks ss → KernelStays ss (served owner size ss)
served_stays ss owner size block e domain blocks =
    let place = placed ss size block e in
    let s = segment_for owner size block in
    let none = starting_at-free 0 ss block (blocks_for size) place.some place.fits.1 blocks in
    rw e
    (stays block (Some s) ss (inserted s ss) blocks (AreBlocks-inserted s ss place.some (omega (arith, domain)) place.fits blocks) (inserted-changed s ss none)
    (ap (λ x. kernel_of x) none) (kernel_of-domain s domain))

-- the kernel gets the place of its request
pub served_gains : (ss : List Segment) (size block : ℕ) → place_for ss size ≡ Some block → AreBlocks ss → KernelGains (record { block = block; len = size }) ss (served kernel size ss)
served_gains ss size block e blocks =
    let place = placed ss size block e in
    let s = segment_for kernel size block in
    let none = starting_at-free 0 ss block (blocks_for size) place.some place.fits.1 blocks in
    rw e
    (gains (record { block = block; len = size }) s ss (inserted s ss) blocks (AreBlocks-inserted s ss place.some (omega arith) place.fits blocks) (inserted-changed s ss none)
    (ap (λ x. kernel_of x) none) refl (omega arith))

-- a domain's block becomes free
pub without_stays : (ss : List Segment) (a : ℕ) (s : Segment) → AreBlocks ss → beginning_at ss a ≡ Some s → s.owner < kernel → KernelStays ss (without s.first ss)
without_stays ss a s blocks h domain =
    let begun = begins_at ss a s blocks h in
    stays s.first None ss (without s.first ss) blocks (AreBlocks-without s.first ss blocks) (without-changed s.first ss)
    (ap (λ x. kernel_of x) begun.starts ∙ kernel_of-domain s domain) refl

-- a domain's block becomes another domain's
pub handed_over_stays : (ss : List Segment) (a to : ℕ) (s : Segment) → AreBlocks ss → beginning_at ss a ≡ Some s → s.owner < kernel → to < kernel → KernelStays ss (handed_over s.first to ss)
handed_over_stays ss a to s blocks h domain other =
    let begun = begins_at ss a s blocks h in
    stays s.first (Some (given_to to s)) ss (handed_over s.first to ss) blocks (AreBlocks-handed_over s.first to ss (omega (arith, other)) blocks)
    (handed_over-changed s.first to ss s begun.starts)
    (ap (λ x. kernel_of x) begun.starts ∙ kernel_of-domain s domain) (kernel_of-domain (given_to to s) other)

-- a domain's block becomes the kernel's
pub handed_over_gains : (ss : List Segment) (a len : ℕ) (s : Segment) → AreBlocks ss → beginning_at ss a ≡ Some s → s.owner < kernel → len ≤ block_bytes * s.count → KernelGains (record { block = s.first; len = len }) ss (handed_over s.first kernel ss)
handed_over_gains ss a len s blocks h domain bytes =
    let begun = begins_at ss a s blocks h in
    gains (record { block = s.first; len = len }) (given_to kernel s) ss (handed_over s.first kernel ss) blocks (AreBlocks-handed_over s.first kernel ss (omega arith) blocks)
    (handed_over-changed s.first kernel ss s begun.starts)
    (ap (λ x. kernel_of x) begun.starts ∙ kernel_of-domain s domain) refl bytes

-- a parcel's block becomes free
pub without_loses : (ss : List Segment) (p : Payload) → AreBlocks ss → IsParcelOf ss p → KernelLoses p ss (without p.block ss)
without_loses ss p blocks parcel =
    loses p None ss (without p.block ss) blocks (AreBlocks-without p.block ss blocks) (without-changed p.block ss) parcel refl

-- a parcel's block becomes a domain's
pub handed_over_loses : (ss : List Segment) (p : Payload) (to : ℕ) (s : Segment) → AreBlocks ss → IsParcelOf ss p → starting_at ss p.block ≡ Some s → to < kernel → KernelLoses p ss (handed_over p.block to ss)
handed_over_loses ss p to s blocks parcel starts domain =
    loses p (Some (given_to to s)) ss (handed_over p.block to ss) blocks (AreBlocks-handed_over p.block to ss (omega (arith, domain)) blocks)
    (handed_over-changed p.block to ss s starts) parcel (kernel_of-domain (given_to to s) domain)
